-- Laws of errors that go out of a function as they came, or with an offset. Assumes nothing.
use mathlib.Core.Path.{◌≡◌, refl, sym, ap, ◌∙◌}
use mathlib.Core.Bool.{false≢true}
use Prim.Native.Nat.{ℕ}
use Rattle.std.proofs.Common.{Result, Ok, Err}
use Rattle.std.specs.Result.{IsErrAnd, MatchResult}
use Rattle.std.proofs.lemmas.Result.{err_from_is_err_and}
use Rattle.strlib.specs.Refusal.{refusal_number, number_found}
use Rattle.strlib.specs.declared.refusal.Refusal.{Refusal}
use Rattle.records.specs.declared.Fault.{Fault}

-- a refusal that an offset is put to
module _ {A : Type 0} (self : Result A Refusal) (r : Result A Fault) (p : ℕ) {Post : Refusal → Fault → Type 0} (cases : MatchResult self (λ x. r ≡ Ok x) (λ e. IsErrAnd r (Post e)))
    (made : (e : Refusal) (f : Fault) → Post e f → f ≡ record { refusal = e; offset = p }) where
  pub put_err : (f : Fault) → r ≡ Err f → (refusal_number f.refusal ≡ number_found self) × (f.offset ≡ p)
  put_err f e = go self cases
    where
      go : (s : Result A Refusal) → MatchResult s (λ x. r ≡ Ok x) (λ e. IsErrAnd r (Post e)) → (refusal_number f.refusal ≡ number_found s) × (f.offset ≡ p)
      go (Ok x) c = let z : Err f ≡ Ok x = sym e ∙ c in cc
      go (Err x) c =
          let q = err_from_is_err_and r c in
          let h : ◌≡◌ {A = Result A Fault} (Err f) (Err q.0) = sym e ∙ q.1 in
          let i : f ≡ q.0 = cc in
          let m : f ≡ record { refusal = x; offset = p } = i ∙ made x q.0 q.2 in
          (ap (λ (f : Fault). refusal_number f.refusal) m, ap (λ (f : Fault). f.offset) m)

  pub put_ok : (x : A) → r ≡ Ok x → 0 ≡ number_found self
  put_ok x e = go self cases
    where
      go : (s : Result A Refusal) → MatchResult s (λ x. r ≡ Ok x) (λ e. IsErrAnd r (Post e)) → 0 ≡ number_found s
      go (Ok y) c = refl
      go (Err y) c =
          let q = err_from_is_err_and r c in
          let h : ◌≡◌ {A = Result A Fault} (Ok x) (Err q.0) = sym e ∙ q.1 in
          cc
