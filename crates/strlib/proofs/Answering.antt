-- Laws of the code's refusals: what a `?` that leaves a function answers, and what is known behind one that does not.
-- Assumes nothing.
use Rattle.std.proofs.Common.{ℕ, zero, suc, ◌≡◌, refl, sym, ap, ◌∙◌, cond, Bool, true, false, List, [], ◌∷◌, ◌++◌, Option, Result, Ok, Err, arith, rules, ltb}
use borrow.Author.Tests.{lt-ltb}
use Rattle.std.specs.Result.{IsErrAnd}
use Rattle.std.proofs.lemmas.Result.{err_from_is_err_and}
use Rattle.strlib.specs.Refusal.{Sought, gives, first, also, outcome, ruled, refusal_number, number_found, answered, sought_answered}
use Rattle.strlib.specs.declared.refusal.Refusal.{Refusal}
use Rattle.strlib.proofs.Refusing.{numbered, first_is, first_before, first_behind, outcome_no, outcome_yes, ruled_no, ruled_yes}

pub refusal_some : (e : Refusal) → refusal_number e ≡ 0 → ⊥
refusal_some e h = grind arith

-- an error goes out as it came
pub err_is : {A E : Type 0} (r : Result A E) (e : E) → IsErrAnd r (λ x. x ≡ e) → r ≡ Err e
err_is r e p = let q = err_from_is_err_and r p in rw (← q.2) q.1

-- ---- one check, and those behind it: `?` makes them in turn, so that the first that fails is found by `first_is`

pub cond_passed : (b : Bool) (n : ℕ) → 0 ≡ cond b 0 (suc n) → b ≡ true
cond_passed true n e = refl
cond_passed false n e = absurd (omega (arith, e))

two_numbered : (n k : ℕ) (b c : Bool) → numbered ((suc n, b) ∷ (suc k, c) ∷ []) ≡ true
two_numbered n k b c = rw (lt-ltb 0 (suc n) (omega arith), lt-ltb 0 (suc k) (omega arith))

-- a check that fails, before one that would find k
pub fails_first : (m n : ℕ) (b : Bool) (k : ℕ) → (m ≡ 0 → ⊥) → m ≡ cond b 0 n → m ≡ cond b k n
unfolding also
fails_first zero n b k z h = absurd (z refl)
fails_first (suc m) zero true k z h = absurd (z h)
fails_first (suc m) zero false k z h = absurd (z h)
fails_first (suc m) (suc n) b zero z h = h
fails_first (suc m) (suc n) b (suc k) z h = first_is ((suc n, b) ∷ (suc k, false) ∷ []) (two_numbered n k b false) (suc m) (ap (λ (x : ℕ). also x (suc k) false) h)

pub here : (e : Refusal) (b : Bool) (n k : ℕ) → refusal_number e ≡ cond b 0 n → refusal_number e ≡ cond b k n
here e b n k h = fails_first (refusal_number e) n b k (refusal_some e) h

pub next : (b : Bool) (n x k : ℕ) → 0 ≡ cond b 0 (suc n) → x ≡ k → x ≡ cond b k (suc n)
unfolding also
next b n x zero h e = e ∙ h
next b n x (suc k) h e = first_is ((suc n, b) ∷ (suc k, false) ∷ []) (two_numbered n k b false) x (e ∙ ap (λ (y : ℕ). also y (suc k) false) h)

-- ---- a list of checks, and those behind it

pub here_all : (e : Refusal) (cs ds : List (ℕ × Bool)) → refusal_number e ≡ first cs → refusal_number e ≡ first (cs ++ ds)
here_all e cs ds h = first_before cs ds (refusal_number e) h (refusal_some e)

pub next_all : (cs ds : List (ℕ × Bool)) → numbered cs ≡ true → (x : ℕ) → 0 ≡ first cs → x ≡ first ds → x ≡ first (cs ++ ds)
next_all cs ds n x h e = e ∙ sym (first_behind cs ds n (sym h))

-- ---- where a `?` leaves the function, its refusal goes out as it came

module _ {A : Type 0} (r : Result A Refusal) (e : Refusal) (p : IsErrAnd r (λ x. x ≡ e)) (k : ℕ) (h : refusal_number e ≡ k) where
  left : r ≡ Err e
  left = err_is r e p

  pub stop : number_found r ≡ k
  stop = rw left h

  pub outcome_left : (x : A) → answered r ≡ outcome k x
  outcome_left x = rw left (outcome_no (refusal_number e) k h x (refusal_some e))

  pub ruled_left : (x : A) (new old : List ℕ) → (answered r, old) ≡ ruled k x new old
  ruled_left x new old = rw left (ruled_no (refusal_number e) k h x new old (refusal_some e))

module _ {A : Type 0} (r : Result (Option A) Refusal) (e : Refusal) (p : IsErrAnd r (λ x. x ≡ e)) (k : ℕ) (h : refusal_number e ≡ k) where
  pub sought_left : (x : Sought A) → sought_answered r ≡ outcome k x
  sought_left x = rw (err_is r e p) (outcome_no (refusal_number e) k h x (refusal_some e))

-- ---- where it does not

module _ {A : Type 0} (k : ℕ) (x y : A) (h : 0 ≡ k) (e : x ≡ y) where
  pub outcome_right : gives x ≡ outcome k y
  outcome_right = outcome_yes 0 k h x y refl e

  pub ruled_right : (t new old : List ℕ) → t ≡ new → (gives x, t) ≡ ruled k y new old
  ruled_right t new old p = ruled_yes 0 k h x y t new old refl e p

pub ruleset answer_laws = (rules, stop, here, next, here_all, next_all, outcome_left, ruled_left, sought_left, outcome_right, ruled_right)
