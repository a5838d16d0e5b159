-- Laws of answers that are refused with an offset, and of what was lent. Assumes nothing.
use mathlib.Core.Path.{◌≡◌, refl, ap}
use mathlib.Core.List.{List}
use Prim.Native.Nat.{ℕ, zero, suc}
use native.Mathlib.Omega.{arith}
use Rattle.strlib.proofs.Refusing.{after_no, after_yes}
use Rattle.strlib.specs.Refusal.{after}
use Rattle.records.specs.Told.{refused_at, tells, told, ruled_at}

module _ (k m : ℕ) (e : k ≡ m) where
  pub told_no : {A : Type 0} (p q : ℕ) (x : A) → p ≡ q → (k ≡ 0 → ⊥) → refused_at k p ≡ told m q x
  unfolding told
  told_no p q x f h = rw (← e, f) (go k h)
    where
      go : (n : ℕ) → (n ≡ 0 → ⊥) → refused_at n q ≡ told n q x
      go zero g = absurd (g refl)
      go (suc n) g = refl

  pub told_yes : {A : Type 0} (q : ℕ) (x y : A) → k ≡ 0 → x ≡ y → tells x ≡ told m q y
  unfolding told
  told_yes q x y h f = let z : m ≡ 0 = omega arith in rw z (ap tells f)

  pub ruled_at_no : {A : Type 0} (p q : ℕ) (y : A) (new old : List ℕ) → p ≡ q → (k ≡ 0 → ⊥) → (refused_at k p, old) ≡ ruled_at m q y new old
  unfolding ruled_at
  ruled_at_no p q y new old f h = rw (← (told_no p q y f h), ← (after_no k m e new old h))

  pub ruled_at_yes : {A : Type 0} (q : ℕ) (x y : A) (t new old : List ℕ) → k ≡ 0 → x ≡ y → t ≡ new → (tells x, t) ≡ ruled_at m q y new old
  unfolding ruled_at
  ruled_at_yes q x y t new old h f g = rw (← (told_yes q x y h f), ← (after_yes k m e t new old h g))

-- an answer that is no refusal
pub told_gave : {A : Type 0} (k offset : ℕ) (x y : A) → told k offset x ≡ tells y → (k ≡ 0) × (x ≡ y)
unfolding told
told_gave zero offset x y e = (refl, cc)
told_gave (suc k) offset x y e = let z : ◌≡◌ {A = ℕ} 0 1 = cc in absurd (omega arith)

pub ruled_at_gave : {A : Type 0} (k offset : ℕ) (x y : A) (new old : List ℕ) → (ruled_at k offset x new old).0 ≡ tells y → (k ≡ 0) × ((x ≡ y) × ((ruled_at k offset x new old).1 ≡ new))
unfolding ruled_at after
ruled_at_gave k offset x y new old e = let g = told_gave k offset x y e in (g.0, (g.1, rw g.0))

-- and one that is
pub told_is : {A : Type 0} (k q : ℕ) (x : A) (n p : ℕ) → told k q x ≡ refused_at n p → (n ≡ k) × ((p ≡ q) × (n ≡ 0 → ⊥))
unfolding told
told_is zero q x n p e = let z : ◌≡◌ {A = ℕ} 0 1 = cc in absurd (omega arith)
told_is (suc k) q x n p e =
    let f : n ≡ suc k = cc in
    let g : p ≡ q = cc in
    (f, (g, λ z. omega arith))
