-- Laws of what a cut looks at: the code's tests are the bounds of the definitions, and blanks are dropped from the end.
-- Assumes nothing.
use mathlib.Core.Path.{◌≡◌, refl, sym, ap, ◌∙◌}
use mathlib.Core.Bool.{Bool, true, false, cond, ◌&&◌, and-true, and-false}
use mathlib.Core.List.{List, [], ◌∷◌, ◌++◌, append-nil}
use Prim.Native.Nat.{ℕ, zero, suc, ◌+◌, ◌-◌, ◌≤◌, ◌<◌}
use native.Mathlib.Omega.{arith}
use lib.Dec.{leb, eqb}
use lib.ListN.{length, get_or, replicate}
use lib.Seq.{append_snoc}
use borrow.Author.Rules.{rules}
use borrow.Author.Tests.{leb-true, le-leb, lt-leb, eq-eqb, ne_eqb}
use Rattle.strlib.proofs.Refusing.{and_both}
use Rattle.strlib.proofs.Pointing.{leb_same}
use Rattle.strlib.specs.Pointer.{all}
use Rattle.strlib.specs.declared.StrPtr.{StrPtr}
use Rattle.cutting.specs.Cutting.{is_blank, trimmed_length, second, counted_in, between_in, in_bounds}
use Rattle.cutting.specs.declared.Cut.{Cut}
use Rattle.cutting.specs.declared.Cut.TheVariants.{Relative, Counted, Between, Trimmed}

-- ---- bounds

module _ (m p n : ℕ) where
  pub counted_zero : p ≡ 0 → false ≡ counted_in m p n
  unfolding counted_in
  counted_zero z = rw z

  pub counted_past : (p ≡ 0 → ⊥) → m < p - 1 → false ≡ counted_in m p n
  unfolding counted_in
  counted_past z h = let k : m + 1 < p = omega arith in simp (lt-leb p (m + 1) k, and-false)

  pub counted_last : (p ≡ 0 → ⊥) → p - 1 ≤ m → leb n (m - (p - 1)) ≡ counted_in m p n
  unfolding counted_in
  counted_last z h =
      let a : 1 ≤ p = omega arith in
      let b : p ≤ m + 1 = omega arith in
      let e : m + 1 - p ≡ m - (p - 1) = omega arith in
      simp (le-leb 1 p a, le-leb p (m + 1) b, e)

  pub counted_is : counted_in m p n ≡ true → (1 ≤ p) × ((p ≤ m + 1) × (n ≤ m + 1 - p))
  unfolding counted_in
  counted_is e =
      let x = and_both (leb 1 p && leb p (m + 1)) (leb n (m + 1 - p)) e in
      let y = and_both (leb 1 p) (leb p (m + 1)) x.0 in
      (leb-true 1 p y.0, (leb-true p (m + 1) y.1, leb-true n (m + 1 - p) x.1))

pub second_end : (n p : ℕ) → p ≡ 0 → n + 1 ≡ second n p
unfolding second
second_end n p e = simp (eq-eqb p 0 e)

pub second_same : (n p : ℕ) → (p ≡ 0 → ⊥) → p ≡ second n p
unfolding second
second_same n p e = simp (ne_eqb p 0 e)

module _ (n p q : ℕ) where
  pub between_zero : p ≡ 0 → false ≡ between_in n p q
  unfolding between_in
  between_zero z = rw z

  pub between_open : (p ≡ 0 → ⊥) → q ≡ 0 → leb (p - 1) n ≡ between_in n p q
  unfolding between_in
  between_open z e =
      let a : 1 ≤ p = omega arith in
      let b : n + 1 ≤ n + 1 = omega arith in
      rw (← (second_end n q e))
      (simp (le-leb 1 p a, le-leb (n + 1) (n + 1) b, and-true) (leb_same (p - 1) n p (n + 1) (λ h. omega arith) (λ h. omega arith)))

  pub between_turned : (q ≡ 0 → ⊥) → q < p → false ≡ between_in n p q
  unfolding between_in
  between_turned e h = rw (← (second_same n q e)) (simp (lt-leb p q h, and-false))

  pub between_last : (p ≡ 0 → ⊥) → (q ≡ 0 → ⊥) → p ≤ q → leb (q - 1) n ≡ between_in n p q
  unfolding between_in
  between_last z e h =
      let a : 1 ≤ p = omega arith in
      rw (← (second_same n q e))
      (simp (le-leb 1 p a, le-leb p q h) (leb_same (q - 1) n q (n + 1) (λ k. omega arith) (λ k. omega arith)))

  pub between_is : between_in n p q ≡ true → (1 ≤ p) × ((p ≤ second n q) × (second n q ≤ n + 1))
  unfolding between_in
  between_is e =
      let x = and_both (leb 1 p && leb p (second n q)) (leb (second n q) (n + 1)) e in
      let y = and_both (leb 1 p) (leb p (second n q)) x.0 in
      (leb-true 1 p y.0, (leb-true p (second n q) y.1, leb-true (second n q) (n + 1) x.1))

-- the bounds of a cut that is known
module _ (p : StrPtr) (c : Cut) where
  pub bounds_relative : (a : ℕ) → c ≡ Relative a → leb a p.length ≡ in_bounds p c
  unfolding in_bounds
  bounds_relative a e = rw e

  pub bounds_counted : (at n : ℕ) (r : Bool) → c ≡ Counted at n → r ≡ counted_in p.maximum at n → r ≡ in_bounds p c
  unfolding in_bounds
  bounds_counted at n r e h = rw e h

  pub bounds_between : (pos1 pos2 : ℕ) (r : Bool) → c ≡ Between pos1 pos2 → r ≡ between_in p.length pos1 pos2 → r ≡ in_bounds p c
  unfolding in_bounds
  bounds_between pos1 pos2 r e h = rw e h

  pub bounds_trimmed : c ≡ Trimmed → true ≡ in_bounds p c
  unfolding in_bounds
  bounds_trimmed e = rw e

pub ruleset bounds_laws = (
  rules,
  counted_zero,
  counted_past,
  counted_last,
  second_end,
  second_same,
  between_zero,
  between_open,
  between_turned,
  between_last,
  bounds_relative,
  bounds_counted,
  bounds_between,
  bounds_trimmed,
)

-- ---- trailing blanks

blanks_more : (s : List ℕ) → is_blank (s ++ (32 ∷ [])) ≡ is_blank s
unfolding is_blank all
blanks_more [] = refl
blanks_more (x ∷ s) = ap (λ (b : Bool). eqb x 32 && b) (blanks_more s)

pub trimmed_blank : (s : List ℕ) → trimmed_length (s ++ (32 ∷ [])) ≡ trimmed_length s
unfolding trimmed_length is_blank all
trimmed_blank [] = refl
trimmed_blank (x ∷ s) = rw (blanks_more (x ∷ s), trimmed_blank s)

pub trimmed_padded : (k : ℕ) (s : List ℕ) → trimmed_length (s ++ replicate k 32) ≡ trimmed_length s
trimmed_padded zero s = ap trimmed_length (append-nil s)
trimmed_padded (suc k) s = ap trimmed_length (sym (append_snoc s 32 (replicate k 32))) ∙ trimmed_padded k (s ++ (32 ∷ [])) ∙ trimmed_blank s

pub trimmed_le : (s : List ℕ) → trimmed_length s ≤ length s
unfolding trimmed_length
trimmed_le [] = omega arith
trimmed_le (x ∷ s) = go (is_blank (x ∷ s)) (trimmed_le s)
  where
    go : (b : Bool) → trimmed_length s ≤ length s → cond b 0 (suc (trimmed_length s)) ≤ suc (length s)
    go true h = omega arith
    go false h = omega arith

-- nothing is left exactly where all is blank
pub trimmed_blanks : (s : List ℕ) → is_blank s ≡ eqb (trimmed_length s) 0
unfolding trimmed_length is_blank all
trimmed_blanks [] = refl
trimmed_blanks (x ∷ s) = go (is_blank (x ∷ s))
  where
    go : (b : Bool) → b ≡ eqb (cond b 0 (suc (trimmed_length s))) 0
    go true = refl
    go false = sym (ne_eqb (suc (trimmed_length s)) 0 (λ e. omega arith))

pub trimmed_none : (s : List ℕ) → trimmed_length s ≡ 0 → is_blank s ≡ true
trimmed_none s e = trimmed_blanks s ∙ eq-eqb (trimmed_length s) 0 e

pub trimmed_some : (s : List ℕ) → (trimmed_length s ≡ 0 → ⊥) → is_blank s ≡ false
trimmed_some s e = trimmed_blanks s ∙ ne_eqb (trimmed_length s) 0 e

-- no byte but blanks, or a last one at index i
blanks_all : (s : List ℕ) → ((k : ℕ) → k < length s → get_or s k 0 ≡ 32) → is_blank s ≡ true
unfolding is_blank all
blanks_all [] h = refl
blanks_all (x ∷ s) h = rw (eq-eqb x 32 (h 0 (omega arith)), blanks_all s (λ k l. h (suc k) (omega arith)))

pub trim_none : (s : List ℕ) → ((k : ℕ) → k < length s → get_or s k 0 ≡ 32) → ◌≡◌ {A = ℕ} 0 (trimmed_length s)
unfolding trimmed_length
trim_none [] h = refl
trim_none (x ∷ s) h = rw (blanks_all (x ∷ s) h)

pub trim_last : (s : List ℕ) (i : ℕ) → i < length s → (get_or s i 0 ≡ 32 → ⊥) → ((k : ℕ) → i + 1 ≤ k → k < length s → get_or s k 0 ≡ 32)
    → i + 1 ≡ trimmed_length s
unfolding trimmed_length is_blank all
trim_last [] i h y after = absurd (omega arith)
trim_last (x ∷ s) zero h y after =
    let e : ◌≡◌ {A = ℕ} 0 (trimmed_length s) = trim_none s (λ k l. after (suc k) (omega arith) (omega arith)) in
    rw (ne_eqb x 32 y, ← e)
trim_last (x ∷ s) (suc i) h y after =
    let e : i + 1 ≡ trimmed_length s = trim_last s i (omega arith) y (λ k l m. after (suc k) (omega arith) (omega arith)) in
    let b : is_blank s ≡ false = trimmed_some s (λ z. omega arith) in
    rw (b, and-false) (omega arith)
