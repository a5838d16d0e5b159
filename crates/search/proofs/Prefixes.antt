-- Laws of prefixes, by going through both lists. Assumes nothing.
use Prim.Native.Nat.{ℕ, zero, suc, ◌≤◌, ◌<◌}
use mathlib.Core.Path.{◌≡◌, refl, sym, ap, ◌∙◌}
use mathlib.Core.Bool.{Bool, true, false, ◌&&◌, false≢true}
use mathlib.Core.List.{List, [], ◌∷◌}
use native.Mathlib.Omega.{arith}
use lib.Dec.{eqb, leb}
use lib.ListN.{length, take}
use borrow.Author.Rules.{rules}
use borrow.Author.Tests.{eqb-true, eq-eqb, lt-leb}
use Rattle.std.proofs.Common.{zip}
use Rattle.std.specs.Cmp.Lexicographic.{pointwise}
use Rattle.std.specs.List.{list_all}
use Rattle.strlib.proofs.Refusing.{bool_case, and_both}
use Rattle.search.specs.Search.{is_prefix}

-- ---- a prefix is what stands at the front

pub prefix_stands : (s h : List ℕ) → is_prefix s h ≡ true → take (length s) h ≡ s
prefix_stands [] h e = refl
prefix_stands (x ∷ s) [] e = absurd (false≢true e)
prefix_stands (x ∷ s) (y ∷ h) e =
    let b = and_both (eqb x y) (is_prefix s h) e in
    rw (eqb-true x y b.0, prefix_stands s h b.1)

pub stands_prefix : (s h : List ℕ) → take (length s) h ≡ s → is_prefix s h ≡ true
stands_prefix [] h e = refl
stands_prefix (x ∷ s) [] e = let z : ◌≡◌ {A = ℕ} 0 1 = cc in absurd (omega arith)
stands_prefix (x ∷ s) (y ∷ h) e =
    let a : x ≡ y = cc in
    let b : take (length s) h ≡ s = cc in
    rw (eq-eqb x y a) (stands_prefix s h b)

pub prefix_length : (s h : List ℕ) → is_prefix s h ≡ true → length s ≤ length h
prefix_length [] h e = omega arith
prefix_length (x ∷ s) [] e = absurd (false≢true e)
prefix_length (x ∷ s) (y ∷ h) e = omega (arith, prefix_length s h (and_both (eqb x y) (is_prefix s h) e).1)

-- ---- the library's test

pub prefix_starts : (s h : List ℕ) (b : Bool) → b ≡ pointwise eqb s (take (length s) h) → b ≡ is_prefix s h
prefix_starts s h b e = e ∙ go s h
  where
    go : (s h : List ℕ) → pointwise eqb s (take (length s) h) ≡ is_prefix s h
    go [] h = refl
    go (x ∷ s) [] = refl
    go (x ∷ s) (y ∷ h) = rw (go s h)

-- ---- pair by pair, of a text that is no shorter

pub prefix_pairs : (s h : List ℕ) → length s ≤ length h → list_all (λ p. eqb p.0 p.1) (zip s h) ≡ is_prefix s h
prefix_pairs [] h l = refl
prefix_pairs (x ∷ s) [] l = absurd (omega (arith, l))
prefix_pairs (x ∷ s) (y ∷ h) l = ap (λ (b : Bool). eqb x y && b) (prefix_pairs s h (omega (arith, l)))

pub prefix_long : (s h : List ℕ) → length h < length s → false ≡ is_prefix s h
prefix_long s h l =
    bool_case (is_prefix s h)
    (λ t. absurd (omega (arith, l, prefix_length s h t)))
    (λ t. sym t)

pub prefix_short : (s h : List ℕ) → length h < length s → leb (length s) (length h) ≡ is_prefix s h
prefix_short s h l = lt-leb (length s) (length h) l ∙ prefix_long s h l

-- ---- what tells before the whole string is compared

-- the first n characters of a prefix
pub prefix_front : (s h : List ℕ) (n : ℕ) → is_prefix s h ≡ true → is_prefix (take n s) h ≡ true
prefix_front s h zero e = refl
prefix_front [] h (suc n) e = refl
prefix_front (x ∷ s) [] (suc n) e = absurd (false≢true e)
prefix_front (x ∷ s) (y ∷ h) (suc n) e = let b = and_both (eqb x y) (is_prefix s h) e in rw (b.0, prefix_front s h n b.1)

-- where these do not stand, nor does the whole
pub prefix_front_not : (s h : List ℕ) (n : ℕ) (b : Bool) → b ≡ pointwise eqb (take n s) (take (length (take n s)) h) → b ≡ false → false ≡ is_prefix s h
prefix_front_not s h n b e f =
    bool_case (is_prefix s h)
    (λ t. absurd (false≢true (sym f ∙ prefix_starts (take n s) h b e ∙ prefix_front s h n t)))
    (λ t. sym t)

pub ruleset begin_laws = (rules, prefix_front_not, prefix_starts, prefix_long, prefix_short)
