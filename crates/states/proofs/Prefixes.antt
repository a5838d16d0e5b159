-- Facts of prefixes that grow, by going through both lists. Assumes nothing.
use Prim.Native.Nat.{ℕ, zero, suc}
use mathlib.Core.Path.{◌≡◌, refl, sym, ap, ◌∙◌}
use mathlib.Core.Bool.{Bool, true, false, ◌&&◌, true≢false, false≢true}
use mathlib.Core.List.{List, [], ◌∷◌, ◌++◌}
use native.Mathlib.Omega.{arith}
use lib.Dec.{eqb, eqb-zero-suc, eqb-suc-zero, eqb-suc-suc}
use lib.ListN.{length}
use Rattle.strlib.proofs.Refusing.{bool_case, and_both}
use Rattle.search.specs.Search.{is_prefix}

-- how s and w stand to one another: w ⊑ s; s a proper prefix of w; they part
pub how : {P : Type 0} (s w : List ℕ) → (is_prefix w s ≡ true → P) → (is_prefix w s ≡ false → is_prefix s w ≡ true → P) → (is_prefix w s ≡ false → is_prefix s w ≡ false → P) → P
how s w f g h = bool_case (is_prefix w s) f (λ p. bool_case (is_prefix s w) (g p) (h p))

pub eqb_sym : (a b : ℕ) → eqb a b ≡ eqb b a
eqb_sym zero zero = refl
eqb_sym zero (suc b) = eqb-zero-suc b ∙ sym (eqb-suc-zero b)
eqb_sym (suc a) zero = eqb-suc-zero a ∙ sym (eqb-zero-suc a)
eqb_sym (suc a) (suc b) = eqb-suc-suc a b ∙ (eqb_sym a b ∙ sym (eqb-suc-suc b a))

-- `&&` under the same first test
and_mono_false : (b c d : Bool) → (c ≡ false → d ≡ false) → (b && c) ≡ false → (b && d) ≡ false
and_mono_false true c d f e = f e
and_mono_false false c d f e = refl

and_mono_true : (b c d : Bool) → (c ≡ true → d ≡ true) → (b && c) ≡ true → (b && d) ≡ true
and_mono_true true c d f e = f e
and_mono_true false c d f e = e

and_mono_false₂ : (b c c' d : Bool) → (c ≡ false → c' ≡ false → d ≡ false) → (b && c) ≡ false → (b && c') ≡ false → (b && d) ≡ false
and_mono_false₂ true c c' d f e e' = f e e'
and_mono_false₂ false c c' d f e e' = refl

-- a prefix that fails keeps failing when it is made longer
pub not_prefix_longer : (w z s : List ℕ) → is_prefix w s ≡ false → is_prefix (w ++ z) s ≡ false
not_prefix_longer [] z s e = absurd (true≢false e)
not_prefix_longer (x ∷ w) z [] e = refl
not_prefix_longer (x ∷ w) z (y ∷ s) e = and_mono_false (eqb x y) _ _ (not_prefix_longer w z s) e

-- a prefix stays one when the host is made longer
pub prefix_longer : (s w z : List ℕ) → is_prefix s w ≡ true → is_prefix s (w ++ z) ≡ true
prefix_longer [] w z e = refl
prefix_longer (x ∷ s) [] z e = absurd (false≢true e)
prefix_longer (x ∷ s) (y ∷ w) z e = and_mono_true (eqb x y) _ _ (prefix_longer s w z) e

-- strings that part from one another stay apart
pub apart_longer : (s w z : List ℕ) → is_prefix w s ≡ false → is_prefix s w ≡ false → is_prefix s (w ++ z) ≡ false
apart_longer [] w z e e' = absurd (true≢false e')
apart_longer (x ∷ s) [] z e e' = absurd (true≢false e)
apart_longer (x ∷ s) (y ∷ w) z e e' =
    and_mono_false₂ (eqb x y) (is_prefix w s) (is_prefix s w) (is_prefix s (w ++ z)) (apart_longer s w z) (rw (eqb_sym y x) at e) e'

-- a prefix of the same length is the whole
pub prefix_same : (s w : List ℕ) → is_prefix s w ≡ true → length s ≡ length w → is_prefix w s ≡ true
prefix_same [] [] e l = refl
prefix_same [] (y ∷ w) e l = absurd (omega arith)
prefix_same (x ∷ s) [] e l = absurd (false≢true e)
prefix_same (x ∷ s) (y ∷ w) e l =
    rw (eqb_sym y x) (and_mono_true (eqb x y) _ _ (λ q. prefix_same s w q (omega arith)) e)

and_split : {P : Type 0} (b c d : Bool) → (c ≡ true → d ≡ false → P) → (b && c) ≡ true → (b && d) ≡ false → P
and_split true c d f e e' = f e e'
and_split false c d f e e' = absurd (false≢true e)

-- one more character
pub prefix_snoc : (s w : List ℕ) (c : ℕ) → is_prefix s (w ++ (c ∷ [])) ≡ true → is_prefix s w ≡ false → length s ≡ suc (length w)
prefix_snoc [] w c e e' = absurd (true≢false e')
prefix_snoc (x ∷ []) [] c e e' = refl
prefix_snoc (x ∷ x' ∷ s) [] c e e' = absurd (false≢true (and_both (eqb x c) false e).1)
prefix_snoc (x ∷ s) (y ∷ w) c e e' =
    ap suc (and_split (eqb x y) _ _ (prefix_snoc s w c) e e')

pub length_snoc : (w : List ℕ) (c : ℕ) → length (w ++ (c ∷ [])) ≡ suc (length w)
length_snoc [] c = refl
length_snoc (x ∷ w) c = ap suc (length_snoc w c)
