-- Laws of resume places: a place and the number of joined characters before it are one to one, by induction on the
-- strings. Assumes nothing.
use mathlib.Core.Path.{◌≡◌, sym, ◌∙◌}
use mathlib.Core.Bool.{true, false, ◌&&◌, and-false}
use mathlib.Core.List.{List, [], ◌∷◌, ◌++◌}
use Prim.Native.Nat.{ℕ, zero, suc, ◌+◌, ◌-◌, ◌≤◌, ◌<◌, min}
use native.Mathlib.Nat.{add-zero, zero-add}
use native.Mathlib.Omega.{arith}
use lib.Dec.{leb, ltb}
use lib.ListN.{length, take, drop, get_or, length-append}
use borrow.Author.Rules.{rules}
use borrow.Author.Tests.{leb-true, le-leb, lt-leb, lt-ltb, le-ltb}
use Rattle.strlib.specs.Pointer.{joined}
use Rattle.strlib.specs.declared.StrPtr.{StrPtr}
use Rattle.strlib.proofs.Pointing.{either, leb_same}
use Rattle.strlib.proofs.Refusing.{and_both}
use Rattle.joining.specs.Resuming.{length_at, place_in, before, offset, place_at}
use Rattle.joining.specs.declared.Place.{Place}
use Rattle.joining.proofs.Texts.{length_at_is, length_at_none, before_end}

-- ---- the length of a listed string

module _ (ps : List StrPtr) (i : ℕ) where
  pub length_in : (d : StrPtr) → i < length ps → (get_or ps i d).length ≡ length_at ps i
  length_in d h = sym (length_at_is ps i d h)

  pub length_past : length ps ≤ i → 0 ≡ length_at ps i
  length_past h = sym (length_at_none ps i h)

-- ---- the bounds of a place

module _ (list : List StrPtr) (count : ℕ) (from : Place) where
  pub place_none : from.string ≡ 0 → false ≡ place_in list count from
  unfolding place_in
  place_none e = rw e

  pub place_left : from.character ≡ 0 → false ≡ place_in list count from
  unfolding place_in
  place_left e = rw (e, and-false)

  pub place_over : count < from.string - 1 → false ≡ place_in list count from
  unfolding place_in
  place_over h = rw (lt-leb from.string (count + 1) (omega arith)) (rw and-false)

  pub place_last : (from.string ≡ 0 → ⊥) → (from.character ≡ 0 → ⊥) → from.string - 1 ≤ count → (l : ℕ) → l ≡ length_at (take count list) (from.string - 1)
      → leb (from.character - 1) l ≡ place_in list count from
  unfolding place_in
  place_last a b h l e =
      rw (le-leb 1 from.string (omega arith), le-leb from.string (count + 1) (omega arith), le-leb 1 from.character (omega arith), ← e)
      (leb_same (from.character - 1) l from.character (l + 1) (λ z. omega arith) (λ z. omega arith))

  pub place_is : place_in list count from ≡ true
      → ((1 ≤ from.string) × (from.string ≤ count + 1)) × ((1 ≤ from.character) × (from.character ≤ length_at (take count list) (from.string - 1) + 1))
  unfolding place_in
  place_is e =
      let l : ℕ = length_at (take count list) (from.string - 1) in
      let b = and_both (leb 1 from.string && leb from.string (count + 1)) (leb 1 from.character && leb from.character (l + 1)) e in
      let c = and_both (leb 1 from.string) (leb from.string (count + 1)) b.0 in
      let d = and_both (leb 1 from.character) (leb from.character (l + 1)) b.1 in
      ((leb-true _ _ c.0, leb-true _ _ c.1), (leb-true _ _ d.0, leb-true _ _ d.1))

  pub is_place : 1 ≤ from.string → from.string ≤ count + 1 → 1 ≤ from.character → from.character ≤ length_at (take count list) (from.string - 1) + 1
      → place_in list count from ≡ true
  unfolding place_in
  is_place a b c d = rw (le-leb _ _ a, le-leb _ _ b, le-leb _ _ c, le-leb _ _ d)

-- ---- places and offsets

-- where an offset lies: on a character of a string
pub record OnCharacter (k : ℕ) (xss : List (List ℕ)) (o : ℕ) : Type 0 where
  pub i : ℕ
  pub q : ℕ
  pub string : i < length xss
  pub character : q < length (get_or xss i [])
  pub same : before xss i q ≡ o
  pub place : place_at k xss o ≡ record { string = k + i; character = q + 1 }

pub place_on : (k : ℕ) (xss : List (List ℕ)) (o : ℕ) → o < length (joined xss) → OnCharacter k xss o
unfolding place_at joined before
place_on k [] o h = absurd (omega arith)
place_on k (x ∷ xss) o h =
    either (length x) o
    (λ (g : length x ≤ o).
    let l : length (x ++ joined xss) ≡ length x + length (joined xss) = length-append x (joined xss) in
    let W = place_on (k + 1) xss (o - length x) (omega arith) in
    let b : ltb o (length x) ≡ false = le-ltb o (length x) g in
    let e : k + suc W.i ≡ k + 1 + W.i = omega arith in
    let a : length (x ++ joined (take W.i xss)) ≡ length x + length (joined (take W.i xss)) = length-append x (joined (take W.i xss)) in
    let w : length (joined (take W.i xss)) + W.q ≡ o - length x = W.same in
    record { i = suc W.i; q = W.q; string = omega (arith, W.string); character = W.character; same = omega arith; place = rw (b, e) W.place })
    (λ (g : o < length x).
    let e : k + 0 ≡ k = omega arith in
    let z : 0 + o ≡ o = omega arith in
    record { i = 0; q = o; string = omega arith; character = g; same = z; place = rw (lt-ltb o (length x) g, e) })

-- or behind all
pub place_behind : (k : ℕ) (xss : List (List ℕ)) (o : ℕ) → length (joined xss) ≤ o → place_at k xss o ≡ record { string = k + length xss; character = 1 }
unfolding place_at joined
place_behind k [] o h = let e : k + 0 ≡ k = omega arith in rw e
place_behind k (x ∷ xss) o h =
    let l : length (x ++ joined xss) ≡ length x + length (joined xss) = length-append x (joined xss) in
    let b : ltb o (length x) ≡ false = le-ltb o (length x) (omega arith) in
    let e : k + suc (length xss) ≡ k + 1 + length xss = omega arith in
    rw (b, e) (place_behind (k + 1) xss (o - length x) (omega arith))

-- the strings before index i passed over
pub place_skip : (k : ℕ) (xss : List (List ℕ)) (i q : ℕ) → i ≤ length xss → place_at k xss (before xss i q) ≡ place_at (k + i) (drop i xss) q
unfolding before place_at joined
place_skip k xss zero q h = rw (zero-add, add-zero)
place_skip k [] (suc i) q h = absurd (omega arith)
place_skip k (x ∷ xss) (suc i) q h =
    let b : ℕ = length (joined (take i xss)) + q in
    let a : length (x ++ joined (take i xss)) + q ≡ length x + b = rw length-append (omega arith) in
    let f : ltb (length x + b) (length x) ≡ false = le-ltb (length x + b) (length x) (omega arith) in
    let d : length x + b - length x ≡ b = omega arith in
    let e : k + suc i ≡ k + 1 + i = omega arith in
    rw (a, f, d, e) (place_skip (k + 1) xss i q (omega arith))

-- a place's offset is the offset that it was made of, or that of the end
pub place_offset : (xss : List (List ℕ)) (o : ℕ) → offset xss (place_at 1 xss o) ≡ min o (length (joined xss))
place_offset xss o =
    either (length (joined xss)) o
    (λ (h : length (joined xss) ≤ o).
    let e : 1 + length xss - 1 ≡ length xss = omega arith in
    rw (place_behind 1 xss o h, e, before_end) (omega arith))
    (λ (h : o < length (joined xss)).
    let W = place_on 1 xss o h in
    let a : 1 + W.i - 1 ≡ W.i = omega arith in
    let b : W.q + 1 - 1 ≡ W.q = omega arith in
    rw (W.place, a, b) (W.same ∙ omega arith))

pub ruleset place_laws = (rules, length_in, length_past, place_none, place_left, place_over, place_last)
