-- Laws of the characters of listed strings, by induction on the list, and of one of the characters of a string. Assumes
-- nothing.
use mathlib.Core.Path.{◌≡◌, refl, ap}
use mathlib.Core.Bool.{true, ◌&&◌}
use mathlib.Core.List.{List, [], ◌∷◌, ◌++◌}
use Prim.Native.Nat.{ℕ, zero, suc, ◌≤◌, ◌<◌}
use native.Mathlib.Omega.{arith}
use lib.Dec.{leb}
use lib.ListN.{length, take, drop, get_or, length-map}
use lib.Seq.{drop-nil}
use borrow.Author.Tests.{leb-true}
use Rattle.strlib.proofs.Listing.{all_at, all_take, all_drop}
use Rattle.strlib.proofs.Refusing.{bool_case}
use Rattle.strlib.specs.Pointer.{text_of, texts, all, characters, readable}
use Rattle.strlib.specs.declared.StrPtr.{StrPtr}

pub character_at : (h : List ℕ) (i : ℕ) → characters h ≡ true → i < length h → get_or h i 0 ≤ 127
unfolding characters
character_at h i e l = leb-true (get_or h i 0) 127 (all_at (λ x. leb x 127) h i 0 e l)

-- a string of a store all of whose bytes are characters may be read
pub part_readable : (s : List ℕ) (p : StrPtr) → characters s ≡ true → readable s p ≡ true
unfolding readable text_of characters
part_readable s p e = all_take (λ x. leb x 127) (drop p.start s) p.length (all_drop (λ x. leb x 127) s p.start e)

pub characters_append : (a b : List ℕ) → characters (a ++ b) ≡ (characters a && characters b)
unfolding characters all
characters_append [] b = refl
characters_append (x ∷ a) b = bool_case (leb x 127) (λ p. rw p (characters_append a b)) (λ p. rw p)

pub texts_long : (s : List ℕ) (ps : List StrPtr) → length (texts s ps) ≡ length ps
unfolding texts
texts_long s ps = length-map ps (text_of s)

pub texts_take : (s : List ℕ) (ps : List StrPtr) (k : ℕ) → take k (texts s ps) ≡ texts s (take k ps)
unfolding texts
texts_take s [] zero = refl
texts_take s [] (suc k) = refl
texts_take s (p ∷ ps) zero = refl
texts_take s (p ∷ ps) (suc k) = ap (λ (l : List (List ℕ)). text_of s p ∷ l) (texts_take s ps k)

pub texts_drop : (s : List ℕ) (ps : List StrPtr) (i : ℕ) → drop i (texts s ps) ≡ texts s (drop i ps)
unfolding texts
texts_drop s [] i = rw (drop-nil, drop-nil)
texts_drop s (p ∷ ps) zero = refl
texts_drop s (p ∷ ps) (suc i) = texts_drop s ps i

-- the characters of one of listed strings
pub listed_text : (s : List ℕ) (ps : List StrPtr) (k : ℕ) (d : StrPtr) → k < length ps → get_or (texts s ps) k [] ≡ text_of s (get_or ps k d)
unfolding texts
listed_text s [] k d h = absurd (omega arith)
listed_text s (p ∷ ps) zero d h = refl
listed_text s (p ∷ ps) (suc k) d h = listed_text s ps k d (omega arith)

pub texts_readable : (s : List ℕ) (ps : List StrPtr) → all (readable s) ps ≡ all characters (texts s ps)
unfolding texts all readable
texts_readable s [] = refl
texts_readable s (p ∷ ps) = rw (texts_readable s ps)
