-- Laws of the characters of listed strings, by induction on the list. Assumes nothing.
use mathlib.Core.Path.{◌≡◌, refl}
use mathlib.Core.Bool.{true}
use mathlib.Core.List.{List, [], ◌∷◌, ◌++◌, append_assoc}
use Prim.Native.Nat.{ℕ, zero, suc, ◌+◌, ◌≤◌, ◌<◌}
use native.Mathlib.Nat.{add_assoc}
use native.Mathlib.Omega.{arith}
use lib.ListN.{length, take, drop, get_or}
use lib.Seq.{drop-nil, take-nil, take_all, drop-append-add}
use Rattle.strlib.specs.Pointer.{good_in, clear, all, texts, joined}
use Rattle.strlib.specs.Store.{put}
use Rattle.strlib.specs.declared.StrPtr.{StrPtr}
use Rattle.strlib.proofs.Pointing.{text_length}
use Rattle.strlib.proofs.Refusing.{and_both}
use Rattle.moving.proofs.Keeping.{text_kept}
use Rattle.joining.specs.Resuming.{length_at, before}

-- ---- string by string

pub texts_at : (s : List ℕ) (ps : List StrPtr) (i : ℕ) → all (good_in (length s)) ps ≡ true → length (get_or (texts s ps) i []) ≡ length_at ps i
unfolding texts all length_at
texts_at s [] i g = refl
texts_at s (p ∷ ps) zero g = text_length s p (and_both (good_in (length s) p) (all (good_in (length s)) ps) g).0
texts_at s (p ∷ ps) (suc i) g = texts_at s ps i (and_both (good_in (length s) p) (all (good_in (length s)) ps) g).1

-- a write in the destination's room leaves each string outside it as it was
pub texts_kept : (s : List ℕ) (destination : StrPtr) (ps : List StrPtr) (xs : List ℕ) → good_in (length s) destination ≡ true → all (clear destination) ps ≡ true
    → length xs ≤ destination.maximum → texts (put s destination.start xs) ps ≡ texts s ps
unfolding texts all
texts_kept s destination [] xs g c h = refl
texts_kept s destination (p ∷ ps) xs g c h =
    let b = and_both (clear destination p) (all (clear destination) ps) c in
    rw (text_kept s destination p destination.start xs g b.0 (omega arith) (omega arith), texts_kept s destination ps xs g b.1 h)

-- the length of the string of an index
pub length_at_is : (ps : List StrPtr) (i : ℕ) (d : StrPtr) → i < length ps → length_at ps i ≡ (get_or ps i d).length
unfolding length_at
length_at_is [] i d h = absurd (omega arith)
length_at_is (p ∷ ps) zero d h = refl
length_at_is (p ∷ ps) (suc i) d h = length_at_is ps i d (omega arith)

pub length_at_none : (ps : List StrPtr) (i : ℕ) → length ps ≤ i → length_at ps i ≡ 0
unfolding length_at
length_at_none [] i h = refl
length_at_none (p ∷ ps) zero h = absurd (omega arith)
length_at_none (p ∷ ps) (suc i) h = length_at_none ps i (omega arith)

-- ---- joined

joined_split : (xss : List (List ℕ)) (i : ℕ) → joined xss ≡ joined (take i xss) ++ joined (drop i xss)
unfolding joined
joined_split [] i = rw (take-nil, drop-nil)
joined_split (x ∷ xss) zero = refl
joined_split (x ∷ xss) (suc i) = rw (joined_split xss i, append_assoc)

-- the joined characters from the character of index q of the string of index i on
pub joined_drop : (xss : List (List ℕ)) (i q : ℕ) → drop (before xss i q) (joined xss) ≡ drop q (joined (drop i xss))
unfolding before
joined_drop xss i q = rw (joined_split xss i) (drop-append-add (joined (take i xss)) (joined (drop i xss)) q)

pub before_add : (xss : List (List ℕ)) (i q m : ℕ) → before xss i q + m ≡ before xss i (q + m)
unfolding before
before_add xss i q m = add_assoc (length (joined (take i xss))) q m

pub before_end : (xss : List (List ℕ)) → before xss (length xss) 0 ≡ length (joined xss)
unfolding before
before_end xss = rw (take_all (length xss) xss (omega arith)) (omega arith)
