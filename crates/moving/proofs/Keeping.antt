-- A write within a room leaves each string that is clear of the room as it was: it lies before what is written, or
-- behind it, or one of the two is empty. Assumes nothing.
use Rattle.std.proofs.Common.{◌≡◌, ℕ, ◌+◌, ◌<◌, ◌≤◌, min, max, true, List, [], ◌∷◌, length, refl, arith, leb-true}
use Rattle.strlib.specs.Pointer.{good_in, text_of, apart, clear}
use Rattle.strlib.specs.Store.{put}
use Rattle.strlib.specs.declared.StrPtr.{StrPtr}
use Rattle.strlib.proofs.Pointing.{either, good_is}
use Rattle.strlib.proofs.Storing.{put_none, part_before, part_after}

pub text_kept : (s : List ℕ) (room p : StrPtr) (at : ℕ) (xs : List ℕ) → good_in (length s) room ≡ true → clear room p ≡ true → room.start ≤ at
    → at + length xs ≤ room.start + room.maximum → text_of (put s at xs) p ≡ text_of s p
unfolding clear apart text_of
text_kept s room p at xs g c h l =
    let far : min (p.start + p.length) (room.start + room.maximum) ≤ max p.start room.start = leb-true _ _ c in
    let a : at ≤ length s = omega (arith, good_is (length s) room g) in
    either (p.start + p.length) at
    (λ (k : p.start + p.length ≤ at). part_before s at xs a p.start p.length k)
    (λ (k : at < p.start + p.length).
    either (at + length xs) p.start
    (λ (j : at + length xs ≤ p.start). part_after s at xs a p.start p.length j)
    (λ (j : p.start < at + length xs).
    either (length xs) 0
    (λ (n : length xs ≤ 0). rw (empty xs n, put_none s at))
    (λ (n : 0 < length xs). let z : p.length ≡ 0 = omega arith in rw z)))
  where
    empty : (ys : List ℕ) → length ys ≤ 0 → ys ≡ []
    empty [] k = refl
    empty (y ∷ ys) k = absurd (omega arith)
