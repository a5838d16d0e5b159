-- Every pointer that a call gives is good for the store: it is the given one with a length that keeps to its maximum.
-- Assumes nothing.
use mathlib.Core.Path.{sym}
use mathlib.Core.List.{List}
use Prim.Native.Nat.{ℕ}
use native.Mathlib.Omega.{arith}
use lib.ListN.{length}
use Rattle.strlib.specs.Pointer.{sized, text_of}
use Rattle.strlib.specs.Store.{put}
use Rattle.strlib.proofs.Pointing.{good_sized, text_length}
use Rattle.strlib.proofs.Refusing.{ruled_gave}
use Rattle.moving.specs.Moving.{reversed}
use Rattle.moving.proofs.Turning.{reversed_length}
use Rattle.editing.specs.Replacing.{replaced, replace_refusal, replace_rule, ReplaceGood}
use Rattle.editing.specs.Reversing.{reverse_refusal, reverse_rule, reverse_from_refusal, reverse_from_rule, ReverseGood, ReverseFromGood}
use Rattle.editing.proofs.Replacing.{replace_passed, replace_fits}
use Rattle.editing.proofs.Reversing.{reverse_passed, reverse_from_passed}

pub replace_good : ReplaceGood
unfolding replace_rule
replace_good s string1 string2 string3 r e =
    let xs : List ℕ = replaced s string1 string2 string3 in
    let v = ruled_gave (replace_refusal s string1 string2 string3) (sized string1 (length xs)) r (put s string1.start xs) s e in
    let ok = replace_passed s string1 string2 string3 v.0 in
    rw (← v.1.0) (good_sized (length s) string1 (length xs) ok.room (replace_fits s string1 string2 string3 (sym v.0)))

pub reverse_good : ReverseGood
unfolding reverse_rule
reverse_good s string r e =
    let v = ruled_gave (reverse_refusal s string) string r (put s string.start (reversed (text_of s string))) s e in
    rw (← v.1.0) (reverse_passed s string v.0).room

pub reverse_from_good : ReverseFromGood
unfolding reverse_from_rule
reverse_from_good s destination source r e =
    let xs : List ℕ = reversed (text_of s source) in
    let v = ruled_gave (reverse_from_refusal s destination source) (sized destination (length xs)) r (put s destination.start xs) s e in
    let ok = reverse_from_passed s destination source v.0 in
    rw (← v.1.0)
    (good_sized (length s) destination (length xs) ok.into.room (omega (arith, ok.fits, reversed_length (text_of s source), text_length s source ok.into.part)))
