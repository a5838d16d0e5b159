-- A pointer that a cut returns is good for the store it was cut from: once over all cuts, from the room that each part
-- keeps within that of the whole. Assumes nothing.
use mathlib.Core.Path.{◌≡◌}
use mathlib.Core.Bool.{true}
use mathlib.Core.List.{List}
use Prim.Native.Nat.{ℕ, ◌+◌, ◌-◌}
use native.Mathlib.Omega.{arith}
use lib.ListN.{length}
use Rattle.strlib.proofs.Refusing.{outcome_gave}
use Rattle.strlib.proofs.Pointing.{good_is, good_part, good_sized, text_length}
use Rattle.strlib.specs.Pointer.{good_in, text_of}
use Rattle.strlib.specs.declared.StrPtr.{StrPtr}
use Rattle.cutting.proofs.Bounding.{trimmed_le}
use Rattle.cutting.proofs.Making.{relative_is, counted_in_lem, between_in_lem, CutPassed, cut_passed}
use Rattle.cutting.specs.Cutting.{trimmed_length, second, in_bounds, cut_of, cut_refusal, cut_rule, CutGood}
use Rattle.cutting.specs.declared.Cut.{Cut}
use Rattle.cutting.specs.declared.Cut.TheVariants.{Relative, Counted, Between, Trimmed}

pub part_good : (s : List ℕ) (p : StrPtr) (c : Cut) → good_in (length s) p ≡ true → in_bounds p c ≡ true → good_in (length s) (cut_of s p c) ≡ true
unfolding cut_of
part_good s p (Relative a) g b =
    let h = relative_is p a b in
    let l = (good_is (length s) p g).0 in
    good_part (length s) p a (p.length - a) (p.maximum - a) g (omega arith) (omega arith)
part_good s p (Counted at n) g b =
    let h = counted_in_lem p at n b in
    good_part (length s) p (at - 1) n (p.maximum + 1 - at) g (omega arith) (omega arith)
part_good s p (Between pos1 pos2) g b =
    let h = between_in_lem p pos1 pos2 b in
    let l = (good_is (length s) p g).0 in
    good_part (length s) p (pos1 - 1) (second p.length pos2 - pos1) (p.length + 1 - pos1) g (omega arith) (omega arith)
part_good s p Trimmed g b =
    let h = trimmed_le (text_of s p) in
    let l = (good_is (length s) p g).0 in
    good_sized (length s) p (trimmed_length (text_of s p)) g (omega (arith, text_length s p g))

pub cut_good : CutGood
unfolding cut_rule
cut_good s p c q e =
    let o = outcome_gave (cut_refusal s p c) (cut_of s p c) q e in
    let ok : CutPassed s p c = cut_passed s p c o.0 in
    rw (← o.1) (part_good s p c ok.good ok.bounds)
