-- Every pointer that a call gives is good for the store: it is the destination with a length that keeps to its maximum.
-- Assumes nothing.
use mathlib.Core.Path.{◌≡◌}
use mathlib.Core.Bool.{Bool, true, false}
use mathlib.Core.List.{List, ◌++◌}
use Prim.Native.Nat.{ℕ}
use lib.ListN.{length}
use Rattle.strlib.specs.Pointer.{good_in, text_of}
use Rattle.strlib.specs.Refusal.{gives}
use Rattle.strlib.specs.Store.{put}
use Rattle.strlib.specs.declared.StrPtr.{StrPtr}
use Rattle.strlib.proofs.Pointing.{good_sized}
use Rattle.strlib.proofs.Refusing.{ruled_gave}
use Rattle.copying.specs.Copying.{laid, wrote, bounded_copy, copy_refusal, copy_rule, append_rule, CopyGood, AppendGood}
use Rattle.copying.specs.declared.Wrote.{Wrote}
use Rattle.copying.proofs.Padding.{laid_fits}
use Rattle.copying.proofs.Copying.{copy_passed}

-- a bounded copy's, where the checks say that the destination is good
pub bounded_good : (k : ℕ) (s : List ℕ) (destination : StrPtr) (xs : List ℕ) (pad : Bool) (r : Wrote) → (bounded_copy k s destination xs pad).0 ≡ gives r
    → (k ≡ 0 → good_in (length s) destination ≡ true) → good_in (length s) r.to ≡ true
unfolding bounded_copy wrote
bounded_good k s destination xs pad r e h =
    let v = ruled_gave k (wrote destination xs pad) r (put s destination.start (laid destination xs pad)) s e in
    let g = h v.0 in
    rw (← v.1.0) (good_sized (length s) destination (length (laid destination xs pad)) g (laid_fits (length s) destination xs pad g))

pub copy_good : CopyGood
unfolding copy_rule
copy_good s destination source pad r e =
    bounded_good (copy_refusal s destination source) s destination (text_of s source) pad r e (λ z. (copy_passed s destination source z).into.room)

pub append_good : AppendGood
unfolding append_rule
append_good s destination source r e =
    bounded_good (copy_refusal s destination source) s destination (text_of s destination ++ text_of s source) false r e
    (λ z. (copy_passed s destination source z).into.room)
