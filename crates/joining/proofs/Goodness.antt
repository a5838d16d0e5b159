-- Every pointer that a call gives is good for the store: it is the destination with a length that keeps to its maximum.
-- Assumes nothing.
use mathlib.Core.List.{List}
use Prim.Native.Nat.{ℕ}
use native.Mathlib.Omega.{arith}
use lib.ListN.{length, take, drop, length-take}
use Rattle.strlib.specs.Pointer.{texts, joined}
use Rattle.strlib.proofs.Pointing.{good_sized}
use Rattle.copying.proofs.Goodness.{bounded_good}
use Rattle.joining.specs.Joining.{join_refusal, join_rule, JoinGood}
use Rattle.joining.specs.Resuming.{offset, piece, round_of, JoinFromGood}
use Rattle.joining.proofs.Joining.{join_passed}
use Rattle.joining.proofs.Chaining.{call_good, call_round}

pub join_good : JoinGood
unfolding join_rule
join_good s destination list count pad r e =
    bounded_good (join_refusal s destination list count) s destination (joined (texts s (take count list))) pad r e
    (λ z. (join_passed s destination list count z).listed.room)

pub join_from_good : JoinFromGood
unfolding piece round_of
join_from_good s destination list count from r e =
    let xs : List ℕ = drop (offset (texts s (take count list)) from) (joined (texts s (take count list))) in
    rw (call_round s destination list count from r e)
    (good_sized (length s) destination (length (take destination.maximum xs)) (call_good s destination list count from r e) (rw length-take (omega arith)))
