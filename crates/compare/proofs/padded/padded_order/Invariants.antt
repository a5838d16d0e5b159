use Rattle.compare.proofs.Padding.{SameTo}
use Rattle.compare.proofs.padded.padded_order.Given as goal

abbrev pub invariant-loop-i : goal.invariant-loop-i
invariant-loop-i l = SameTo l.x l.y l.i
