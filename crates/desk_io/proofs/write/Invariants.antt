use Rattle.std.proofs.Common.{◌≤◌, length}
use Rattle.desk_io.proofs.write.Given as goal

abbrev pub invariant-loop : goal.invariant-loop
invariant-loop g l = l.done ≤ length l.buf
