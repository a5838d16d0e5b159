use Rattle.std.proofs.Common.{◌+◌}
use Rattle.joining.proofs.Filling.{Filling}
use Rattle.joining.proofs.fill.Given as goal

abbrev pub invariant-loop-i : goal.invariant-loop-i
invariant-loop-i l = Filling l.fn.store l.store l.destination l.strings l.index l.skip l.n (l.index + l.i) l.q
