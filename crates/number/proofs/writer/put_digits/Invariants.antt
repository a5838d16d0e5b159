use Rattle.number.proofs.Writing.{Putting}
use Rattle.number.proofs.writer.put_digits.Given as goal

abbrev pub invariant-loop-j : goal.invariant-loop-j
invariant-loop-j l = Putting l.fn.store l.base l.n l.at l.store l.m l.j
