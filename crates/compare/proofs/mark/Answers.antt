use Rattle.std.proofs.Common.{arith}
use Rattle.compare.specs.Compare.{holds}
use Rattle.compare.proofs.Table.{marks, meaning}
use Rattle.compare.proofs.mark.Goals as goal

pub returns-in-Less : goal.returns-in-Less
unfolding marks holds
returns-in-Less c = rw c.in-Less.is (meaning c.args.code 0 (omega arith) (omega arith))

pub returns-in-Equal : goal.returns-in-Equal
unfolding marks holds
returns-in-Equal c = rw c.in-Equal.is (meaning c.args.code 1 (omega arith) (omega arith))

pub returns-in-Greater : goal.returns-in-Greater
unfolding marks holds
returns-in-Greater c = rw c.in-Greater.is (meaning c.args.code 2 (omega arith) (omega arith))
