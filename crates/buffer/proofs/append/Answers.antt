use Rattle.std.proofs.Common.{rules}
use Rattle.buffer.proofs.Growing.{grow_put}
use Rattle.buffer.proofs.append.Goals as goal

pub returns : goal.returns
returns c = search (rules, grow_put)
