use Rattle.std.proofs.Common.{rules}
use Rattle.buffer.proofs.Growing.{grow_more}
use Rattle.buffer.proofs.append_both.Goals as goal

pub returns : goal.returns
returns c = search (rules, grow_more)
