use Rattle.std.proofs.Common.{rules}
use Rattle.search.proofs.Answering.{parts_is}
use Rattle.search.proofs.parts_of.Goals as goal

pub returns : goal.returns
returns c = search (rules, parts_is)
