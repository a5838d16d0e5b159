use Rattle.std.proofs.Common.{rules}
use Rattle.search.proofs.Answering.{split_is}
use Rattle.search.proofs.split_of.Goals as goal

pub returns : goal.returns
returns c = search (rules, split_is)
