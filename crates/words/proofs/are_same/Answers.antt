use Rattle.std.proofs.Common.{rules}
use Rattle.words.proofs.Likening.{same_is}
use Rattle.words.proofs.are_same.Goals as goal

pub returns : goal.returns
returns c = search (rules, same_is)
