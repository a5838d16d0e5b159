use Rattle.std.proofs.Common.{rules}
use Rattle.words.specs.Words.{pointer_of}
use Rattle.words.proofs.Piece.pointer.Goals as goal

pub returns : goal.returns
unfolding pointer_of
returns c = search rules
