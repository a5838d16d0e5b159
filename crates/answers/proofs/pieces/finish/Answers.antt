use Rattle.answers.proofs.Finishing.{end_laws}
use Rattle.answers.proofs.pieces.finish.Goals as goal

pub returns-then-s-gt0 : goal.returns-then-s-gt0
returns-then-s-gt0 c = search end_laws

pub returns : goal.returns
returns c = search end_laws
