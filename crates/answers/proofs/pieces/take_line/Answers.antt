use Rattle.answers.proofs.Feeding.{line_laws}
use Rattle.answers.proofs.pieces.take_line.Goals as goal

pub returns-then-s-eq0 : goal.returns-then-s-eq0
returns-then-s-eq0 c = search line_laws

pub returns-then-full : goal.returns-then-full
returns-then-full c = search line_laws

pub returns : goal.returns
returns c = search line_laws
