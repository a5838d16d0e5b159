use Rattle.words.proofs.Lining.{line_laws}
use Rattle.words.proofs.next_line.Goals as goal

pub returns-then-to-text : goal.returns-then-to-text
returns-then-to-text c = search line_laws

pub returns-else-to-text : goal.returns-else-to-text
returns-else-to-text c = search line_laws
