use Rattle.desk.proofs.LabelFinding.{place_laws}
use Rattle.desk.proofs.label.find.name_of.Goals as goal

pub returns-then-k-eq0 : goal.returns-then-k-eq0
returns-then-k-eq0 c = search place_laws

pub overflow_sub-result : goal.overflow_sub-result
overflow_sub-result c = search place_laws

pub returns : goal.returns
returns c = search place_laws
