use Rattle.desk.proofs.CueNumbers.{matrix_laws}
use Rattle.desk.proofs.cue.in_matrix.Goals as goal

pub returns-then-both : goal.returns-then-both
returns-then-both c = search matrix_laws

pub returns : goal.returns
returns c = search matrix_laws
