use Rattle.cue_answers.proofs.Looping.{loop_laws}
use Rattle.cue_answers.proofs.write_told.Goals as goal

pub returns : goal.returns
returns g c = search loop_laws
