use Rattle.cue_answers.proofs.Looping.{answer_laws}
use Rattle.cue_answers.proofs.answer_all.Goals as goal

-- the turns have room
pub all_turns-run-requires : goal.all_turns-run-requires
all_turns-run-requires g c = search answer_laws

pub returns : goal.returns
returns g c = search answer_laws
