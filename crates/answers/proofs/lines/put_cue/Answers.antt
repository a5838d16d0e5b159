use Rattle.answers.proofs.Putting.{put_laws}
use Rattle.answers.proofs.lines.put_cue.Goals as goal

pub put_ok-requires : goal.put_ok-requires
put_ok-requires c = search put_laws

pub returns-in-Ok : goal.returns-in-Ok
returns-in-Ok c = search put_laws

pub returns-in-Err : goal.returns-in-Err
returns-in-Err c = search put_laws
