use mir.Facts.{to_z-of_z}
use mir.Syntax.{w64}
use mir.Val.{SFits}
use Rattle.cue_answers.proofs.Looping.{turn_is, loop_laws}
use Rattle.cue_answers.proofs.turn.Goals as goal

pub returns : goal.returns
returns g c =
    let f : SFits w64 c.read-got.result = search loop_laws in
    turn_is _ _ _ _ c.read-got.result _ _ _ _ _ _ (to_z-of_z f) (search loop_laws) c.read-got.ensures c.after_read-t.ensures c.write_told.ensures
