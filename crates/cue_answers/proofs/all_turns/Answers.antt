use Rattle.std.proofs.Common.{arith}
use Rattle.cue_answers.proofs.Looping.{turns_more, loop_laws}
use Rattle.cue_answers.proofs.all_turns.Goals as goal

pub loop-init : goal.loop-init
loop-init g c = search loop_laws

pub loop-preserved : goal.loop-preserved
loop-preserved g c = (
  search loop_laws,
  search loop_laws,
  turns_more _ _ _ _ _ _ _ _ _ _ _ _ _ c.requires c.loop.invariant.2 c.is_going.ensures c.if-not-is_going.false c.turn-r.ensures (search loop_laws) _
      (omega arith),
)
