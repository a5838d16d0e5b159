use Rattle.strlib.proofs.Answering.{ruled_left}
use Rattle.editing.specs.Reversing.{reverse_rule}
use Rattle.editing.proofs.Reversing.{reverse_done}
use Rattle.editing.proofs.reversal.reverse.Goals as goal

pub returns-in_err-check_reverse : goal.returns-in_err-check_reverse
unfolding reverse_rule
returns-in_err-check_reverse c = ruled_left _ _ c.from_residual.ensures.1 _ c.in_err-check_reverse.ensures _ _ _

pub returns : goal.returns
returns c = reverse_done _ _ c.in_ok-check_reverse.ensures _ c.reverse_in_place.ensures
