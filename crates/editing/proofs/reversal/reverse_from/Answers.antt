use Rattle.strlib.proofs.Answering.{ruled_left}
use Rattle.editing.specs.Reversing.{reverse_from_rule}
use Rattle.editing.proofs.Reversing.{reverse_from_done}
use Rattle.editing.proofs.reversal.reverse_from.Goals as goal

pub returns-in_err-check_reverse_from : goal.returns-in_err-check_reverse_from
unfolding reverse_from_rule
returns-in_err-check_reverse_from c = ruled_left _ _ c.from_residual.ensures.1 _ c.in_err-check_reverse_from.ensures _ _ _

pub returns : goal.returns
returns c = reverse_from_done _ _ _ c.in_ok-check_reverse_from.ensures _ _ _ c.move_characters.ensures c.reverse_in_place.ensures c.sized.ensures
