use Rattle.strlib.proofs.Answering.{ruled_left}
use Rattle.copying.specs.Copying.{bounded_copy, copy_rule}
use Rattle.copying.proofs.Copying.{copy_done}
use Rattle.copying.proofs.copies.copy.Goals as goal

pub returns-in_err-check_copy : goal.returns-in_err-check_copy
unfolding copy_rule bounded_copy
returns-in_err-check_copy c = ruled_left _ _ c.from_residual.ensures.1 _ c.in_err-check_copy.ensures _ _ _

pub returns : goal.returns
returns c = copy_done _ _ _ c.in_ok-check_copy.ensures _ c.min-n.ensures _ _ _ _ c.move_characters.ensures c.finish.ensures
