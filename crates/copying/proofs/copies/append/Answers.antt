use Rattle.strlib.proofs.Answering.{ruled_left}
use Rattle.copying.specs.Copying.{bounded_copy, append_rule}
use Rattle.copying.proofs.Copying.{append_laws, append_done}
use Rattle.copying.proofs.copies.append.Goals as goal

pub returns-in_err-check_copy : goal.returns-in_err-check_copy
unfolding append_rule bounded_copy
returns-in_err-check_copy c = ruled_left _ _ c.from_residual.ensures.1 _ c.in_err-check_copy.ensures _ _ _

pub overflow_sub-room : goal.overflow_sub-room
overflow_sub-room c = search append_laws

pub overflow_add-behind : goal.overflow_add-behind
overflow_add-behind c = search append_laws

pub returns : goal.returns
returns c = append_done _ _ _ c.in_ok-check_copy.ensures _ c.min-n.ensures _ _ c.move_characters.ensures c.sized-to.ensures
