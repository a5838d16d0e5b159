use Rattle.strlib.proofs.Answering.{err_is}
use Rattle.desk.proofs.LabelAdding.{add_laws, add_refused}
use Rattle.desk.proofs.label.add.add_label.Goals as goal

pub returns-in_err-check_add : goal.returns-in_err-check_add
returns-in_err-check_add c = rw (err_is _ _ c.from_residual.ensures.1) (add_refused _ _ _ _ _ _ _ c.in_err-check_add.ensures)

pub overflow_add-result : goal.overflow_add-result
overflow_add-result c = search add_laws

pub returns : goal.returns
returns c = search add_laws
