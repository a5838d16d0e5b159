use Rattle.number.specs.Inner.{unwritable}
use Rattle.strlib.proofs.Answering.{answer_laws}
use Rattle.number.proofs.writer.check_write.Goals as goal

pub returns-in_err-check_store : goal.returns-in_err-check_store
unfolding unwritable
returns-in_err-check_store c = search answer_laws

pub returns-in_err-check : goal.returns-in_err-check
unfolding unwritable
returns-in_err-check c = search answer_laws

pub returns-in_err-check_good : goal.returns-in_err-check_good
unfolding unwritable
returns-in_err-check_good c = search answer_laws

pub returns : goal.returns
unfolding unwritable
returns c = search answer_laws
