use Rattle.number.specs.Inner.{unreadable}
use Rattle.strlib.proofs.Answering.{answer_laws}
use Rattle.number.proofs.reader.check_read.Goals as goal

pub returns-in_err-check_store : goal.returns-in_err-check_store
unfolding unreadable
returns-in_err-check_store c = search answer_laws

pub returns-in_err-check : goal.returns-in_err-check
unfolding unreadable
returns-in_err-check c = search answer_laws

pub returns-in_err-check_good : goal.returns-in_err-check_good
unfolding unreadable
returns-in_err-check_good c = search answer_laws

pub returns : goal.returns
unfolding unreadable
returns c = search answer_laws
