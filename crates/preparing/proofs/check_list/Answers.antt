use Rattle.strlib.proofs.Answering.{answer_laws}
use Rattle.preparing.specs.Inner.{source_refusal}
use Rattle.preparing.proofs.check_list.Goals as goal

pub returns-in_err-check_store : goal.returns-in_err-check_store
unfolding source_refusal
returns-in_err-check_store c = search answer_laws

pub returns-in_err-check : goal.returns-in_err-check
unfolding source_refusal
returns-in_err-check c = search answer_laws

pub returns-in_err-check_all_good : goal.returns-in_err-check_all_good
unfolding source_refusal
returns-in_err-check_all_good c = search answer_laws

pub returns : goal.returns
unfolding source_refusal
returns c = search answer_laws
