use Rattle.strlib.proofs.Answering.{answer_laws}
use Rattle.compare.specs.Compare.{compare_refusal}
use Rattle.compare.proofs.refusal.check_compare.Goals as goal

pub returns-in_err-check_store : goal.returns-in_err-check_store
unfolding compare_refusal
returns-in_err-check_store c = search answer_laws

pub returns-in_err-check : goal.returns-in_err-check
unfolding compare_refusal
returns-in_err-check c = search answer_laws

pub returns-in_err-check-2 : goal.returns-in_err-check-2
unfolding compare_refusal
returns-in_err-check-2 c = search answer_laws

pub returns-in_err-check_translation : goal.returns-in_err-check_translation
unfolding compare_refusal
returns-in_err-check_translation c = search answer_laws

pub returns-in_err-check_good : goal.returns-in_err-check_good
unfolding compare_refusal
returns-in_err-check_good c = search answer_laws

pub returns-in_err-check_good-2 : goal.returns-in_err-check_good-2
unfolding compare_refusal
returns-in_err-check_good-2 c = search answer_laws

pub returns-in_err-check_readable : goal.returns-in_err-check_readable
unfolding compare_refusal
returns-in_err-check_readable c = search answer_laws

pub returns : goal.returns
unfolding compare_refusal
returns c = search answer_laws
