use Rattle.strlib.proofs.Answering.{answer_laws}
use Rattle.search.specs.Rule.{search_refusal}
use Rattle.search.proofs.find.check_search.Goals as goal

pub returns-in_err-check_store : goal.returns-in_err-check_store
unfolding search_refusal
returns-in_err-check_store c = search answer_laws

pub returns-in_err-check : goal.returns-in_err-check
unfolding search_refusal
returns-in_err-check c = search answer_laws

pub returns-in_err-check_good : goal.returns-in_err-check_good
unfolding search_refusal
returns-in_err-check_good c = search answer_laws

pub returns-in_err-check_all_good : goal.returns-in_err-check_all_good
unfolding search_refusal
returns-in_err-check_all_good c = search answer_laws

pub returns-in_err-check_readable : goal.returns-in_err-check_readable
unfolding search_refusal
returns-in_err-check_readable c = search answer_laws

pub returns : goal.returns
unfolding search_refusal
returns c = search answer_laws
