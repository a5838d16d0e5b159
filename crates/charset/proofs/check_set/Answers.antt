use Rattle.charset.specs.Rule.{block_refusal, set_refusal}
use Rattle.strlib.proofs.Answering.{answer_laws}
use Rattle.charset.proofs.check_set.Goals as goal

pub returns-in_err-check_store : goal.returns-in_err-check_store
unfolding set_refusal
returns-in_err-check_store c = search answer_laws

pub returns-in_err-check_block : goal.returns-in_err-check_block
unfolding set_refusal block_refusal
returns-in_err-check_block c = search answer_laws

pub returns-in_err-check_good : goal.returns-in_err-check_good
unfolding set_refusal block_refusal
returns-in_err-check_good c = search answer_laws

pub returns : goal.returns
unfolding set_refusal block_refusal
returns c = search answer_laws
