use Rattle.records.specs.Record.{is_fresh, key_refusal, new_refusal}
use Rattle.strlib.proofs.Answering.{answer_laws}
use Rattle.records.proofs.news.check_new.Goals as goal

pub returns-in_err-check_key : goal.returns-in_err-check_key
unfolding new_refusal key_refusal is_fresh
returns-in_err-check_key c = search answer_laws

pub returns-in_err-check : goal.returns-in_err-check
unfolding new_refusal key_refusal is_fresh
returns-in_err-check c = search answer_laws

pub returns-in_err-check-2 : goal.returns-in_err-check-2
unfolding new_refusal key_refusal is_fresh
returns-in_err-check-2 c = search answer_laws

pub returns-in_err-check-3 : goal.returns-in_err-check-3
unfolding new_refusal key_refusal is_fresh
returns-in_err-check-3 c = search answer_laws

pub returns : goal.returns
unfolding new_refusal key_refusal is_fresh
returns c = search answer_laws
