use Rattle.strlib.proofs.Answering.{answer_laws}
use Rattle.desk.specs.CueInner.{line_refusal}
use Rattle.desk.proofs.cue.check_line.Goals as goal

pub returns-in_err-check_store : goal.returns-in_err-check_store
unfolding line_refusal
returns-in_err-check_store c = search answer_laws

pub returns-in_err-check : goal.returns-in_err-check
unfolding line_refusal
returns-in_err-check c = search answer_laws

pub returns-in_err-check-2 : goal.returns-in_err-check-2
unfolding line_refusal
returns-in_err-check-2 c = search answer_laws

pub returns-in_err-check_characters : goal.returns-in_err-check_characters
unfolding line_refusal
returns-in_err-check_characters c = search answer_laws

pub returns : goal.returns
unfolding line_refusal
returns c = search answer_laws
