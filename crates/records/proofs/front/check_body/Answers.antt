use Rattle.records.specs.Record.{is_kind, body_refusal}
use Rattle.strlib.proofs.Answering.{answer_laws}
use Rattle.records.proofs.front.check_body.Goals as goal

pub returns-in_err-check : goal.returns-in_err-check
unfolding body_refusal is_kind
returns-in_err-check c = search answer_laws

pub returns-in_err-check-2 : goal.returns-in_err-check-2
unfolding body_refusal is_kind
returns-in_err-check-2 c = search answer_laws

pub returns-in_err-check-3 : goal.returns-in_err-check-3
unfolding body_refusal is_kind
returns-in_err-check-3 c = search answer_laws

pub returns : goal.returns
unfolding body_refusal is_kind
returns c = search answer_laws
