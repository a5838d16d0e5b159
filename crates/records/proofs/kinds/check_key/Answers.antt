use Rattle.records.specs.Record.{is_kind, key_refusal}
use Rattle.strlib.proofs.Answering.{answer_laws}
use Rattle.records.proofs.kinds.check_key.Goals as goal

pub returns-in_err-check : goal.returns-in_err-check
unfolding key_refusal is_kind
returns-in_err-check c = search answer_laws

pub returns : goal.returns
unfolding key_refusal is_kind
returns c = search answer_laws
