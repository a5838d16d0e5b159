use Rattle.strlib.specs.Checks.{into_refusal}
use Rattle.strlib.proofs.Answering.{answer_laws}
use Rattle.editing.specs.Reversing.{reverse_from_refusal}
use Rattle.editing.proofs.reversal.check_reverse_from.Goals as goal

pub returns-in_err-check_into : goal.returns-in_err-check_into
unfolding reverse_from_refusal into_refusal
returns-in_err-check_into c = search answer_laws

pub returns-in_err-check : goal.returns-in_err-check
unfolding reverse_from_refusal into_refusal
returns-in_err-check c = search answer_laws

pub returns : goal.returns
unfolding reverse_from_refusal into_refusal
returns c = search answer_laws
