use Rattle.strlib.specs.Checks.{into_refusal}
use Rattle.strlib.proofs.Answering.{answer_laws}
use Rattle.copying.specs.Copying.{copy_refusal}
use Rattle.copying.proofs.copies.check_copy.Goals as goal

pub returns-in_err-check_into : goal.returns-in_err-check_into
unfolding copy_refusal into_refusal
returns-in_err-check_into c = search answer_laws

pub returns : goal.returns
unfolding copy_refusal into_refusal
returns c = search answer_laws
