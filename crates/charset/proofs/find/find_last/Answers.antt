use Rattle.charset.specs.Rule.{find_rule}
use Rattle.strlib.proofs.Answering.{answer_laws}
use Rattle.strlib.proofs.Answering.{sought_left}
use Rattle.charset.proofs.Answering.{set_ready}
use Rattle.charset.proofs.find.find_last.Goals as goal

pub returns-in_err-check_set : goal.returns-in_err-check_set
unfolding find_rule
returns-in_err-check_set c = sought_left _ c.in_err-check_set.field-0.0 c.from_residual.ensures.1 _ c.in_err-check_set.ensures _

pub last-requires : goal.last-requires
last-requires c = set_ready _ _ _ _ _ c.text.ensures c.in_ok-check_set.ensures

pub returns : goal.returns
unfolding find_rule
returns c = search answer_laws
