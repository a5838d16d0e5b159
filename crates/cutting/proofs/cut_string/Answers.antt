use Rattle.strlib.proofs.Answering.{answer_laws, outcome_left}
use Rattle.cutting.specs.Cutting.{cut_rule}
use Rattle.cutting.proofs.Making.{cut_ready}
use Rattle.cutting.proofs.cut_string.Goals as goal

pub returns-in_err-check_cut : goal.returns-in_err-check_cut
unfolding cut_rule
returns-in_err-check_cut c = outcome_left _ _ c.from_residual.ensures.1 _ c.in_err-check_cut.ensures _

pub cut_of-requires : goal.cut_of-requires
cut_of-requires c = cut_ready _ _ _ c.in_ok-check_cut.ensures

pub returns : goal.returns
unfolding cut_rule
returns c = search answer_laws
