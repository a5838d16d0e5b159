use Rattle.std.proofs.Common.{◌∙◌}
use Rattle.strlib.proofs.Answering.{outcome_right}
use Rattle.search.specs.Rule.{sought, search_by}
use Rattle.strlib.proofs.Answering.{sought_left}
use Rattle.search.proofs.find.find_listed.Goals as goal

pub returns-in_err-check_search : goal.returns-in_err-check_search
unfolding search_by
returns-in_err-check_search c = sought_left _ _ c.from_residual.ensures.1 _ c.in_err-check_search.ensures _

pub returns : goal.returns
unfolding sought search_by
returns c = outcome_right _ _ _ c.in_ok-check_search.ensures (c.find.ensures ∙ rw c.text.ensures)
