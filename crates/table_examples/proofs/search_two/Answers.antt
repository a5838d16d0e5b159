use Rattle.table_examples.proofs.Two.{two_refused, two_ran}
use Rattle.table_examples.proofs.search_two.Goals as goal

pub returns-in_err-translate : goal.returns-in_err-translate
returns-in_err-translate c = two_refused _ _ _ _ _ _ _ _ _ _ _ c.from_residual.ensures.1 c.in_err-translate.ensures

pub returns : goal.returns
returns c = two_ran _ _ _ _ _ _ _ _ _ c.in_ok-translate.ensures _ _ c.run-first.ensures c.run-second.ensures
