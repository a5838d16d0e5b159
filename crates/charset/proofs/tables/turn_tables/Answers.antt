use Rattle.charset.specs.Rule.{tables_rule}
use Rattle.strlib.proofs.Answering.{answer_laws, ruled_left}
use Rattle.charset.proofs.tables.turn_tables.Goals as goal

pub returns-in_err-check_block : goal.returns-in_err-check_block
unfolding tables_rule
returns-in_err-check_block c = ruled_left _ c.in_err-check_block.field-0.0 c.from_residual.ensures.1 _ c.in_err-check_block.ensures _ _ _

pub returns : goal.returns
unfolding tables_rule
returns c = search answer_laws
