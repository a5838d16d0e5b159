use Rattle.charset.specs.Rule.{characters_rule}
use Rattle.strlib.proofs.Answering.{answer_laws, ruled_left}
use Rattle.charset.proofs.Answering.{set_ready}
use Rattle.charset.proofs.tables.turn_characters.Goals as goal

pub returns-in_err-check_set : goal.returns-in_err-check_set
unfolding characters_rule
returns-in_err-check_set c = ruled_left _ c.in_err-check_set.field-0.0 c.from_residual.ensures.1 _ c.in_err-check_set.ensures _ _ _

pub turn_at-requires : goal.turn_at-requires
turn_at-requires c = set_ready _ _ _ _ _ c.text.ensures c.in_ok-check_set.ensures

pub returns : goal.returns
unfolding characters_rule
returns c = search answer_laws
