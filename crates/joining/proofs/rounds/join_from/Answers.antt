use Rattle.std.proofs.Common.{rules}
use Rattle.strlib.proofs.Answering.{ruled_left}
use Rattle.joining.specs.Resuming.{join_from_rule}
use Rattle.joining.proofs.Joining.{from_string, from_character, from_long, from_resumes, from_done}
use Rattle.joining.proofs.rounds.join_from.Goals as goal

pub returns-in_err-check_join_from : goal.returns-in_err-check_join_from
unfolding join_from_rule
returns-in_err-check_join_from c = ruled_left _ _ c.from_residual.ensures.1 _ c.in_err-check_join_from.ensures _ _ _

pub overflow_sub-from : goal.overflow_sub-from
overflow_sub-from c = from_string _ _ _ _ _ c.in_ok-check_join_from.ensures

pub overflow_sub-from-2 : goal.overflow_sub-from-2
overflow_sub-from-2 c = from_character _ _ _ _ _ c.in_ok-check_join_from.ensures

pub fill-requires : goal.fill-requires
fill-requires c = from_resumes _ _ _ _ _ c.in_ok-check_join_from.ensures _ c.strings.ensures (search rules)

pub returns : goal.returns
returns c = from_done _ _ _ _ _ c.in_ok-check_join_from.ensures _ c.strings.ensures _ _ c.fill.ensures
