use Rattle.strlib.proofs.Answering.{ruled_left}
use Rattle.copying.specs.Copying.{bounded_copy}
use Rattle.joining.specs.Joining.{join_rule}
use Rattle.joining.proofs.Joining.{join_resumes, join_done}
use Rattle.joining.proofs.joins.join.Goals as goal

pub returns-in_err-check_join : goal.returns-in_err-check_join
unfolding join_rule bounded_copy
returns-in_err-check_join c = ruled_left _ _ c.from_residual.ensures.1 _ c.in_err-check_join.ensures _ _ _

pub fill-round-requires : goal.fill-round-requires
fill-round-requires c = join_resumes _ _ _ _ c.in_ok-check_join.ensures _ c.strings.ensures

pub returns : goal.returns
returns c = join_done _ _ _ _ c.in_ok-check_join.ensures _ c.strings.ensures _ _ c.fill-round.ensures _ _ _ c.finish.ensures
