use Rattle.table.proofs.Running.{walk_on}
use Rattle.table.proofs.walk.Goals as goal

pub loop-c-preserved : goal.loop-c-preserved
loop-c-preserved c =
    let v = c.loop-c.invariant in
    walk_on _ _ _ _ _ _ v.2 c.loop-c-test.true _ v.0 v.1 _ c.in_ok-at.ensures
