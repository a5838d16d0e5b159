use Rattle.table.specs.Run.{bad}
use Rattle.table.specs.Inner.{rests_of}
use Rattle.table.proofs.Running.{table_left}
use Rattle.bursts.proofs.Bursting.{burst_laws, burst_rests}
use Rattle.bursts.proofs.burst.Goals as goal

pub returns-in_err-check_own : goal.returns-in_err-check_own
returns-in_err-check_own c = search burst_laws

pub progress_of-from-requires : goal.progress_of-from-requires
progress_of-from-requires c = let z = c.in_ok-check_own.ensures in search burst_laws

pub returns-in_err-at : goal.returns-in_err-at
returns-in_err-at c =
    let k = c.in_err-at.ensures in
    rw (table_left c.resume.result _ _ c.in_err-at.was c.ok_or.ensures.value _ c.from_residual-in_err-at.ensures.1)
    (burst_rests _ _ _ c.in_ok-check_own.ensures _ c.progress_of-from.ensures bad (rw k.ok_part at c.resume.ensures))

pub overflow_add-total : goal.overflow_add-total
overflow_add-total c = let z = c.in_ok-check_own.ensures in search burst_laws

pub returns : goal.returns
returns c =
    let k = c.in_ok-at.ensures in
    rw c.carried_of.ensures
    (burst_rests _ _ _ c.in_ok-check_own.ensures _ c.progress_of-from.ensures (rests_of c.in_ok-at.at) (rw k.ok_part at c.resume.ensures))
