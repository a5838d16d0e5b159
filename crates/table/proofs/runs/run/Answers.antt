use Rattle.table.specs.Run.{bad}
use Rattle.table.specs.Inner.{rests_of}
use Rattle.table.proofs.Running.{run_given, table_left}
use Rattle.table.proofs.runs.run.Goals as goal

pub returns-in_err-at : goal.returns-in_err-at
returns-in_err-at c =
    let k = c.in_err-at.ensures in
    rw (table_left c.run_over.result _ _ c.in_err-at.was c.ok_or.ensures.value _ c.from_residual-in_err-at.ensures.1)
    (run_given _ _ _ c.in_ok-check_run.ensures _ c.text.ensures bad (rw k.ok_part at c.run_over.ensures))

pub returns : goal.returns
returns c =
    let k = c.in_ok-at.ensures in
    rw c.note.ensures
    (run_given _ _ _ c.in_ok-check_run.ensures _ c.text.ensures (rests_of c.in_ok-at.at) (rw k.ok_part at c.run_over.ensures))
