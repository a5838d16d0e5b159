use Rattle.std.proofs.Common.{rules}
use Rattle.std.proofs.Common.{arith}
use Rattle.desk.proofs.LabelFinding.{part_found, part_missing, part_refused, part_fits}
use Rattle.desk.proofs.label.find.label_name.Goals as goal

pub overflow_add-name : goal.overflow_add-name
overflow_add-name c = part_fits _ _ _ _ _ (rw c.in-Ok-Some.field-0-is at c.in-Ok-Some.ensures) (search rules) _ (omega arith)

pub returns-in-Ok-Some : goal.returns-in-Ok-Some
returns-in-Ok-Some c = part_found _ _ _ _ _ _ (rw c.in-Ok-Some.field-0-is at c.in-Ok-Some.ensures) c.counted_part.ensures

pub returns-in-Ok-None : goal.returns-in-Ok-None
returns-in-Ok-None c = part_missing _ _ _ _ (rw c.in-Ok-None.field-0-is at c.in-Ok-None.ensures) c.counted_part-in-Ok-None.ensures

pub returns-in-Err : goal.returns-in-Err
returns-in-Err c = part_refused _ _ _ _ _ _ c.in-Err.ensures c.counted_part-in-Err.ensures
