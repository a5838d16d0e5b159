use Rattle.std.proofs.Common.{◌-◌, length, take}
use Rattle.records.proofs.Reading.{Reached}
use Rattle.desk.proofs.LabelReading.{Marked}
use Rattle.desk.proofs.label.read.read_labels.Given as goal

abbrev pub invariant-loop-offset : goal.invariant-loop-offset
invariant-loop-offset l = Reached l.list l.n l.offset × Marked l.met (take l.offset l.list)

abbrev pub decreases-loop-offset : goal.decreases-loop-offset
decreases-loop-offset l = length l.list - l.offset
