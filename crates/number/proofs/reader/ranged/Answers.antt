use mir.Facts.{to_z-of_z}
use Rattle.number.proofs.Reading.{range_given, range_refused}
use Rattle.number.proofs.reader.ranged.Goals as goal

pub returns-in_err-check : goal.returns-in_err-check
returns-in_err-check c = range_refused _ _ _ (to_z-of_z c.ranges.z) c.in_range.ensures _ _ c.from_residual.ensures.1 c.in_err-check.ensures

pub returns : goal.returns
returns c = range_given _ _ _ (to_z-of_z c.ranges.z) c.in_range.ensures c.in_ok-check.ensures
