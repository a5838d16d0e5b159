use mir.Facts.{to_z-of_z}
use Rattle.compare.proofs.Whole.{character_read, sum_read, sum_small, whole_laws}
use Rattle.compare.proofs.Walking.{whole_index}
use Rattle.compare.proofs.order.Goals as goal

pub overflow_add-y : goal.overflow_add-y
overflow_add-y c = search whole_laws

pub returns : goal.returns
returns c =
    rw (
      c.cmp.ensures,
      sum_read c.args.y c.args.t c.ranges.y c.ranges.t,
      to_z-of_z (sum_small c.args.y c.args.t c.ranges.y c.ranges.t c.requires),
      character_read c.args.x c.ranges.x,
    )
    (whole_index _ _)
