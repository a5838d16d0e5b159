use Rattle.std.proofs.Common.{refl}
use mir.Facts.{to_z-of_z}
use Rattle.number.proofs.Calling.{write_left, write_base, write_range, write_long, write_room, write_given}
use Rattle.number.proofs.writer.write.Goals as goal

pub returns-in_err-check_write : goal.returns-in_err-check_write
returns-in_err-check_write c = write_left _ _ _ _ _ (to_z-of_z c.ranges.value) _ _ c.from_residual.ensures.1 c.in_err-check_write.ensures

pub text_length-count-requires : goal.text_length-count-requires
text_length-count-requires c = (write_base _ _ _ _ _ refl c.in_ok-check_write.ensures, write_range _ _ _ _ _ refl c.in_ok-check_write.ensures)

pub returns-in_err-check : goal.returns-in_err-check
returns-in_err-check c =
    write_long _ _ _ _ _ (to_z-of_z c.ranges.value) c.in_ok-check_write.ensures _ c.text_length-count.ensures _ _ c.from_residual-in_err-check.ensures.1 c.in_err-check.ensures

pub put_number-requires : goal.put_number-requires
put_number-requires c = write_room _ _ _ _ _ refl c.in_ok-check_write.ensures _ c.text_length-count.ensures c.in_ok-check.ensures

pub returns : goal.returns
returns c =
    write_given _ _ _ _ _ (to_z-of_z c.ranges.value) c.in_ok-check_write.ensures _ c.text_length-count.ensures c.in_ok-check.ensures _ _ c.sized.ensures c.put_number.ensures
