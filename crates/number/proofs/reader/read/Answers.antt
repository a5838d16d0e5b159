use Rattle.number.proofs.Calling.{read_refused, read_base, read_given}
use Rattle.number.proofs.reader.read.Goals as goal

pub returns-in_err-check_read : goal.returns-in_err-check_read
returns-in_err-check_read c = read_refused _ _ _ _ _ c.from_residual.ensures.1 c.in_err-check_read.ensures

pub read_text-requires : goal.read_text-requires
read_text-requires c = read_base _ _ _ c.in_ok-check_read.ensures

pub returns : goal.returns
returns c = read_given _ _ _ c.in_ok-check_read.ensures _ _ c.text.ensures c.read_text.ensures
