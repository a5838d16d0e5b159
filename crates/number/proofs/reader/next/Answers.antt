use Rattle.number.proofs.Reading.{digit_laws}
use Rattle.number.proofs.reader.next.Goals as goal

pub overflow_mul-v : goal.overflow_mul-v
overflow_mul-v c = search digit_laws

pub overflow_sub-c : goal.overflow_sub-c
overflow_sub-c c = search digit_laws

pub overflow_add-v : goal.overflow_add-v
overflow_add-v c = search digit_laws
