use Rattle.number.proofs.Reading.{digit_laws}
use Rattle.number.proofs.reader.is_digit.Goals as goal

pub returns-then-c-ge48 : goal.returns-then-c-ge48
returns-then-c-ge48 c = search digit_laws

pub returns-else-c-ge48 : goal.returns-else-c-ge48
returns-else-c-ge48 c = search digit_laws
