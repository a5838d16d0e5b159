use Rattle.number.proofs.Ranging.{sign_laws}
use Rattle.number.proofs.reader.with_sign.Goals as goal

pub returns-then-negative : goal.returns-then-negative
returns-then-negative c = search sign_laws

pub returns-else-negative : goal.returns-else-negative
returns-else-negative c = search sign_laws
