use Rattle.records.proofs.Limits.{limit_laws}
use Rattle.records.proofs.kinds.limit_of.Goals as goal

pub returns-in-1 : goal.returns-in-1
returns-in-1 c = search limit_laws

pub returns-in-2 : goal.returns-in-2
returns-in-2 c = search limit_laws

pub returns-in_default : goal.returns-in_default
returns-in_default c = search limit_laws
