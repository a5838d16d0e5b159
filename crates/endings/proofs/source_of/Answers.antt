use Rattle.endings.proofs.Standing.{source_laws}
use Rattle.endings.proofs.source_of.Goals as goal

pub returns-then-arguments-lt2 : goal.returns-then-arguments-lt2
returns-then-arguments-lt2 c = search source_laws

pub returns-then-arguments-gt2 : goal.returns-then-arguments-gt2
returns-then-arguments-gt2 c = search source_laws

pub returns-in-45 : goal.returns-in-45
returns-in-45 c = search source_laws

pub returns-in-45-2 : goal.returns-in-45-2
returns-in-45-2 c = search source_laws

pub returns-in_default : goal.returns-in_default
returns-in_default c = search source_laws

pub returns-in_default-2 : goal.returns-in_default-2
returns-in_default-2 c = search source_laws

pub returns-in_default-3 : goal.returns-in_default-3
returns-in_default-3 c = search source_laws
