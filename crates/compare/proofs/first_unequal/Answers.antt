use Rattle.compare.proofs.Deciding.{deciding_laws, no_pair, first_pair}
use Rattle.compare.proofs.Walking.{ne_one}
use Rattle.compare.proofs.first_unequal.Goals as goal

pub returns-then-n-eq0 : goal.returns-then-n-eq0
returns-then-n-eq0 c = search deciding_laws

pub returns-then-is_ne : goal.returns-then-is_ne
returns-then-is_ne c = let e = ne_one _ c.if-is_ne.ensures in search deciding_laws
