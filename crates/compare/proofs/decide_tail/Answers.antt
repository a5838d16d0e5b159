use Rattle.compare.proofs.Deciding.{deciding_laws}
use Rattle.compare.proofs.decide_tail.Goals as goal

pub order-requires : goal.order-requires
order-requires c = search deciding_laws

pub returns-then-d-x : goal.returns-then-d-x
returns-then-d-x c = search deciding_laws

pub order-requires-then-d-y : goal.order-requires-then-d-y
order-requires-then-d-y c = search deciding_laws

pub returns-then-d-y : goal.returns-then-d-y
returns-then-d-y c = search deciding_laws

pub returns : goal.returns
returns c = search deciding_laws
