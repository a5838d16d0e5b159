use Rattle.std.proofs.Common.{◌≡◌, length}
use Rattle.std.specs.Ordering.{ordering_index}
use Rattle.compare.specs.Order.{order_n}
use Rattle.compare.proofs.Deciding.{deciding_laws}
use Rattle.compare.proofs.Walking.{index_is}
use Rattle.compare.proofs.decide.Goals as goal

pub first_unequal-d-requires : goal.first_unequal-d-requires
first_unequal-d-requires c = search deciding_laws

pub returns-then-d-n : goal.returns-then-d-n
returns-then-d-n c = search deciding_laws

pub returns-then-style-eq0 : goal.returns-then-style-eq0
returns-then-style-eq0 c = search deciding_laws

pub returns-then-x-y : goal.returns-then-x-y
returns-then-x-y c = let e : ordering_index c.cmp.result ≡ order_n (length c.args.x.now) (length c.args.y.now) = rw c.cmp.ensures (index_is _ _) in search deciding_laws

pub returns : goal.returns
returns c = let e = c.else-style-eq1.either in search deciding_laws
