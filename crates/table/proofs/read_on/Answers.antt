use Rattle.table.proofs.Running.{on_laws}
use Rattle.table.proofs.read_on.Goals as goal

pub walk-requires : goal.walk-requires
walk-requires c = let k = c.in_ok-enter.ensures in search on_laws
