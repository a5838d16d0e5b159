use Rattle.charset.proofs.Turning.{turn_laws}
use Rattle.charset.proofs.tables.turn.Goals as goal

pub returns-then-on : goal.returns-then-on
returns-then-on c = search turn_laws

pub returns-else-on : goal.returns-else-on
returns-else-on c = search turn_laws
