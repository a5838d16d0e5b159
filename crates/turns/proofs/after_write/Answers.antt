use Rattle.turns.proofs.Turning.{turn_laws}
use Rattle.turns.proofs.after_write.Goals as goal

pub returns : goal.returns
returns c = search turn_laws
