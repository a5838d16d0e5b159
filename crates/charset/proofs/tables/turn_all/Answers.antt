use Rattle.charset.proofs.Turning.{turn_laws}
use Rattle.charset.proofs.tables.turn_all.Goals as goal

pub loop-word-init : goal.loop-word-init
loop-word-init c = search turn_laws

pub loop-word-preserved : goal.loop-word-preserved
loop-word-preserved c = search turn_laws

pub returns : goal.returns
returns c = search turn_laws
