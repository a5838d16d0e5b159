use Rattle.charset.proofs.Turning.{turn_laws}
use Rattle.charset.proofs.tables.turn_at.Goals as goal

pub loop-x-init : goal.loop-x-init
loop-x-init c = search turn_laws

pub bounds-block-i : goal.bounds-block-i
bounds-block-i c = search turn_laws

pub bounds-block-i-in-loop-x : goal.bounds-block-i-in-loop-x
bounds-block-i-in-loop-x c = search turn_laws

pub loop-x-preserved : goal.loop-x-preserved
loop-x-preserved c = search turn_laws

pub returns : goal.returns
returns c = search turn_laws
