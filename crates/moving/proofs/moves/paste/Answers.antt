use Rattle.moving.proofs.Pasting.{paste_laws}
use Rattle.moving.proofs.moves.paste.Goals as goal

pub loop-i-preserved : goal.loop-i-preserved
loop-i-preserved c = search paste_laws

pub returns : goal.returns
returns c = search paste_laws
