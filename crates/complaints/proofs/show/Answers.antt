use Rattle.complaints.proofs.Saying.{show_laws}
use Rattle.complaints.proofs.show.Goals as goal

pub loop-byte-preserved : goal.loop-byte-preserved
loop-byte-preserved c = search show_laws

pub returns : goal.returns
returns c = search show_laws
