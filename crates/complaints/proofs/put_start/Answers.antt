use Rattle.complaints.proofs.Saying.{line_laws}
use Rattle.complaints.proofs.put_start.Goals as goal

pub returns : goal.returns
returns c = search line_laws
