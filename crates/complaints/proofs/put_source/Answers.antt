use Rattle.complaints.specs.Complaint.{source_text}
use Rattle.complaints.proofs.Saying.{says_laws}
use Rattle.complaints.proofs.put_source.Goals as goal

pub returns-in-Input : goal.returns-in-Input
unfolding source_text
returns-in-Input c = search says_laws

pub returns-in-Neither : goal.returns-in-Neither
unfolding source_text
returns-in-Neither c = search says_laws

pub returns-in-File : goal.returns-in-File
unfolding source_text
returns-in-File c = search says_laws
