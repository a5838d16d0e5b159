use Rattle.complaints.specs.Complaint.{complaint_text}
use Rattle.complaints.proofs.Saying.{says_laws}
use Rattle.complaints.proofs.complaint.Goals as goal

pub returns-in-Going : goal.returns-in-Going
unfolding complaint_text
returns-in-Going c = search says_laws

pub returns-in-Complete : goal.returns-in-Complete
unfolding complaint_text
returns-in-Complete c = search says_laws

pub returns-in-Misused : goal.returns-in-Misused
unfolding complaint_text
returns-in-Misused c = search says_laws

pub returns-in-Unopened : goal.returns-in-Unopened
unfolding complaint_text
returns-in-Unopened c = search says_laws

pub returns-in-Unread : goal.returns-in-Unread
unfolding complaint_text
returns-in-Unread c = search says_laws

pub returns-in-Unwritten : goal.returns-in-Unwritten
unfolding complaint_text
returns-in-Unwritten c = search says_laws
