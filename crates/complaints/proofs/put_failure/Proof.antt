use Rattle.complaints.proofs.Saying.{line_laws}
use Rattle.complaints.proofs.put_failure.Statement.{statement}
use Rattle.complaints.proofs.put_failure.Tie as tie

pub put_failure_spec : {M : Type 1} → statement M
put_failure_spec =
    tie.close
    (tie.spec
    (λ c κs. tt)
    (λ c κs. tt)
    (λ c κs. tt)
    (λ c. search line_laws)
    (λ c. search line_laws))
