use Rattle.joining.proofs.Filling.{next_laws}
use Rattle.joining.proofs.move_next.Statement.{statement}
use Rattle.joining.proofs.move_next.Tie as tie

pub move_next_spec : {M : Type 1} → statement M
move_next_spec =
    tie.close
    (tie.spec
    (λ c. search next_laws)
    (λ c. search next_laws)
    (λ c κs. tt)
    (λ c. search next_laws)
    (λ c. search next_laws)
    (λ c κs. tt)
    (λ c. search next_laws)
    (λ c. search next_laws))
