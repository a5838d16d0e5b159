use Rattle.std.proofs.Common.{rules}
use Rattle.moving.proofs.Moving.{up_end}
use Rattle.moving.proofs.moves.move_up.Statement.{statement}
use Rattle.moving.proofs.moves.move_up.Tie as tie

pub move_up_spec : {M : Type 1} → statement M
move_up_spec =
    tie.close
    (tie.spec
    (λ c. search rules)
    (λ c κs. search rules)
    (λ c. search rules)
    (λ c κs. search rules)
    (λ c. search rules)
    (λ c κs. search rules)
    (λ c. search rules)
    (λ c. search (rules, up_end)))
