use Rattle.std.proofs.Common.{rules}
use Rattle.moving.proofs.Moving.{down_end, rest_ahead}
use Rattle.moving.proofs.moves.move_down.Statement.{statement}
use Rattle.moving.proofs.moves.move_down.Tie as tie

pub move_down_spec : {M : Type 1} → statement M
move_down_spec =
    tie.close
    (tie.spec
    (λ c. search rules)
    (λ c κs. search rules)
    (λ c. search rules)
    (λ c. search rules)
    (λ c. search rules)
    (λ c. search rules)
    (λ c. search rules)
    (λ c κs. search (rules, rest_ahead))
    (λ c. search rules)
    (λ c. search (rules, down_end)))
