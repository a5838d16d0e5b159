use Rattle.std.proofs.Common.{rules}
use Rattle.moving.proofs.Moving.{step_end}
use Rattle.moving.proofs.moves.step.Statement.{statement}
use Rattle.moving.proofs.moves.step.Tie as tie

pub step_spec : {M : Type 1} → statement M
step_spec =
    tie.close
    (tie.spec
    (λ c. search rules)
    (λ c. search rules)
    (λ c. search rules)
    (λ c. search rules)
    (λ c κs. search rules)
    (λ c κs. search rules)
    (λ c. search rules)
    (λ c. search rules)
    (λ c. search (rules, step_end)))
