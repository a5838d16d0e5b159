use Rattle.std.proofs.Common.{◌≡◌, ◌-◌, ◌%◌, ◌≤◌, length}
use Rattle.moving.proofs.Moving.{down, down_laws}
use Rattle.moving.proofs.moves.steps_down.Statement.{statement}
use Rattle.moving.proofs.moves.steps_down.Tie as tie

abbrev invariant-loop : tie.invariant-loop-block
invariant-loop store₀ from to n block₀ i₀ store block i =
    (i ≤ n) × (length store ≡ length store₀) × (length block ≡ length block₀) × ((n - i) % length block₀ ≡ n % length block₀) × (store ≡ down store₀ from to i)

abbrev decreases-loop : tie.decreases-loop-block
decreases-loop store₀ from to n block₀ i₀ store block i = n - i

pub steps_down_spec : {M : Type 1} → statement M
steps_down_spec =
    tie.close
    (tie.spec
    invariant-loop
    decreases-loop
    (λ c. search down_laws)
    (λ c. search down_laws)
    (λ c. search down_laws)
    (λ c. search down_laws)
    (λ c κs. search down_laws)
    (λ c. search down_laws)
    (λ c. search down_laws)
    (λ c. search down_laws)
    (λ c. search down_laws)
    (λ c. search down_laws)
    (λ c. search down_laws))
