use Rattle.std.proofs.Common.{◌≡◌, ◌%◌, ◌≤◌, length}
use Rattle.moving.proofs.Moving.{up, up_laws}
use Rattle.moving.proofs.moves.steps_up.Statement.{statement}
use Rattle.moving.proofs.moves.steps_up.Tie as tie

abbrev invariant-loop : tie.invariant-loop-block
invariant-loop store₀ from to n block₀ left₀ store block left =
    (left ≤ n) × (length store ≡ length store₀) × (length block ≡ length block₀) × (left % length block₀ ≡ n % length block₀) × (store ≡ up store₀ from to n left)

abbrev decreases-loop : tie.decreases-loop-block
decreases-loop store₀ from to n block₀ left₀ store block left = left

pub steps_up_spec : {M : Type 1} → statement M
steps_up_spec =
    tie.close
    (tie.spec
    invariant-loop
    decreases-loop
    (λ c. search up_laws)
    (λ c. search up_laws)
    (λ c. search up_laws)
    (λ c. search up_laws)
    (λ c κs. search up_laws)
    (λ c. search up_laws)
    (λ c. search up_laws)
    (λ c. search up_laws)
    (λ c. search up_laws)
    (λ c. search up_laws))
