use mathlib.Core.Path.{◌≡◌}
use Prim.Native.Nat.{◌≤◌, ◌-◌}
use lib.ListN.{length}
use Rattle.moving.proofs.Moving.{down}
use Rattle.old_and_new.proofs.Single.{single_laws}
use Rattle.old_and_new.proofs.old.move_down.Statement.{statement}
use Rattle.old_and_new.proofs.old.move_down.Tie as tie

abbrev invariant-loop : tie.invariant-loop-i
invariant-loop store₀ from to n i₀ store i = (i ≤ n) × (length store ≡ length store₀) × (store ≡ down store₀ from to i)

abbrev decreases-loop : tie.decreases-loop-i
decreases-loop store₀ from to n i₀ store i = n - i

pub move_down_spec : {M : Type 1} → statement M
move_down_spec =
    tie.close
    (tie.spec
    invariant-loop
    decreases-loop
    (λ c. search single_laws)
    (λ c. search single_laws)
    (λ c. search single_laws)
    (λ c. search single_laws)
    (λ c. search single_laws)
    (λ c. search single_laws)
    (λ c. search single_laws)
    (λ c. search single_laws)
    (λ c. search single_laws)
    (λ c. search single_laws))
