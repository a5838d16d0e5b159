use mathlib.Core.Path.{◌≡◌}
use Prim.Native.Nat.{◌≤◌}
use lib.ListN.{length}
use Rattle.moving.proofs.Moving.{up}
use Rattle.old_and_new.proofs.Single.{single_laws}
use Rattle.old_and_new.proofs.old.move_up.Statement.{statement}
use Rattle.old_and_new.proofs.old.move_up.Tie as tie

abbrev invariant-loop : tie.invariant-loop-i
invariant-loop store₀ from to n i₀ store i = (i ≤ n) × (length store ≡ length store₀) × (store ≡ up store₀ from to n i)

abbrev decreases-loop : tie.decreases-loop-i
decreases-loop store₀ from to n i₀ store i = i

pub move_up_spec : {M : Type 1} → statement M
move_up_spec =
    tie.close
    (tie.spec
    invariant-loop
    decreases-loop
    (λ c. search single_laws)
    (λ c. search single_laws)
    (λ c. search single_laws)
    (λ c. search single_laws)
    (λ c. search single_laws)
    (λ c. search single_laws)
    (λ c. search single_laws)
    (λ c. search single_laws)
    (λ c. search single_laws)
    (λ c. search single_laws))
