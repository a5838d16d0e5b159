use Prim.Native.Nat.{◌-◌}
use lib.ListN.{length}
use Rattle.answers.specs.Inner.{Walked}
use Rattle.answers.proofs.Feeding.{walk_laws}
use Rattle.answers.proofs.pieces.walk.Statement.{statement}
use Rattle.answers.proofs.pieces.walk.Tie as tie

abbrev invariant-loop : tie.invariant-loop-at
invariant-loop part hold₀ out₀ t₀ at₀ hold out t at = Walked t₀ hold₀ out₀ part at t hold out

abbrev decreases-loop : tie.decreases-loop-at
decreases-loop part hold₀ out₀ t₀ at₀ hold out t at = length part - at

pub walk_spec : {M : Type 1} → statement M
walk_spec =
    tie.close
    (tie.spec
    invariant-loop
    decreases-loop
    (λ c. search walk_laws)
    (λ c κs. search walk_laws)
    (λ c κs. search walk_laws)
    (λ c κs. search walk_laws)
    (λ c κs. search walk_laws)
    (λ c. search walk_laws)
    (λ c. search walk_laws)
    (λ c. search walk_laws)
    (λ c. search walk_laws)
    (λ c. search walk_laws))
