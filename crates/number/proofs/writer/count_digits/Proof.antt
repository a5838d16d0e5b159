use mathlib.Core.Path.{◌≡◌}
use Prim.Native.Nat.{◌+◌, ◌<◌}
use lib.ListN.{length}
use Rattle.number.specs.Written.{digits}
use Rattle.number.proofs.Counting.{count_laws}
use Rattle.number.proofs.writer.count_digits.Statement.{statement}
use Rattle.number.proofs.writer.count_digits.Tie as tie

abbrev invariant-loop : tie.invariant-loop-m
invariant-loop n base m₀ count₀ m count = (m < 68719476736) × (count + length (digits base m) ≡ length (digits base n) + 1)

abbrev decreases-loop : tie.decreases-loop-m
decreases-loop n base m₀ count₀ m count = m

pub count_digits_spec : {M : Type 1} → statement M
count_digits_spec =
    tie.close
    (tie.spec
    invariant-loop
    decreases-loop
    (λ c. search count_laws)
    (λ c. search count_laws)
    (λ c. search count_laws)
    (λ c. search count_laws)
    (λ c. search count_laws)
    (λ c. search count_laws))
