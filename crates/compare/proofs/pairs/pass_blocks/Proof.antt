use borrow.Author.Rules.{rules}
use Prim.Native.Nat.{◌≤◌, ◌-◌}
use lib.IntN.{sub_ℕ}
use Rattle.compare.specs.Compare.{unequal_from}
use Rattle.compare.proofs.Pairing.{cut_paired, block_passed, block_stopped, none_left, pairing_laws}
use Rattle.compare.proofs.pairs.pass_blocks.Statement.{statement}
use Rattle.compare.proofs.pairs.pass_blocks.Tie as tie

abbrev invariant-loop : tie.invariant-loop-i
invariant-loop x y raised n from width i₀ i = (i ≤ n) × (i ≤ unequal_from x y (sub_ℕ raised 128) 0 n)

abbrev decreases-loop : tie.decreases-loop-i
decreases-loop x y raised n from width i₀ i = n - i

cuts : tie.Need-are_equal-requires invariant-loop decreases-loop
cuts c κs =
    let loop = c.loop-i in
    cut_paired _ _ _ _ loop.i _ c.requires.0 loop.invariant.1 (search rules)

stops : tie.Need-returns-then-not-are_equal invariant-loop decreases-loop
stops c =
    let loop = c.loop-i in
    (loop.invariant.1, block_stopped _ _ _ _ loop.i _ c.requires.0 loop.invariant.1 (search rules) _ c.are_equal.ensures c.if-not-are_equal.true)

passes : tie.Need-loop-i-preserved invariant-loop decreases-loop
passes c =
    let loop = c.loop-i in
    (search rules, block_passed _ _ _ _ loop.i _ c.requires.0 loop.invariant.1 (search rules) _ c.are_equal.ensures c.if-not-are_equal.false)

pub pass_blocks_spec : {M : Type 1} → statement M
pass_blocks_spec =
    tie.close
    (tie.spec
    invariant-loop
    decreases-loop
    (λ c. search pairing_laws)
    (λ c. search rules)
    (λ c. search rules)
    (λ c. search rules)
    (λ c. search rules)
    (λ c. search rules)
    (λ c. search rules)
    (λ c. search rules)
    (λ c. search rules)
    cuts
    stops
    (λ c. search rules)
    passes
    (λ c. (search rules, none_left _ _ _ _ _ (search rules))))
