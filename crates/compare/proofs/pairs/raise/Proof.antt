use Rattle.compare.proofs.Whole.{raised_byte, whole_laws}
use Rattle.compare.proofs.pairs.raise.Statement.{statement}
use Rattle.compare.proofs.pairs.raise.Tie as tie

pub raise_spec : {M : Type 1} → statement M
raise_spec =
    tie.close
    (tie.spec
    (λ c. search whole_laws)
    (λ c. raised_byte c.args.t c.ranges.t c.requires)
    (λ c. search whole_laws))
