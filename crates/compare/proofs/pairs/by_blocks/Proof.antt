use borrow.Author.Rules.{rules}
use Rattle.compare.proofs.Pairing.{pairing_laws}
use Rattle.compare.proofs.pairs.by_blocks.Statement.{statement}
use Rattle.compare.proofs.pairs.by_blocks.Tie as tie

pub by_blocks_spec : {M : Type 1} → statement M
by_blocks_spec =
    tie.close
    (tie.spec
    (λ c κs. search rules)
    (λ c κs. search rules)
    (λ c κs. search rules)
    (λ c κs. search rules)
    (λ c κs. search rules)
    (λ c. search pairing_laws))
