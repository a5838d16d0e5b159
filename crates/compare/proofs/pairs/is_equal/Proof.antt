use borrow.Author.Rules.{rules}
use Rattle.compare.proofs.Ordering.{equal_raised}
use Rattle.compare.proofs.pairs.is_equal.Statement.{statement}
use Rattle.compare.proofs.pairs.is_equal.Tie as tie

pub is_equal_spec : {M : Type 1} → statement M
is_equal_spec =
    tie.close
    (tie.spec
    (λ c. search rules)
    (λ c. search rules)
    (λ c. search (rules, equal_raised)))
