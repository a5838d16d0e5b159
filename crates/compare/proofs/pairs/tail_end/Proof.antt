use borrow.Author.Rules.{rules}
use Rattle.compare.proofs.Tailing.{tailing_laws}
use Rattle.compare.proofs.pairs.tail_end.Statement.{statement}
use Rattle.compare.proofs.pairs.tail_end.Tie as tie

pub tail_end_spec : {M : Type 1} → statement M
tail_end_spec =
    tie.close
    (tie.spec
    (λ c κs. search rules)
    (λ c. search tailing_laws)
    (λ c κs. search rules)
    (λ c. search tailing_laws))
