use borrow.Author.Rules.{rules}
use Rattle.compare.proofs.Tailing.{blanks_no, tailing_laws}
use Rattle.compare.proofs.pairs.blanks_end.Statement.{statement}
use Rattle.compare.proofs.pairs.blanks_end.Tie as tie

pub blanks_end_spec : {M : Type 1} → statement M
blanks_end_spec =
    tie.close
    (tie.spec
    (λ c. search tailing_laws)
    (λ c. search rules)
    (λ c. let a = c.args in blanks_no a.z.now a.i (search rules) (λ e. search rules))
    (λ c. search rules)
    (λ c. search rules)
    (λ c. search rules)
    (λ c. search rules)
    (λ c. search rules)
    (λ c. search rules)
    (λ c. search rules)
    (λ c. search rules)
    (λ c κs. search tailing_laws)
    (λ c. search tailing_laws)
    (λ c. search tailing_laws))
