use mathlib.Core.Path.{◌∙◌}
use lib.ListN.{length-set}
use Rattle.number.proofs.Writing.{text_laws}
use Rattle.number.proofs.writer.put_number.Statement.{statement}
use Rattle.number.proofs.writer.put_number.Tie as tie

pub put_number_spec : {M : Type 1} → statement M
put_number_spec =
    tie.close
    (tie.spec
    (λ c κs. search text_laws)
    (λ c. search text_laws)
    (λ c. search text_laws)
    (λ c. search text_laws)
    (λ c κs. search text_laws)
    (λ c κs. search text_laws)
    (λ c. c.put_digits.auto.store ∙ simp length-set)
    (λ c. search text_laws)
    (λ c. search text_laws)
    (λ c. search text_laws))
