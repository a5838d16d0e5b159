use Rattle.number.proofs.Writing.{text_laws}
use Rattle.number.proofs.writer.text_length.Statement.{statement}
use Rattle.number.proofs.writer.text_length.Tie as tie

pub text_length_spec : {M : Type 1} → statement M
text_length_spec =
    tie.close
    (tie.spec
    (λ c κs. search text_laws)
    (λ c κs. search text_laws)
    (λ c. search text_laws)
    (λ c. search text_laws)
    (λ c. search text_laws))
