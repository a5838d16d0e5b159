use Rattle.records.proofs.Building.{build_laws}
use Rattle.records.proofs.news.write_record.Statement.{statement}
use Rattle.records.proofs.news.write_record.Tie as tie

pub write_record_spec : {M : Type 1} → statement M
write_record_spec =
    tie.close
    (tie.spec
    (λ c. search build_laws)
    (λ c. search build_laws)
    (λ c. search build_laws)
    (λ c. search build_laws)
    (λ c. search build_laws)
    (λ c. search build_laws)
    (λ c κs. tt)
    (λ c κs. tt)
    (λ c κs. tt)
    (λ c. search build_laws)
    (λ c κs. tt)
    (λ c. search build_laws)
    (λ c κs. tt)
    (λ c. search build_laws)
    (λ c. search build_laws))
