use Rattle.desk.proofs.CueNumbers.{low, cast, inside, high}
use Rattle.desk.proofs.cue.index_of.Statement.{statement}
use Rattle.desk.proofs.cue.index_of.Tie as tie

pub index_of_spec : {M : Type 1} → statement M
index_of_spec =
    tie.close
    (tie.spec
    (λ c. low _ _ c.ranges.value c.if-value-lt1.true)
    (λ c. cast _ 0 c.ranges.value c.if-value-lt1.false)
    (λ c. inside _ _ c.ranges.value c.if-value-lt1.false c.if-index-most.true)
    (λ c. high _ _ c.ranges.value c.if-value-lt1.false c.if-index-most.false))
