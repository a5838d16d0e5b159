use mir.Facts.{to_z-of_z}
use Rattle.number.specs.Limits.{in_range}
use Rattle.number.proofs.limits.in_range.Statement.{statement}
use Rattle.number.proofs.limits.in_range.Tie as tie

returns : tie.Need-returns
unfolding in_range
returns c = simp (c.both.ensures, to_z-of_z c.before.ranges.value)

pub in_range_spec : {M : Type 1} → statement M
in_range_spec =
    tie.close
    (tie.spec
    (λ c κs. tt)
    returns)
