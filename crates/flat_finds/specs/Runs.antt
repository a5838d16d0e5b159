-- The flat answer of a burst: what is carried on, or on a refusal what was given, where other answers have 0. Assumes
-- nothing.
use Rattle.strlib.specs.Refusal.{Outcome, refused, gives}
use Rattle.bursts.specs.declared.Carried.{Carried}
use Rattle.flat_finds.specs.declared.runs.FlatBurst.{FlatBurst}

abbrev pub flat_burst : Carried → Outcome Carried → FlatBurst
flat_burst given (refused n) = record { refusal = n; carried = given }
flat_burst given (gives c) = record { refusal = 0; carried = c }
