-- The flat answers that are values: comparisons, numbers, cues, sizes, and the refusal's number alone. A cue's refusal
-- has its word, and a label list's its offset, beside the number. Assumes nothing.
use Rattle.std.specs.Prelude.{ℕ, false, ℤ, pos}
use Rattle.strlib.specs.Refusal.{Outcome, refused, gives, outcome}
use Rattle.compare.specs.Compare.{Comparison}
use Rattle.records.specs.Told.{Told, refused_at, tells}
use Rattle.desk.specs.declared.cue.Cue.{Cue}
use Rattle.flat.specs.declared.values.FlatComparison.{FlatComparison}
use Rattle.flat.specs.declared.values.FlatNumber.{FlatNumber}
use Rattle.flat.specs.declared.values.FlatCue.{FlatCue}
use Rattle.flat.specs.declared.values.FlatSize.{FlatSize}

abbrev pub flat_comparison : Outcome Comparison → FlatComparison
flat_comparison (refused n) = record { refusal = n; yes = false; sign = pos 0; split = 0 }
flat_comparison (gives c) = record { refusal = 0; yes = c.yes; sign = c.sign; split = c.split }

abbrev pub flat_number : Outcome ℤ → FlatNumber
flat_number (refused n) = record { refusal = n; value = pos 0 }
flat_number (gives z) = record { refusal = 0; value = z }

abbrev pub flat_cue : Outcome Cue × ℕ → FlatCue
flat_cue (refused n, word) = record { refusal = n; word = word; microphone = 0; loudspeaker = 0; gain = pos 0 }
flat_cue (gives c, word) = record { refusal = 0; word = word; microphone = c.microphone; loudspeaker = c.loudspeaker; gain = c.gain }

abbrev pub flat_size : Told ℕ → FlatSize
flat_size (refused_at n offset) = record { refusal = n; offset = offset; value = 0 }
flat_size (tells n) = record { refusal = 0; offset = 0; value = n }

-- a call that answers nothing else: the refusal's number, 0 for none
abbrev pub flat_done : Outcome (Unit {0}) → ℕ
flat_done (refused n) = n
flat_done (gives u) = 0

-- and what a number so answered says
abbrev pub done : ℕ → Outcome (Unit {0})
done n = outcome n tt
