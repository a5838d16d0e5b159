-- The flat answers that are strings, copies and parts: a refusal is its number with 0 in every other field, and a value
-- has the number 0; parts and labels are never refused. Assumes nothing.
use Rattle.std.specs.Prelude.{ℕ, true, false, List}
use Rattle.strlib.specs.Pointer.{pointer}
use Rattle.strlib.specs.Refusal.{Outcome, refused, gives}
use Rattle.strlib.specs.declared.StrPtr.{StrPtr}
use Rattle.copying.specs.declared.Wrote.{Wrote}
use Rattle.cutting.specs.declared.parts.DeskLabel.{DeskLabel}
use Rattle.cutting.specs.declared.parts.DeskLabel.TheVariants.{Production, House}
use Rattle.joining.specs.declared.Place.{Place}
use Rattle.joining.specs.declared.Round.{Round}
use Rattle.flat.specs.declared.strings.FlatString.{FlatString}
use Rattle.flat.specs.declared.strings.FlatCopied.{FlatCopied}
use Rattle.flat.specs.declared.strings.FlatRound.{FlatRound}
use Rattle.flat.specs.declared.strings.FlatPart.{FlatPart}
use Rattle.flat.specs.declared.strings.FlatLabel.{FlatLabel}

-- a call that writes: its answer made flat, and what it was lent
abbrev pub flat_with : {A B : Type 0} → (A → B) → A × List ℕ → B × List ℕ
flat_with f a = (f a.0, a.1)

-- the pointer and the place where there is none
abbrev pub no_string : StrPtr
no_string = pointer 0 0 0

abbrev pub no_place : Place
no_place = record { string = 0; character = 0 }

abbrev pub flat_string : Outcome StrPtr → FlatString
flat_string (refused n) = record { refusal = n; string = no_string }
flat_string (gives p) = record { refusal = 0; string = p }

abbrev pub flat_copied : Outcome Wrote → FlatCopied
flat_copied (refused n) = record { refusal = n; completed = false; to = no_string }
flat_copied (gives w) = record { refusal = 0; completed = w.completed; to = w.to }

abbrev pub flat_round : Outcome Round → FlatRound
flat_round (refused n) = record { refusal = n; completed = false; to = no_string; next = no_place }
flat_round (gives w) = record { refusal = 0; completed = w.completed; to = w.to; next = w.next }

-- a part of what was lent, where the pointer lies in it
abbrev pub flat_part : StrPtr → FlatPart
flat_part p = record { offset = p.start; length = p.length }

abbrev pub flat_label : DeskLabel → FlatLabel
flat_label (Production p) = record { house = false; offset = p.start; length = p.length }
flat_label (House p) = record { house = true; offset = p.start; length = p.length }
