-- The flat answers of a search: nothing found is no refusal, and its fields are 0 all the same, but for the number that
-- a table's run read; a label list's refusal has its offset beside the number. Assumes nothing.
use Rattle.std.specs.Prelude.{ℕ, true, false}
use Rattle.strlib.specs.Refusal.{Outcome, refused, gives, Sought, nowhere, at}
use Rattle.search.specs.Search.{Result, nothing, found}
use Rattle.search.specs.declared.Match.{Match}
use Rattle.search.specs.declared.Split.{Split}
use Rattle.charset.specs.declared.CharAt.{CharAt}
use Rattle.records.specs.Told.{Told, refused_at, tells}
use Rattle.flat.specs.Strings.{no_string}
use Rattle.flat_finds.specs.declared.finds.FlatMatch.{FlatMatch}
use Rattle.flat_finds.specs.declared.finds.FlatSplit.{FlatSplit}
use Rattle.flat_finds.specs.declared.finds.FlatNote.{FlatNote}
use Rattle.flat_finds.specs.declared.finds.FlatCharacter.{FlatCharacter}
use Rattle.flat_finds.specs.declared.finds.FlatName.{FlatName}

-- without a match, by the refusal's number
abbrev pub no_match : ℕ → FlatMatch
no_match n = record { refusal = n; found = false; number = 0; before = no_string; matched = no_string; after = no_string }

abbrev pub flat_match : Outcome (Sought Match) → FlatMatch
flat_match (refused n) = no_match n
flat_match (gives nowhere) = no_match 0
flat_match (gives (at m)) =
    record { refusal = 0; found = true; number = m.number; before = m.before; matched = m.matched; after = m.after }

abbrev pub no_split : ℕ → FlatSplit
no_split n = record { refusal = n; found = false; number = 0; front = no_string; back = no_string }

abbrev pub flat_split : Outcome (Sought Split) → FlatSplit
flat_split (refused n) = no_split n
flat_split (gives nowhere) = no_split 0
flat_split (gives (at m)) = record { refusal = 0; found = true; number = m.number; front = m.front; back = m.back }

-- without a note, by the refusal's number and the number of characters read
abbrev pub no_note : ℕ → ℕ → FlatNote
no_note n read = record { refusal = n; found = false; string = 0; pos1 = 0; pos2 = 0; read = read }

abbrev pub flat_note : Outcome (Result × ℕ) → FlatNote
flat_note (refused n) = no_note n 0
flat_note (gives (nothing, read)) = no_note 0 read
flat_note (gives (found j pos1 pos2, read)) = record { refusal = 0; found = true; string = j; pos1 = pos1; pos2 = pos2; read = read }

abbrev pub no_character : ℕ → FlatCharacter
no_character n = record { refusal = n; found = false; code = 0; position = 0 }

abbrev pub flat_character : Outcome (Sought CharAt) → FlatCharacter
flat_character (refused n) = no_character n
flat_character (gives nowhere) = no_character 0
flat_character (gives (at c)) = record { refusal = 0; found = true; code = c.code; position = c.position }

-- without a name, by the refusal's number and offset
abbrev pub no_name : ℕ → ℕ → FlatName
no_name n offset = record { refusal = n; found = false; offset = offset; place = 0; length = 0 }

abbrev pub flat_name : Told (Sought (ℕ × ℕ)) → FlatName
flat_name (refused_at n offset) = no_name n offset
flat_name (tells nowhere) = no_name 0 0
flat_name (tells (at (place, n))) = record { refusal = 0; found = true; offset = 0; place = place; length = n }
