-- What the writers do and what the search looks at, bit by bit: 01, "Character sets". Assumes nothing.
use Rattle.std.specs.Prelude.{ℕ, zero, suc, ◌/◌, ◌%◌, ◌≤◌, ◌<◌, ◌≡◌, Bool, true, false, cond, ◌||◌, List, [], ◌∷◌, eqb, length, get_or}
use Rattle.strlib.specs.Pointer.{text_of}
use Rattle.strlib.specs.Refusal.{gives}
use Rattle.strlib.specs.declared.StrPtr.{StrPtr}
use Rattle.charset.specs.Rule.{tables_rule, characters_rule}
use Rattle.charset.specs.Sets.{mask_fits, in_tables}

-- bit b of a word, counted from the lowest
abbrev pub bit : ℕ → ℕ → ℕ
bit zero w = w % 2
bit (suc b) w = bit b (w / 2)

-- the character c is among xs
unfoldable pub among : List ℕ → ℕ → Bool
among [] c = false
among (x ∷ xs) c = eqb x c || among xs c

-- the block old has become new: for the characters meant, the masked bits are 1 (on) or 0 (off); every other bit is as
-- it was, those of other characters and bits 36 to 63 included
pub record Turns (on : Bool) (mask : ℕ) (meant : ℕ → Bool) (old new : List ℕ) : Type 0 where
  pub size : length new ≡ length old
  pub masked : (c b : ℕ) → c < length old → meant c ≡ true → b < 64 → bit b mask ≡ 1 → bit b (get_or new c 0) ≡ cond on 1 0
  pub unmasked : (c b : ℕ) → b < 64 → bit b mask ≡ 0 → bit b (get_or new c 0) ≡ bit b (get_or old c 0)
  pub high : (c b : ℕ) → 36 ≤ b → b < 64 → bit b (get_or new c 0) ≡ bit b (get_or old c 0)
  pub others : (c : ℕ) → meant c ≡ false → get_or new c 0 ≡ get_or old c 0

-- clear and fill turn every character's bits, add and remove those of the string's characters: of any call that is not
-- refused
pub record WritersTurn (on : Bool) (s : List ℕ) (p : StrPtr) (block : List ℕ) (mask : ℕ) : Type 0 where
  pub tables : (tables_rule on block mask).0 ≡ gives tt → Turns on mask (λ c. true) block (tables_rule on block mask).1
  pub characters : (characters_rule on s p block mask).0 ≡ gives tt
      → Turns on mask (among (text_of s p)) block (characters_rule on s p block mask).1

abbrev pub TurnsBits : Type 0
TurnsBits = (on : Bool) (s : List ℕ) (p : StrPtr) (block : List ℕ) (mask : ℕ) → WritersTurn on s p block mask

-- the character x is in a table that the mask names
pub record Tabled (block : List ℕ) (mask x : ℕ) : Type 0 where
  pub table : ℕ
  pub small : table < 36
  pub named : bit table mask ≡ 1
  pub has : bit table (get_or block x 0) ≡ 1

-- the test of the search says exactly this, of every block and character and every mask under 2^36
pub record TabledLaw (block : List ℕ) (mask x : ℕ) : Type 0 where
  pub is_tabled : in_tables block mask x ≡ true → Tabled block mask x
  pub tabled_is : Tabled block mask x → in_tables block mask x ≡ true

abbrev pub TabledBits : Type 0
TabledBits = (block : List ℕ) (mask x : ℕ) → mask_fits mask ≡ true → TabledLaw block mask x
