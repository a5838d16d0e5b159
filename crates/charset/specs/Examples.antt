-- Worked examples, as one claim on the definitions. Assumes nothing.
use Rattle.std.specs.Prelude.{ℕ, ◌+◌, ◌^◌, ◌≡◌, refl, true, false, List, replicate}
use Rattle.strlib.specs.Pointer.{pointer, store_fits, good_in, text_of, all, characters, readable}
use Rattle.strlib.specs.Quoted.{bytes}
use Rattle.strlib.specs.Refusal.{refused, gives, outcome, after, ruled, nowhere, at}
use Rattle.charset.specs.Rule.{block_refusal, tables_rule, set_refusal, characters_rule, or_else, chosen, found_at, found_from, find_rule}
use Rattle.charset.specs.Sets.{block_fits, mask_fits, turned, turned_all, turned_at, in_tables}

-- a block of which every table is empty, and one with the vowels in table 1
abbrev pub empty : List ℕ
empty = replicate 128 0

abbrev pub vowels : List ℕ
vowels = turned_at true 2 (bytes "aeiou") empty

abbrev pub store : List ℕ
store = bytes "string library"

pub record Examples : Type 0 where
  -- masked bits on and off; bit 63 stays
  pub on : turned true 5 (2 ^ 63 + 4) ≡ 2 ^ 63 + 5
  pub off : turned false 5 (2 ^ 63 + 6) ≡ 2 ^ 63 + 2
  -- the first vowel, the last, and none in table 0
  pub first : find_rule false store (pointer 0 14 14) vowels 2 ≡ gives (at (record { position = 4; code = 105 }))
  pub last : find_rule true store (pointer 0 14 14) vowels 2 ≡ gives (at (record { position = 12; code = 97 }))
  pub none : find_rule false store (pointer 0 14 14) vowels 1 ≡ gives nowhere
  -- a mask of 0 names no table; one of 2^36 and a block of 127 words are refused, before a pointer that is not good
  pub no_table : find_rule false store (pointer 0 14 14) vowels 0 ≡ gives nowhere
  pub mask_over : find_rule true store (pointer 0 14 15) vowels (2 ^ 36) ≡ refused 3
  pub block_short : characters_rule true store (pointer 0 14 15) (replicate 127 0) 1 ≡ (refused 3, replicate 127 0)
  pub not_good : characters_rule false store (pointer 0 14 15) empty 1 ≡ (refused 1, empty)
  -- what was added is removed again
  pub removed : characters_rule false (bytes "uoiea") (pointer 0 5 5) vowels 2 ≡ (gives tt, empty)
  pub cleared : tables_rule false vowels 2 ≡ (gives tt, empty)

pub examples : Examples
unfolding pointer store_fits good_in text_of all characters readable outcome after ruled block_refusal tables_rule set_refusal characters_rule or_else chosen found_at found_from find_rule block_fits mask_fits turned turned_all turned_at in_tables
examples =
    record {
      on = refl;
      off = refl;
      first = refl;
      last = refl;
      none = refl;
      no_table = refl;
      mask_over = refl;
      block_short = refl;
      not_good = refl;
      removed = refl;
      cleared = refl;
    }
