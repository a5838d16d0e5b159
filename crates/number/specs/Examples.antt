-- Texts and numbers at the edges. Assumes nothing.
use Rattle.std.specs.Prelude.{ℕ, ◌≡◌, refl, List, [], ◌∷◌, ◌++◌, ℤ, pos, negsuc, length}
use Rattle.strlib.specs.Pointer.{pointer, sized, store_fits, good_in, text_of, all, characters, readable}
use Rattle.strlib.specs.Refusal.{Outcome, refused, gives, outcome, after, ruled}
use Rattle.strlib.specs.Store.{put}
use Rattle.number.specs.Limits.{is_base, in_range}
use Rattle.number.specs.Text.{unblanked, minus, unsigned, is_digit, are_digits, is_number, value, signed, number_of}
use Rattle.number.specs.Written.{digits_in, digits, sign, written}
use Rattle.number.specs.Number.{read_refusal, read_rule, write_refusal, write_rule}

-- a store that holds just the text
abbrev pub read_text : ℕ → List ℕ → Outcome ℤ
read_text base cs = read_rule cs (pointer 0 (length cs) (length cs)) base

-- 3435973836, the digits that both ends of the range begin with
abbrev pub front : List ℕ
front = 51 ∷ 52 ∷ 51 ∷ 53 ∷ 57 ∷ 55 ∷ 51 ∷ 56 ∷ 51 ∷ 54 ∷ []

-- a room of five in a store of seven bytes, the last of which is no character
abbrev pub store : List ℕ
store = 120 ∷ 49 ∷ 50 ∷ 51 ∷ 52 ∷ 53 ∷ 200 ∷ []

pub record Examples : Type 0 where
  -- both ends of the range, and one past the lower
  pub highest : read_text 10 (front ++ (55 ∷ [])) ≡ gives (pos 34359738367)
  pub lowest : read_text 10 (45 ∷ front ++ (56 ∷ [])) ≡ gives (negsuc 34359738367)
  pub under : read_text 10 (45 ∷ front ++ (57 ∷ [])) ≡ refused 8
  -- a blank behind the minus, a plus
  pub minus_blank : read_text 10 (45 ∷ 32 ∷ 49 ∷ []) ≡ refused 7
  pub plus : read_text 10 (43 ∷ 49 ∷ []) ≡ refused 7
  -- a foreign last character is 7, also behind digits that are out of range
  pub foreign : read_text 10 (front ++ (57 ∷ 57 ∷ 57 ∷ 120 ∷ [])) ≡ refused 7
  -- the digit of the base is none
  pub two_in_two : read_text 2 (49 ∷ 50 ∷ []) ≡ refused 7
  -- 31 into the room: every byte past the length stays
  pub write : write_rule store (pointer 1 0 5) (pos 31) 10 ≡ (gives (pointer 1 2 5), 120 ∷ 51 ∷ 49 ∷ 51 ∷ 52 ∷ 53 ∷ 200 ∷ [])
  -- the destination is not read: neither its old length nor a byte over 127 in it counts
  pub not_read : write_rule store (pointer 1 6 6) (pos 31) 10 ≡ (gives (pointer 1 2 6), 120 ∷ 51 ∷ 49 ∷ 51 ∷ 52 ∷ 53 ∷ 200 ∷ [])
  -- −31 in base 2 is one too long for a room of five
  pub too_long : write_rule store (pointer 1 0 5) (negsuc 30) 2 ≡ (refused 6, store)
  -- 8 goes before 6
  pub out_of_range : write_rule store (pointer 1 0 5) (pos 34359738368) 10 ≡ (refused 8, store)
  pub longest : length (written 2 (negsuc 34359738367)) ≡ 37

pub examples : Examples
unfolding
    pointer sized store_fits good_in text_of all characters readable outcome after ruled put is_base in_range unblanked minus unsigned is_digit are_digits is_number
    value signed number_of digits_in digits sign written read_refusal read_rule write_refusal write_rule
examples =
    record {
      highest = refl;
      lowest = refl;
      under = refl;
      minus_blank = refl;
      plus = refl;
      foreign = refl;
      two_in_two = refl;
      write = refl;
      not_read = refl;
      too_long = refl;
      out_of_range = refl;
      longest = refl;
    }
