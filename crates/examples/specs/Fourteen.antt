-- The fourteen examples of 01, "Examples to prove, as a group", under a single claim on the definitions. Assumes
-- nothing.
use Rattle.std.specs.Prelude.{ℕ, ◌≡◌, refl, true, false, List, [], ◌∷◌, pos, negsuc}
use Rattle.strlib.specs.Pointer.{pointer, store_fits, good_in, text_of, all, characters, readable}
use Rattle.strlib.specs.Quoted.{bytes}
use Rattle.strlib.specs.Refusal.{refused, gives, outcome}
use Rattle.compare.specs.Order.{order_z, order_n, sign_of}
use Rattle.compare.specs.Compare.{holds, pairs, length_decides, translated, order_at, unequal_from, decided, decision, comparison}
use Rattle.search.specs.Search.{nothing, found, plain_search}
use Rattle.number.specs.Limits.{is_base, in_range}
use Rattle.number.specs.Text.{unblanked, minus, unsigned, is_digit, are_digits, is_number, value, signed, number_of}
use Rattle.number.specs.Number.{read_refusal, read_rule}

-- the host of A to F
abbrev pub host : List ℕ
host = bytes "0123456789"

-- A to I: string j from pos1 to pos2. J to L: codes 0, equal, and 4, greater; styles 0, padded, 1, exact, and 2,
-- ignore; yes or no, the sign of length 1 − length 2, the split. M and N: a store that holds just the text
pub record Fourteen : Type 0 where
  pub A : plain_search (bytes "56789" ∷ bytes "34" ∷ bytes "23" ∷ []) host ≡ found 3 3 5
  pub B : plain_search (bytes "34" ∷ bytes "34567" ∷ []) host ≡ found 1 4 6
  pub C : plain_search (bytes "34567" ∷ bytes "34" ∷ []) host ≡ found 1 4 9
  pub D : plain_search (bytes "" ∷ []) host ≡ found 1 1 1
  pub E : plain_search (bytes "01234" ∷ bytes "" ∷ []) host ≡ found 1 1 6
  pub F : plain_search (bytes "23456" ∷ bytes "" ∷ []) host ≡ found 2 1 1
  pub G : plain_search (bytes "a" ∷ []) (bytes "") ≡ nothing
  pub H : plain_search (bytes "abcd" ∷ bytes "bc" ∷ []) (bytes "abcx") ≡ found 2 2 4
  pub I : plain_search (bytes "abcdef" ∷ bytes "bc" ∷ bytes "de" ∷ []) (bytes "abcdex") ≡ found 2 2 4
  pub J : comparison (bytes "abc") (bytes "abc  ") 0 0 (pos 0) ≡ record { yes = true; sign = negsuc 0; split = 0 }
  pub K : comparison (bytes "abc") (bytes "abc  ") 0 1 (pos 0) ≡ record { yes = false; sign = negsuc 0; split = 4 }
  pub L : comparison (bytes "abcde") (bytes "abc") 4 2 (pos 0) ≡ record { yes = false; sign = pos 1; split = 0 }
  pub M : read_rule (bytes "-0") (pointer 0 2 2) 10 ≡ gives (pos 0)
  pub N : read_rule (bytes "34359738368") (pointer 0 11 11) 10 ≡ refused 8

pub fourteen : Fourteen
unfolding pointer store_fits good_in text_of all characters readable outcome holds pairs length_decides translated order_at unequal_from decided decision comparison order_z order_n sign_of is_base in_range unblanked minus unsigned is_digit are_digits is_number value signed number_of read_refusal read_rule
fourteen =
    record {
      A = refl;
      B = refl;
      C = refl;
      D = refl;
      E = refl;
      F = refl;
      G = refl;
      H = refl;
      I = refl;
      J = refl;
      K = refl;
      L = refl;
      M = refl;
      N = refl;
    }
