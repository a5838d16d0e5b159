-- Example A of 01 with its pointers, and refusals. Assumes nothing.
use Rattle.std.specs.Prelude.{ℕ, ◌≡◌, refl, List, [], ◌∷◌}
use Rattle.strlib.specs.Pointer.{pointer, part_of, store_fits, good_in, text_of, texts, all, characters, readable}
use Rattle.strlib.specs.Quoted.{bytes}
use Rattle.strlib.specs.Refusal.{refused, gives, outcome, nowhere, at}
use Rattle.strlib.specs.declared.StrPtr.{StrPtr}
use Rattle.search.specs.Rule.{search_refusal, sought, parts_of, split_of, given, search_by, search_rule, match_after_rule, before_match_rule}

-- a store of 12 bytes whose first 10 are the host, and in it the strings of example A
abbrev pub store : List ℕ
store = bytes "0123456789.."

abbrev pub list_a : List StrPtr
list_a = pointer 5 5 5 ∷ pointer 3 2 2 ∷ pointer 2 2 2 ∷ []

-- what the calls give of them, and refusals: 3 before 1
pub record Pointers : Type 0 where
  pub parts :
      search_rule store (pointer 0 10 12) list_a 3
      ≡ gives (at (record { number = 3; before = pointer 0 2 2; matched = pointer 2 2 2; after = pointer 4 6 8 }))
  pub match_after : match_after_rule store (pointer 0 10 12) list_a 3 ≡ gives (at (record { number = 3; front = pointer 0 2 2; back = pointer 2 8 10 }))
  pub before_match : before_match_rule store (pointer 0 10 12) list_a 3 ≡ gives (at (record { number = 3; front = pointer 0 4 4; back = pointer 4 6 8 }))
  pub no_strings : search_rule store (pointer 0 10 12) list_a 0 ≡ gives nowhere
  pub count_over : search_rule store (pointer 0 10 13) list_a 33 ≡ refused 3
  pub not_good : search_rule store (pointer 0 10 13) list_a 3 ≡ refused 1

pub pointers : Pointers
unfolding pointer part_of store_fits good_in text_of texts all characters readable outcome search_refusal sought parts_of split_of given search_by search_rule match_after_rule before_match_rule
pointers = record { parts = refl; match_after = refl; before_match = refl; no_strings = refl; count_over = refl; not_good = refl }
