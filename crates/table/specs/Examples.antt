-- A small table on the definitions, and words that are none. Assumes nothing.
use Rattle.std.specs.Prelude.{ℕ, ◌≡◌, refl, List, [], ◌∷◌, ◌++◌, replicate}
use Rattle.strlib.specs.Pointer.{pointer, store_fits, good_in, text_of, all, characters, readable}
use Rattle.strlib.specs.Quoted.{bytes}
use Rattle.strlib.specs.Refusal.{refused, gives, outcome}
use Rattle.search.specs.Search.{nothing, found}
use Rattle.table.specs.Run.{is_sized, enter, step, walk, run_over, run_refusal, run_rule}

-- two states: state 0's words are 999 and never read; state 1 has the given f and L, every character leading to `next`
abbrev pub two : ℕ → ℕ → ℕ → List ℕ
two next f l = 2 ∷ replicate 130 999 ++ replicate 128 next ++ (f ∷ l ∷ [])

pub record Examples : Type 0 where
  pub stops : run_rule (bytes "ab") (pointer 0 2 2) (two 0 0 7) ≡ gives (nothing, 1)
  pub goes_on : run_rule (bytes "ab") (pointer 0 2 2) (two 1 0 7) ≡ gives (nothing, 2)
  pub notes : run_rule (bytes "ab") (pointer 0 2 2) (two 1 32 0) ≡ gives (found 32 3 3, 2)
  pub empty_host : run_rule (bytes "ab") (pointer 1 0 1) (two 9 1 0) ≡ gives (found 1 1 1, 0)
  pub no_words : run_rule (bytes "ab") (pointer 0 2 2) [] ≡ refused 10
  pub over_32 : run_rule (bytes "ab") (pointer 0 2 2) (two 1 33 0) ≡ refused 10
  pub over_read : run_rule (bytes "ab") (pointer 0 2 2) (two 1 1 1) ≡ refused 10
  pub next_is_size : run_rule (bytes "ab") (pointer 0 2 2) (two 2 0 0) ≡ refused 10
  pub bad_byte : run_rule (128 ∷ []) (pointer 0 1 1) [] ≡ refused 2
  pub bad_pointer : run_rule (128 ∷ []) (pointer 0 2 1) [] ≡ refused 1

pub examples : Examples
unfolding pointer store_fits good_in text_of all characters readable outcome is_sized enter step walk run_over run_refusal run_rule
examples =
    record {
      stops = refl;
      goes_on = refl;
      notes = refl;
      empty_host = refl;
      no_words = refl;
      over_32 = refl;
      over_read = refl;
      next_is_size = refl;
      bad_byte = refl;
      bad_pointer = refl;
    }
