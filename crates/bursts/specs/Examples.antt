-- Bursts on the definitions: what is carried on, and edges of what is refused (all of them are run in rust/tests).
-- Assumes nothing.
use Rattle.std.specs.Prelude.{ℕ, ◌≡◌, refl, true, false, List, [], ◌∷◌, ◌++◌, replicate}
use Rattle.strlib.specs.Pointer.{all, characters}
use Rattle.strlib.specs.Quoted.{bytes}
use Rattle.strlib.specs.Refusal.{refused, gives, outcome}
use Rattle.search.specs.Search.{nothing, found}
use Rattle.table.specs.Examples.{two}
use Rattle.table.specs.Run.{is_sized, enter, step, walk}
use Rattle.bursts.specs.Bursts.{carried_by, fresh, is_note, agrees, is_sound, is_carried, walked, burst_refusal, burst_rule}
use Rattle.bursts.specs.Whole.{bursts}

-- three states: state 0's words are 999 and never read; every character leads from state 1, which has no string, to
-- state 2, which has f and L, and from there to `next`
abbrev three : ℕ → ℕ → ℕ → List ℕ
three next f l = 3 ∷ replicate 130 999 ++ replicate 128 2 ++ (0 ∷ 0 ∷ []) ++ replicate 128 next ++ (f ∷ l ∷ [])

pub record Examples : Type 0 where
  pub in_turn : bursts fresh (bytes "a" ∷ [] ∷ bytes "b" ∷ []) (three 1 32 1) ≡ gives (carried_by 1 2 2 (found 32 1 2) false)
  pub stops : burst_rule fresh (bytes "abc") (three 0 32 1) ≡ gives (carried_by 0 2 3 (found 32 1 2) true)
  pub stopped : burst_rule (carried_by 0 1 2 nothing true) (bytes "ab") (two 9 99 9) ≡ gives (carried_by 0 1 4 nothing true)
  pub entered_anew : burst_rule (carried_by 1 3 3 (found 2 1 1) false) [] (two 9 1 0) ≡ gives (carried_by 1 3 3 (found 1 4 4) false)
  pub last_entered : burst_rule fresh (bytes "a") (three 1 33 0) ≡ refused 10
  pub length_first : burst_rule (carried_by 9 9 0 nothing false) (replicate 301 128) [] ≡ refused 3
  pub total_over : burst_rule (carried_by 0 1 65536 nothing true) (bytes "a") (two 1 0 0) ≡ refused 3
  pub wholly_checked : burst_rule fresh (97 ∷ 128 ∷ []) (three 1 33 0) ≡ refused 2
  pub bad_byte_after_stop : burst_rule (carried_by 0 1 2 nothing true) (128 ∷ []) [] ≡ refused 2
  pub total_under_read : burst_rule (carried_by 1 4 3 nothing false) (bytes "ab") (two 1 0 0) ≡ refused 10
  pub string_0 : burst_rule (carried_by 1 4 4 (found 0 1 1) false) [] (two 1 0 0) ≡ refused 10
  pub pos2_last : burst_rule (carried_by 1 4 4 (found 1 1 5) false) [] (two 1 0 0) ≡ gives (carried_by 1 4 4 (found 1 1 5) false)

pub examples : Examples
unfolding all characters outcome is_sized enter step walk fresh is_note agrees is_sound is_carried walked burst_refusal burst_rule
examples =
    record {
      in_turn = refl;
      stops = refl;
      stopped = refl;
      entered_anew = refl;
      last_entered = refl;
      length_first = refl;
      total_over = refl;
      wholly_checked = refl;
      bad_byte_after_stop = refl;
      total_under_read = refl;
      string_0 = refl;
      pos2_last = refl;
    }
