-- What the offset of a list's refusal says: 02, W2. Assumes nothing.
use Rattle.std.specs.Prelude.{ℕ, ◌<◌, ◌≡◌, List, length}
use Rattle.records.specs.Record.{place_of, records, record_refusal, sound_in, list_refusal, fault_offset}

-- record k, counted from 0, begins in the list, has its refusal and stands at its offset, and all before it have none
pub record FirstFaulty (l : List ℕ) (k : ℕ) : Type 0 where
  pub begins : place_of l k < length l
  pub refusal : record_refusal l k ≡ list_refusal l
  pub offset : fault_offset l ≡ place_of l k
  pub before : (j : ℕ) → j < k → record_refusal l j ≡ 0

pub record PlacedIn (l : List ℕ) : Type 0 where
  pub good : list_refusal l ≡ 0 → fault_offset l ≡ length l
  pub faulty : (list_refusal l ≡ 0 → ⊥) → FirstFaulty l (sound_in l (records l))

abbrev pub Placed : Type 0
Placed = (l : List ℕ) → PlacedIn l
