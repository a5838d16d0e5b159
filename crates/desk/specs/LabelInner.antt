-- What the functions of the label list ask of and promise one another. Assumes nothing.
use Rattle.std.specs.Prelude.{ℕ, ◌+◌, ◌*◌, ◌≤◌, List}
use Rattle.records.specs.Record.{records}
use Rattle.records.specs.Told.{Told, told}
use Rattle.desk.specs.Label.{add_refusal, add_offset}

-- where a kind and number are marked as met: a kind has marks for the numbers 0 to 128
unfoldable pub mark_of : ℕ → ℕ → ℕ
mark_of kind number = 129 * kind + number

-- a kind and number that have a mark
pub record Markable (kind number : ℕ) : Type 0 where
  pub kinds : kind ≤ 2
  pub numbers : number ≤ 128

-- record k, counted from 1, begins in the list, or k is 0
pub record Counted (l : List ℕ) (k : ℕ) : Type 0 where
  pub most : k ≤ records l

-- what the writer finds before it writes
unfoldable pub add_told : List ℕ → ℕ → ℕ → ℕ → List ℕ → Told Unit
add_told b n kind number name = told (add_refusal b n kind number name) (add_offset b n) tt
