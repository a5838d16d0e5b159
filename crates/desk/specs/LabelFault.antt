-- What the label calls are refused with, and at which offset, case by case: 02, W2. Assumes nothing.
use Rattle.std.specs.Prelude.{ℕ, ◌-◌, ◌≤◌, ◌<◌, ◌≡◌, List, length, take}
use Rattle.records.specs.Record.{list_refusal, fault_offset, key_refusal, new_refusal}
use Rattle.records.specs.Told.{refused_at}
use Rattle.desk.specs.Label.{read_labels_rule, find_label_rule, add_rule}

-- a faulty list, by its first faulty record (`Placed`)
pub record ListFault (l : List ℕ) : Type 0 where
  pub read : read_labels_rule l ≡ refused_at (list_refusal l) (fault_offset l)
  pub find : (kind number : ℕ) → find_label_rule l kind number ≡ refused_at (list_refusal l) (fault_offset l)
  pub add : (b : List ℕ) (n kind number : ℕ) (name : List ℕ) → n ≤ length b → take n b ≡ l
      → add_rule b n kind number name ≡ (refused_at (list_refusal l) (fault_offset l), b)

-- a good list, where what is asked for or added is refused, for want of room too: with the list's length
pub record AskedFault (l : List ℕ) : Type 0 where
  pub find : (kind number : ℕ) → (key_refusal kind number ≡ 0 → ⊥) → find_label_rule l kind number ≡ refused_at (key_refusal kind number) (length l)
  pub add : (b : List ℕ) (n kind number : ℕ) (name : List ℕ) → n ≤ length b → take n b ≡ l → (new_refusal l (length b - n) kind number name ≡ 0 → ⊥)
      → add_rule b n kind number name ≡ (refused_at (new_refusal l (length b - n) kind number name) (length l), b)

pub record Faults : Type 0 where
  pub listed : (l : List ℕ) → (list_refusal l ≡ 0 → ⊥) → ListFault l
  pub asked : (l : List ℕ) → list_refusal l ≡ 0 → AskedFault l
  -- a length over the buffer's: with that length
  pub past : (b : List ℕ) (n kind number : ℕ) (name : List ℕ) → length b < n → add_rule b n kind number name ≡ (refused_at 4 n, b)
