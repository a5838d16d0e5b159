-- What the writer, the reader and the lookup say of one another: 01, "Cue lines and labels", and 02, W2. Assumes
-- nothing.
use Rattle.std.specs.Prelude.{ℕ, suc, ◌+◌, ◌≡◌, List, take, drop}
use Rattle.strlib.specs.Refusal.{at}
use Rattle.cutting.specs.Cutting.{trimmed_length}
use Rattle.records.specs.Record.{head_size, records, key_refusal}
use Rattle.records.specs.Told.{tells}
use Rattle.desk.specs.Label.{read_labels_rule, find_label_rule, add_rule}

-- a record was added behind the list of n bytes in the buffer b, and the list is now the first n' bytes of b'
pub record Written (b : List ℕ) (n kind number : ℕ) (name : List ℕ) (n' : ℕ) (b' : List ℕ) : Type 0 where
  -- the list was good and is good, with one record more
  pub before : read_labels_rule (take n b) ≡ tells (records (take n b))
  pub after : read_labels_rule (take n' b') ≡ tells (suc (records (take n b)))
  -- the lookup gives the written name, trimmed: its place and length, and the bytes there
  pub found : find_label_rule (take n' b') kind number ≡ tells (at (n + head_size, trimmed_length name))
  pub text : take (trimmed_length name) (drop (n + head_size) (take n' b')) ≡ take (trimmed_length name) name
  -- and every other kind and number that may be asked for gives what it gave (one that may not comes with the list's
  -- length, which grew: `Faults`)
  pub others : (k m : ℕ) → key_refusal k m ≡ 0 → ((k ≡ kind) × (m ≡ number) → ⊥) → find_label_rule (take n' b') k m ≡ find_label_rule (take n b) k m

-- whenever the writer does not refuse
abbrev pub WrittenReads : Type 0
WrittenReads =
    (b : List ℕ) (n kind number : ℕ) (name : List ℕ) (n' : ℕ) (b' : List ℕ)
    → add_rule b n kind number name ≡ (tells n', b')
    → Written b n kind number name n' b'
