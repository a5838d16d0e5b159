-- The label list: 01, "Cue lines and labels", second paragraph, and 02, W2: every refusal comes with an offset. Its
-- records, what they are refused with, and the faulty record's place are `records`'. Assumes nothing.
use Rattle.std.specs.Prelude.{ℕ, zero, suc, ◌+◌, ◌-◌, cond, List, leb, length, take, Option, Some, None, Result, Ok, Err}
use Rattle.strlib.specs.Pointer.{pointer}
use Rattle.strlib.specs.Refusal.{Sought, nowhere, at, refusal_number}
use Rattle.strlib.specs.Store.{put}
use Rattle.strlib.specs.declared.StrPtr.{StrPtr}
use Rattle.cutting.specs.Cutting.{trimmed_length}
use Rattle.records.specs.Record.{head_size, record_size, name_in, place_of, record_at, records, record_of, earlier, list_refusal, fault_offset}
use Rattle.records.specs.Record.{key_refusal, new_refusal, label_bytes}
use Rattle.records.specs.Told.{Told, refused_at, tells, told, ruled_at}
use Rattle.records.specs.declared.Fault.{Fault}
use Rattle.desk.specs.declared.label.find.LabelPlace.{LabelPlace}

-- ---- the reader

unfoldable pub read_labels_rule : List ℕ → Told ℕ
read_labels_rule l = told (list_refusal l) (fault_offset l) (records l)

-- ---- the lookup

-- where the trimmed name of record k lies, k being counted from 1: its place in the list, from 0, and its length
unfoldable pub name_of : List ℕ → ℕ → Sought (ℕ × ℕ)
name_of l zero = nowhere
name_of l (suc k) = at (place_of l k + head_size, trimmed_length (name_in (record_at l k)))

-- a kind or number that is asked for and is none is no record's fault: it comes with the list's length
unfoldable pub find_label_rule : List ℕ → ℕ → ℕ → Told (Sought (ℕ × ℕ))
find_label_rule l kind number =
    told (earlier (list_refusal l) (key_refusal kind number)) (fault_offset l) (name_of l (record_of l kind number (records l)))

-- the paper's value of a place, and of the answer
abbrev pub place_sought : Option LabelPlace → Sought (ℕ × ℕ)
place_sought (Some p) = at (p.place, p.length)
place_sought None = nowhere

abbrev pub label_placed : Result (Option LabelPlace) Fault → Told (Sought (ℕ × ℕ))
label_placed (Ok p) = tells (place_sought p)
label_placed (Err f) = refused_at (refusal_number f.refusal) f.offset

-- the part that the read-only form cuts, as a string that fills its room: the empty part at the list's front on a
-- refusal or no record
unfoldable pub name_part : Told (Sought (ℕ × ℕ)) → StrPtr
name_part (refused_at n offset) = pointer 0 0 0
name_part (tells nowhere) = pointer 0 0 0
name_part (tells (at (place, n))) = pointer place n n

-- ---- the writer

-- the list is the buffer's first n bytes; that it has so many is tested before all else
unfoldable pub add_refusal : List ℕ → ℕ → ℕ → ℕ → List ℕ → ℕ
add_refusal b n kind number name = cond (leb n (length b)) (earlier (list_refusal (take n b)) (new_refusal (take n b) (length b - n) kind number name)) 4

-- its offset: the faulty record's, else the list's length, which is n, also where the buffer has not so many bytes
unfoldable pub add_offset : List ℕ → ℕ → ℕ
add_offset b n = cond (leb n (length b)) (fault_offset (take n b)) n

-- the new length of the list, and the buffer, in which all other bytes stay
unfoldable pub add_rule : List ℕ → ℕ → ℕ → ℕ → List ℕ → Told ℕ × List ℕ
add_rule b n kind number name =
    ruled_at (add_refusal b n kind number name) (add_offset b n) (n + record_size kind) (put b n (label_bytes kind number name)) b
