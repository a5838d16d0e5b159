-- The records of a label list: 01, "Cue lines and labels", second paragraph; the numbers 13 and 14 and the place of a
-- faulty record: 02, W2. Assumes nothing.
use Rattle.std.specs.Prelude.{ℕ, zero, suc, ◌+◌, ◌-◌, ◌*◌, ◌/◌, ◌%◌, Bool, cond, ◌&&◌, List, [], ◌∷◌, ◌++◌, leb, eqb, length, get_or, take, drop, replicate}
use Rattle.strlib.specs.Pointer.{all}
use Rattle.strlib.specs.Refusal.{first}
use Rattle.records.specs.Walk.{last_of, lead_of}

-- ---- a record: the kind, two bytes of number, and the name

-- bytes before a name
abbrev pub head_size : ℕ
head_size = 3

-- characters of a name, and bytes of a record, of a kind: the same for both
unfoldable pub width_of : ℕ → ℕ
width_of kind = 16

unfoldable pub record_size : ℕ → ℕ
record_size kind = head_size + width_of kind

-- the kinds and their greatest numbers: 1, microphones, to 64; 2, loudspeakers, to 128; 0 for what is no kind
unfoldable pub limit_of : ℕ → ℕ
limit_of kind = cond (eqb kind 1) 64 (cond (eqb kind 2) 128 0)

unfoldable pub is_kind : ℕ → Bool
is_kind kind = leb 1 (limit_of kind)

unfoldable pub is_number_of : ℕ → ℕ → Bool
is_number_of kind number = leb 1 number && leb number (limit_of kind)

-- the characters of a name are 32 to 126
unfoldable pub is_name : List ℕ → Bool
is_name xs = all (λ x. leb 32 x && leb x 126) xs

-- ---- the record at the front of some bytes, and the records of a list

unfoldable pub kind_of : List ℕ → ℕ
kind_of rest = get_or rest 0 0

-- the high byte first
unfoldable pub number_in : List ℕ → ℕ
number_in rest = get_or rest 1 0 * 256 + get_or rest 2 0

unfoldable pub name_in : List ℕ → List ℕ
name_in rest = take (width_of (kind_of rest)) (drop head_size rest)

-- record k, counted from 0, lies at k times the size of the first: all are of one size
unfoldable pub place_of : List ℕ → ℕ → ℕ
place_of l k = record_size (kind_of l) * k

-- its bytes and all behind them
unfoldable pub record_at : List ℕ → ℕ → List ℕ
record_at l k = drop (place_of l k) l

-- how many records begin in a list
unfoldable pub records : List ℕ → ℕ
records l = (length l + (record_size (kind_of l) - 1)) / record_size (kind_of l)

unfoldable pub is_record : List ℕ → ℕ → ℕ → Bool
is_record rest kind number = eqb (kind_of rest) kind && eqb (number_in rest) number

-- the record of a kind and number among the first n, counted from 1; 0 for none
unfoldable pub record_of : List ℕ → ℕ → ℕ → ℕ → ℕ
record_of l kind number n = last_of (λ k. is_record (record_at l k) kind number) n

-- no record of the list has the kind and number
unfoldable pub is_fresh : List ℕ → ℕ → ℕ → Bool
is_fresh l kind number = eqb (record_of l kind number (records l)) 0

-- ---- what a record is refused with

-- the record at the front of `rest` by itself, in this order: kind, short body, number, name
abbrev pub body_checks : List ℕ → List (ℕ × Bool)
body_checks rest =
    (11, is_kind (kind_of rest)) ∷ (13, leb (record_size (kind_of rest)) (length rest)) ∷ (12, is_number_of (kind_of rest) (number_in rest)) ∷ (2, is_name (name_in rest)) ∷ []

unfoldable pub body_refusal : List ℕ → ℕ
body_refusal rest = first (body_checks rest)

-- and behind the list `met`, in which none may have its kind and number
abbrev pub behind_checks : List ℕ → List ℕ → List (ℕ × Bool)
behind_checks met rest = body_checks rest ++ ((14, is_fresh met (kind_of rest) (number_in rest)) ∷ [])

unfoldable pub behind_refusal : List ℕ → List ℕ → ℕ
behind_refusal met rest = first (behind_checks met rest)

-- record k, behind those before it
unfoldable pub record_refusal : List ℕ → ℕ → ℕ
record_refusal l k = behind_refusal (take (place_of l k) l) (record_at l k)

-- a refusal, or where it is 0 the one behind it
unfoldable pub earlier : ℕ → ℕ → ℕ
earlier zero m = m
earlier (suc k) m = suc k

-- what the first faulty one of the first n records is refused with, 0 for none
unfoldable pub fault_in : List ℕ → ℕ → ℕ
fault_in l zero = 0
fault_in l (suc n) = earlier (fault_in l n) (record_refusal l n)

-- the list's refusal
unfoldable pub list_refusal : List ℕ → ℕ
list_refusal l = fault_in l (records l)

-- how many of the first n records stand before the first faulty one
unfoldable pub sound_in : List ℕ → ℕ → ℕ
sound_in l n = lead_of (λ k. eqb (record_refusal l k) 0) n

-- the offset that comes with a refusal, from 0: that of the first faulty record's kind byte; in a good list the list's
-- length
unfoldable pub fault_offset : List ℕ → ℕ
fault_offset l = place_of l (sound_in l (records l))

-- what a kind and a number that are asked for or added are refused with
abbrev pub key_checks : ℕ → ℕ → List (ℕ × Bool)
key_checks kind number = (11, is_kind kind) ∷ (12, is_number_of kind number) ∷ []

unfoldable pub key_refusal : ℕ → ℕ → ℕ
key_refusal kind number = first (key_checks kind number)

-- what a new record is refused with behind a good list, after which the buffer has `room` bytes: first what looks at no
-- character
abbrev pub form_checks : ℕ → ℕ → List ℕ → List (ℕ × Bool)
form_checks kind number name = key_checks kind number ++ ((4, leb (length name) (width_of kind)) ∷ [])

abbrev pub new_checks : List ℕ → ℕ → ℕ → ℕ → List ℕ → List (ℕ × Bool)
new_checks l room kind number name =
    form_checks kind number name ++ ((2, is_name name) ∷ (14, is_fresh l kind number) ∷ (6, leb (record_size kind) room) ∷ [])

unfoldable pub new_refusal : List ℕ → ℕ → ℕ → ℕ → List ℕ → ℕ
new_refusal l room kind number name = first (new_checks l room kind number name)

-- ---- a record's bytes

-- a name filled up with blanks
unfoldable pub padded : ℕ → List ℕ → List ℕ
padded width name = name ++ replicate (width - length name) 32

-- the kind, the number with the high byte first, and the name
unfoldable pub label_bytes : ℕ → ℕ → List ℕ → List ℕ
label_bytes kind number name = (kind ∷ number / 256 ∷ number % 256 ∷ []) ++ padded (width_of kind) name

-- what is written whatever is given: a byte of the kind, two of the number, and so much of the name as a record has
-- room for
unfoldable pub fitted_bytes : ℕ → ℕ → List ℕ → List ℕ
fitted_bytes kind number name = label_bytes (kind % 256) (number % 65536) (take (width_of (kind % 256)) name)
