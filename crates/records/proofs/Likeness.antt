-- Records of one kind and number. A lookup sees no more of a record, so that it finds the same in two lists whose
-- records are alike. Assumes nothing.
use mathlib.Core.Path.{◌≡◌, sym}
use mathlib.Core.List.{List, ◌++◌}
use Prim.Native.Nat.{ℕ, ◌≤◌, ◌<◌}
use lib.Dec.{eqb}
use lib.ListN.{length, drop, take-append-drop}
use Rattle.records.proofs.Fronts.{kind_front, number_front}
use Rattle.records.proofs.Goodness.{good_passes, record_front, front, front_sound}
use Rattle.records.proofs.Walking.{last_same, last_le}
use Rattle.records.specs.Record.{record_size, kind_of, number_in, place_of, record_at, records, is_record, record_of, is_fresh, fault_in, list_refusal}

pub record Alike (x y : List ℕ) : Type 0 where
  pub kind : kind_of x ≡ kind_of y
  pub number : number_in x ≡ number_in y

-- a whole record, and the same with bytes behind it
pub alike_front : (x y : List ℕ) → record_size (kind_of x) ≤ length x → Alike x (x ++ y)
alike_front x y h = record { kind = sym (kind_front x y h); number = sym (number_front x y h) }

pub record_alike : (x y : List ℕ) → Alike x y → (kind number : ℕ) → is_record x kind number ≡ is_record y kind number
unfolding is_record
record_alike x y a kind number = rw (a.kind, a.number)

-- two lists whose first n records are alike, one by one
abbrev pub AlikeTo : List ℕ → List ℕ → ℕ → Type 0
AlikeTo l m n = (k : ℕ) → k < n → Alike (record_at l k) (record_at m k)

pub record_of_alike : (l m : List ℕ) (n : ℕ) → AlikeTo l m n → (kind number : ℕ) → record_of l kind number n ≡ record_of m kind number n
unfolding record_of
record_of_alike l m n a kind number =
    last_same (λ i. is_record (record_at l i) kind number) (λ i. is_record (record_at m i) kind number) n
    (λ i h. record_alike (record_at l i) (record_at m i) (a i h) kind number)

pub record_of_le : (l : List ℕ) (kind number n : ℕ) → record_of l kind number n ≤ n
unfolding record_of
record_of_le l kind number n = last_le (λ k. is_record (record_at l k) kind number) n

-- ---- a good list's records, and those of a list that begins with it

pub alike_more : (l r : List ℕ) → list_refusal l ≡ 0 → AlikeTo l (l ++ r) (records l)
alike_more l r g k h = rw (record_front l r k h) (alike_front (record_at l k) r (good_passes l g k h).body.whole)

-- behind sound records, what is fresh is what they have not
pub fresh_front : (l : List ℕ) (n : ℕ) → fault_in l n ≡ 0 → (kind number : ℕ) → is_fresh (front l n) kind number ≡ eqb (record_of l kind number n) 0
unfolding is_fresh
fresh_front l n e kind number =
    let f = front_sound l n e in
    let a : AlikeTo (front l n) l (records (front l n)) = rw (take-append-drop (place_of l n) l) at (alike_more (front l n) (drop (place_of l n) l) f.0) in
    let b : record_of (front l n) kind number (records (front l n)) ≡ record_of l kind number (records (front l n)) =
    record_of_alike (front l n) l (records (front l n)) a kind number in
    rw (b, f.1)
