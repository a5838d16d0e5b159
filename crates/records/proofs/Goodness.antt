-- The shape of a good list: each record passes behind those before it, record k lies at k times the first record's
-- size, and a record that passes behind a good list makes a good list of one record more. Assumes nothing.
use mathlib.Core.Path.{◌≡◌, refl, sym, ap, ◌∙◌}
use mathlib.Core.List.{List, [], ◌∷◌, ◌++◌}
use Prim.Native.Nat.{ℕ, zero, suc, ◌+◌, ◌-◌, ◌≤◌, ◌<◌}
use native.Mathlib.Nat.{mul-zero}
use native.Mathlib.Omega.{arith}
use lib.ListN.{length, take, drop, length-append, length-drop}
use lib.Seq.{drop-drop, take-take, take-add, take_at, drop_at, take-append-le, drop-append-le}
use Rattle.strlib.proofs.Pointing.{either}
use Rattle.records.proofs.Fronts.{Passes, passes, refusal_front, record_bytes, bytes_length, bytes_refusal}
use Rattle.records.proofs.Sizes.{size_is, size_least, records_reach, records_is, records_nil, place_zero, place_suc}
use Rattle.records.proofs.Sizes.{place_begins}
use Rattle.records.proofs.Limits.{earlier_none, earlier_found, earlier_zero}
use Rattle.records.proofs.Walking.{below_suc}
use Rattle.records.specs.Record.{head_size, width_of, record_size, kind_of, name_in, place_of, record_at, records, behind_refusal, record_refusal, earlier, fault_in, list_refusal}

-- ---- a list is good exactly where each of its records passes behind those before it

module _ (l : List ℕ) where
  pub fault_each : (n : ℕ) → fault_in l n ≡ 0 → (k : ℕ) → k < n → record_refusal l k ≡ 0
  unfolding fault_in
  fault_each zero e k h = absurd (omega arith)
  fault_each (suc n) e k h =
      let b = earlier_none (fault_in l n) (record_refusal l n) e in
      below_suc (λ k. record_refusal l k ≡ 0) n (fault_each n b.0) b.1 k h

  pub each_fault : (n : ℕ) → ((k : ℕ) → k < n → record_refusal l k ≡ 0) → fault_in l n ≡ 0
  unfolding fault_in earlier
  each_fault zero f = refl
  each_fault (suc n) f = rw (each_fault n (λ k h. f k (omega arith))) (f n (omega arith))

  pub good_each : list_refusal l ≡ 0 → (k : ℕ) → k < records l → record_refusal l k ≡ 0
  unfolding list_refusal
  good_each g = fault_each (records l) g

  pub each_good : ((k : ℕ) → k < records l → record_refusal l k ≡ 0) → list_refusal l ≡ 0
  unfolding list_refusal
  each_good f = each_fault (records l) f

  -- the first faulty record decides, whatever stands behind it
  pub fault_first : (n k : ℕ) → k < n → fault_in l k ≡ 0 → (record_refusal l k ≡ 0 → ⊥) → fault_in l n ≡ record_refusal l k
  unfolding fault_in
  fault_first zero k h f e = absurd (omega arith)
  fault_first (suc n) k h f e =
      either (suc k) n
      (λ (i : k < n). rw (fault_first n k i f e) (earlier_found (record_refusal l k) (record_refusal l n) e))
      (λ (i : n < suc k). let z : n ≡ k = omega arith in rw z (earlier_zero (fault_in l k) (record_refusal l k) f))

-- ---- a record that passes has the first record's size, and lies in the list whole

module _ (l : List ℕ) where
  pub record_length : (k : ℕ) → length (record_at l k) ≡ length l - place_of l k
  unfolding record_at
  record_length k = length-drop (place_of l k) l

  pub record_size_lem : (k : ℕ) → record_size (kind_of (record_at l k)) ≡ record_size (kind_of l)
  record_size_lem k = size_is (kind_of (record_at l k)) ∙ sym (size_is (kind_of l))

  module _ (k : ℕ) (e : record_refusal l k ≡ 0) where
    pub record_passes : Passes (take (place_of l k) l) (record_at l k)
    unfolding record_refusal
    record_passes = passes (take (place_of l k) l) (record_at l k) e

    pub record_room : place_of l (suc k) ≤ length l
    record_room =
        omega (arith, record_passes.body.whole, record_length k, record_size_lem k, place_suc l k, size_least (kind_of l))

module _ (l : List ℕ) (g : list_refusal l ≡ 0) where
  pub good_passes : (k : ℕ) → k < records l → Passes (take (place_of l k) l) (record_at l k)
  good_passes k h = record_passes l k (good_each l g k h)

  pub good_length : length l ≡ place_of l (records l)
  good_length = go (records l) refl
    where
      go : (n : ℕ) → records l ≡ n → length l ≡ place_of l (records l)
      go zero e = rw e (omega (arith, place_zero l, rw e at (records_reach l)))
      go (suc n) e = omega (arith, records_reach l, rw (← e) at (record_room l n (good_each l g n (omega arith))))

-- where a record that is counted lies, from its own length
pub record_place : (l : List ℕ) (k : ℕ) → k < records l → length l - length (record_at l k) ≡ place_of l k
record_place l k h = omega (arith, record_length l k, place_begins l k h)

-- the front of a whole record's name, in the list
pub name_text : (l : List ℕ) (k n : ℕ) → n ≤ width_of (kind_of (record_at l k)) → take n (drop (place_of l k + head_size) l) ≡ take n (name_in (record_at l k))
unfolding record_at name_in
name_text l k n h = rw (← (drop-drop head_size (place_of l k) l)) (sym (take-take n (width_of (kind_of (record_at l k))) (drop head_size (record_at l k)) h))

-- ---- a list with bytes behind it

module _ (l r : List ℕ) where
  pub place_front : (k : ℕ) → k ≤ records l → place_of (l ++ r) k ≡ place_of l k
  unfolding place_of kind_of
  place_front k h = go l h
    where
      go : (l : List ℕ) → k ≤ records l → place_of (l ++ r) k ≡ place_of l k
      go [] h = let z : k ≡ 0 = omega (arith, records_nil) in rw (z, mul-zero (record_size (kind_of r)), mul-zero (record_size (kind_of [])))
      go (c ∷ l) h = refl

  module _ (k : ℕ) (h : k < records l) where
    reach : place_of l k ≤ length l
    reach = omega (arith, place_begins l k h)

    pub record_front : record_at (l ++ r) k ≡ record_at l k ++ r
    unfolding record_at
    record_front = rw (place_front k (omega arith)) (drop-append-le (place_of l k) l r reach)

    pub before_front : take (place_of (l ++ r) k) (l ++ r) ≡ take (place_of l k) l
    before_front = rw (place_front k (omega arith)) (take-append-le (place_of l k) l r reach)

    -- a record that passes is not touched by what stands behind the list
    pub refusal_stays : record_refusal l k ≡ 0 → record_refusal (l ++ r) k ≡ 0
    unfolding record_refusal
    refusal_stays e = rw (before_front, record_front) (refusal_front (record_at l k) r (record_passes l k e).body.whole (take (place_of l k) l) ∙ e)

-- ---- a record that passes behind a good list

module _ (l r : List ℕ) (g : list_refusal l ≡ 0) (p : behind_refusal l r ≡ 0) (s : length r ≡ record_size (kind_of r)) where
  pub more_size : record_size (kind_of (l ++ r)) ≡ record_size (kind_of r)
  more_size = size_is (kind_of (l ++ r)) ∙ sym (size_is (kind_of r))

  pub more_place : place_of (l ++ r) (records l) ≡ length l
  more_place = place_front l r (records l) (omega arith) ∙ sym (good_length l g)

  pub more_records : records (l ++ r) ≡ suc (records l)
  more_records = records_is (l ++ r) (suc (records l)) (rw (place_suc, more_place, more_size, length-append, s))

  pub more_before : take (place_of (l ++ r) (records l)) (l ++ r) ≡ l
  more_before = rw more_place (take_at l r (length l) refl)

  pub more_last : record_at (l ++ r) (records l) ≡ r
  unfolding record_at
  more_last = rw more_place (drop_at l r (length l) refl)

  more_refusal : record_refusal (l ++ r) (records l) ≡ 0
  unfolding record_refusal
  more_refusal = rw (more_before, more_last) p

  pub more_good : list_refusal (l ++ r) ≡ 0
  more_good =
      each_good (l ++ r)
      (rw more_records
      (below_suc (λ k. record_refusal (l ++ r) k ≡ 0) (records l) (λ k h. refusal_stays l r k h (good_each l g k h)) more_refusal))

-- ---- the first records of a good list

pub nil_good : list_refusal [] ≡ 0
unfolding list_refusal fault_in
nil_good = rw records_nil

abbrev pub front : List ℕ → ℕ → List ℕ
front l k = take (place_of l k) l

-- one record more of them
module _ (l : List ℕ) (k : ℕ) where
  pub front_suc : front l (suc k) ≡ front l k ++ record_bytes (record_at l k)
  unfolding record_at
  front_suc = rw (place_suc, record_size_lem l k) (take-add (place_of l k) (record_size (kind_of l)) l)

  -- so many that are good, and one that passes behind them
  pub front_more : (list_refusal (front l k) ≡ 0) × (records (front l k) ≡ k) → record_refusal l k ≡ 0
      → (list_refusal (front l (suc k)) ≡ 0) × (records (front l (suc k)) ≡ suc k)
  front_more f p =
      let w : record_size (kind_of (record_at l k)) ≤ length (record_at l k) = (record_passes l k p).body.whole in
      let s : length (record_bytes (record_at l k)) ≡ record_size (kind_of (record_bytes (record_at l k))) = bytes_length (record_at l k) w in
      let r : behind_refusal (front l k) (record_bytes (record_at l k)) ≡ 0 = bytes_refusal (record_at l k) w (front l k) ∙ unfold record_refusal in p in
      rw front_suc
      (more_good (front l k) (record_bytes (record_at l k)) f.0 r s, more_records (front l k) (record_bytes (record_at l k)) f.0 r s ∙ ap suc f.1)

pub front_none : (l : List ℕ) → (list_refusal (front l 0) ≡ 0) × (records (front l 0) ≡ 0)
front_none l = rw (place_zero l) (nil_good, records_nil)

-- so many whole records are a good list of so many
pub front_sound : (l : List ℕ) (k : ℕ) → fault_in l k ≡ 0 → (list_refusal (front l k) ≡ 0) × (records (front l k) ≡ k)
unfolding fault_in
front_sound l zero e = front_none l
front_sound l (suc k) e = let b = earlier_none (fault_in l k) (record_refusal l k) e in front_more l k (front_sound l k b.0) b.1
