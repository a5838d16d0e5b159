-- Sizes of records and how many begin in a list: a size is 19, so that the count lies between two bounds. Assumes
-- nothing.
use mathlib.Core.Path.{◌≡◌, refl}
use mathlib.Core.List.{List, []}
use Prim.Native.Nat.{ℕ, suc, ◌+◌, ◌*◌, ◌≤◌, ◌<◌}
use native.Mathlib.Nat.{mul-zero, mul-suc, mul-le-mul_left}
use native.Mathlib.Omega.{arith}
use lib.ListN.{length}
use Rattle.records.specs.Record.{head_size, width_of, record_size, kind_of, place_of, records}

pub size_is : (kind : ℕ) → record_size kind ≡ 19
unfolding record_size width_of
size_is kind = refl

pub size_least : (kind : ℕ) → 19 ≤ record_size kind
size_least kind = omega (arith, size_is kind)

pub size_width : (kind : ℕ) → record_size kind ≡ head_size + width_of kind
unfolding record_size
size_width kind = refl

module _ (l : List ℕ) where
  -- the records that begin in a list reach its end, and the last begins before it
  pub records_reach : length l ≤ place_of l (records l)
  unfolding place_of records
  records_reach = rw (size_is (kind_of l)) (omega arith)

  pub records_least : place_of l (records l) < length l + record_size (kind_of l)
  unfolding place_of records
  records_least = rw (size_is (kind_of l)) (omega arith)

  pub records_is : (n : ℕ) → length l ≡ place_of l n → records l ≡ n
  unfolding place_of records
  records_is n h = let i : length l ≡ 19 * n = rw (size_is (kind_of l)) at h in rw (size_is (kind_of l)) (omega arith)

  pub place_zero : place_of l 0 ≡ 0
  unfolding place_of
  place_zero = mul-zero (record_size (kind_of l))

  pub place_suc : (k : ℕ) → place_of l (suc k) ≡ place_of l k + record_size (kind_of l)
  unfolding place_of
  place_suc k = mul-suc (record_size (kind_of l)) k

  pub place_le : (j k : ℕ) → j ≤ k → place_of l j ≤ place_of l k
  unfolding place_of
  place_le j k h = mul-le-mul_left (record_size (kind_of l)) h

  -- one place and a record behind it
  pub place_next : (j k : ℕ) → j < k → place_of l j + record_size (kind_of l) ≤ place_of l k
  place_next j k h = rw place_suc at (place_le (suc j) k h)

  -- a record that is counted begins in the list
  pub place_begins : (k : ℕ) → k < records l → place_of l k < length l
  place_begins k h = omega (arith, place_next k (records l) h, records_least)

pub records_nil : records [] ≡ 0
unfolding records record_size width_of kind_of
records_nil = refl
