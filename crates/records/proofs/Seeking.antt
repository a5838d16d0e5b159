-- Laws of a list's records: how many begin in it, where each lies, and a search among them from the last to the first.
-- Assumes nothing.
use mathlib.Core.Path.{◌≡◌, sym, ◌∙◌}
use mathlib.Core.Bool.{Bool, true, false}
use mathlib.Core.List.{List, []}
use Prim.Native.Nat.{ℕ, ◌+◌, ◌-◌, ◌*◌, ◌/◌, ◌≤◌, ◌<◌, ◌^◌}
use native.Mathlib.Omega.{arith}
use lib.ListN.{length, take, drop, length-drop, drop_of_length-le}
use lib.Seq.{take_all}
use mir.Syntax.{w64}
use mir.Val.{Fits}
use borrow.Author.Rules.{rules}
use Rattle.records.proofs.Sizes.{size_is}
use Rattle.records.proofs.Walking.{seek_hit, seek_miss, seek_none}
use Rattle.records.specs.Record.{record_size, kind_of, place_of, record_at, records, is_record, record_of}

module _ (l : List ℕ) (kind size : ℕ) (e : kind ≡ kind_of l) (f : size ≡ record_size kind) where
  size_here : size ≡ 19
  size_here = f ∙ size_is kind

  place : (k : ℕ) → size * k ≡ place_of l k
  unfolding place_of
  place k = rw (f, e)

  pub size_some : 1 ≤ size
  size_some = omega (arith, size_here)

  pub size_none : size ≡ 0 → ⊥
  size_none z = omega (arith, size_here)

  pub count_fits : length l * 1 < 2 ^ 63 → length l + (size - 1) < 2 ^ 64
  count_fits h = omega (arith, size_here)

  pub count_is : (length l + (size - 1)) / size ≡ records l
  unfolding records
  count_is = rw (f, e)

  pub record_past : (k : ℕ) (x : List ℕ) → length l / size < k → x ≡ drop (length l) l → x ≡ record_at l k
  unfolding record_at
  record_past k x h g =
      let i : length l / 19 < k = rw size_here at h in
      let j : length l ≤ place_of l k = rw (← (place k), size_here) (omega arith) in
      g ∙ rw (drop_of_length-le l {i = place_of l k} j, drop_of_length-le l {i = length l} (omega arith))

  module _ (k : ℕ) where
    pub record_fits : k ≤ length l / size → length l * 1 < 2 ^ 63 → Fits w64 (size * k)
    record_fits h g =
        let i : k ≤ length l / 19 = rw size_here at h in
        let j : 19 * k ≤ length l = omega arith in
        record { fits = rw size_here (omega arith) }

    pub record_is : (x : List ℕ) → x ≡ drop (size * k) l → x ≡ record_at l k
    unfolding record_at
    record_is x g = g ∙ rw (place k)

-- what is behind the first bytes
module _ (l : List ℕ) (at : ℕ) where
  pub rest_none : length l < at → take (length l - length l) (drop (length l) l) ≡ drop at l
  rest_none h = rw (drop_of_length-le l {i = at} (omega arith), drop_of_length-le l {i = length l} (omega arith)) (take_all (length l - length l) [] (omega arith))

  pub rest_is : take (length l - at) (drop at l) ≡ drop at l
  rest_is = take_all (length l - at) (drop at l) (rw length-drop (omega arith))

pub ruleset list_laws = (rules, size_some, size_none, count_fits, count_is, rest_none, rest_is, record_past, record_fits, record_is)

-- what is left has the same last
module _ (l : List ℕ) (kind number n k : ℕ) (e : record_of l kind number n ≡ record_of l kind number k) where
  module _ (x : List ℕ) (b : Bool) (h : 0 < k) (f : x ≡ record_at l (k - 1)) (g : b ≡ is_record x kind number) where
    here : b ≡ is_record (record_at l (k - 1)) kind number
    here = rw (← f) g

    pub record_hit : b ≡ true → k ≡ record_of l kind number n
    unfolding record_of
    record_hit t = seek_hit (λ i. is_record (record_at l i) kind number) n k (unfold record_of in e) h (sym here ∙ t)

    pub record_miss : b ≡ false → record_of l kind number n ≡ record_of l kind number (k - 1)
    unfolding record_of
    record_miss t = seek_miss (λ i. is_record (record_at l i) kind number) n k (unfold record_of in e) h (sym here ∙ t)

  pub record_none : k ≤ 0 → 0 ≡ record_of l kind number n
  unfolding record_of
  record_none h = seek_none (λ i. is_record (record_at l i) kind number) n k (unfold record_of in e) h

pub start_at : (l : List ℕ) (kind number k : ℕ) → k ≡ records l → record_of l kind number (records l) ≡ record_of l kind number k
start_at l kind number k e = rw e

pub ruleset seek_laws = (rules, start_at, record_hit, record_miss, record_none)
