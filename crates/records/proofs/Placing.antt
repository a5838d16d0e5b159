-- The offset that comes with a list's refusal is the place of its first faulty record, in a good list its length.
-- Assumes nothing.
use mathlib.Core.Path.{◌≡◌, refl, sym}
use mathlib.Core.List.{List}
use Prim.Native.Nat.{ℕ, ◌≤◌, ◌<◌}
use native.Mathlib.Omega.{arith}
use lib.Dec.{eqb}
use lib.ListN.{length}
use borrow.Author.Tests.{eqb-true, eqb-false, eq-eqb, ne_eqb}
use Rattle.strlib.proofs.Pointing.{either}
use Rattle.records.proofs.Goodness.{fault_each, each_fault, good_each, each_good, good_length, fault_first}
use Rattle.records.proofs.Sizes.{place_begins}
use Rattle.records.proofs.Walking.{lead_before, lead_fails, lead_all, lead_is}
use Rattle.records.specs.Placed.{Placed}
use Rattle.records.specs.Record.{place_of, records, record_refusal, fault_in, sound_in, list_refusal, fault_offset}

module _ (l : List ℕ) where
  sound_before : (k : ℕ) → k < sound_in l (records l) → record_refusal l k ≡ 0
  unfolding sound_in
  sound_before k h = eqb-true (record_refusal l k) 0 (lead_before (λ k. eqb (record_refusal l k) 0) (records l) k h)

  sound_good : list_refusal l ≡ 0 → sound_in l (records l) ≡ records l
  unfolding sound_in
  sound_good g = lead_all (λ k. eqb (record_refusal l k) 0) (records l) (λ k h. eq-eqb (record_refusal l k) 0 (good_each l g k h))

  module _ (f : list_refusal l ≡ 0 → ⊥) where
    sound_lt : sound_in l (records l) < records l
    sound_lt =
        either (records l) (sound_in l (records l))
        (λ (h : records l ≤ sound_in l (records l)). absurd (f (each_good l (λ k i. sound_before k (omega arith)))))
        (λ (h : sound_in l (records l) < records l). h)

    sound_faulty : record_refusal l (sound_in l (records l)) ≡ 0 → ⊥
    unfolding sound_in
    sound_faulty e = eqb-false (record_refusal l (sound_in l (records l))) 0 (lead_fails (λ k. eqb (record_refusal l k) 0) (records l) sound_lt) e

    sound_refusal : record_refusal l (sound_in l (records l)) ≡ list_refusal l
    unfolding list_refusal
    sound_refusal = sym (fault_first l (records l) (sound_in l (records l)) sound_lt (each_fault l (sound_in l (records l)) sound_before) sound_faulty)

  pub good_offset : list_refusal l ≡ 0 → fault_offset l ≡ length l
  unfolding fault_offset
  good_offset g = rw (sound_good g) (sym (good_length l g))

  -- the first faulty record's place, by the record
  pub faulty_offset : (n : ℕ) → n < records l → fault_in l n ≡ 0 → (record_refusal l n ≡ 0 → ⊥) → fault_offset l ≡ place_of l n
  unfolding fault_offset sound_in
  faulty_offset n h e f =
      rw (lead_is (λ k. eqb (record_refusal l k) 0) (records l) n h (λ k i. eq-eqb (record_refusal l k) 0 (fault_each l n e k i)) (ne_eqb (record_refusal l n) 0 f))

pub placed : Placed
unfolding fault_offset
placed l =
    record {
      good = good_offset l;
      faulty = λ f.
          record {
            begins = place_begins l (sound_in l (records l)) (sound_lt l f);
            refusal = sound_refusal l f;
            offset = refl;
            before = sound_before l;
          };
    }
