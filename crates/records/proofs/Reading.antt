-- Laws for a loop that reads a list record by record: it carries how many records passed and where the next begins, and
-- leaves off at the first that does not pass, or at the end. Assumes nothing.
use mathlib.Core.Path.{◌≡◌, refl, sym, ◌∙◌}
use mathlib.Core.Bool.{Bool, true, false, cond, not, ◌&&◌}
use mathlib.Core.List.{List}
use Prim.Native.Nat.{ℕ, suc, ◌+◌, ◌≤◌, ◌<◌}
use native.Mathlib.Numerals.{add-one}
use native.Mathlib.Omega.{arith}
use lib.Dec.{eqb}
use lib.ListN.{length, take, drop}
use borrow.Author.Tests.{eqb-true, eqb-false, ne_eqb}
use Rattle.strlib.proofs.Pointing.{either}
use Rattle.strlib.proofs.Refusing.{and_both}
use Rattle.records.proofs.Goodness.{fault_first, record_room, record_size_lem}
use Rattle.records.proofs.Likeness.{fresh_front}
use Rattle.records.proofs.Placing.{faulty_offset}
use Rattle.records.proofs.Sizes.{size_least, records_is, records_reach, place_zero, place_suc, place_le}
use Rattle.records.specs.Record.{record_size, kind_of, number_in, place_of, record_at, records, is_record, record_of, is_fresh, behind_refusal, record_refusal}
use Rattle.records.specs.Record.{earlier, fault_in, list_refusal, fault_offset}
use Rattle.records.specs.Walk.{last_of}

-- what a record is, as two equations
pub record_yes : (x : List ℕ) (kind number : ℕ) → is_record x kind number ≡ true → (kind_of x ≡ kind) × (number_in x ≡ number)
unfolding is_record
record_yes x kind number e =
    let b = and_both (eqb (kind_of x) kind) (eqb (number_in x) number) e in
    (eqb-true (kind_of x) kind b.0, eqb-true (number_in x) number b.1)

pub record_no : (x : List ℕ) (kind number : ℕ) → is_record x kind number ≡ false → kind_of x ≡ kind → number_in x ≡ number → ⊥
unfolding is_record
record_no x kind number e f g = go (eqb (kind_of x) kind) refl e
  where
    go : (b : Bool) → eqb (kind_of x) kind ≡ b → (b && eqb (number_in x) number) ≡ false → ⊥
    go true h i = eqb-false (number_in x) number i g
    go false h i = eqb-false (kind_of x) kind h f

-- the first n records pass, and the next begins at `place`
pub record Reached (l : List ℕ) (n place : ℕ) : Type 0 where
  pub sound : fault_in l n ≡ 0
  pub next : place ≡ place_of l n
  pub within : place ≤ length l
  pub small : n ≤ place

pub reached_start : (l : List ℕ) → Reached l 0 0
unfolding fault_in
reached_start l = record { sound = refl; next = sym (place_zero l); within = omega arith; small = omega arith }

module _ (l : List ℕ) (n place : ℕ) (r : Reached l n place) where
  here : behind_refusal (take place l) (drop place l) ≡ record_refusal l n
  unfolding record_refusal record_at
  here = rw r.next

  more : place < length l → n < records l
  more h = either (records l) n (λ (i : records l ≤ n). absurd (omega (arith, place_le l (records l) n i, records_reach l, r.next))) (λ (i : n < records l). i)

  -- what is new behind the records that were read
  reached_fresh : (kind number : ℕ) → is_fresh (take place l) kind number ≡ eqb (record_of l kind number n) 0
  reached_fresh kind number = rw r.next (fresh_front l n r.sound kind number)

  module _ (e : behind_refusal (take place l) (drop place l) ≡ 0) where
    pub reached_next : Reached l (n + 1) (place + record_size (kind_of (drop place l)))
    unfolding fault_in earlier record_at
    reached_next =
        let z : record_refusal l n ≡ 0 = sym here ∙ e in
        let s : record_size (kind_of (drop place l)) ≡ record_size (kind_of l) = rw r.next (record_size_lem l n) in
        rw add-one
        record {
          sound = rw r.sound z;
          next = omega (arith, place_suc l n, r.next, s);
          within = omega (arith, place_suc l n, r.next, s, record_room l n z);
          small = omega (arith, r.small, size_least (kind_of (drop place l)));
        }

  pub reached_refusal : place < length l → (k : ℕ) → k ≡ behind_refusal (take place l) (drop place l) → (k ≡ 0 → ⊥) → k ≡ list_refusal l
  unfolding list_refusal
  reached_refusal h k e f =
      e ∙ here ∙ sym (fault_first l (records l) n (more h) r.sound (λ (z : record_refusal l n ≡ 0). f (e ∙ here ∙ z)))

  -- where the next record is faulty, the list's offset is its place
  pub reached_offset : place < length l → (k : ℕ) → k ≡ behind_refusal (take place l) (drop place l) → (k ≡ 0 → ⊥) → place ≡ fault_offset l
  reached_offset h k e f =
      r.next ∙ sym (faulty_offset l n (more h) r.sound (λ (z : record_refusal l n ≡ 0). f (e ∙ here ∙ z)))

  module _ (h : length l ≤ place) where
    pub reached_count : n ≡ records l
    reached_count = sym (records_is l n (omega (arith, r.next, r.within)))

    pub reached_good : 0 ≡ list_refusal l
    unfolding list_refusal
    reached_good = sym (rw (← reached_count) r.sound)

-- a kind and number are new behind one record more where they are not its own, and were new
pub fresh_next : (l : List ℕ) (n place : ℕ) → Reached l n place → behind_refusal (take place l) (drop place l) ≡ 0 → (kind number : ℕ)
    → is_fresh (take (place + record_size (kind_of (drop place l))) l) kind number ≡ (not (is_record (drop place l) kind number) && is_fresh (take place l) kind number)
unfolding record_of last_of record_at
fresh_next l n place r e kind number =
    rw (reached_fresh l (n + 1) (place + record_size (kind_of (drop place l))) (reached_next l n place r e) kind number, reached_fresh l n place r kind number, add-one, r.next)
    (go (is_record (drop (place_of l n) l) kind number))
  where
    go : (b : Bool) → eqb (cond b (suc n) (record_of l kind number n)) 0 ≡ (not b && eqb (record_of l kind number n) 0)
    go true = ne_eqb (suc n) 0 (λ (z : suc n ≡ 0). omega arith)
    go false = refl

-- behind nothing all is new
pub fresh_none : (l : List ℕ) (kind number : ℕ) → is_fresh (take 0 l) kind number ≡ true
unfolding record_of last_of
fresh_none l kind number = reached_fresh l 0 0 (reached_start l) kind number
