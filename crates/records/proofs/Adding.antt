-- A new record's bytes behind a good list: they pass, since what is asked of a new record is what the reader asks, and
-- the list has that record more and else what it had. Assumes nothing.
use mathlib.Core.Path.{◌≡◌, refl, sym, ap, ◌∙◌}
use mathlib.Core.Bool.{Bool, true, false, ◌&&◌}
use mathlib.Core.List.{List, ◌++◌}
use Prim.Native.Nat.{ℕ, suc, ◌+◌, ◌≤◌}
use native.Mathlib.Omega.{arith}
use lib.Dec.{eqb}
use lib.ListN.{length, take, drop}
use borrow.Author.Tests.{eqb-true, eq-eqb}
use Rattle.cutting.proofs.Bounding.{trimmed_le}
use Rattle.cutting.specs.Cutting.{trimmed_length}
use Rattle.records.proofs.Bytes.{label_kind, label_number, label_length, label_name}
use Rattle.records.proofs.Checking.{Writable}
use Rattle.records.proofs.Fronts.{unrefused}
use Rattle.records.proofs.Goodness.{more_good, more_records, more_place, more_last, name_text}
use Rattle.records.proofs.Likeness.{alike_more, record_of_alike}
use Rattle.records.proofs.Limits.{padded_name, padded_text}
use Rattle.records.specs.Record.{head_size, width_of, record_size, kind_of, name_in, place_of, record_at, records, is_record, record_of, behind_refusal, list_refusal}
use Rattle.records.specs.Record.{padded, label_bytes}
use Rattle.records.specs.Walk.{last_of}

module _ (l : List ℕ) (room kind number : ℕ) (name : List ℕ) (w : Writable l room kind number name) where
  abbrev rec : List ℕ
  rec = label_bytes kind number name

  rec_length : length rec ≡ record_size (kind_of rec)
  rec_length = label_length kind number name w.short ∙ ap record_size (sym (label_kind kind number name))

  rec_passes : behind_refusal l rec ≡ 0
  rec_passes =
      unrefused l rec
      record {
        body =
            record {
              kind = rw (label_kind kind number name) w.kinds;
              whole = omega (arith, rec_length);
              number = rw (label_kind kind number name, label_number kind number name) w.numbers;
              name = rw (label_name kind number name w.short) (padded_name (width_of kind) name w.plain);
            };
        fresh = rw (label_kind kind number name, label_number kind number name) w.fresh;
      }

  rec_is : is_record rec kind number ≡ true
  unfolding is_record
  rec_is = rw (label_kind kind number name, label_number kind number name, eq-eqb kind kind refl, eq-eqb number number refl)

  rec_other : (k m : ℕ) → ((k ≡ kind) × (m ≡ number) → ⊥) → is_record rec k m ≡ false
  unfolding is_record
  rec_other k m h = rw (label_kind kind number name, label_number kind number name) (go (eqb kind k) (eqb number m) refl refl)
    where
      go : (a b : Bool) → eqb kind k ≡ a → eqb number m ≡ b → (a && b) ≡ false
      go true true f g = absurd (h (sym (eqb-true kind k f), sym (eqb-true number m g)))
      go true false f g = refl
      go false b f g = refl

  module _ (g : list_refusal l ≡ 0) where
    pub added_good : list_refusal (l ++ rec) ≡ 0
    added_good = more_good l rec g rec_passes rec_length

    pub added_records : records (l ++ rec) ≡ suc (records l)
    added_records = more_records l rec g rec_passes rec_length

    pub added_place : place_of (l ++ rec) (records l) ≡ length l
    added_place = more_place l rec g rec_passes rec_length

    added_last : record_at (l ++ rec) (records l) ≡ rec
    added_last = more_last l rec g rec_passes rec_length

    pub added_name : name_in (record_at (l ++ rec) (records l)) ≡ padded (width_of kind) name
    added_name = rw added_last (label_name kind number name w.short)

    pub added_record : record_of (l ++ rec) kind number (records (l ++ rec)) ≡ suc (records l)
    unfolding record_of last_of
    added_record = rw (added_records, added_last, rec_is)

    pub added_other : (k m : ℕ) → ((k ≡ kind) × (m ≡ number) → ⊥) → record_of (l ++ rec) k m (records (l ++ rec)) ≡ record_of l k m (records l)
    unfolding record_of last_of
    added_other k m h =
        rw (added_records, added_last, rec_other k m h) (sym (record_of_alike l (l ++ rec) (records l) (alike_more l rec g) k m))

    -- the trimmed name, where it lies
    pub added_text : take (trimmed_length name) (drop (length l + head_size) (l ++ rec)) ≡ take (trimmed_length name) name
    added_text =
        let h : trimmed_length name ≤ width_of (kind_of (record_at (l ++ rec) (records l))) =
        rw (added_last, label_kind kind number name) (omega (arith, trimmed_le name, w.short)) in
        (rw (added_place, added_name) at (name_text (l ++ rec) (records l) (trimmed_length name) h)) ∙ padded_text (width_of kind) name
