-- A list to which the writer added a record reads as good, with the record and all that it had. Assumes nothing.
use mathlib.Core.Path.{◌≡◌, refl, sym, ap, ◌∙◌}
use mathlib.Core.List.{List, ◌++◌}
use Prim.Native.Nat.{ℕ, suc, ◌+◌, ◌-◌}
use native.Mathlib.Omega.{arith}
use lib.ListN.{length, take, length-append, length-take}
use Rattle.strlib.proofs.Storing.{put_head}
use Rattle.strlib.specs.Refusal.{at}
use Rattle.strlib.specs.Store.{put}
use Rattle.cutting.specs.Cutting.{trimmed_length}
use Rattle.records.proofs.Adding.{added_good, added_records, added_place, added_name, added_record, added_other, added_text}
use Rattle.records.proofs.Bytes.{label_length}
use Rattle.records.proofs.Checking.{Writable, key_good}
use Rattle.records.proofs.Likeness.{record_of_le}
use Rattle.records.proofs.Limits.{padded_trimmed}
use Rattle.records.proofs.Telling.{told_yes, ruled_at_gave}
use Rattle.records.specs.Record.{head_size, width_of, record_size, records, record_of, list_refusal, fault_offset, key_refusal, label_bytes}
use Rattle.records.specs.Told.{tells, told}
use Rattle.desk.proofs.LabelAdding.{Adding, adding}
use Rattle.desk.proofs.LabelFinding.{find_good, name_stays}
use Rattle.desk.specs.Label.{read_labels_rule, name_of, find_label_rule, add_refusal, add_offset, add_rule}
use Rattle.desk.specs.LabelWritten.{Written, WrittenReads}

pub read_good : (l : List ℕ) → list_refusal l ≡ 0 → read_labels_rule l ≡ tells (records l)
unfolding read_labels_rule
read_good l g = sym (told_yes 0 (list_refusal l) (sym g) (fault_offset l) (records l) (records l) refl refl)

module _ (l : List ℕ) (room kind number : ℕ) (name : List ℕ) (w : Writable l room kind number name) (g : list_refusal l ≡ 0) where
  abbrev rec : List ℕ
  rec = label_bytes kind number name

  good : list_refusal (l ++ rec) ≡ 0
  good = added_good l room kind number name w g

  read_is : read_labels_rule (l ++ rec) ≡ tells (suc (records l))
  read_is = read_good (l ++ rec) good ∙ ap tells (added_records l room kind number name w g)

  find_is : find_label_rule (l ++ rec) kind number ≡ tells (at (length l + head_size, trimmed_length name))
  unfolding name_of
  find_is =
      find_good (l ++ rec) kind number good
      ∙ rw (added_record l room kind number name w g, added_place l room kind number name w g, added_name l room kind number name w g, padded_trimmed (width_of kind) name)
      (sym (told_yes 0 (key_refusal kind number) (sym (key_good kind number w.kinds w.numbers)) _ _ _ refl refl))

  other_is : (k m : ℕ) → key_refusal k m ≡ 0 → ((k ≡ kind) × (m ≡ number) → ⊥) → find_label_rule (l ++ rec) k m ≡ find_label_rule l k m
  unfolding told
  other_is k m z h =
      rw (find_good (l ++ rec) k m good, find_good l k m g, z, added_other l room kind number name w g k m h)
      (ap tells (name_stays l g rec (record_of l k m (records l)) (record_of_le l k m (records l))))

-- ---- the theorem

module _ (b : List ℕ) (n kind number : ℕ) (name : List ℕ) (a : Adding b n kind number name) where
  front_length : length (take n b) ≡ n
  front_length = rw length-take (omega (arith, a.within))

  list_is : take (n + record_size kind) (put b n (label_bytes kind number name)) ≡ take n b ++ label_bytes kind number name
  list_is =
      put_head b n (label_bytes kind number name) (n + record_size kind)
      (rw length-append (omega (arith, front_length, label_length kind number name a.new.short)))

  adding_reads : Written b n kind number name (n + record_size kind) (put b n (label_bytes kind number name))
  adding_reads =
      let l : List ℕ = take n b in
      let r : ℕ = length b - n in
      record {
        before = read_good l a.good;
        after = rw list_is (read_is l r kind number name a.new a.good);
        found = rw list_is (rw front_length at (find_is l r kind number name a.new a.good));
        text = rw list_is (rw front_length at (added_text l r kind number name a.new a.good));
        others = λ k m z h. rw list_is (other_is l r kind number name a.new a.good k m z h);
      }

pub written_reads : WrittenReads
unfolding add_rule
written_reads b n kind number name n' b' q =
    let g = ruled_at_gave (add_refusal b n kind number name) (add_offset b n) (n + record_size kind) n' (put b n (label_bytes kind number name)) b (ap (λ z. z.0) q) in
    let s : b' ≡ put b n (label_bytes kind number name) = sym (ap (λ z. z.1) q) ∙ g.1.1 in
    rw (← g.1.0, s) (adding_reads b n kind number name (adding b n kind number name g.0))
