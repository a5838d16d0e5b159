-- Laws of the lookup: what the reader answered decides first, and a name that is found lies in the list. Assumes
-- nothing.
use mathlib.Core.Path.{◌≡◌, refl, sym, ap, ◌∙◌}
use mathlib.Core.List.{List, [], ◌++◌}
use Prim.Native.Nat.{ℕ, zero, suc, ◌+◌, ◌-◌, ◌*◌, ◌≤◌, ◌<◌, ◌^◌}
use native.Mathlib.Omega.{arith}
use lib.ListN.{length}
use denote.Ref.{Bor}
use mir.Syntax.{w64}
use mir.Val.{Fits}
use borrow.Author.Rules.{rules}
use Rattle.strlib.specs.Refusal.{Sought, nowhere, at}
use Rattle.cutting.proofs.Bounding.{trimmed_le}
use Rattle.cutting.proofs.Slicing.{part_trimmed, part_counted}
use Rattle.cutting.specs.Cutting.{trimmed_length}
use Rattle.cutting.specs.Part.{IsPart, slice_cut}
use Rattle.cutting.specs.declared.Cut.TheVariants.{Counted as CountedCut, Trimmed}
use Rattle.records.proofs.Fronts.{name_front, name_length}
use Rattle.records.proofs.Goodness.{good_passes, record_length, record_place, place_front, record_front}
use Rattle.records.proofs.Likeness.{record_of_le}
use Rattle.records.proofs.Limits.{earlier_none, earlier_found, earlier_zero}
use Rattle.records.proofs.Placing.{good_offset}
use Rattle.records.proofs.Sizes.{size_width, place_begins}
use Rattle.records.proofs.Telling.{told_no, told_yes, told_gave}
use Rattle.records.specs.Record.{head_size, record_size, kind_of, name_in, place_of, record_at, records, record_of, earlier, list_refusal, fault_offset, key_refusal}
use Rattle.records.specs.Told.{refused_at, tells, told}
use Rattle.desk.proofs.LabelReading.{answered_good, answered_refused}
use Rattle.desk.specs.Label.{read_labels_rule, name_of, find_label_rule, name_part}
use Rattle.desk.specs.LabelInner.{Counted}

-- ---- the name of a record

module _ (l : List ℕ) (k : ℕ) where
  pub name_missing : k ≡ 0 → nowhere ≡ name_of l k
  unfolding name_of
  name_missing z = rw z

  module _ (x : List ℕ) (ex : x ≡ record_at l (k - 1)) where
    pub rest_within : length x ≤ length l
    rest_within = omega (arith, ap length ex, record_length l (k - 1))

    pub place_fits : length l * 1 < 2 ^ 63 → Fits w64 (length l - length x + head_size)
    place_fits h = record { fits = omega arith }

    pub name_placed : (t q : Bor (List ℕ)) → Counted l k → (k ≡ 0 → ⊥) → t.now ≡ name_in x → IsPart q t (slice_cut t.now Trimmed)
        → at (length l - length x + head_size, length q.now) ≡ name_of l k
    unfolding name_of
    name_placed t q c h e i =
        let p : length l - length x ≡ place_of l (k - 1) = rw ex (record_place l (k - 1) (omega (arith, c.most, h))) in
        let n : length q.now ≡ trimmed_length (name_in (record_at l (k - 1))) = part_trimmed q t i ∙ ap trimmed_length (e ∙ ap name_in ex) in
        rw (p, n) (go k h)
      where
        go : (k : ℕ) → (k ≡ 0 → ⊥) → at (place_of l (k - 1) + head_size, trimmed_length (name_in (record_at l (k - 1)))) ≡ name_of l k
        go zero h = absurd (h refl)
        go (suc k) h = let z : suc k - 1 ≡ k = omega arith in rw z

pub ruleset place_laws = (rules, name_missing, rest_within, place_fits, name_placed)

-- ---- the lookup

pub found_counted : (l : List ℕ) (kind number k : ℕ) → k ≡ record_of l kind number (records l) → Counted l k
found_counted l kind number k e = record { most = rw e (record_of_le l kind number (records l)) }

module _ (l : List ℕ) (kind number : ℕ) where
  -- in a faulty list, in a good one, and what is asked for and refused in a good one
  pub find_faulty : (list_refusal l ≡ 0 → ⊥) → refused_at (list_refusal l) (fault_offset l) ≡ find_label_rule l kind number
  unfolding find_label_rule
  find_faulty f = told_no (list_refusal l) _ (sym (earlier_found (list_refusal l) (key_refusal kind number) f)) (fault_offset l) (fault_offset l) _ refl f

  pub find_good : list_refusal l ≡ 0 → find_label_rule l kind number ≡ told (key_refusal kind number) (length l) (name_of l (record_of l kind number (records l)))
  unfolding find_label_rule
  find_good g = rw (earlier_zero (list_refusal l) (key_refusal kind number) g, good_offset l g)

  pub find_asked : list_refusal l ≡ 0 → (key_refusal kind number ≡ 0 → ⊥) → refused_at (key_refusal kind number) (length l) ≡ find_label_rule l kind number
  find_asked g h = told_no (key_refusal kind number) _ refl (length l) (length l) _ refl h ∙ sym (find_good g)

  pub find_list : (k p : ℕ) → refused_at k p ≡ read_labels_rule l → refused_at k p ≡ find_label_rule l kind number
  find_list k p c = let n = answered_refused l k p c in rw (n.0, n.1.0) (find_faulty (λ z. n.1.1 (n.0 ∙ z)))

  module _ (n j : ℕ) (c : tells n ≡ read_labels_rule l) (e : j ≡ key_refusal kind number) where
    pub find_key : (j ≡ 0 → ⊥) → refused_at j (length l) ≡ find_label_rule l kind number
    find_key h = rw e (find_asked (answered_good l n c) (λ z. h (e ∙ z)))

    pub find_name : (k : ℕ) (r : Sought (ℕ × ℕ)) → j ≡ 0 → k ≡ record_of l kind number (records l) → r ≡ name_of l k → tells r ≡ find_label_rule l kind number
    find_name k r z f x = ap tells x ∙ told_yes j _ e (length l) (name_of l k) _ z (ap (name_of l) f) ∙ sym (find_good (answered_good l n c))

-- ---- in a good list

module _ (l : List ℕ) (g : list_refusal l ≡ 0) where
  -- a name lies in its record, and so in the list
  pub name_within : (k : ℕ) → k < records l → place_of l k + head_size + trimmed_length (name_in (record_at l k)) ≤ length l
  name_within k h =
      let x : List ℕ = record_at l k in
      let w : record_size (kind_of x) ≤ length x = (good_passes l g k h).body.whole in
      omega (arith, w, record_length l k, place_begins l k h, trimmed_le (name_in x), name_length x [] w, size_width (kind_of x))

  found_within : (k place n : ℕ) → k ≤ records l → name_of l k ≡ at (place, n) → place + n ≤ length l
  unfolding name_of
  found_within zero place n h e = let z : ◌≡◌ {A = ℕ} 0 1 = cc in absurd (omega arith)
  found_within (suc k) place n h e =
      let q : ◌≡◌ {A = ℕ × ℕ} (place_of l k + head_size, trimmed_length (name_in (record_at l k))) (place, n) = cc in
      omega (arith, ap (λ (z : ℕ × ℕ). z.0) q, ap (λ (z : ℕ × ℕ). z.1) q, name_within k (omega arith))

  -- what stands behind the list does not move a found name
  pub name_stays : (r : List ℕ) (k : ℕ) → k ≤ records l → name_of (l ++ r) k ≡ name_of l k
  unfolding name_of
  name_stays r zero h = refl
  name_stays r (suc k) h =
      rw (place_front l r k (omega arith), record_front l r k (omega arith), name_front (record_at l k) r (good_passes l g k (omega arith)).body.whole)

-- ---- the read-only form

pub place_within : (l : List ℕ) (kind number place n : ℕ) → tells (at (place, n)) ≡ find_label_rule l kind number → place + n ≤ length l
unfolding find_label_rule
place_within l kind number place n e =
    let g = told_gave (earlier (list_refusal l) (key_refusal kind number)) (fault_offset l) _ (at (place, n)) (sym e) in
    let z = earlier_none (list_refusal l) (key_refusal kind number) g.0 in
    found_within l z.0 (record_of l kind number (records l)) place n (record_of_le l kind number (records l)) g.1

module _ (r s : Bor (List ℕ)) (kind number : ℕ) where
  pub part_found : (place n : ℕ) → tells (at (place, n)) ≡ find_label_rule s.now kind number → IsPart r s (slice_cut s.now (CountedCut (place + 1) n))
      → IsPart r s (name_part (find_label_rule s.now kind number))
  unfolding name_part
  part_found place n e i = rw (← e) (part_counted r s place n (place_within s.now kind number place n e) i)

  pub part_missing : tells nowhere ≡ find_label_rule s.now kind number → IsPart r s (slice_cut s.now (CountedCut 1 0)) → IsPart r s (name_part (find_label_rule s.now kind number))
  unfolding name_part
  part_missing e i = rw (← e) (part_counted r s 0 0 (omega arith) i)

  pub part_refused : (k p : ℕ) → refused_at k p ≡ find_label_rule s.now kind number → IsPart r s (slice_cut s.now (CountedCut 1 0))
      → IsPart r s (name_part (find_label_rule s.now kind number))
  unfolding name_part
  part_refused k p e i = rw (← e) (part_counted r s 0 0 (omega arith) i)

pub part_fits : (l : List ℕ) (kind number place n : ℕ) → tells (at (place, n)) ≡ find_label_rule l kind number → length l * 1 < 2 ^ 63 → (m : ℕ) → m ≤ 9
    → Fits w64 (place + m)
part_fits l kind number place n e h m i = record { fits = omega (arith, place_within l kind number place n e) }
