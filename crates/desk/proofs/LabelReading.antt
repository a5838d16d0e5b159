-- Laws of the reader: the first faulty record decides, and what the marks say of a record is whether its kind and
-- number stood before it. Assumes nothing.
use mathlib.Core.Path.{◌≡◌, refl, sym, ap, ◌∙◌}
use mathlib.Core.Bool.{Bool, true, false, cond, not, ◌&&◌}
use mathlib.Core.List.{List}
use Prim.Native.Nat.{ℕ, ◌+◌, ◌-◌, ◌*◌, ◌≤◌, ◌<◌, ◌^◌}
use native.Mathlib.Omega.{arith}
use lib.ListN.{length, get_or, set, take, drop, replicate, get_or-replicate, length-set}
use lib.Seq.{get_or-set_same, get_or-set_other}
use mir.Syntax.{w64}
use mir.Val.{Fits}
use borrow.Author.Rules.{rules}
use borrow.Author.Tests.{not-true, not-false}
use Rattle.strlib.proofs.Refusing.{bool_case}
use Rattle.records.proofs.Fronts.{body_passes, behind_body, behind_fresh}
use Rattle.records.proofs.Limits.{in_range_lem}
use Rattle.records.proofs.Reading.{Reached, reached_start, reached_next, reached_refusal, reached_offset, reached_count, reached_good, record_yes, record_no, fresh_next, fresh_none}
use Rattle.records.proofs.Sizes.{size_least}
use Rattle.records.proofs.Telling.{told_no, told_yes, told_gave, told_is}
use Rattle.records.specs.Record.{record_size, is_number_of, kind_of, number_in, records, is_record, is_fresh, body_refusal, behind_refusal, list_refusal, fault_offset}
use Rattle.records.specs.Told.{refused_at, tells}
use Rattle.desk.specs.Label.{read_labels_rule}
use Rattle.desk.specs.LabelInner.{Markable, mark_of}

-- ---- the marks

pub mark_is : (kind number : ℕ) → 129 * kind + number ≡ mark_of kind number
unfolding mark_of
mark_is kind number = refl

pub mark_fits : (kind number : ℕ) → Markable kind number → Fits w64 (129 * kind + number)
mark_fits kind number m = record { fits = omega (arith, m.kinds, m.numbers) }

pub ruleset mark_laws = (rules, mark_is, mark_fits)

mark_in : (kind number : ℕ) → Markable kind number → mark_of kind number < 387
unfolding mark_of
mark_in kind number m = omega (arith, m.kinds, m.numbers)

-- each kind and number has its own
mark_own : (kind number k m : ℕ) → Markable kind number → Markable k m → mark_of kind number ≡ mark_of k m → (k ≡ kind) × (m ≡ number)
unfolding mark_of
mark_own kind number k m a b e = (omega (arith, a.numbers, b.numbers), omega (arith, a.numbers, b.numbers))

markable : (kind number : ℕ) → is_number_of kind number ≡ true → Markable kind number
markable kind number e = let g = in_range_lem kind number e in record { kinds = g.0; numbers = g.1 }

-- of the kinds and numbers, those of the records in `front` are marked
pub record Marked (met : List Bool) (front : List ℕ) : Type 0 where
  pub size : length met ≡ 387
  pub marks : (kind number : ℕ) → is_number_of kind number ≡ true → get_or met (mark_of kind number) false ≡ not (is_fresh front kind number)

pub none_marked : (l : List ℕ) → Marked (replicate 387 false) (take 0 l)
none_marked l =
    record {
      size = refl;
      marks = λ kind number e. get_or-replicate 387 (mark_of kind number) false false (mark_in kind number (markable kind number e)) ∙ rw (fresh_none l kind number);
    }

-- ---- the loop

module _ (l : List ℕ) (n place : ℕ) (r : Reached l n place) (x : List ℕ) (ex : x ≡ drop place l) (k : ℕ) (ek : k ≡ body_refusal x) where
  stop : place < length l → (m : ℕ) → m ≡ behind_refusal (take place l) x → (m ≡ 0 → ⊥) → refused_at m place ≡ read_labels_rule l
  unfolding read_labels_rule
  stop h m e f =
      let b : m ≡ behind_refusal (take place l) (drop place l) = rw (← ex) e in
      told_no m (list_refusal l) (reached_refusal l n place r h m b f) place (fault_offset l) (records l) (reached_offset l n place r h m b f) f

  pub body_faulty : place < length l → (k ≡ 0 → ⊥) → refused_at k place ≡ read_labels_rule l
  body_faulty h f = stop h k (behind_body (take place l) x k ek f) f

  module _ (z : k ≡ 0) (kind number : ℕ) (ea : kind ≡ kind_of x) (eb : number ≡ number_in x) where
    numbered : is_number_of kind number ≡ true
    numbered = rw (ea, eb) (body_passes x (sym ek ∙ z)).number

    pub body_markable : Markable kind number
    body_markable = markable kind number numbered

    -- only the repetition is left to decide
    left : behind_refusal (take place l) x ≡ cond (is_fresh (take place l) kind number) 0 14
    left = behind_fresh (take place l) x (sym ek ∙ z) ∙ rw (ea, eb)

    module _ (m : ℕ) (em : m ≡ mark_of kind number) where
      pub mark_below : m < 387
      mark_below = rw em (mark_in kind number body_markable)

      module _ (met : List Bool) (g : Marked met (take place l)) where
        is : not (is_fresh (take place l) kind number) ≡ get_or met m false
        is = rw em (sym (g.marks kind number numbered))

        pub mark_faulty : place < length l → get_or met m false ≡ true → refused_at 14 place ≡ read_labels_rule l
        mark_faulty h t =
            stop h 14 (sym (left ∙ ap (λ (b : Bool). cond b 0 14) (not-true (is_fresh (take place l) kind number) (is ∙ t)))) (λ (y : ◌≡◌ {A = ℕ} 14 0). omega arith)

        module _ (t : get_or met m false ≡ false) where
          new : behind_refusal (take place l) (drop place l) ≡ 0
          new = rw (← ex) (left ∙ ap (λ (b : Bool). cond b 0 14) (not-false (is_fresh (take place l) kind number) (is ∙ t)))

          module _ (size : ℕ) (es : size ≡ record_size kind) where
            size_is : size ≡ record_size (kind_of (drop place l))
            size_is = es ∙ rw (ea, ex)

            pub read_more : Reached l (n + 1) (place + size)
            read_more = rw size_is (reached_next l n place r new)

            pub mark_more : Marked (set met m true) (take (place + size) l)
            mark_more =
                record {
                  size = simp length-set g.size;
                  marks = λ k' n' h. rw (size_is, fresh_next l n place r new k' n', ← ex, em) (bool_case (is_record x k' n') (same k' n') (other k' n' h));
                }
              where
                same : (k' n' : ℕ) → is_record x k' n' ≡ true
                    → get_or (set met (mark_of kind number) true) (mark_of k' n') false ≡ not (not (is_record x k' n') && is_fresh (take place l) k' n')
                same k' n' e =
                    let y = record_yes x k' n' e in
                    let i : mark_of kind number < length met = rw g.size (mark_in kind number body_markable) in
                    rw (e, ← y.0, ← y.1, ← ea, ← eb) (get_or-set_same met (mark_of kind number) true false i)

                other : (k' n' : ℕ) → is_number_of k' n' ≡ true → is_record x k' n' ≡ false
                    → get_or (set met (mark_of kind number) true) (mark_of k' n') false ≡ not (not (is_record x k' n') && is_fresh (take place l) k' n')
                other k' n' h e =
                    let u : mark_of k' n' ≡ mark_of kind number → ⊥ =
                    λ v. let w = mark_own k' n' kind number (markable k' n' h) body_markable v in record_no x k' n' e (sym ea ∙ w.0) (sym eb ∙ w.1) in
                    rw e (get_or-set_other met (mark_of kind number) (mark_of k' n') true false u ∙ g.marks k' n' h)

            pub read_less : place < length l → length l - (place + size) < length l - place
            read_less h = omega (arith, es, size_least kind)

            pub read_fits : length l * 1 < 2 ^ 63 → Fits w64 (place + size)
            read_fits h = record { fits = omega (arith, read_more.within) }

            pub count_fits : length l * 1 < 2 ^ 63 → Fits w64 (n + 1)
            count_fits h = record { fits = omega (arith, r.within, r.small) }

pub read_good : (l : List ℕ) (n place : ℕ) → Reached l n place → length l ≤ place → tells n ≡ read_labels_rule l
unfolding read_labels_rule
read_good l n place r h = told_yes 0 (list_refusal l) (reached_good l n place r h) (fault_offset l) n (records l) refl (reached_count l n place r h)

pub ruleset read_laws = (
  rules,
  reached_start,
  none_marked,
  body_faulty,
  body_markable,
  mark_below,
  mark_faulty,
  mark_more,
  read_more,
  read_less,
  read_fits,
  count_fits,
  read_good,
)

-- ---- what the reader answered

module _ (l : List ℕ) where
  pub answered_good : (n : ℕ) → tells n ≡ read_labels_rule l → list_refusal l ≡ 0
  unfolding read_labels_rule
  answered_good n e = (told_gave (list_refusal l) (fault_offset l) (records l) n (sym e)).0

  pub answered_refused : (k p : ℕ) → refused_at k p ≡ read_labels_rule l → (k ≡ list_refusal l) × ((p ≡ fault_offset l) × (k ≡ 0 → ⊥))
  unfolding read_labels_rule
  answered_refused k p e = told_is (list_refusal l) (fault_offset l) (records l) k p (sym e)
