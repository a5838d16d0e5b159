-- Laws of the writer: the checks in their order, and a record put behind the list. Assumes nothing.
use mathlib.Core.Path.{◌≡◌, refl, sym, ap, ◌∙◌}
use mathlib.Core.Bool.{Bool, true, false, cond}
use mathlib.Core.List.{List}
use Prim.Native.Nat.{ℕ, ◌+◌, ◌-◌, ◌*◌, ◌≤◌, ◌<◌, ◌^◌}
use native.Mathlib.Omega.{arith}
use lib.Dec.{leb}
use lib.ListN.{length, take, length-take}
use mir.Syntax.{w64}
use mir.Val.{Fits}
use borrow.Author.Rules.{rules}
use borrow.Author.Tests.{leb-true, le-leb, lt-leb}
use Rattle.std.proofs.Common.{Result, Ok, Err}
use Rattle.std.specs.Result.{IsErrAnd, MatchResult}
use Rattle.strlib.proofs.Answering.{refusal_some}
use Rattle.strlib.specs.Refusal.{refusal_number, number_found}
use Rattle.strlib.specs.declared.refusal.Refusal.{Refusal}
use Rattle.records.specs.declared.Fault.{Fault}
use Rattle.desk.proofs.Refused.{put_err, put_ok}
use Rattle.strlib.specs.Store.{put}
use Rattle.moving.proofs.Pasting.{pasted_in, pasted_length}
use Rattle.moving.specs.Moving.{pasted}
use Rattle.records.proofs.Bytes.{label_length, fitted_is}
use Rattle.records.proofs.Checking.{Writable, writable}
use Rattle.records.proofs.Limits.{in_range_lem, earlier_none, earlier_found, earlier_zero}
use Rattle.records.proofs.Placing.{good_offset}
use Rattle.records.proofs.Telling.{told_no, told_yes, told_gave, told_is, ruled_at_no, ruled_at_yes}
use Rattle.records.specs.Record.{record_size, earlier, list_refusal, fault_offset, new_refusal, label_bytes, fitted_bytes}
use Rattle.records.specs.Told.{refused_at, tells, told, told_by}
use Rattle.desk.proofs.LabelReading.{answered_good, answered_refused}
use Rattle.desk.specs.Label.{read_labels_rule, add_refusal, add_offset, add_rule}
use Rattle.desk.specs.LabelInner.{add_told}

-- ---- the checks

pub front_length : (b : List ℕ) (n : ℕ) → n ≤ length b → n ≡ length (take n b)
front_length b n h = rw length-take (omega arith)

module _ (b : List ℕ) (n kind number : ℕ) (name : List ℕ) where
  pub add_long : length b < n → refused_at 4 n ≡ add_told b n kind number name
  unfolding add_told add_refusal add_offset told
  add_long h = rw (lt-leb n (length b) h)

  module _ (h : n ≤ length b) where
    abbrev new : ℕ
    new = new_refusal (take n b) (length b - n) kind number name

    -- what is left behind that
    left : add_told b n kind number name ≡ told (earlier (list_refusal (take n b)) new) (fault_offset (take n b)) tt
    unfolding add_told add_refusal add_offset
    left = rw (le-leb n (length b) h)

    pub fault_list : (list_refusal (take n b) ≡ 0 → ⊥) → refused_at (list_refusal (take n b)) (fault_offset (take n b)) ≡ add_told b n kind number name
    fault_list f =
        told_no (list_refusal (take n b)) _ (sym (earlier_found (list_refusal (take n b)) new f)) (fault_offset (take n b)) (fault_offset (take n b)) tt refl f ∙ sym left

    good : list_refusal (take n b) ≡ 0 → add_told b n kind number name ≡ told new (length (take n b)) tt
    good g = left ∙ rw (earlier_zero (list_refusal (take n b)) new g, good_offset (take n b) g)

    pub fault_new : list_refusal (take n b) ≡ 0 → (new ≡ 0 → ⊥) → refused_at new (length (take n b)) ≡ add_told b n kind number name
    fault_new g f = told_no new new refl (length (take n b)) (length (take n b)) tt refl f ∙ sym (good g)

    pub add_list : (k p : ℕ) → refused_at k p ≡ read_labels_rule (take n b) → refused_at k p ≡ add_told b n kind number name
    add_list k p e = let g = answered_refused (take n b) k p e in rw (g.0, g.1.0) (fault_list (λ z. g.1.1 (g.0 ∙ z)))

    module _ (m : ℕ) (e : tells m ≡ read_labels_rule (take n b)) where
      pub add_new : (k : ℕ) → k ≡ new → (k ≡ 0 → ⊥) → refused_at k (length (take n b)) ≡ add_told b n kind number name
      add_new k q f = rw q (fault_new (answered_good (take n b) m e) (λ z. f (q ∙ z)))

      pub add_none : 0 ≡ new → tells tt ≡ add_told b n kind number name
      add_none q = told_yes 0 new q (length (take n b)) tt tt refl refl ∙ sym (good (answered_good (take n b) m e))

      -- the checks of a new record, with the list's length
      pub add_checked : (self : Result Unit Refusal) (r : Result Unit Fault) {Post : Refusal → Fault → Type 0} → MatchResult self (λ x. r ≡ Ok x) (λ e. IsErrAnd r (Post e))
          → ((e : Refusal) (f : Fault) → Post e f → f ≡ record { refusal = e; offset = length (take n b) }) → number_found self ≡ new → told_by r ≡ add_told b n kind number name
      add_checked self (Ok x) c made e = add_none (put_ok self (Ok x) (length (take n b)) c made x refl ∙ e)
      add_checked self (Err f) c made e = let q = put_err self (Err f) (length (take n b)) c made f refl in rw q.1 (add_new (refusal_number f.refusal) (q.0 ∙ e) (refusal_some f.refusal))

pub ruleset refusal_laws = (rules, front_length, add_long, add_list, add_new, add_none)

-- what holds where nothing is refused
pub record Adding (b : List ℕ) (n kind number : ℕ) (name : List ℕ) : Type 0 where
  pub within : n ≤ length b
  pub good : list_refusal (take n b) ≡ 0
  pub new : Writable (take n b) (length b - n) kind number name

pub adding : (b : List ℕ) (n kind number : ℕ) (name : List ℕ) → add_refusal b n kind number name ≡ 0 → Adding b n kind number name
unfolding add_refusal
adding b n kind number name e = go (leb n (length b)) refl e
  where
    go : (t : Bool) → leb n (length b) ≡ t → cond t (earlier (list_refusal (take n b)) (new_refusal (take n b) (length b - n) kind number name)) 4 ≡ 0
        → Adding b n kind number name
    go true t f =
        let z = earlier_none (list_refusal (take n b)) (new_refusal (take n b) (length b - n) kind number name) f in
        record { within = leb-true n (length b) t; good = z.0; new = writable (take n b) (length b - n) kind number name z.1 }
    go false t f = absurd (omega arith)

-- ---- the call

pub add_size : (b b' : List ℕ) (n kind number : ℕ) (name : List ℕ) → b' ≡ pasted b n (fitted_bytes kind number name) → length b' ≡ length b
add_size b b' n kind number name e = rw e (pasted_length b n (fitted_bytes kind number name))

module _ (b : List ℕ) (n kind number : ℕ) (name : List ℕ) where
  pub add_refused : (k p : ℕ) → refused_at k p ≡ add_told b n kind number name → (refused_at k p, b) ≡ add_rule b n kind number name
  unfolding add_rule add_told
  add_refused k p e =
      let g = told_is (add_refusal b n kind number name) (add_offset b n) tt k p (sym e) in
      ruled_at_no k (add_refusal b n kind number name) g.0 p (add_offset b n) (n + record_size kind) (put b n (label_bytes kind number name)) b g.1.0 g.1.1

  module _ (e : tells tt ≡ add_told b n kind number name) (size : ℕ) (es : size ≡ record_size kind) where
    none : add_refusal b n kind number name ≡ 0
    unfolding add_told
    none = (told_gave (add_refusal b n kind number name) (add_offset b n) tt tt (sym e)).0

    a : Adding b n kind number name
    a = adding b n kind number name none

    room : n + record_size kind ≤ length b
    room = omega (arith, a.within, a.new.roomy)

    pub add_fits : length b * 1 < 2 ^ 63 → Fits w64 (n + size)
    add_fits h = record { fits = omega (arith, room) }

    pub add_done : (b' : List ℕ) → b' ≡ pasted b n (fitted_bytes kind number name) → (tells (n + size), b') ≡ add_rule b n kind number name
    unfolding add_rule
    add_done b' q =
        let s = in_range_lem kind number a.new.numbers in
        let g : fitted_bytes kind number name ≡ label_bytes kind number name =
        fitted_is kind number name a.new.short (omega (arith, s.0)) (omega (arith, s.1)) in
        let r : b' ≡ put b n (label_bytes kind number name) =
        q ∙ ap (pasted b n) g ∙ pasted_in b n (label_bytes kind number name) (omega (arith, room, label_length kind number name a.new.short)) in
        ruled_at_yes 0 (add_refusal b n kind number name) (sym none) (add_offset b n) (n + size) (n + record_size kind) b' (put b n (label_bytes kind number name)) b refl (rw es) r

pub ruleset add_laws = (rules, add_size, add_refused, add_fits, add_done)
