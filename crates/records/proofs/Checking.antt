-- Laws of the record at the front of some bytes, and of what the checks leave. Assumes nothing.
use mathlib.Core.Path.{◌≡◌, refl, sym, ◌∙◌}
use mathlib.Core.Bool.{Bool, true, ◌&&◌}
use mathlib.Core.List.{List, [], ◌∷◌}
use Prim.Native.Nat.{ℕ, ◌+◌, ◌*◌, ◌≤◌}
use lib.Dec.{leb, eqb}
use lib.ListN.{length, get_or, get_or-eq_default}
use borrow.Author.Rules.{rules}
use borrow.Author.Tests.{leb-true}
use Rattle.strlib.proofs.Refusing.{in_turn, first_is, first_before, first_behind, passed}
use Rattle.strlib.specs.Pointer.{pointer, text_of}
use Rattle.strlib.specs.Refusal.{first, also}
use Rattle.strlib.specs.declared.StrPtr.{StrPtr}
use Rattle.records.specs.Record.{head_size, width_of, record_size, limit_of, is_kind, is_number_of, is_name, kind_of, number_in, name_in, is_record, record_of, records, is_fresh}
use Rattle.records.specs.Record.{body_checks, body_refusal, key_checks, key_refusal, form_checks, new_checks, new_refusal}

-- ---- what stands at the front

module _ (x : List ℕ) where
  pub kind_read : (k : ℕ) → k ≡ get_or x 0 0 → k ≡ kind_of x
  unfolding kind_of
  kind_read k e = e

  pub number_read : (h l r : ℕ) → h ≡ get_or x 1 0 → l ≡ get_or x 2 0 → r ≡ h * 256 + l → r ≡ number_in x
  unfolding number_in
  number_read h l r e f g = rw (← e, ← f) g

  module _ (k : ℕ) (e : k ≡ kind_of x) where
    pub name_read : (w : ℕ) (p : StrPtr) (y : List ℕ) → w ≡ width_of k → p ≡ pointer head_size w w → y ≡ text_of x p → y ≡ name_in x
    unfolding name_in text_of pointer
    name_read w p y f g h = h ∙ rw (g, f, e)

    pub record_read : (n number kind : ℕ) (b : Bool) → n ≡ number_in x → b ≡ (eqb k kind && eqb n number) → b ≡ is_record x kind number
    unfolding is_record
    record_read n number kind b f g = rw (← e, ← f) g

pub ruleset front_laws = (rules, kind_read, number_read, name_read, record_read)

-- ---- what a new record that is not refused has

pub record Writable (l : List ℕ) (room kind number : ℕ) (name : List ℕ) : Type 0 where
  pub kinds : is_kind kind ≡ true
  pub numbers : is_number_of kind number ≡ true
  pub short : length name ≤ width_of kind
  pub plain : is_name name ≡ true
  pub fresh : is_fresh l kind number ≡ true
  pub roomy : record_size kind ≤ room

pub writable : (l : List ℕ) (room kind number : ℕ) (name : List ℕ) → new_refusal l room kind number name ≡ 0 → Writable l room kind number name
unfolding new_refusal
writable l room kind number name e =
    let p = passed (new_checks l room kind number name) refl e in
    record {
      kinds = p.0;
      numbers = p.1.0;
      short = leb-true (length name) (width_of kind) p.1.1.0;
      plain = p.1.1.1.0;
      fresh = p.1.1.1.1.0;
      roomy = leb-true (record_size kind) room p.1.1.1.1.1.0;
    }

-- its kind and number may be asked for
pub key_good : (kind number : ℕ) → is_kind kind ≡ true → is_number_of kind number ≡ true → key_refusal kind number ≡ 0
unfolding key_refusal
key_good kind number e f = rw (e, f)
