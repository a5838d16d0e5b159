-- Laws of kinds, numbers and names, and of a refusal behind another. Assumes nothing.
use mathlib.Core.Path.{◌≡◌, refl, sym, ◌∙◌}
use mathlib.Core.Bool.{Bool, true, false, cond, ◌&&◌}
use mathlib.Core.List.{List, [], ◌∷◌, ◌++◌}
use Prim.Native.Nat.{ℕ, zero, suc, ◌+◌, ◌-◌, ◌≤◌, ◌<◌}
use native.Mathlib.Numerals.{add-one}
use native.Mathlib.Omega.{arith}
use lib.Dec.{leb, eqb}
use lib.ListN.{length, get_or, take, drop, replicate, drop_of_length-le, length-append, length-replicate}
use lib.Seq.{drop-cons, take-append-le}
use borrow.Author.Rules.{rules}
use borrow.Author.Tests.{leb-true, le-leb, lt-leb, eq-eqb, ne_eqb, eqb-true}
use mir.Syntax.{w64}
use mir.Val.{Fits}
use Rattle.strlib.proofs.Refusing.{and_both}
use Rattle.strlib.specs.Pointer.{all}
use Rattle.cutting.proofs.Bounding.{trimmed_le, trimmed_padded}
use Rattle.cutting.specs.Cutting.{trimmed_length}
use Rattle.records.specs.Record.{head_size, width_of, record_size, limit_of, is_number_of, is_name, earlier, padded}

-- ---- kinds and numbers

module _ (kind : ℕ) where
  pub limit_one : kind ≡ 1 → 64 ≡ limit_of kind
  unfolding limit_of
  limit_one e = rw (eq-eqb kind 1 e)

  pub limit_two : (kind ≡ 1 → ⊥) → kind ≡ 2 → 128 ≡ limit_of kind
  unfolding limit_of
  limit_two f e = rw (ne_eqb kind 1 f, eq-eqb kind 2 e)

  pub limit_none : (kind ≡ 1 → ⊥) → (kind ≡ 2 → ⊥) → 0 ≡ limit_of kind
  unfolding limit_of
  limit_none f e = rw (ne_eqb kind 1 f, ne_eqb kind 2 e)

  pub width_is : 16 ≡ width_of kind
  unfolding width_of
  width_is = refl

  pub size_of : (w : ℕ) → w ≡ width_of kind → head_size + w ≡ record_size kind
  unfolding record_size
  size_of w e = rw e

  pub size_fits : (m w : ℕ) → m ≤ 9 → w ≡ width_of kind → Fits w64 (m + w)
  unfolding width_of
  size_fits m w h e = record { fits = omega arith }

  pub number_is : (number m : ℕ) (b : Bool) → m ≡ limit_of kind → b ≡ (leb 1 number && leb number m) → b ≡ is_number_of kind number
  unfolding is_number_of
  number_is number m b e f = rw (← e) f

-- the kinds end with 2, and their numbers with 128
pub in_range_lem : (kind number : ℕ) → is_number_of kind number ≡ true → (kind ≤ 2) × (number ≤ 128)
unfolding is_number_of limit_of
in_range_lem kind number e =
    let b = and_both (leb 1 number) (leb number (limit_of kind)) e in
    go (eqb kind 1) (eqb kind 2) refl refl (leb-true 1 number b.0) (leb-true number (limit_of kind) b.1)
  where
    go : (s t : Bool) → eqb kind 1 ≡ s → eqb kind 2 ≡ t → 1 ≤ number → number ≤ cond s 64 (cond t 128 0) → (kind ≤ 2) × (number ≤ 128)
    go true t f g l h = (omega (arith, eqb-true kind 1 f), omega arith)
    go false true f g l h = (omega (arith, eqb-true kind 2 g), omega arith)
    go false false f g l h = absurd (omega arith)

pub ruleset limit_laws = (rules, limit_one, limit_two, limit_none, width_is, size_of, size_fits, number_is)

-- ---- names

name_pad : (name : List ℕ) (k : ℕ) → is_name name ≡ true → is_name (name ++ replicate k 32) ≡ true
unfolding is_name all
name_pad [] zero e = refl
name_pad [] (suc k) e = name_pad [] k e
name_pad (x ∷ name) k e = let b = and_both (leb 32 x && leb x 126) (is_name name) e in rw b.0 (name_pad name k b.1)

pub padded_name : (w : ℕ) (name : List ℕ) → is_name name ≡ true → is_name (padded w name) ≡ true
unfolding padded
padded_name w name e = name_pad name (w - length name) e

pub padded_length : (w : ℕ) (name : List ℕ) → length name ≤ w → length (padded w name) ≡ w
unfolding padded
padded_length w name h = simp (length-append, length-replicate) (omega arith)

pub padded_trimmed : (w : ℕ) (name : List ℕ) → trimmed_length (padded w name) ≡ trimmed_length name
unfolding padded
padded_trimmed w name = trimmed_padded (w - length name) name

-- the trimmed name stands at its front
pub padded_text : (w : ℕ) (name : List ℕ) → take (trimmed_length name) (padded w name) ≡ take (trimmed_length name) name
unfolding padded
padded_text w name = take-append-le (trimmed_length name) name (replicate (w - length name) 32) (trimmed_le name)

-- ---- one refusal behind another

pub earlier_none : (k m : ℕ) → earlier k m ≡ 0 → (k ≡ 0) × (m ≡ 0)
unfolding earlier
earlier_none zero m e = (refl, e)
earlier_none (suc k) m e = absurd (omega arith)

pub earlier_found : (k m : ℕ) → (k ≡ 0 → ⊥) → earlier k m ≡ k
unfolding earlier
earlier_found zero m h = absurd (h refl)
earlier_found (suc k) m h = refl

pub earlier_zero : (k m : ℕ) → k ≡ 0 → earlier k m ≡ m
unfolding earlier
earlier_zero k m h = rw h
