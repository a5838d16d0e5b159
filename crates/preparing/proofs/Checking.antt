-- Laws of what refuses a translation. Assumes nothing.
use mathlib.Core.Path.{◌≡◌, refl, sym, ◌∙◌}
use mathlib.Core.Bool.{true, cond}
use mathlib.Core.List.{List}
use Prim.Native.Nat.{ℕ, ◌≤◌}
use lib.Dec.{leb}
use lib.ListN.{length, take}
use borrow.Author.Tests.{leb-true, le-leb}
use Rattle.strlib.proofs.Checking.{first_both}
use Rattle.strlib.proofs.Pointing.{fits_is}
use Rattle.strlib.proofs.Refusing.{passed}
use Rattle.strlib.proofs.Texts.{texts_readable}
use Rattle.strlib.specs.Pointer.{store_fits, good_in, all, characters, readable}
use Rattle.strlib.specs.Refusal.{first, refusal_number}
use Rattle.strlib.specs.declared.refusal.Refusal.{Refusal}
use Rattle.strlib.proofs.Answering.{here, next, next_all}
use Rattle.strlib.specs.declared.StrPtr.{StrPtr}
use Rattle.states.specs.State.{total}
use Rattle.preparing.proofs.Listing.{total_is}
use Rattle.preparing.specs.Inner.{source_refusal}
use Rattle.preparing.specs.Listed.{listed, total_of, source_checks, size_checks, translate_refusal}

-- what is known where they find nothing
record SourcePassed (s : List ℕ) (list : List StrPtr) (count : ℕ) : Type 0 where
  pub small : length s ≤ 65536
  pub few : count ≤ 32
  pub plain : all (readable s) (take count list) ≡ true

source_passed : (s : List ℕ) (list : List StrPtr) (count : ℕ) → first (source_checks s list count) ≡ 0 → SourcePassed s list count
source_passed s list count e =
    let ok = passed (source_checks s list count) refl e in
    record { small = fits_is s ok.0; few = leb-true _ _ ok.1.0; plain = ok.1.1.1.0 }

-- ---- the sizes, where nothing is refused of the list, of n characters together

module _ (s : List ℕ) (list : List StrPtr) (count words : ℕ) (z : 0 ≡ source_refusal s list count) (n : ℕ) (h : n ≡ total_of s list count) where
  same_total : n ≡ total (listed s list count)
  unfolding source_refusal
  same_total = let ok = source_passed s list count (sym z) in h ∙ total_is s list count ok.small ok.few

  pub size_refused : (x : Refusal) → refusal_number x ≡ cond (leb n 240) 0 9 → refusal_number x ≡ translate_refusal s list count words
  unfolding source_refusal translate_refusal
  size_refused x f = next_all (source_checks s list count) (size_checks s list count words) refl (refusal_number x) z (here x (leb (total (listed s list count)) 240) 9 (cond (leb 31461 words) 0 9) (rw (← same_total) f))

  pub size_checked : (k : ℕ) → ◌≡◌ {A = ℕ} 0 (cond (leb n 240) 0 9) → k ≡ cond (leb 31461 words) 0 9 → k ≡ translate_refusal s list count words
  unfolding source_refusal translate_refusal
  size_checked k f g = next_all (source_checks s list count) (size_checks s list count words) refl k z (next (leb (total (listed s list count)) 240) 8 k (cond (leb 31461 words) 0 9) (rw (← same_total) f) g)

-- ---- for callers

-- what is known where nothing is refused
pub record TranslatePassed (s : List ℕ) (list : List StrPtr) (count words : ℕ) : Type 0 where
  pub room : length s ≤ 65536
  pub few : count ≤ 32
  pub plain : all characters (listed s list count) ≡ true
  pub small : total (listed s list count) ≤ 240
  pub long : 31461 ≤ words

pub translate_passed : (s : List ℕ) (list : List StrPtr) (count words : ℕ) → translate_refusal s list count words ≡ 0 → TranslatePassed s list count words
unfolding translate_refusal
translate_passed s list count words z =
    let b = first_both (source_checks s list count) (size_checks s list count words) refl z in
    let ok = source_passed s list count b.0 in
    let own = passed (size_checks s list count words) refl b.1 in
    record {
      room = ok.small;
      few = ok.few;
      plain = sym (texts_readable s (take count list)) ∙ ok.plain;
      small = leb-true _ _ own.0;
      long = leb-true _ _ own.1.0;
    }

-- and what nothing is refused of
pub translate_taken : (s : List ℕ) (list : List StrPtr) (count words : ℕ) → store_fits s ≡ true → count ≤ 32 → all (good_in (length s)) (take count list) ≡ true
    → all (readable s) (take count list) ≡ true → total (listed s list count) ≤ 240 → 31461 ≤ words → translate_refusal s list count words ≡ 0
unfolding translate_refusal
translate_taken s list count words fits few good plain small long =
    rw (fits, le-leb count 32 few, good, plain, le-leb (total (listed s list count)) 240 small, le-leb 31461 words long)
