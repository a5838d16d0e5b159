-- What is known where the checks of a call found nothing. Assumes nothing.
use Prim.Native.Nat.{ℕ}
use mathlib.Core.Path.{◌≡◌, refl, sym, ap, ◌∙◌}
use mathlib.Core.Bool.{true}
use mathlib.Core.List.{List}
use lib.ListN.{length}
use borrow.Author.Tests.{eqb-true}
use Rattle.std.proofs.Common.{Option, Result, Err}
use Rattle.std.specs.Result.{IsErrAnd}
use Rattle.std.proofs.lemmas.Result.{err_from_is_err_and}
use Rattle.strlib.proofs.Answering.{refusal_some}
use Rattle.strlib.proofs.Refusing.{passed, outcome_no}
use Rattle.strlib.specs.Refusal.{Sought, outcome, refusal_number, sought_answered}
use Rattle.strlib.specs.declared.refusal.Refusal.{Refusal}
use Rattle.strlib.specs.Pointer.{store_fits, good_in, text_of, characters, readable}
use Rattle.strlib.specs.declared.StrPtr.{StrPtr}
use Rattle.charset.specs.Inner.{Ready}
use Rattle.charset.specs.Rule.{block_checks, block_refusal, set_checks, set_refusal}
use Rattle.charset.specs.Sets.{block_fits, mask_fits}

-- ---- a block and a mask

module _ (block : List ℕ) (mask : ℕ) where
  pub record BlockPassed : Type 0 where
    pub words : block_fits block ≡ true
    pub tables : mask_fits mask ≡ true

  pub block_passed : block_refusal block mask ≡ 0 → BlockPassed
  unfolding block_refusal
  block_passed e = let ok = passed (block_checks block mask) refl e in record { words = ok.0; tables = ok.1.0 }

-- ---- and a string

module _ (s : List ℕ) (p : StrPtr) (block : List ℕ) (mask : ℕ) where
  pub record SetPassed : Type 0 where
    pub fits : store_fits s ≡ true
    pub words : block_fits block ≡ true
    pub tables : mask_fits mask ≡ true
    pub good : good_in (length s) p ≡ true
    pub reads : readable s p ≡ true

  pub set_passed : set_refusal s p block mask ≡ 0 → SetPassed
  unfolding set_refusal
  set_passed e =
      let ok = passed (set_checks s p block mask) refl e in
      record { fits = ok.0; words = ok.1.0; tables = ok.1.1.0; good = ok.1.1.1.0; reads = ok.1.1.1.1.0 }

  pub set_ready : (t : List ℕ) → t ≡ text_of s p → 0 ≡ set_refusal s p block mask → Ready t block
  unfolding block_fits readable
  set_ready t q e =
      let ok : SetPassed = set_passed (sym e) in
      record { words = eqb-true (length block) 128 ok.words; codes = ap characters q ∙ ok.reads }
