-- Laws of reverse, in place and from a source: characters put and then reversed where they stand are the reversed
-- characters put. Assumes nothing.
use mathlib.Core.Path.{◌≡◌, refl, sym, ◌∙◌}
use mathlib.Core.Bool.{Bool, true}
use mathlib.Core.List.{List, [], ◌∷◌}
use Prim.Native.Nat.{ℕ, ◌≤◌}
use native.Mathlib.Omega.{arith}
use lib.Dec.{leb}
use lib.ListN.{length}
use borrow.Author.Tests.{leb-true}
use Rattle.strlib.specs.Checks.{into_checks}
use Rattle.strlib.specs.Pointer.{sized, good_in, text_of, clear}
use Rattle.strlib.specs.Refusal.{gives}
use Rattle.strlib.specs.Store.{put}
use Rattle.strlib.specs.declared.StrPtr.{StrPtr}
use Rattle.strlib.proofs.Pointing.{good_is, text_length}
use Rattle.strlib.proofs.Checking.{first_both, IntoPassed, into_passed}
use Rattle.strlib.proofs.Answering.{ruled_right}
use Rattle.strlib.proofs.Refusing.{passed}
use Rattle.moving.specs.Moving.{moved, reversed, reversed_at}
use Rattle.moving.proofs.Moving.{moved_in}
use Rattle.moving.proofs.Turning.{reversed_length, reversed_in, reversed_put}
use Rattle.editing.specs.Reversing.{reverse_checks, reverse_refusal, reverse_rule, reverse_from_refusal, reverse_from_rule}

-- ---- the checks

-- what is known where they find nothing
pub record ReversePassed (s : List ℕ) (string : StrPtr) : Type 0 where
  pub room : good_in (length s) string ≡ true

pub reverse_passed : (s : List ℕ) (string : StrPtr) → reverse_refusal s string ≡ 0 → ReversePassed s string
unfolding reverse_refusal
reverse_passed s string z = record { room = (passed (reverse_checks s string) refl z).1.0 }

pub record ReverseFromPassed (s : List ℕ) (destination source : StrPtr) : Type 0 where
  pub into : IntoPassed s destination source
  pub apart : clear destination source ≡ true
  pub fits : source.length ≤ destination.maximum

pub reverse_from_passed : (s : List ℕ) (destination source : StrPtr) → reverse_from_refusal s destination source ≡ 0 → ReverseFromPassed s destination source
unfolding reverse_from_refusal
reverse_from_passed s destination source z =
    let own : List (ℕ × Bool) = (5, clear destination source) ∷ (6, leb source.length destination.maximum) ∷ [] in
    let b = first_both (into_checks s destination source) own refl z in
    let ok = passed own refl b.1 in
    record { into = into_passed s destination source b.0; apart = ok.0; fits = leb-true _ _ ok.1.0 }

-- ---- in place

pub reverse_done : (s : List ℕ) (string : StrPtr) → ◌≡◌ {A = ℕ} 0 (reverse_refusal s string) → (t : List ℕ) → t ≡ reversed_at s string.start string.length
    → (gives string, t) ≡ reverse_rule s string
unfolding reverse_rule text_of
reverse_done s string e t q =
    ruled_right (reverse_refusal s string) string string e refl t _ s
    (q ∙ reversed_in s string.start string.length (omega (arith, good_is (length s) string (reverse_passed s string (sym e)).room)))

-- ---- from a source

pub reverse_from_done : (s : List ℕ) (destination source : StrPtr) → ◌≡◌ {A = ℕ} 0 (reverse_from_refusal s destination source)
    → (to : StrPtr) (t t' : List ℕ) → t ≡ moved s source.start destination.start source.length
    → t' ≡ reversed_at t destination.start source.length → to ≡ sized destination source.length → (gives to, t') ≡ reverse_from_rule s destination source
unfolding reverse_from_rule text_of
reverse_from_done s destination source e to t t' p q r =
    let ok = reverse_from_passed s destination source (sym e) in
    let room = good_is (length s) destination ok.into.room in
    let part = good_is (length s) source ok.into.part in
    let fit = ok.fits in
    let l : length (text_of s source) ≡ source.length = text_length s source ok.into.part in
    let m : t ≡ put s destination.start (text_of s source) = p ∙ moved_in s source.start destination.start source.length (omega arith) (omega arith) in
    let a : reversed_at (put s destination.start (text_of s source)) destination.start (length (text_of s source)) ≡ put s destination.start (reversed (text_of s source)) =
    reversed_put s destination.start (text_of s source) (omega arith) in
    ruled_right (reverse_from_refusal s destination source) to _ e (r ∙ rw (reversed_length, l)) t' _ s (q ∙ rw m (rw l at a))
