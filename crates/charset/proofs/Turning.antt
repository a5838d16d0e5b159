-- Laws of what is written into a block: a turn of a loop does to one word what is left to be done to it. Assumes
-- nothing.
use Prim.Native.Nat.{ℕ, suc, ◌+◌, ◌-◌, ◌≤◌, ◌<◌}
use mathlib.Core.Path.{◌≡◌, refl, sym, ◌∙◌}
use mathlib.Core.Bool.{Bool, true, false}
use mathlib.Core.List.{List, ◌++◌, append_assoc, append-nil}
use native.Mathlib.Numerals.{add-one}
use native.Mathlib.Omega.{arith}
use lib.Bits.{bit_and, bit_or}
use lib.ListN.{length, take, drop, get_or, set, length-set, drop_of_length-le}
use lib.Seq.{drop-cons, take_all, take-suc-set, drop-set-lt}
use borrow.Author.Rules.{rules}
use Rattle.strlib.proofs.Texts.{character_at}
use Rattle.charset.specs.Inner.{Ready}
use Rattle.charset.specs.Sets.{turned, turned_all, turned_at}

-- ---- one word

pub turned_on : (on : Bool) (mask w : ℕ) → on ≡ true → bit_or w mask ≡ turned on mask w
unfolding turned
turned_on on mask w e = rw e

pub turned_off : (on : Bool) (mask w : ℕ) → on ≡ false → bit_and w (18446744073709551615 - mask) ≡ turned on mask w
unfolding turned
turned_off on mask w e = rw e

-- ---- every word

-- the first i words are done, the others are as they were
unfoldable pub Turned : Bool → ℕ → List ℕ → List ℕ → ℕ → Type 0
Turned on mask old block i = turned_all on mask old ≡ take i block ++ turned_all on mask (drop i block)

pub turned_none : (on : Bool) (mask : ℕ) (old : List ℕ) → Turned on mask old old 0
unfolding Turned
turned_none on mask old = refl

module _ (on : Bool) (mask : ℕ) (old block : List ℕ) (i : ℕ) (t : Turned on mask old block i) where
  pub turned_more : (v : ℕ) → v ≡ turned on mask (get_or block i 0) → i < length block → Turned on mask old (set block i v) (i + 1)
  unfolding Turned turned_all
  turned_more v e h =
      t
      ∙ rw (drop-cons block i 0 h, ← e, add-one, take-suc-set block i v h, drop-set-lt (suc i) block i v (omega arith), append_assoc)

  pub turned_done : length block ≤ i → block ≡ turned_all on mask old
  unfolding Turned turned_all
  turned_done h = sym (t ∙ rw (drop_of_length-le block h, append-nil, take_all i block h))

-- ---- the words of characters

module _ (text block : List ℕ) (r : Ready text block) (i : ℕ) (h : i < length text) where
  pub code_small : get_or text i 0 ≤ 127
  code_small = character_at text i r.codes h

  pub code_word : (b : List ℕ) → length b ≡ 128 → get_or text i 0 < length b
  code_word b l = omega (arith, code_small)

module _ (on : Bool) (mask : ℕ) (text old block : List ℕ) (i : ℕ) (e : turned_at on mask text old ≡ turned_at on mask (drop i text) block) where
  pub at_more : (v : ℕ) → v ≡ turned on mask (get_or block (get_or text i 0) 0) → i < length text
      → turned_at on mask text old ≡ turned_at on mask (drop (i + 1) text) (set block (get_or text i 0) v)
  unfolding turned_at
  at_more v q h = e ∙ rw (drop-cons text i 0 h, q, add-one)

  pub at_done : length text ≤ i → block ≡ turned_at on mask text old
  unfolding turned_at
  at_done h = sym (e ∙ rw (drop_of_length-le text h))

pub long_set : (b : List ℕ) (i v n : ℕ) → length b ≡ n → length (set b i v) ≡ n
long_set b i v n e = length-set b i v ∙ e

pub ruleset turn_laws = (
  rules,
  turned_on,
  turned_off,
  turned_none,
  turned_more,
  turned_done,
  code_word,
  at_more,
  at_done,
  long_set,
)
