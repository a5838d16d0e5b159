-- How far the translation reaches: what W4 promises beside the rule itself. Assumes nothing.
use mathlib.Core.Path.{◌≡◌, refl, sym, ◌∙◌}
use mathlib.Core.List.{List}
use Prim.Native.Nat.{ℕ, zero, suc, ◌+◌, ◌-◌, ◌<◌, min}
use native.Mathlib.Omega.{arith}
use lib.Dec.{eqb, ltb}
use lib.IntN.{ℤ, pos, neg_ℤ}
use lib.ListN.{length, get_or}
use borrow.Author.Tests.{ltb-true, ne_eqb, lt-ltb, le-ltb}
use Rattle.strlib.proofs.Pointing.{either}
use Rattle.strlib.proofs.Refusing.{bool_case}
use Rattle.strlib.specs.Pointer.{text_of}
use Rattle.strlib.specs.declared.StrPtr.{StrPtr}
use Rattle.compare.specs.Order.{order_z}
use Rattle.compare.specs.Compare.{Decision, pairs, length_decides, translated, order_at, unequal_from, decided, decision, comparison, compare_rule}
use Rattle.compare.specs.Extent.{Extent, order_before, unequal_before, decided_before, decision_before, comparison_before, rule_before, Unchanged, Turned}
use Rattle.compare.proofs.Ordering.{eqb_same, order_plain, order_turned, plain_turned, naturals_turned}

pub extent : Extent
unfolding order_at translated
extent =
    record {
      inside = λ xs ys t i h k. let l : i < min (length xs) (length ys) = omega arith in rw (lt-ltb i (min (length xs) (length ys)) l);
      past = λ xs ys t i h. rw (le-ltb i (min (length xs) (length ys)) h);
    }

-- ---- what stays

module _ (xs ys : List ℕ) (t : ℤ) where
  before_inside : (i : ℕ) → i < min (length xs) (length ys) → order_at xs ys t i ≡ order_before xs ys t i
  unfolding order_before
  before_inside i h = extent.inside xs ys t i (omega arith) (omega arith)

  unequal_before_lem : (i k : ℕ) → ((j : ℕ) → j < i + k → order_at xs ys t j ≡ order_before xs ys t j) → unequal_from xs ys t i k ≡ unequal_before xs ys t i k
  unfolding unequal_from unequal_before
  unequal_before_lem i zero h = refl
  unequal_before_lem i (suc k) h = rw (h i (omega arith), unequal_before_lem (suc i) k (λ j l. h j (omega arith)))

  decided_before_lem : (style n d : ℕ) → ((j : ℕ) → j < n → order_at xs ys t j ≡ order_before xs ys t j) → decided xs ys style t n d ≡ decided_before xs ys style t n d
  unfolding decided decided_before
  decided_before_lem style n d h = bool_case (ltb d n) (λ e. rw (e, h d (ltb-true d n e))) (λ e. rw e)

  decision_before_lem : (style : ℕ) → ((j : ℕ) → j < pairs style (length xs) (length ys) → order_at xs ys t j ≡ order_before xs ys t j)
      → decision xs ys style t ≡ decision_before xs ys style t
  unfolding decision decision_before
  decision_before_lem style h =
      let n : ℕ = pairs style (length xs) (length ys) in
      rw (unequal_before_lem 0 n (λ j l. h j (omega arith))) (decided_before_lem style n (unequal_before xs ys t 0 n) h)

  comparison_before_lem : (code style : ℕ) → ((j : ℕ) → j < pairs style (length xs) (length ys) → order_at xs ys t j ≡ order_before xs ys t j)
      → comparison xs ys code style t ≡ comparison_before xs ys code style t
  unfolding comparison comparison_before
  comparison_before_lem code style h = rw (decision_before_lem style h)

before_plain : (xs ys : List ℕ) (i : ℕ) → order_z (pos (get_or xs i 32)) (pos (get_or ys i 32)) ≡ order_before xs ys (pos 0) i
unfolding order_before
before_plain xs ys i = order_plain (get_or xs i 32) (get_or ys i 32)

-- nothing is added anywhere
pub untranslated : (xs ys : List ℕ) (i : ℕ) → order_at xs ys (pos 0) i ≡ order_z (pos (get_or xs i 32)) (pos (get_or ys i 32))
untranslated xs ys i =
    either (min (length xs) (length ys)) i (extent.past xs ys (pos 0) i)
    (λ h. extent.inside xs ys (pos 0) i (omega arith) (omega arith) ∙ sym (order_plain (get_or xs i 32) (get_or ys i 32)))

pub pairs_unpadded : (style m n : ℕ) → (style ≡ 0 → ⊥) → pairs style m n ≡ min m n
unfolding pairs
pairs_unpadded style m n h = rw (ne_eqb style 0 h)

pairs_equal_length : (style m n : ℕ) → m ≡ n → pairs style m n ≡ min m n
unfolding pairs
pairs_equal_length style m n h = bool_case (eqb style 0) (λ e. rw e (omega arith)) (λ e. rw e)

rule_before_lem : (s : List ℕ) (a b : StrPtr) (code style : ℕ) (t : ℤ) → comparison (text_of s a) (text_of s b) code style t ≡ comparison_before (text_of s a) (text_of s b) code style t
    → compare_rule s a b code style t ≡ rule_before s a b code style t
unfolding compare_rule rule_before
rule_before_lem s a b code style t e = rw e

-- as many pairs as the shorter has
inside_before : (s : List ℕ) (a b : StrPtr) (code style : ℕ) (t : ℤ)
    → pairs style (length (text_of s a)) (length (text_of s b)) ≡ min (length (text_of s a)) (length (text_of s b))
    → compare_rule s a b code style t ≡ rule_before s a b code style t
inside_before s a b code style t e =
    rule_before_lem s a b code style t (comparison_before_lem (text_of s a) (text_of s b) t code style (λ j l. before_inside (text_of s a) (text_of s b) t j (rw e at l)))

pub unchanged : Unchanged
unchanged =
    record {
      unpadded = λ s a b code style t h. inside_before s a b code style t (pairs_unpadded style (length (text_of s a)) (length (text_of s b)) h);
      untranslated = λ s a b code style.
          rule_before_lem s a b code style (pos 0)
          (comparison_before_lem (text_of s a) (text_of s b) (pos 0) code style (λ j l. untranslated (text_of s a) (text_of s b) j ∙ before_plain (text_of s a) (text_of s b) j));
      equal_length = λ s a b code style t h. inside_before s a b code style t (pairs_equal_length style (length (text_of s a)) (length (text_of s b)) h);
    }

-- ---- the comparison turned round

pairs_turned : (style m n : ℕ) → pairs style n m ≡ pairs style m n
unfolding pairs
pairs_turned style m n = bool_case (eqb style 0) (λ e. rw e (omega arith)) (λ e. rw e (omega arith))

lengths_decide_turned : (style m n : ℕ) → length_decides style n m ≡ length_decides style m n
unfolding length_decides
lengths_decide_turned style m n = rw (eqb_same n m m n sym sym)

opposite : Decision → Decision
opposite d = record { order = 2 - d.order; split = d.split }

module _ (xs ys : List ℕ) (t : ℤ) where
  at_turned : (i : ℕ) → order_at ys xs (neg_ℤ t) i ≡ 2 - order_at xs ys t i
  at_turned i =
      either (min (length xs) (length ys)) i
      (λ h. extent.past ys xs (neg_ℤ t) i (omega arith) ∙ plain_turned (get_or xs i 32) (get_or ys i 32) ∙ rw (extent.past xs ys t i h))
      (λ h. extent.inside ys xs (neg_ℤ t) i (omega arith) (omega arith) ∙ order_turned (get_or xs i 32) (get_or ys i 32) t ∙ rw (extent.inside xs ys t i (omega arith) (omega arith)))

  one_turned : (i : ℕ) → eqb (order_at ys xs (neg_ℤ t) i) 1 ≡ eqb (order_at xs ys t i) 1
  one_turned i = let o : ℕ = order_at xs ys t i in rw (at_turned i) (eqb_same (2 - o) 1 o 1 (λ e. omega arith) (λ e. omega arith))

  pub unequal_turned : (i k : ℕ) → unequal_from ys xs (neg_ℤ t) i k ≡ unequal_from xs ys t i k
  unfolding unequal_from
  unequal_turned i zero = refl
  unequal_turned i (suc k) = rw (one_turned i, unequal_turned (suc i) k)

  decided_turned : (style n d : ℕ) → decided ys xs style (neg_ℤ t) n d ≡ opposite (decided xs ys style t n d)
  unfolding decided opposite
  decided_turned style n d =
      bool_case (ltb d n) (λ e. rw (e, at_turned d))
      (λ e. rw (e, lengths_decide_turned style (length xs) (length ys)) (bool_case (length_decides style (length xs) (length ys)) (λ f. rw (f, naturals_turned (length xs) (length ys))) (λ f. rw f)))

pub turned_round : Turned
unfolding decision opposite
turned_round xs ys style t =
    let n : ℕ = pairs style (length xs) (length ys) in
    rw (pairs_turned style (length xs) (length ys), unequal_turned xs ys t 0 n) (decided_turned xs ys t style n (unequal_from xs ys t 0 n))
