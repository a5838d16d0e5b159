-- How far the translation reaches: 02, W4. Assumes nothing.
use Rattle.std.specs.Prelude.{ℕ, zero, suc, ◌+◌, ◌-◌, ◌≤◌, ◌<◌, min, ◌≡◌, cond, List, ltb, eqb, length, get_or, ℤ, pos, neg_ℤ, ◌+ℤ◌}
use Rattle.strlib.specs.Pointer.{text_of}
use Rattle.strlib.specs.Refusal.{Outcome, outcome}
use Rattle.strlib.specs.declared.StrPtr.{StrPtr}
use Rattle.compare.specs.Order.{order_z, order_n, sign_of}
use Rattle.compare.specs.Compare.{Decision, Comparison, holds, pairs, length_decides, order_at, decision, compare_refusal, compare_rule}

-- it is added at an index under both lengths, and nowhere else
pub record Extent : Type 0 where
  pub inside : (xs ys : List ℕ) (t : ℤ) (i : ℕ) → i < length xs → i < length ys
      → order_at xs ys t i ≡ order_z (pos (get_or xs i 32)) (pos (get_or ys i 32) +ℤ t)
  pub past : (xs ys : List ℕ) (t : ℤ) (i : ℕ) → min (length xs) (length ys) ≤ i
      → order_at xs ys t i ≡ order_z (pos (get_or xs i 32)) (pos (get_or ys i 32))

-- ---- 01's comparison before W4: the translation is added at every index, to the pad and past string 1's end too

unfoldable pub order_before : List ℕ → List ℕ → ℤ → ℕ → ℕ
order_before xs ys t i = order_z (pos (get_or xs i 32)) (pos (get_or ys i 32) +ℤ t)

unfoldable pub unequal_before : List ℕ → List ℕ → ℤ → ℕ → ℕ → ℕ
unequal_before xs ys t i zero = i
unequal_before xs ys t i (suc k) = cond (eqb (order_before xs ys t i) 1) (unequal_before xs ys t (suc i) k) i

unfoldable pub decided_before : List ℕ → List ℕ → ℕ → ℤ → ℕ → ℕ → Decision
decided_before xs ys style t n d =
    cond (ltb d n) (record { order = order_before xs ys t d; split = d + 1 })
    (cond (length_decides style (length xs) (length ys)) (record { order = order_n (length xs) (length ys); split = n + 1 })
    (record { order = 1; split = 0 }))

unfoldable pub decision_before : List ℕ → List ℕ → ℕ → ℤ → Decision
decision_before xs ys style t = let n : ℕ = pairs style (length xs) (length ys) in decided_before xs ys style t n (unequal_before xs ys t 0 n)

unfoldable pub comparison_before : List ℕ → List ℕ → ℕ → ℕ → ℤ → Comparison
comparison_before xs ys code style t =
    record {
      yes = holds code (decision_before xs ys style t).order;
      sign = sign_of (length xs) (length ys);
      split = (decision_before xs ys style t).split;
    }

unfoldable pub rule_before : List ℕ → StrPtr → StrPtr → ℕ → ℕ → ℤ → Outcome Comparison
rule_before s a b code style t = outcome (compare_refusal s a b code style t) (comparison_before (text_of s a) (text_of s b) code style t)

-- nothing changes in exact and ignore style, nor without a translation, nor between strings of equal length
pub record Unchanged : Type 0 where
  pub unpadded : (s : List ℕ) (a b : StrPtr) (code style : ℕ) (t : ℤ) → (style ≡ 0 → ⊥)
      → compare_rule s a b code style t ≡ rule_before s a b code style t
  pub untranslated : (s : List ℕ) (a b : StrPtr) (code style : ℕ)
      → compare_rule s a b code style (pos 0) ≡ rule_before s a b code style (pos 0)
  pub equal_length : (s : List ℕ) (a b : StrPtr) (code style : ℕ) (t : ℤ) → length (text_of s a) ≡ length (text_of s b)
      → compare_rule s a b code style t ≡ rule_before s a b code style t

-- ---- the comparison turned round

-- the strings exchanged and the translation negated, the split is the same and the order, 0 to 2, the opposite
abbrev pub Turned : Type 0
Turned =
    (xs ys : List ℕ) (style : ℕ) (t : ℤ)
    → decision ys xs style (neg_ℤ t) ≡ record { order = 2 - (decision xs ys style t).order; split = (decision xs ys style t).split }
