-- Comparing: 01, "Comparing", and 02, W4. Assumes nothing.
use Rattle.std.specs.Prelude.{ℕ, zero, suc, ◌+◌, ◌≤◌, ◌<◌, min, max, ◌≡◌, Bool, cond, not, ◌&&◌, List, [], ◌∷◌, leb, ltb, eqb, length, get_or, ℤ, pos, negsuc, ◌+ℤ◌, Result, Ok, Err}
use Rattle.std.specs.Int.Signed.{le_z}
use Rattle.std.specs.Ordering.{ordering_index}
use Rattle.std.specs.declared.cmp.Ordering.{Ordering}
use Rattle.std.specs.declared.cmp.Ordering.TheVariants.{Less, Equal, Greater}
use Rattle.strlib.specs.Pointer.{store_fits, good_in, text_of, readable}
use Rattle.strlib.specs.Refusal.{Outcome, refused, gives, first, outcome, refusal_number}
use Rattle.strlib.specs.declared.refusal.Refusal.{Refusal}
use Rattle.strlib.specs.declared.StrPtr.{StrPtr}
use Rattle.compare.specs.Order.{order_z, order_n, sign_of}
use Rattle.compare.specs.declared.Comparison.{Comparison as Answer}
use Rattle.compare.specs.declared.Decision.{Decision as Decided}

-- what decides a comparison: the order of the two texts, 0 less, 1 equal or 2 greater, and the split
pub record Decision : Type 0 where
  pub order : ℕ
  pub split : ℕ

-- what a comparison gives: yes or no, the sign of length 1 − length 2, and the split
pub record Comparison : Type 0 where
  pub yes : Bool
  pub sign : ℤ
  pub split : ℕ

-- whether an order, 0 less, 1 equal or 2 greater, is what a code asks for: 0 equal, 1 not equal, 2 greater or equal, 3
-- less or equal, 4 greater, 5 less (a code over 5 is refused)
unfoldable pub holds : ℕ → ℕ → Bool
holds code order =
    cond (eqb code 0) (eqb order 1)
    (cond (eqb code 1) (not (eqb order 1))
    (cond (eqb code 2) (leb 1 order)
    (cond (eqb code 3) (leb order 1)
    (cond (eqb code 4) (eqb order 2) (eqb order 0)))))

-- styles: 0 padded, 1 exact, 2 ignore. Padded, the shorter is filled with blanks, so that there are as many pairs as
-- the longer has characters; else as many as the shorter has
unfoldable pub pairs : ℕ → ℕ → ℕ → ℕ
pairs style m n = cond (eqb style 0) (max m n) (min m n)

-- exact style's length rule: the longer is greater
unfoldable pub length_decides : ℕ → ℕ → ℕ → Bool
length_decides style m n = eqb style 1 && not (eqb m n)

-- a translation is −127 to 127
unfoldable pub translates : ℤ → Bool
translates t = le_z (negsuc 126) t && le_z t (pos 127)

-- string 2 as it is compared, at index i, where the shorter string has n characters: the translation is added to its
-- first n characters, never to its pad blanks (32) and never to its characters past string 1's end (02, W4)
unfoldable pub translated : List ℕ → ℤ → ℕ → ℕ → ℤ
translated ys t n i = cond (ltb i n) (pos (get_or ys i 32) +ℤ t) (pos (get_or ys i 32))

-- the order of the pair at index i
unfoldable pub order_at : List ℕ → List ℕ → ℤ → ℕ → ℕ
order_at xs ys t i = order_z (pos (get_or xs i 32)) (translated ys t (min (length xs) (length ys)) i)

-- of the k pairs from index i on, the index of the first unequal one, or i + k where all are equal
unfoldable pub unequal_from : List ℕ → List ℕ → ℤ → ℕ → ℕ → ℕ
unequal_from xs ys t i zero = i
unequal_from xs ys t i (suc k) = cond (eqb (order_at xs ys t i) 1) (unequal_from xs ys t (suc i) k) i

-- the same in plain words: of n pairs all before index d are equal, and the one at d, where there is one, is not
pub record FirstUnequal (xs ys : List ℕ) (t : ℤ) (n d : ℕ) : Type 0 where
  pub within : d ≤ n
  pub equal : (i : ℕ) → i < d → order_at xs ys t i ≡ 1
  pub unequal : d < n → order_at xs ys t d ≡ 1 → ⊥

abbrev pub SplitsFirst : Type 0
SplitsFirst = (xs ys : List ℕ) (t : ℤ) (n : ℕ) → FirstUnequal xs ys t n (unequal_from xs ys t 0 n)

-- what decides, where the first unequal pair of n has the index d: that pair, or exact style's length rule, or nothing
unfoldable pub decided : List ℕ → List ℕ → ℕ → ℤ → ℕ → ℕ → Decision
decided xs ys style t n d =
    cond (ltb d n) (record { order = order_at xs ys t d; split = d + 1 })
    (cond (length_decides style (length xs) (length ys)) (record { order = order_n (length xs) (length ys); split = n + 1 })
    (record { order = 1; split = 0 }))

unfoldable pub decision : List ℕ → List ℕ → ℕ → ℤ → Decision
decision xs ys style t = let n : ℕ = pairs style (length xs) (length ys) in decided xs ys style t n (unequal_from xs ys t 0 n)

-- the answer: yes or no by the code's table, the sign, and the split for yes and no alike
unfoldable pub comparison : List ℕ → List ℕ → ℕ → ℕ → ℤ → Comparison
comparison xs ys code style t =
    record {
      yes = holds code (decision xs ys style t).order;
      sign = sign_of (length xs) (length ys);
      split = (decision xs ys style t).split;
    }

abbrev pub compare_checks : List ℕ → StrPtr → StrPtr → ℕ → ℕ → ℤ → List (ℕ × Bool)
compare_checks s a b code style t =
    (3, store_fits s)
    ∷ (3, leb code 5) ∷ (3, leb style 2) ∷ (3, translates t)
    ∷ (1, good_in (length s) a) ∷ (1, good_in (length s) b)
    ∷ (2, readable s a) ∷ (2, readable s b) ∷ []

unfoldable pub compare_refusal : List ℕ → StrPtr → StrPtr → ℕ → ℕ → ℤ → ℕ
compare_refusal s a b code style t = first (compare_checks s a b code style t)

unfoldable pub compare_rule : List ℕ → StrPtr → StrPtr → ℕ → ℕ → ℤ → Outcome Comparison
compare_rule s a b code style t = outcome (compare_refusal s a b code style t) (comparison (text_of s a) (text_of s b) code style t)

-- ---- the code's answers, as the paper has them

abbrev pub ordering_sign : Ordering → ℤ
ordering_sign Less = negsuc 0
ordering_sign Equal = pos 0
ordering_sign Greater = pos 1

abbrev pub decision_of : Decided → Decision
decision_of d = record { order = ordering_index d.order; split = d.split }

abbrev pub comparison_of : Answer → Comparison
comparison_of c = record { yes = c.yes; sign = ordering_sign c.sign; split = c.split }

abbrev pub compared_of : Result Answer Refusal → Outcome Comparison
compared_of (Ok c) = gives (comparison_of c)
compared_of (Err refusal) = refused (refusal_number refusal)
