-- The digits written are the fewest: n digits make numbers under base^n only, and each number under base^n has at most
-- n digits. Assumes nothing.
use mathlib.Core.Path.{◌≡◌, refl, sym, ◌∙◌}
use mathlib.Core.Bool.{Bool, true, false, cond, false≢true}
use mathlib.Core.List.{List, [], ◌∷◌, ◌++◌}
use Prim.Native.Nat.{ℕ, zero, suc, ◌+◌, ◌-◌, ◌*◌, ◌/◌, ◌%◌, ◌^◌, ◌≤◌, ◌<◌, zero-le}
use native.Mathlib.Nat.{div-lt_iff_lt-mul, le-div_iff_mul-le, pow-suc, pow-zero, suc-mul, pow-succ', mul_assoc, mul-one, one-mul, mul-le-mul_right, lt_of_lt_of_le, le_trans}
use native.Mathlib.Omega.{arith}
use lib.Dec.{ltb, eqb}
use lib.IntN.{pos, neg_ℤ}
use lib.ListN.{length, drop, length-append}
use borrow.Author.Tests.{ltb-true}
use Rattle.strlib.proofs.Refusing.{and_both}
use Rattle.strlib.proofs.Pointing.{either}
use Rattle.strlib.specs.Pointer.{all}
use Rattle.number.proofs.Ranging.{base_is}
use Rattle.number.proofs.Reading.{digit_is}
use Rattle.number.proofs.Counting.{one_in, more_in, some_in, quotient_less}
use Rattle.number.specs.Limits.{is_base}
use Rattle.number.specs.Text.{unblanked, minus, unsigned, is_digit, are_digits, is_number, value, signed, number_of}
use Rattle.number.specs.Written.{digits_in, digits, sign, written}
use Rattle.number.specs.RoundTrip.{Fewest}

module _ (base : ℕ) (g : is_base base ≡ true) where
  -- a number under base^(k + 1) has at most k + 1 digits
  few : (f k n : ℕ) → n < base ^ suc k → length (digits_in f base n) ≤ suc k
  unfolding digits_in
  few zero k n h = zero-le
  few (suc f) zero n h = rw (one_in base f n (rw (pow-suc, pow-zero, one-mul) at h)) (omega arith)
  few (suc f) (suc k) n h =
      let b = base_is base g in
      let r = few f k (n / base) ((div-lt_iff_lt-mul {k = base} (omega arith)).1 (rw (pow-suc base (suc k)) at h)) in
      either base n
      (λ (l : base ≤ n). rw (more_in base f n l, length-append) (omega arith))
      (λ (l : n < base). rw (one_in base f n l) (omega arith))

  -- digits behind the value v make a number under (v + 1) * base^count
  below : (v : ℕ) (ds : List ℕ) → all (is_digit base) ds ≡ true → value base v ds < suc v * base ^ length ds
  unfolding all value
  below v [] a = rw (pow-zero, mul-one) (omega arith)
  below v (c ∷ cs) a =
      let b = and_both (is_digit base c) (all (is_digit base) cs) a in
      let d = digit_is base c b.0 in
      let m : suc (v * base + (c - 48)) ≤ suc v * base = rw suc-mul (omega arith) in
      lt_of_lt_of_le (below (v * base + (c - 48)) cs b.1) (rw (pow-succ', ← mul_assoc) (mul-le-mul_right (base ^ length cs) m))

  digits_fewest : (ds : List ℕ) → are_digits base ds ≡ true → length (digits base (value base 0 ds)) ≤ length ds
  unfolding are_digits digits
  digits_fewest ds a =
      let b = and_both (ltb 0 (length ds)) (all (is_digit base) ds) a in
      let l : length ds ≡ suc (length ds - 1) = omega (arith, ltb-true 0 (length ds) b.0) in
      let h : value base 0 ds < base ^ suc (length ds - 1) = rw (← l) (rw (one-mul) at (below 0 ds b.1)) in
      omega (arith, few 36 (length ds - 1) (value base 0 ds) h)

  unblanked_le : (cs : List ℕ) → length (unblanked cs) ≤ length cs
  unfolding unblanked
  unblanked_le [] = omega arith
  unblanked_le (c ∷ cs) = go (eqb c 32) (unblanked_le cs)
    where
      go : (b : Bool) → length (unblanked cs) ≤ length cs → length (cond b (unblanked cs) (c ∷ cs)) ≤ suc (length cs)
      go true h = omega arith
      go false h = omega arith

  -- behind the blanks
  unblanked_fewest : (cs : List ℕ) (b : Bool) → minus cs ≡ b → are_digits base (cond b (drop 1 cs) cs) ≡ true
      → length (written base (signed b (value base 0 (cond b (drop 1 cs) cs)))) ≤ length cs
  unfolding written sign signed minus
  unblanked_fewest cs false m a = digits_fewest cs a
  unblanked_fewest [] true m a = absurd (false≢true m)
  unblanked_fewest (c ∷ cs) true m a = go (value base 0 cs) (digits_fewest cs a)
    where
      go : (v : ℕ) → length (digits base v) ≤ length cs → length (written base (neg_ℤ (pos v))) ≤ suc (length cs)
      go zero h = omega arith
      go (suc v) h = omega arith

  shortest : (cs : List ℕ) → is_number base cs ≡ true → length (written base (number_of base cs)) ≤ length cs
  unfolding is_number number_of unsigned
  shortest cs a = le_trans (unblanked_fewest (unblanked cs) (minus (unblanked cs)) refl a) (unblanked_le cs)

  -- the first digit
  front_is : (xs : List ℕ) (x : ℕ) (ds : List ℕ) → 0 < length xs → xs ++ (x ∷ []) ≡ 48 ∷ ds → (ys : List ℕ) × (xs ≡ 48 ∷ ys)
  front_is [] x ds h e = absurd (omega arith)
  front_is (y ∷ ys) x ds h e = (ys, cc)

  alone : (n k : ℕ) (ds : List ℕ) → n < base → digits_in (suc k) base n ≡ 48 ∷ ds → n ≡ 0
  alone n k ds l e = let o = one_in base k n l in let q : 48 + n ≡ 48 = cc in omega arith

  leading_in : (k n : ℕ) (ds : List ℕ) → n < 2 ^ suc k → digits_in (suc k) base n ≡ 48 ∷ ds → n ≡ 0
  leading_in zero n ds h e = alone n 0 ds (omega (arith, base_is base g)) e
  leading_in (suc k) n ds h e =
      either base n
      (λ (l : base ≤ n).
      let f = front_is (digits_in (suc k) base (n / base)) (48 + n % base) ds (some_in base k (n / base)) (sym (more_in base (suc k) n l) ∙ e) in
      let z = leading_in k (n / base) f.0 (quotient_less base g (suc k) n h) f.1 in
      let b = base_is base g in
      absurd (omega (arith, z, (le-div_iff_mul-le {k = base} {x = 1} {y = n} (omega arith)).1 (omega arith))))
      (λ (l : n < base). alone n (suc k) ds l e)

  leading : (n : ℕ) (ds : List ℕ) → n < 68719476736 → digits base n ≡ 48 ∷ ds → n ≡ 0
  unfolding digits
  leading n ds h e = leading_in 35 n ds h e

pub fewest : Fewest
fewest = record { leading = λ base n ds g. leading base g n ds; shortest = λ base cs g. shortest base g cs }
