-- Laws of the digits of a number, and of counting them: the quotient has one digit less, so that 36 are enough. Assumes
-- nothing.
use mathlib.Core.Path.{◌≡◌, sym, ap, ◌∙◌}
use mathlib.Core.Bool.{Bool, true, false, cond}
use mathlib.Core.List.{List, [], ◌∷◌, ◌++◌}
use Prim.Native.Nat.{ℕ, zero, suc, ◌+◌, ◌/◌, ◌%◌, ◌^◌, ◌≤◌, ◌<◌, zero-le}
use native.Mathlib.Nat.{div-lt_iff_lt-mul, div-lt_self, div-le_self, pow-zero, pow-suc, one-mul, mul-le-mul_left}
use native.Mathlib.Omega.{arith}
use lib.Dec.{ltb}
use lib.ListN.{length, length-append}
use mir.Syntax.{w64}
use mir.Val.{Fits}
use borrow.Author.Rules.{rules}
use borrow.Author.Tests.{lt-ltb, le-ltb}
use Rattle.strlib.proofs.Pointing.{either}
use Rattle.number.proofs.Ranging.{base_is}
use Rattle.number.specs.Limits.{is_base}
use Rattle.number.specs.Written.{digits_in, digits}
use Rattle.number.specs.Inner.{Countable}

module _ (base : ℕ) where
  pub one_in : (k n : ℕ) → n < base → digits_in (suc k) base n ≡ (48 + n) ∷ []
  unfolding digits_in
  one_in k n h = rw (lt-ltb n base h)

  pub more_in : (k n : ℕ) → base ≤ n → digits_in (suc k) base n ≡ digits_in k base (n / base) ++ ((48 + n % base) ∷ [])
  unfolding digits_in
  more_in k n h = rw (le-ltb n base h)

  few_in : (k n : ℕ) → length (digits_in k base n) ≤ k
  unfolding digits_in
  few_in zero n = zero-le
  few_in (suc k) n = go (few_in k (n / base)) (ltb n base)
    where
      go : length (digits_in k base (n / base)) ≤ k → (b : Bool)
          → length (cond b ((48 + n) ∷ []) (digits_in k base (n / base) ++ ((48 + n % base) ∷ []))) ≤ suc k
      go r true = omega arith
      go r false = rw length-append (omega arith)

  pub digits_few : (n : ℕ) → length (digits base n) ≤ 36
  unfolding digits
  digits_few n = few_in 36 n

  -- a number under the power k + 1 of the base has at most k + 1 digits
  under_in : (f k n : ℕ) → 0 < base → n < base ^ suc k → length (digits_in f base n) ≤ suc k
  under_in zero k n b h = omega (arith, few_in zero n)
  under_in (suc f) zero n b h = let e : base ^ 1 ≡ base = pow-suc base 0 ∙ rw (pow-zero base) (one-mul base) in rw (one_in f n (omega arith)) (omega arith)
  under_in (suc f) (suc k) n b h =
      either base n
      (λ (l : base ≤ n).
      let q : n / base < base ^ suc k = (div-lt_iff_lt-mul {k = base} b).1 (rw (pow-suc base (suc k)) at h) in
      rw (more_in f n l, length-append) (omega (arith, under_in f k (n / base) b q)))
      (λ (l : n < base). rw (one_in f n l) (omega arith))

  pub digits_under : (k n : ℕ) → 0 < base → n < base ^ suc k → length (digits base n) ≤ suc k
  unfolding digits
  digits_under k n b h = under_in 36 k n b h

  pub some_in : (k n : ℕ) → 0 < length (digits_in (suc k) base n)
  unfolding digits_in
  some_in k n = go (ltb n base)
    where
      go : (b : Bool) → 0 < length (cond b ((48 + n) ∷ []) (digits_in k base (n / base) ++ ((48 + n % base) ∷ [])))
      go true = omega arith
      go false = rw length-append (omega arith)

  pub digits_some : (n : ℕ) → 0 < length (digits base n)
  unfolding digits
  digits_some n = some_in 35 n

  pub digits_one : (n : ℕ) → n < base → digits base n ≡ (48 + n) ∷ []
  unfolding digits
  digits_one n h = one_in 35 n h

  module _ (g : is_base base ≡ true) where
    -- one binary digit less, at least
    pub quotient_less : (k n : ℕ) → n < 2 ^ suc k → n / base < 2 ^ k
    quotient_less k n h =
        let b = base_is base g in
        (div-lt_iff_lt-mul {k = base} (omega arith)).1 (omega (arith, pow-suc 2 k, mul-le-mul_left (2 ^ k) b.0))

    -- room for more digits than there are changes nothing
    enough : (k n : ℕ) → n < 2 ^ suc k → digits_in (suc (suc k)) base n ≡ digits_in (suc k) base n
    enough zero n h = let b = base_is base g in one_in 1 n (omega arith) ∙ sym (one_in 0 n (omega arith))
    enough (suc k) n h =
        let r = enough k (n / base) (quotient_less (suc k) n h) in
        either base n
        (λ (l : base ≤ n). more_in (suc (suc k)) n l ∙ ap (λ (ds : List ℕ). ds ++ ((48 + n % base) ∷ [])) r ∙ sym (more_in (suc k) n l))
        (λ (l : n < base). one_in (suc (suc k)) n l ∙ sym (one_in (suc k) n l))

    pub digits_more : (n : ℕ) → base ≤ n → n < 68719476736 → digits base n ≡ digits base (n / base) ++ ((48 + n % base) ∷ [])
    unfolding digits
    digits_more n l h =
        more_in 35 n l ∙ ap (λ (ds : List ℕ). ds ++ ((48 + n % base) ∷ [])) (sym (enough 34 (n / base) (quotient_less 35 n h)))

-- ---- counting, with m the quotient so far

module _ (base n : ℕ) (k : Countable base n) where
  pub base_some : 0 < base
  base_some = omega (arith, base_is base k.based)

  pub quotient_smaller : (m : ℕ) → base ≤ m → m / base < m
  quotient_smaller m l = let b = base_is base k.based in div-lt_self (omega arith) (omega arith)

  pub count_start : 1 + length (digits base n) ≡ length (digits base n) + 1
  count_start = omega arith

  module _ (m count : ℕ) (h : m < 68719476736) (e : count + length (digits base m) ≡ length (digits base n) + 1) where
    pub count_fits : Fits w64 (count + 1)
    count_fits = record { fits = omega (arith, digits_few base n) }

    pub quotient_small : m / base < 68719476736
    quotient_small = omega (arith, div-le_self m base)

    pub count_step : base ≤ m → count + 1 + length (digits base (m / base)) ≡ length (digits base n) + 1
    count_step l =
        let d : length (digits base m) ≡ length (digits base (m / base)) + 1 = rw (digits_more base k.based m l h, length-append) in
        omega arith

    pub count_end : m < base → count ≡ length (digits base n)
    count_end l = let d : length (digits base m) ≡ 1 = rw (digits_one base m l) in omega arith

pub ruleset count_laws = (rules, base_some, quotient_smaller, count_start, count_fits, quotient_small, count_step, count_end)
