-- The digits that `io` gives are those that a number is written with, digit by digit. Assumes nothing.
use mathlib.Core.Path.{◌≡◌, sym, ◌∙◌}
use mathlib.Core.List.{List}
use Prim.Native.Nat.{ℕ, zero, suc, ◌-◌, ◌/◌, ◌%◌, ◌^◌, ◌≤◌, ◌<◌}
use native.Mathlib.Nat.{div-lt_iff_lt-mul, le-div_iff_mul-le, mod-eq_of_lt, mod-lt, pow-suc, pow-le-pow_right}
use native.Mathlib.Omega.{arith}
use borrow.Author.Tests.{lt-ltb}
use lib.ListN.{take}
use mir.Syntax.{w64}
use mir.Val.{Fits}
use Rattle.io.specs.Digits.{last_digits as shown, IsDigitCount}
use Rattle.number.proofs.Counting.{one_in, more_in}
use Rattle.number.specs.Written.{digits_in, digits}
use Rattle.strlib.proofs.Pointing.{either}

same_digits : (f k n : ℕ) → suc k ≤ f → n < 10 ^ suc k → (1 < suc k → 10 ^ k ≤ n) → shown 10 (suc k) n ≡ digits_in f 10 n
same_digits zero k n h l m = absurd (omega arith)
same_digits (suc f) zero n h l m =
    let a : n < 10 = omega arith in
    let e : n % 10 ≡ n = mod-eq_of_lt a in
    rw (e, lt-ltb n 10 a) (sym (one_in 10 f n a))
same_digits (suc f) (suc k) n h l m =
    let p : 10 ^ 1 ≤ 10 ^ suc k = pow-le-pow_right {n = 10} (omega arith) {i = 1} {j = suc k} (omega arith) in
    let a : 10 ≤ n = omega (arith, m (omega arith)) in
    let d : n / 10 < 10 ^ suc k = (div-lt_iff_lt-mul {k = 10} (omega arith)).1 (rw (pow-suc 10 (suc k)) at l) in
    let u : 10 ^ k ≤ n / 10 = (le-div_iff_mul-le {k = 10} {x = 10 ^ k} {y = n} (omega arith)).1 (omega (arith, pow-suc 10 k, m (omega arith))) in
    let r : n % 10 < 10 = mod-lt n (omega arith) in
    let i = same_digits f k (n / 10) (omega arith) d (λ z. u) in
    rw (i, lt-ltb (n % 10) 10 r) (sym (more_in 10 f n a))

twenty : (n k : ℕ) → n < 18446744073709551616 → (1 < k → 10 ^ (k - 1) ≤ n) → k ≤ 20
twenty n k h l =
    either k 20
    (λ (m : k ≤ 20). m)
    (λ (m : 20 < k).
    let p : 10 ^ 20 ≤ 10 ^ (k - 1) = pow-le-pow_right {n = 10} (omega arith) {i = 20} {j = k - 1} (omega arith) in
    absurd (omega (arith, l (omega arith))))

pub decimal_is : (n k : ℕ) (b : List ℕ) → Fits w64 n → IsDigitCount 10 1 n k → take k b ≡ shown 10 k n → take k b ≡ digits 10 n
unfolding digits
decimal_is n zero b h f e = absurd (omega (arith, f.0))
decimal_is n (suc k) b h f e =
    let j : suc k - 1 ≡ k = omega arith in
    e ∙ same_digits 36 k n (omega (arith, twenty n (suc k) (omega (arith, h.fits)) f.2)) f.1 (λ l. rw j at (f.2 l))
