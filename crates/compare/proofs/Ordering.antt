-- Laws of the order of two numbers, 0 less, 1 equal, 2 greater; that of a number and a sum is one of two naturals.
-- Assumes nothing.
use mathlib.Core.Path.{◌≡◌, refl, sym, ◌∙◌}
use mathlib.Core.Bool.{Bool, true, false, cond}
use Prim.Native.Nat.{ℕ, zero, suc, ◌+◌, ◌-◌, ◌≤◌, ◌<◌}
use native.Mathlib.Omega.{arith}
use lib.Dec.{eqb, ltb}
use lib.IntN.{ℤ, pos, negsuc, neg_ℤ, sub_ℕ, ◌+ℤ◌}
use borrow.Author.Tests.{ltb-true, ltb-false, eqb-true, eqb-false, eq-eqb, ne_eqb, lt-ltb, le-ltb}
use Rattle.strlib.proofs.Pointing.{either}
use Rattle.strlib.proofs.Refusing.{bool_case}
use Rattle.compare.specs.Order.{order_z, order_n}

-- two tests that hold together are equal
pub eqb_same : (a b c d : ℕ) → (a ≡ b → c ≡ d) → (c ≡ d → a ≡ b) → eqb a b ≡ eqb c d
eqb_same a b c d f g =
    bool_case (eqb c d) (λ e. rw e (eq-eqb a b (g (eqb-true c d e)))) (λ e. rw e (ne_eqb a b (λ z. eqb-false c d e (f z))))

module _ (m n : ℕ) where
  pub less : m < n → order_n m n ≡ 0
  unfolding order_n
  less h = simp (lt-ltb m n h)

  pub more : n < m → order_n m n ≡ 2
  unfolding order_n
  more h = let k : n ≤ m = omega arith in simp (le-ltb m n k, lt-ltb n m h)

  pub same : m ≡ n → order_n m n ≡ 1
  unfolding order_n
  same h = let k : n ≤ m = omega arith in let l : m ≤ n = omega arith in simp (le-ltb m n k, le-ltb n m l)

-- one of three
pub by_order : {X : Type 0} (m n : ℕ) → (m < n → X) → (m ≡ n → X) → (n < m → X) → X
by_order m n f g h = either n m (λ k. either m n (λ l. g (omega arith)) h) f

-- the same order of two other numbers
alike : (m n k l : ℕ) → (m < n → k < l) → (m ≡ n → k ≡ l) → (n < m → l < k) → order_n m n ≡ order_n k l
alike m n k l f g h =
    by_order m n (λ a. less m n a ∙ sym (less k l (f a))) (λ a. same m n a ∙ sym (same k l (g a))) (λ a. more m n a ∙ sym (more k l (h a)))

pub naturals_turned : (m n : ℕ) → order_n n m ≡ 2 - order_n m n
naturals_turned m n =
    by_order m n (λ a. more n m a ∙ rw (less m n a)) (λ a. same n m (sym a) ∙ rw (same m n a)) (λ a. less n m a ∙ rw (more m n a))

one_same : (m n : ℕ) → eqb (order_n m n) 1 ≡ eqb m n
one_same m n =
    by_order m n (λ a. rw (less m n a, ne_eqb m n (λ e. omega arith))) (λ a. rw (same m n a, eq-eqb m n a))
    (λ a. rw (more m n a, ne_eqb m n (λ e. omega arith)))

-- ---- a number beside a sum

pub plain : (a b : ℕ) → order_z (pos a) (pos b) ≡ order_n a b
unfolding order_z order_n
plain a b = refl

up : (a b k : ℕ) → order_z (pos a) (pos b +ℤ pos k) ≡ order_n a (b + k)
up a b k = plain a (b + k)

down : (a b k : ℕ) → order_z (pos a) (pos b +ℤ negsuc k) ≡ order_n (a + suc k) b
unfolding order_z
down a b k = go (ltb b (suc k)) refl
  where
    go : (c : Bool) → ltb b (suc k) ≡ c → order_z (pos a) (cond c (negsuc (suc k - suc b)) (pos (b - suc k))) ≡ order_n (a + suc k) b
    go true e = sym (more (a + suc k) b (omega (arith, ltb-true b (suc k) e)))
    go false e =
        let l = ltb-false b (suc k) e in
        plain a (b - suc k) ∙ alike a (b - suc k) (a + suc k) b (λ h. omega arith) (λ h. omega arith) (λ h. omega arith)

-- the numbers changed over and the translation negated
pub order_turned : (a b : ℕ) (t : ℤ) → order_z (pos b) (pos a +ℤ neg_ℤ t) ≡ 2 - order_z (pos a) (pos b +ℤ t)
order_turned a b (pos zero) = up b a 0 ∙ alike b (a + 0) (b + 0) a (λ h. omega arith) (λ h. omega arith) (λ h. omega arith) ∙ naturals_turned a (b + 0) ∙ rw (up a b 0)
order_turned a b (pos (suc k)) = down b a k ∙ naturals_turned a (b + suc k) ∙ rw (up a b (suc k))
order_turned a b (negsuc k) = up b a (suc k) ∙ naturals_turned (a + suc k) b ∙ rw (down a b k)

-- numbers without a translation
pub order_plain : (a b : ℕ) → order_z (pos a) (pos b) ≡ order_z (pos a) (pos b +ℤ pos 0)
order_plain a b = plain a b ∙ (let e : b ≡ b + 0 = omega arith in rw (← e) (sym (plain a b)))

pub plain_turned : (a b : ℕ) → order_z (pos b) (pos a) ≡ 2 - order_z (pos a) (pos b)
plain_turned a b = plain b a ∙ naturals_turned a b ∙ rw (plain a b)

pub equal_plain : (a b : ℕ) → order_z (pos a) (pos b) ≡ 1 → a ≡ b
equal_plain a b e = eqb-true a b (sym (one_same a b) ∙ eq-eqb _ 1 (sym (plain a b) ∙ e))

pub plain_equal : (a b : ℕ) → a ≡ b → order_z (pos a) (pos b) ≡ 1
plain_equal a b e = plain a b ∙ same a b e

-- equal, as bytes say it
pub equal_raised : (x y d : ℕ) → x ≤ 127 → y ≤ 127 → eqb (x + 128 - y) d ≡ eqb (order_z (pos x) (pos y +ℤ sub_ℕ d 128)) 1
equal_raised x y d h k = go (ltb d 128) refl
  where
    by : (m n : ℕ) → (x + 128 - y ≡ d → m ≡ n) → (m ≡ n → x + 128 - y ≡ d) → eqb (x + 128 - y) d ≡ eqb (order_n m n) 1
    by m n f g = eqb_same (x + 128 - y) d m n f g ∙ sym (one_same m n)

    go : (c : Bool) → ltb d 128 ≡ c → eqb (x + 128 - y) d ≡ eqb (order_z (pos x) (pos y +ℤ cond c (negsuc (128 - suc d)) (pos (d - 128)))) 1
    go true e = let l = ltb-true d 128 e in by (x + suc (128 - suc d)) y (λ z. omega arith) (λ z. omega arith) ∙ rw (down x y (128 - suc d))
    go false e = let l = ltb-false d 128 e in by x (y + (d - 128)) (λ z. omega arith) (λ z. omega arith) ∙ rw (up x y (d - 128))
