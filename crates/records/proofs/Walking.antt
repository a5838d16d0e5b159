-- Laws of the two walks, over any test. Assumes nothing.
use mathlib.Core.Path.{◌≡◌, refl, sym, ◌∙◌}
use mathlib.Core.Bool.{Bool, true, false, cond, ◌&&◌, false≢true}
use Prim.Native.Nat.{ℕ, zero, suc, ◌-◌, ◌≤◌, ◌<◌}
use native.Mathlib.Omega.{arith}
use lib.Dec.{eqb}
use borrow.Author.Tests.{eqb-true, eqb-false, eq-eqb}
use Rattle.strlib.proofs.Pointing.{either}
use Rattle.records.specs.Walk.{last_of, lead_of}

-- what holds below n and at n holds below its successor
pub below_suc : (P : ℕ → Type 0) (n : ℕ) → ((k : ℕ) → k < n → P k) → P n → (k : ℕ) → k < suc n → P k
below_suc P n f p k h =
    either (suc k) n (λ (i : k < n). f k i) (λ (i : n < suc k). let e : k ≡ n = omega arith in rw e p)

-- ---- the last that passes

pub last_same : (f g : ℕ → Bool) (n : ℕ) → ((k : ℕ) → k < n → f k ≡ g k) → last_of f n ≡ last_of g n
unfolding last_of
last_same f g zero h = refl
last_same f g (suc n) h = rw (h n (omega arith), last_same f g n (λ k i. h k (omega arith)))

pub last_le : (f : ℕ → Bool) (n : ℕ) → last_of f n ≤ n
unfolding last_of
last_le f zero = omega arith
last_le f (suc n) = go (f n) (last_le f n)
  where
    go : (b : Bool) → last_of f n ≤ n → cond b (suc n) (last_of f n) ≤ suc n
    go true h = omega arith
    go false h = omega arith

-- a loop that looks from the last to the first: what is left has the same last
module _ (f : ℕ → Bool) (n k : ℕ) (e : last_of f n ≡ last_of f k) where
  seek_last : 0 < k → last_of f k ≡ cond (f (k - 1)) k (last_of f (k - 1))
  unfolding last_of
  seek_last h = go k h
    where
      go : (k : ℕ) → 0 < k → last_of f k ≡ cond (f (k - 1)) k (last_of f (k - 1))
      go zero h = absurd (omega arith)
      go (suc k) h = let z : suc k - 1 ≡ k = omega arith in rw z

  pub seek_hit : 0 < k → f (k - 1) ≡ true → k ≡ last_of f n
  seek_hit h t = sym (e ∙ seek_last h ∙ rw t)

  pub seek_miss : 0 < k → f (k - 1) ≡ false → last_of f n ≡ last_of f (k - 1)
  seek_miss h t = e ∙ seek_last h ∙ rw t

  pub seek_none : k ≤ 0 → 0 ≡ last_of f n
  unfolding last_of
  seek_none h = let z : k ≡ 0 = omega arith in sym (e ∙ rw z)

-- ---- the first that does not pass

pub lead_le : (f : ℕ → Bool) (n : ℕ) → lead_of f n ≤ n
unfolding lead_of
lead_le f zero = omega arith
lead_le f (suc n) = go (eqb (lead_of f n) n && f n) (lead_le f n)
  where
    go : (b : Bool) → lead_of f n ≤ n → cond b (suc n) (lead_of f n) ≤ suc n
    go true h = omega arith
    go false h = omega arith

-- all before it pass
pub lead_before : (f : ℕ → Bool) (n k : ℕ) → k < lead_of f n → f k ≡ true
unfolding lead_of
lead_before f zero k h = absurd (omega arith)
lead_before f (suc n) k h = go (eqb (lead_of f n) n) (f n) refl refl h (λ i. lead_before f n k i)
  where
    go : (a b : Bool) → eqb (lead_of f n) n ≡ a → f n ≡ b → k < cond (a && b) (suc n) (lead_of f n) → (k < lead_of f n → f k ≡ true) → f k ≡ true
    go true true p q i r =
        either (suc k) n (λ (j : k < n). r (omega (arith, eqb-true (lead_of f n) n p))) (λ (j : n < suc k). let e : k ≡ n = omega arith in rw e q)
    go true false p q i r = r i
    go false b p q i r = r i

-- where not all pass, it does not
pub lead_fails : (f : ℕ → Bool) (n : ℕ) → lead_of f n < n → f (lead_of f n) ≡ false
unfolding lead_of
lead_fails f zero h = absurd (omega arith)
lead_fails f (suc n) h = go (eqb (lead_of f n) n) (f n) refl refl h (λ i. lead_fails f n i)
  where
    go : (a b : Bool) → eqb (lead_of f n) n ≡ a → f n ≡ b → cond (a && b) (suc n) (lead_of f n) < suc n → (lead_of f n < n → f (lead_of f n) ≡ false)
        → f (cond (a && b) (suc n) (lead_of f n)) ≡ false
    go true true p q i r = absurd (omega arith)
    go true false p q i r = rw (eqb-true (lead_of f n) n p) q
    go false b p q i r =
        either n (lead_of f n)
        (λ (j : n ≤ lead_of f n). absurd (eqb-false (lead_of f n) n p (omega (arith, lead_le f n))))
        (λ (j : lead_of f n < n). r j)

pub lead_all : (f : ℕ → Bool) (n : ℕ) → ((k : ℕ) → k < n → f k ≡ true) → lead_of f n ≡ n
unfolding lead_of
lead_all f zero h = refl
lead_all f (suc n) h = rw (eq-eqb (lead_of f n) n (lead_all f n (λ k i. h k (omega arith))), h n (omega arith))

-- where all before k pass and k does not, it is k
pub lead_is : (f : ℕ → Bool) (n k : ℕ) → k < n → ((j : ℕ) → j < k → f j ≡ true) → f k ≡ false → lead_of f n ≡ k
lead_is f n k h t e =
    either (suc (lead_of f n)) k
    (λ (i : lead_of f n < k). absurd (false≢true (sym (lead_fails f n (omega arith)) ∙ t (lead_of f n) i)))
    (λ (i : k < suc (lead_of f n)).
    either (suc k) (lead_of f n)
    (λ (j : k < lead_of f n). absurd (false≢true (sym e ∙ lead_before f n k j)))
    (λ (j : lead_of f n < suc k). omega arith))
