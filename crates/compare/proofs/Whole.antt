-- Laws of whole numbers: a character and a translation in range, summed as the machine does it, are the sum of the
-- definition; a translation as a byte, 128 more. Assumes nothing.
use mathlib.Core.Path.{◌≡◌, refl, ◌∙◌}
use mathlib.Core.Bool.{Bool, true, false, cond, and-true}
use Prim.Native.Nat.{ℕ, suc, ◌+◌, ◌-◌, ◌≤◌, ◌<◌}
use native.Mathlib.Omega.{arith}
use lib.Dec.{T, ltb}
use lib.IntN.{ℤ, pos, negsuc, nat_abs, sub_ℕ, ◌+ℤ◌}
use lib.Signed.{mag, non_neg}
use mir.Syntax.{w8, w64}
use mir.Val.{Fits, SFits, to_z, of_z}
use mir.Facts.{to_z-of_z, to_z_pos}
use borrow.Author.Rules.{rules}
use borrow.Author.Tests.{leb-true, lt-ltb, le-ltb}
use Rattle.compare.specs.Order.{sign_of}
use Rattle.compare.specs.Compare.{translates}

mag_sub : (a b : ℕ) → mag (sub_ℕ a b) ≤ a + b
mag_sub a b = go (ltb a b)
  where
    go : (t : Bool) → mag (cond t (negsuc (b - suc a)) (pos (a - b))) ≤ a + b
    go true = omega arith
    go false = omega arith

-- the magnitude of a sum
mag_add : (a b : ℤ) → mag (a +ℤ b) ≤ suc (mag a + mag b)
mag_add (pos a) (pos b) = omega arith
mag_add (pos a) (negsuc b) = omega (arith, mag_sub a (suc b))
mag_add (negsuc a) (pos b) = omega (arith, mag_sub b (suc a))
mag_add (negsuc a) (negsuc b) = omega arith

translates_under : (n : ℕ) → translates (negsuc n) ≡ true → n ≤ 126
unfolding translates
translates_under n e = leb-true n 126 (simp and-true at e)

translates_mag : (t : ℤ) → translates t ≡ true → mag t ≤ 127
unfolding translates
translates_mag (pos n) e = leb-true n 127 e
translates_mag (negsuc n) e = omega (arith, translates_under n e)

pub character_read : (x : ℕ) → Fits w8 x → to_z w64 x ≡ pos x
character_read x f = to_z_pos w64 {n = x} (omega arith)

module _ (y : ℕ) (t : ℤ) (fy : Fits w8 y) (ft : SFits w64 t) where
  pub sum_read : to_z w64 y +ℤ to_z w64 (of_z w64 t) ≡ pos y +ℤ t
  sum_read = rw (to_z-of_z ft, character_read y fy)

  pub sum_small : translates t ≡ true → SFits w64 (pos y +ℤ t)
  sum_small e = record { sfits = omega (arith, mag_add (pos y) t, translates_mag t e) }

  pub sum_fits : translates t ≡ true → SFits w64 (to_z w64 y +ℤ to_z w64 (of_z w64 t))
  sum_fits e = rw sum_read (sum_small e)

-- ---- a translation as a byte, 128 more

abbrev raise : ℤ → ℕ
raise (pos n) = n + 128
raise (negsuc n) = 127 - n

raise_is : (t : ℤ) → mag t ≤ 127 → t +ℤ pos 128 ≡ pos (raise t)
raise_is (pos n) h = refl
raise_is (negsuc n) h = let k : suc n ≤ 128 = omega arith in let e : 128 - suc n ≡ 127 - n = omega arith in rw (le-ltb 128 (suc n) k, e)

raise_back : (t : ℤ) → translates t ≡ true → sub_ℕ (raise t) 128 ≡ t
raise_back (pos n) h = let k : 128 ≤ n + 128 = omega arith in let e : n + 128 - 128 ≡ n = omega arith in rw (le-ltb (n + 128) 128 k, e)
raise_back (negsuc n) h =
    let k : 127 - n < 128 = omega arith in
    let e : 128 - suc (127 - n) ≡ n = omega (arith, translates_under n h) in
    rw (lt-ltb (127 - n) 128 k, e)

raise_small : (t : ℤ) → mag t ≤ 127 → raise t < 256
raise_small (pos n) h = omega arith
raise_small (negsuc n) h = omega arith

module _ (t : ℤ) (ft : SFits w64 t) (e : translates t ≡ true) where
  raised_is : to_z w64 (of_z w64 t) +ℤ pos 128 ≡ pos (raise t)
  raised_is = rw (to_z-of_z ft) (raise_is t (translates_mag t e))

  pub raised_fits : SFits w64 (to_z w64 (of_z w64 t) +ℤ pos 128)
  raised_fits = rw raised_is (record { sfits = omega (arith, raise_small t (translates_mag t e)) })

  raised_read : to_z w64 (of_z w64 (to_z w64 (of_z w64 t) +ℤ pos 128)) ≡ pos (raise t)
  raised_read = to_z-of_z raised_fits ∙ raised_is

  pub raised_byte : T (non_neg (to_z w64 (of_z w64 (to_z w64 (of_z w64 t) +ℤ pos 128)))) × Fits w8 (nat_abs (to_z w64 (of_z w64 (to_z w64 (of_z w64 t) +ℤ pos 128))))
  raised_byte = rw raised_read (tt, omega (arith, raise_small t (translates_mag t e)))

  pub raised_back : sub_ℕ (nat_abs (to_z w64 (of_z w64 (to_z w64 (of_z w64 t) +ℤ pos 128)))) 128 ≡ t
  raised_back = rw raised_read (raise_back t e)

pub sign_less : (m n : ℕ) → m < n → negsuc 0 ≡ sign_of m n
unfolding sign_of
sign_less m n h = simp (lt-ltb m n h)

pub sign_more : (m n : ℕ) → n < m → pos 1 ≡ sign_of m n
unfolding sign_of
sign_more m n h = let k : n ≤ m = omega arith in simp (le-ltb m n k, lt-ltb n m h)

pub sign_same : (m n : ℕ) → n ≤ m → m ≤ n → pos 0 ≡ sign_of m n
unfolding sign_of
sign_same m n h k = simp (le-ltb m n h, le-ltb n m k)

pub ruleset whole_laws = (rules, sum_fits, raised_fits, raised_byte, raised_back, sign_less, sign_more, sign_same)
