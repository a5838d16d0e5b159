-- Laws of the base and the range, and of a number made from its sign and magnitude: in the range nothing overflows.
-- Assumes nothing.
use mathlib.Core.Path.{◌≡◌, ◌∙◌}
use mathlib.Core.Bool.{Bool, true, false, and-true}
use Prim.Native.Nat.{ℕ, zero, suc, ◌≤◌, ◌<◌}
use native.Mathlib.Omega.{arith}
use lib.Dec.{leb}
use lib.IntN.{ℤ, pos, negsuc, neg_ℤ, nat_abs, ◌-ℤ◌, +ℤ_idl}
use lib.Signed.{mag}
use mir.Syntax.{w64}
use mir.Val.{SFits, to_z, of_z}
use mir.Facts.{to_z-of_z, to_z_pos}
use borrow.Author.Rules.{rules}
use borrow.Author.Tests.{leb-true, le-leb, lt-leb}
use Rattle.strlib.proofs.Refusing.{and_both}
use Rattle.number.specs.Limits.{is_base, in_range}
use Rattle.number.specs.Text.{signed}

pub base_is : (base : ℕ) → is_base base ≡ true → (2 ≤ base) × (base ≤ 10)
unfolding is_base
base_is base e = let b = and_both (leb 2 base) (leb base 10) e in (leb-true 2 base b.0, leb-true base 10 b.1)

-- a small number is in the range, whatever its sign
pub in_range_lem : (z : ℤ) → nat_abs z < 34359738368 → in_range z ≡ true
unfolding in_range
in_range_lem (pos n) h = le-leb n 34359738367 (omega arith)
in_range_lem (negsuc n) h = rw (le-leb n 34359738367 (omega arith))

-- `mag z` is n for n and for −(n + 1)
pub range_mag : (z : ℤ) → in_range z ≡ true → mag z < 34359738368
unfolding in_range
range_mag (pos n) e = omega (arith, leb-true n 34359738367 e)
range_mag (negsuc n) e = omega (arith, leb-true n 34359738367 (simp and-true at e))

-- ---- with a sign

mag_neg : (v : ℕ) → mag (neg_ℤ (pos v)) ≤ v
mag_neg zero = omega arith
mag_neg (suc n) = omega arith

module _ (v : ℕ) (h : v ≤ 68719476736) where
  minus_is : pos 0 -ℤ to_z w64 v ≡ neg_ℤ (pos v)
  minus_is = rw (to_z_pos w64 {n = v} (omega arith)) (+ℤ_idl (neg_ℤ (pos v)))

  pub sign_fits : SFits w64 (pos 0 -ℤ to_z w64 v)
  sign_fits = rw minus_is (record { sfits = omega (arith, mag_neg v) })

  pub sign_minus : (b : Bool) → b ≡ true → to_z w64 (of_z w64 (pos 0 -ℤ to_z w64 v)) ≡ signed b v
  unfolding signed
  sign_minus b e = rw e (to_z-of_z sign_fits ∙ minus_is)

  pub sign_plus : (b : Bool) → b ≡ false → to_z w64 v ≡ signed b v
  unfolding signed
  sign_plus b e = rw e (to_z_pos w64 {n = v} (omega arith))

pub ruleset sign_laws = (rules, sign_fits, sign_minus, sign_plus)

-- over 2^35 a magnitude is out of range with either sign
pub signed_out : (b : Bool) (v : ℕ) → 34359738368 < v → in_range (signed b v) ≡ false
unfolding in_range signed
signed_out true zero h = absurd (omega arith)
signed_out true (suc n) h = simp and-true (lt-leb n 34359738367 (omega arith))
signed_out false v h = lt-leb v 34359738367 (omega arith)

-- ---- the magnitude

pub abs_mag : (z : ℤ) → nat_abs z ≤ suc (mag z)
abs_mag (pos n) = omega arith
abs_mag (negsuc n) = omega arith
