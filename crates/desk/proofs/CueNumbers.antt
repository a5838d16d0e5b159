-- Laws of the numbers of a cue: a signed number as an index, and the three against the matrix. Assumes nothing.
use mathlib.Core.Path.{◌≡◌, refl, sym, ap, ◌∙◌}
use mathlib.Core.Bool.{Bool, true, false, cond, ◌&&◌, and-true, and-false, true≢false, false≢true}
use Prim.Native.Nat.{ℕ, zero, suc, ◌^◌, ◌≤◌, ◌<◌}
use native.Mathlib.Omega.{arith}
use borrow.Author.Rules.{rules}
use borrow.Author.Tests.{ltb-true, le-leb, lt-leb}
use lib.Dec.{T, leb}
use lib.IntN.{ℤ, pos, negsuc, nat_abs}
use lib.Signed.{mag, le_z, lt_z, non_neg}
use mir.Facts.{to_z-of_z}
use mir.Syntax.{w64}
use mir.Val.{Fits, SFits, to_z, of_z}
use Rattle.strlib.proofs.Refusing.{and_both, outcome_no, outcome_yes}
use Rattle.strlib.specs.Refusal.{refused, gives, first}
use Rattle.desk.specs.declared.cue.Cue.{Cue}
use Rattle.desk.specs.Cue.{is_index, is_gain, matrix_checks, cue_of}
use Rattle.desk.specs.CueInner.{index_of, in_matrix}

-- ---- an index

index_low : (v : ℤ) (most : ℕ) → lt_z v (pos 1) ≡ true → 0 ≡ index_of most v
unfolding index_of
index_low (pos zero) most e = rw (le-leb 0 most (omega arith))
index_low (pos (suc n)) most e = absurd (omega (arith, ltb-true (suc n) 1 e))
index_low (negsuc n) most e = refl

index_at : (v : ℤ) (most : ℕ) → lt_z v (pos 1) ≡ false → nat_abs v ≤ most → nat_abs v ≡ index_of most v
unfolding index_of
index_at (pos n) most e h = rw (le-leb n most h)
index_at (negsuc n) most e h = absurd (true≢false e)

index_high : (v : ℤ) (most : ℕ) → lt_z v (pos 1) ≡ false → most < nat_abs v → 0 ≡ index_of most v
unfolding index_of
index_high (pos n) most e h = rw (lt-leb n most h)
index_high (negsuc n) most e h = absurd (true≢false e)

index_cast : (v : ℤ) → mag v < 2 ^ 63 → lt_z v (pos 1) ≡ false → T (non_neg v) × Fits w64 (nat_abs v)
index_cast (pos n) m e = (tt, record { fits = omega (arith, m) })
index_cast (negsuc n) m e = absurd (true≢false e)

-- the same of a number that the code holds
module _ (v : ℤ) (most : ℕ) (f : SFits w64 v) where
  pub low : lt_z (to_z w64 (of_z w64 v)) (pos 1) ≡ true → 0 ≡ index_of most v
  low t = index_low v most (rw (to_z-of_z f) at t)

  pub cast : lt_z (to_z w64 (of_z w64 v)) (pos 1) ≡ false → T (non_neg (to_z w64 (of_z w64 v))) × Fits w64 (nat_abs (to_z w64 (of_z w64 v)))
  cast t = rw (to_z-of_z f) (index_cast v f.sfits (rw (to_z-of_z f) at t))

  pub inside : lt_z (to_z w64 (of_z w64 v)) (pos 1) ≡ false → nat_abs (to_z w64 (of_z w64 v)) ≤ most → nat_abs (to_z w64 (of_z w64 v)) ≡ index_of most v
  inside t h = rw (to_z-of_z f) (index_at v most (rw (to_z-of_z f) at t) (rw (to_z-of_z f) at h))

  pub high : lt_z (to_z w64 (of_z w64 v)) (pos 1) ≡ false → most < nat_abs (to_z w64 (of_z w64 v)) → 0 ≡ index_of most v
  high t h = index_high v most (rw (to_z-of_z f) at t) (rw (to_z-of_z f) at h)

-- it is 0 exactly where the number is no index
index_is : (most : ℕ) (v : ℤ) → leb 1 (index_of most v) ≡ is_index most v
unfolding index_of is_index
index_is most (pos n) = go (leb n most) refl
  where
    go : (t : Bool) → leb n most ≡ t → leb 1 (cond t n 0) ≡ (leb 1 n && leb n most)
    go true e = rw (e, and-true)
    go false e = rw (e, and-false)
index_is most (negsuc n) = refl

index_value : (most : ℕ) (v : ℤ) → is_index most v ≡ true → index_of most v ≡ nat_abs v
unfolding index_of is_index
index_value most (pos n) e = rw (and_both (leb 1 n) (leb n most) e).1
index_value most (negsuc n) e = absurd (false≢true e)

pub gain_in : (v v' : ℤ) (b : Bool) → v' ≡ v → b ≡ (le_z (negsuc 959) v' && le_z v' (pos 120)) → b ≡ is_gain v
unfolding is_gain
gain_in v v' b e f = rw (← e) f

pub ruleset gain_laws = (rules, gain_in)

-- ---- the matrix

module _ (mics lsps : ℕ) (n n' m m' g g' : ℤ) (i j : ℕ) (a b c : Bool) (en : n' ≡ n) (em : m' ≡ m) (eg : g' ≡ g)
    (ei : i ≡ index_of mics n') (ej : j ≡ index_of lsps m') (ea : a ≡ (leb 1 i && leb 1 j)) (eb : b ≡ is_gain g') (ec : c ≡ (a && b)) where
  tests : c ≡ ((is_index mics n && is_index lsps m) && is_gain g)
  tests = ec ∙ rw (ea, eb, ei, ej, en, em, eg, index_is mics n, index_is lsps m)

  pub matrix_in : c ≡ true → gives (record { microphone = i; loudspeaker = j; gain = g' }) ≡ in_matrix mics lsps n m g
  unfolding in_matrix cue_of
  matrix_in t =
      let p = and_both (is_index mics n && is_index lsps m) (is_gain g) (sym tests ∙ t) in
      let q = and_both (is_index mics n) (is_index lsps m) p.0 in
      let x : i ≡ nat_abs n = ei ∙ rw en (index_value mics n q.0) in
      let y : j ≡ nat_abs m = ej ∙ rw em (index_value lsps m q.1) in
      outcome_yes 0 (first (matrix_checks mics lsps n m g)) (rw (q.0, q.1, p.1)) _ (cue_of n m g) refl (rw (x, y, eg))

  pub matrix_out : c ≡ false → refused 12 ≡ in_matrix mics lsps n m g
  unfolding in_matrix
  matrix_out t =
      outcome_no 12 (first (matrix_checks mics lsps n m g)) (go (is_index mics n) (is_index lsps m) (is_gain g) (sym tests ∙ t)) (cue_of n m g) (λ (z : ◌≡◌ {A = ℕ} 12 0). omega arith)
    where
      go : (x y z : Bool) → ((x && y) && z) ≡ false → ◌≡◌ {A = ℕ} 12 (cond x (cond y (cond z 0 12) 12) 12)
      go true true true e = absurd (true≢false e)
      go true true false e = refl
      go true false z e = refl
      go false y z e = refl

pub ruleset matrix_laws = (rules, matrix_in, matrix_out)
