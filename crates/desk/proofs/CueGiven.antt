-- What an answer to a cue line tells: a cue that is given lies in the matrix, and its gain in the range; a refusal is
-- one of those listed. Assumes nothing.
use mathlib.Core.Path.{◌≡◌, refl, sym}
use mathlib.Core.Bool.{true, false, false≢true}
use mathlib.Core.List.{List, [], ◌∷◌, ◌++◌}
use Prim.Native.Nat.{ℕ, ◌≤◌, ◌<◌}
use native.Mathlib.Omega.{arith}
use borrow.Author.Tests.{leb-true}
use lib.Dec.{leb}
use lib.IntN.{ℤ, pos, negsuc, nat_abs}
use lib.ListN.{length}
use Rattle.number.proofs.Ranging.{in_range_lem}
use Rattle.number.specs.Limits.{in_range}
use Rattle.number.specs.Number.{of_text}
use Rattle.number.specs.Text.{number_of}
use Rattle.strlib.proofs.Checking.{first_both}
use Rattle.strlib.proofs.Refusing.{bool_case, and_both, passed, outcome_no, outcome_gave, outcome_is, first_under}
use Rattle.strlib.proofs.Pointing.{fits_is}
use Rattle.strlib.specs.Pointer.{store_fits}
use Rattle.strlib.specs.Refusal.{refused}
use Rattle.desk.specs.Cue.{formed, is_index, is_gain, mic_word, lsp_word, gain_word, line_checks, matrix_checks, number_checks, word_checks, cue_checks, cue_refusal, cue_of, cue_rule, CueGiven}

index_in : (size : ℕ) (z : ℤ) → is_index size z ≡ true → (1 ≤ nat_abs z) × (nat_abs z ≤ size)
unfolding is_index
index_in size (pos n) e = let b = and_both (leb 1 n) (leb n size) e in (leb-true 1 n b.0, leb-true n size b.1)
index_in size (negsuc n) e = absurd (false≢true e)

-- what the numbers of a line have that is not refused
record Given (line : List ℕ) (mics lsps : ℕ) : Type 0 where
  pub microphone : is_index mics (number_of 10 (mic_word line)) ≡ true
  pub loudspeaker : is_index lsps (number_of 10 (lsp_word line)) ≡ true
  pub gain : is_gain (number_of 10 (gain_word line)) ≡ true

given : (line : List ℕ) (mics lsps : ℕ) → cue_refusal line mics lsps ≡ 0 → Given line mics lsps
unfolding cue_refusal
given line mics lsps e =
    let a = mic_word line in
    let b = lsp_word line in
    let c = gain_word line in
    let m = matrix_checks mics lsps (number_of 10 a) (number_of 10 b) (number_of 10 c) in
    let w = (first_both (line_checks line mics lsps) (word_checks line mics lsps) refl e).1 in
    let n = (first_both ((11, formed line) ∷ []) (number_checks mics lsps a b c) refl w).1 in
    let n₂ = (first_both (of_text 10 a) (of_text 10 b ++ (of_text 10 c ++ m)) refl n).1 in
    let n₃ = (first_both (of_text 10 b) (of_text 10 c ++ m) refl n₂).1 in
    let p = passed m refl (first_both (of_text 10 c) m refl n₃).1 in
    record { microphone = p.0; loudspeaker = p.1.0; gain = p.1.1.0 }

pub cue_given : CueGiven
unfolding cue_rule cue_of
cue_given line mics lsps c e =
    let n = number_of 10 (mic_word line) in
    let m = number_of 10 (lsp_word line) in
    let g = outcome_gave (cue_refusal line mics lsps) (cue_of n m (number_of 10 (gain_word line))) c e in
    let p = given line mics lsps g.0 in
    rw (← g.1) (record { mic = index_in mics n p.microphone; lsp = index_in lsps m p.loudspeaker; gain = p.gain })

-- a gain is 960 at most whatever its sign, and so within the range of numbers
pub gain_small : (z : ℤ) → is_gain z ≡ true → nat_abs z ≤ 960
unfolding is_gain
gain_small (pos n) e = omega (arith, leb-true n 120 e)
gain_small (negsuc n) e = omega (arith, leb-true n 959 (and_both (leb n 959) true e).0)

pub gain_in_range : (z : ℤ) → is_gain z ≡ true → in_range z ≡ true
gain_in_range z e = in_range_lem z (omega (arith, gain_small z e))

-- a refusal's number is at most 12
pub cue_refused : (line : List ℕ) (mics lsps k : ℕ) → cue_rule line mics lsps ≡ refused k → k ≤ 12
unfolding cue_rule cue_refusal
cue_refused line mics lsps k e =
    let n = cue_refusal line mics lsps in
    let f = outcome_is n _ k e in
    rw (← f) (first_under 12 (cue_checks line mics lsps) refl)

-- a line over 65,536 bytes is refused with 3
pub cue_too_long : (line : List ℕ) (mics lsps : ℕ) → 65536 < length line → cue_rule line mics lsps ≡ refused 3
unfolding cue_rule cue_refusal
cue_too_long line mics lsps h =
    let f : store_fits line ≡ false = bool_case (store_fits line) (λ e. absurd (omega (arith, fits_is line e))) (λ e. e) in
    sym (outcome_no 3 (cue_refusal line mics lsps) (rw f) _ (λ (z : ◌≡◌ {A = ℕ} 3 0). omega arith))
