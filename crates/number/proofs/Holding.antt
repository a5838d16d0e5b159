-- A value that is held at 2^36 once it is more reads as the exact value does: what digits follow only makes it larger,
-- and over the range the number itself no longer counts. Assumes nothing.
use mathlib.Core.Path.{◌≡◌, refl, sym, ap, ◌∙◌}
use mathlib.Core.Bool.{Bool, true, false}
use mathlib.Core.List.{List, [], ◌∷◌}
use Prim.Native.Nat.{ℕ, ◌+◌, ◌-◌, ◌*◌, ◌≤◌, ◌<◌, min}
use native.Mathlib.Nat.{min-eq_left, min-eq_right, mul-le-mul_right}
use native.Mathlib.Omega.{arith}
use Rattle.strlib.proofs.Pointing.{either}
use Rattle.strlib.specs.Refusal.{outcome}
use Rattle.number.proofs.Ranging.{signed_out}
use Rattle.number.specs.Text.{value, signed}
use Rattle.number.specs.Inner.{reads}

step_held : (base w d : ℕ) → 1 ≤ base → min (min w 68719476736 * base + d) 68719476736 ≡ min (w * base + d) 68719476736
step_held base w d h =
    either w 68719476736
    (λ (l : w ≤ 68719476736). rw (min-eq_left l))
    (λ (l : 68719476736 < w). let k : 68719476736 ≤ w = omega arith in rw (min-eq_right k) (omega (arith, mul-le-mul_right base k)))

value_held : (base w : ℕ) (cs : List ℕ) → 1 ≤ base → min (value base (min w 68719476736) cs) 68719476736 ≡ min (value base w cs) 68719476736
unfolding value
value_held base w [] h = omega arith
value_held base w (c ∷ cs) h =
    sym (value_held base (min w 68719476736 * base + (c - 48)) cs h)
    ∙ ap (λ (v : ℕ). min (value base v cs) 68719476736) (step_held base w (c - 48) h)
    ∙ value_held base (w * base + (c - 48)) cs h

reads_out : (formed b : Bool) (v w : ℕ) → 34359738368 < v → 34359738368 < w → reads formed (signed b v) ≡ reads formed (signed b w)
unfolding reads outcome
reads_out true b v w h k = rw (signed_out b v h, signed_out b w k)
reads_out false b v w h k = refl

reads_held : (formed b : Bool) (v : ℕ) → reads formed (signed b (min v 68719476736)) ≡ reads formed (signed b v)
reads_held formed b v =
    either v 68719476736
    (λ (l : v ≤ 68719476736). rw (min-eq_left l))
    (λ (l : 68719476736 < v). reads_out formed b (min v 68719476736) v (omega arith) (omega arith))

-- digits behind the value w, held
pub held_reads : (formed b : Bool) (base w : ℕ) (cs : List ℕ) → 1 ≤ base
    → reads formed (signed b (value base (min w 68719476736) cs)) ≡ reads formed (signed b (value base w cs))
held_reads formed b base w cs h =
    sym (reads_held formed b (value base (min w 68719476736) cs))
    ∙ ap (λ (v : ℕ). reads formed (signed b v)) (value_held base w cs h)
    ∙ reads_held formed b (value base w cs)
