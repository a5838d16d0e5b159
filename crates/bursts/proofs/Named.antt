-- A law that the documents name: a burst's checks, made one behind the other. Assumes nothing.
use mathlib.Core.Path.{◌≡◌, refl}
use mathlib.Core.Bool.{Bool}
use mathlib.Core.List.{List}
use Prim.Native.Nat.{ℕ, ◌+◌}
use lib.Dec.{leb}
use lib.ListN.{length}
use Rattle.strlib.proofs.Refusing.{first_is}
use Rattle.strlib.specs.Pointer.{characters}
use Rattle.strlib.specs.Refusal.{also}
use Rattle.bursts.specs.Bursts.{is_sound}
use Rattle.bursts.specs.Inner.{own_checks, own_refusal}
use Rattle.bursts.specs.declared.Carried.{Carried}

-- the checks that need no table, as they are made, one behind the other
module _ (c : Carried) (b : List ℕ) (found₁ : ℕ) (e₁ : found₁ ≡ also 0 3 (leb (length b) 300)) where
  pub burst_checked : (fits : Bool) → fits ≡ leb (c.total + length b) 65536 → (found₂ : ℕ) → found₂ ≡ also found₁ 3 fits
      → (found₃ : ℕ) → found₃ ≡ also found₂ 2 (characters b) → (sound : Bool) → sound ≡ is_sound c → (found₄ : ℕ) → found₄ ≡ also found₃ 10 sound
      → found₄ ≡ own_refusal c b
  unfolding own_refusal
  burst_checked fits e found₂ e₂ found₃ e₃ sound d found₄ e₄ = first_is (own_checks c b) refl found₄ (rw (e₄, e₃, e₂, e₁, e, d))
