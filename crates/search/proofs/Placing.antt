-- A place as the code holds it, by its number. Assumes nothing.
use mathlib.Core.Path.{◌≡◌, refl}
use Prim.Native.Nat.{ℕ, zero, suc}
use Rattle.search.specs.Search.{nothing, found}
use Rattle.search.specs.Inner.{placed}

pub placed_some : (j pos1 pos2 : ℕ) → (j ≡ 0 → ⊥) → placed j pos1 pos2 ≡ found j pos1 pos2
unfolding placed
placed_some zero pos1 pos2 h = absurd (h refl)
placed_some (suc j) pos1 pos2 h = refl

pub placed_none : (j pos1 pos2 : ℕ) → j ≡ 0 → placed j pos1 pos2 ≡ nothing
unfolding placed
placed_none j pos1 pos2 e = rw e
