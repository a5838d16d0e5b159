-- What the functions inside the crate promise one another. Assumes nothing.
use Rattle.std.specs.Prelude.{ℕ, Bool, List, [], ◌∷◌, ◌++◌}
use Rattle.strlib.specs.Refusal.{first}
use Rattle.bursts.specs.Bursts.{is_sound, delivery_checks}
use Rattle.bursts.specs.declared.Carried.{Carried}

-- the checks that need no table; its size and whether it has the state are tested where its run goes on, and refused
-- with 10 like what is carried
abbrev pub own_checks : Carried → List ℕ → List (ℕ × Bool)
own_checks c burst = delivery_checks c burst ++ ((10, is_sound c) ∷ [])

unfoldable pub own_refusal : Carried → List ℕ → ℕ
own_refusal c burst = first (own_checks c burst)
