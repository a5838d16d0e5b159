-- How far two texts are alike. Assumes nothing.
use Rattle.std.specs.Prelude.{ℕ, suc, cond, List, [], ◌∷◌, eqb}

-- how many characters two texts begin alike with
unfoldable pub common : List ℕ → List ℕ → ℕ
common [] y = 0
common (a ∷ x) [] = 0
common (a ∷ x) (b ∷ y) = cond (eqb a b) (suc (common x y)) 0
