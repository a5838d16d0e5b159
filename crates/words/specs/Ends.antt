-- Where words and lines end: 01, "Cue lines and labels". A word ends before a blank (32), a line before byte 10.
-- Assumes nothing.
use Rattle.std.specs.Prelude.{ℕ, suc, ◌+◌, cond, List, [], ◌∷◌, eqb, length, drop}

-- the bytes before the first one that is b
unfoldable pub up_to : ℕ → List ℕ → List ℕ
up_to b [] = []
up_to b (c ∷ cs) = cond (eqb c b) [] (c ∷ up_to b cs)

-- how many blanks stand in front
unfoldable pub blank_count : List ℕ → ℕ
blank_count [] = 0
blank_count (c ∷ cs) = cond (eqb c 32) (suc (blank_count cs)) 0

-- the first place from a place on that has no blank, and the first that has the byte b
unfoldable pub blanks_end : List ℕ → ℕ → ℕ
blanks_end s at = at + blank_count (drop at s)

unfoldable pub end_of : ℕ → List ℕ → ℕ → ℕ
end_of b s at = at + length (up_to b (drop at s))
