-- What the functions inside the crate ask of one another. Assumes nothing.
use Rattle.std.specs.Prelude.{ℕ, ◌+◌, ◌*◌, ◌≤◌, ◌<◌, ◌≡◌, true, List, length, take, drop}
use Rattle.strlib.specs.Pointer.{all, characters}
use Rattle.search.specs.Search.{closed}
use Rattle.states.specs.Node.{at, reach}
use Rattle.states.specs.State.{total, state_of, IsNode, RowAt}
use Rattle.states.specs.Fill.{Default, Short, Levels, Kept}

-- the strings of a list that was not refused, and words for all their states
pub record Ready (s : List ℕ) (ss : List (List ℕ)) (ws : List ℕ) : Type 0 where
  pub few : length ss ≤ 32
  pub room : length s ≤ 65536
  pub plain : all characters ss ≡ true
  pub small : total ss ≤ 240
  pub long : 1 + 130 * (total ss + 2) ≤ length ws

-- row q has the default of u, and string `closing` closes u
pub record Open (ss : List (List ℕ)) (ws u : List ℕ) (q closing : ℕ) : Type 0 where
  pub short : length u ≤ 240
  pub inside : q < total ss + 2
  pub closes : closing ≡ closed ss u
  pub default : Default ss ws q u

-- the rows of all shorter texts stand, and `fail` is the state of the tail of u
pub record Next (ss : List (List ℕ)) (ws u : List ℕ) (q fail : ℕ) : Type 0 where
  pub some : 0 < length u
  pub short : length u ≤ 240
  pub inside : q < total ss + 2
  pub rows : Short ss ws (length u)
  pub failed : fail ≡ state_of ss (reach ss (drop 1 u))

-- the same for the first l characters of x, where there are so many
pub record Turn (ss : List (List ℕ)) (ws x : List ℕ) (l q fail : ℕ) : Type 0 where
  pub some : 0 < l
  pub plain : characters x ≡ true
  pub short : length x ≤ 240
  pub rows : Short ss ws l
  pub inside : l ≤ length x → q < total ss + 2
  pub failed : l ≤ length x → fail ≡ state_of ss (reach ss (drop 1 (take l x)))

-- a level is done
pub record Leveled (ss : List (List ℕ)) (ws ws' fs : List ℕ) (l : ℕ) : Type 0 where
  pub levels : Levels ss ws' fs l 0
  pub kept : Kept ws ws' (1 + 130 * (total ss + 2))

-- the rows of all texts stand
pub record Rows (ss : List (List ℕ)) (ws ws' : List ℕ) : Type 0 where
  pub rows : (v : List ℕ) → IsNode ss v → RowAt ss ws' (state_of ss (at v)) v
  pub kept : Kept ws ws' (1 + 130 * (total ss + 2))
