-- The numbers of the states, and what the row of a state holds. State 0 stops, state 1 is the empty text, and the first
-- l > 0 characters of a string are state 1 + (the characters of the strings before it) + l. Assumes nothing.
use Rattle.std.specs.Prelude.{ℕ, zero, suc, ◌+◌, ◌*◌, ◌≤◌, ◌<◌, ◌≡◌, List, [], ◌∷◌, ◌++◌, ◌⊎◌, length}
use Rattle.search.specs.Search.{length_of}
use Rattle.table.specs.Run.{size_of, word_of}
use Rattle.states.specs.Node.{child, Node, stop, at, reach, note_at}

-- the characters of all strings together
abbrev pub total : List (List ℕ) → ℕ
total [] = zero
total (s ∷ ss) = length s + total ss

-- those of the first k strings
abbrev pub total_to : List (List ℕ) → ℕ → ℕ
total_to [] k = zero
total_to (s ∷ ss) zero = zero
total_to (s ∷ ss) (suc k) = length s + total_to ss k

-- those of the strings before string number j
abbrev pub total_before : List (List ℕ) → ℕ → ℕ
total_before ss zero = zero
total_before ss (suc k) = total_to ss k

-- a node's state: a text that several strings begin with is the first one's
abbrev pub state_of : List (List ℕ) → Node → ℕ
state_of ss stop = 0
state_of ss (at []) = 1
state_of ss (at (x ∷ v)) = suc (total_before ss (child ss (x ∷ v)) + suc (length v))

-- a text that has a state: the empty one, or what a listed string begins with
abbrev pub IsNode : List (List ℕ) → List ℕ → Type 0
IsNode ss v = (v ≡ []) ⊎ (0 < child ss v)

-- the row of state q is that of the text v
pub record RowAt (ss : List (List ℕ)) (ws : List ℕ) (q : ℕ) (v : List ℕ) : Type 0 where
  pub next : (c : ℕ) → c < 128 → word_of ws q c ≡ state_of ss (reach ss (v ++ (c ∷ [])))
  pub notes : word_of ws q 128 ≡ note_at ss v
  pub wide : word_of ws q 129 ≡ length_of ss (note_at ss v)

-- the words hold the row of each state
pub record Represents (ss : List (List ℕ)) (ws : List ℕ) : Type 0 where
  pub size : size_of ws ≡ total ss + 2
  pub long : 1 + 130 * (total ss + 2) ≤ length ws
  pub rows : (v : List ℕ) → IsNode ss v → RowAt ss ws (state_of ss (at v)) v
