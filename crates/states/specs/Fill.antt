-- How the rows of a table are filled: what the functions of translator and preparing promise one another. Each record
-- says what stands in the words ws' after a function was lent the words ws. Assumes nothing.
use Rattle.std.specs.Prelude.{ℕ, zero, suc, ◌+◌, ◌*◌, ◌≤◌, ◌<◌, ◌≡◌, Bool, true, false, cond, List, [], ◌∷◌, ◌++◌, eqb, ltb, length, get_or, take, drop}
use Rattle.search.specs.Search.{is_prefix, closed, length_of}
use Rattle.table.specs.Run.{word_of}
use Rattle.states.specs.Node.{at, reach, note_at}
use Rattle.states.specs.State.{total_to, state_of, IsNode, RowAt}

-- ---- what a row is made of

-- the next state of u by c: that of the first of the strings that goes on past u with c, else d; `off` characters stand
-- before the strings
abbrev pub target : List (List ℕ) → ℕ → List ℕ → ℕ → ℕ → ℕ
target [] off u c d = d
target (s ∷ ss) off u c d = cond (is_prefix (u ++ (c ∷ [])) s) (suc (off + suc (length u))) (target ss (off + length s) u c d)

-- the strings that count: those before the closing one, of n
abbrev pub limit : ℕ → ℕ → ℕ
limit zero n = n
limit (suc k) n = k

-- n where no string closes
abbrev pub if_open : ℕ → ℕ → ℕ
if_open zero n = n
if_open (suc k) n = 0

-- where no string goes on: the next state and the note of the tail of u, none where a string closes u
abbrev pub default_next : List (List ℕ) → List ℕ → ℕ → ℕ
default_next ss u c = if_open (closed ss u) (state_of ss (reach ss (drop 1 (u ++ (c ∷ [])))))

abbrev pub default_note : List (List ℕ) → List ℕ → ℕ
default_note ss u = if_open (closed ss u) (note_at ss u)

-- the next state of the start where no string goes on: itself, or the stop where a string closes or none is listed
abbrev pub root_to : ℕ → ℕ → ℕ
root_to zero n = 0
root_to (suc m) n = if_open n 1

-- a word of a state's row; 0 for state 0
abbrev pub word_or_stop : List ℕ → ℕ → ℕ → ℕ
word_or_stop ws zero c = 0
word_or_stop ws (suc q) c = word_of ws (suc q) c

-- n where a string closes and is the whole text, else d
abbrev pub new_note : ℕ → Bool → ℕ → ℕ → ℕ
new_note zero b n d = d
new_note (suc k) true n d = n
new_note (suc k) false n d = d

-- ---- what was written

-- only n words from base on
pub record Frame (ws ws' : List ℕ) (base n : ℕ) : Type 0 where
  pub len : length ws' ≡ length ws
  pub low : (i : ℕ) → i < base → get_or ws' i 0 ≡ get_or ws i 0
  pub high : (i : ℕ) → base + n ≤ i → get_or ws' i 0 ≡ get_or ws i 0

pub record Wrote (ws ws' : List ℕ) (base n : ℕ) (f : ℕ → ℕ) : Type 0 where
  pub frame : Frame ws ws' base n
  pub here : (c : ℕ) → c < n → get_or ws' (base + c) 0 ≡ f c

-- n words v
pub record Filled (ws ws' : List ℕ) (base n v : ℕ) : Type 0 where
  pub wrote : Wrote ws ws' base n (λ c. v)

-- the first n words of row `from` in row q
pub record Copied (ws ws' : List ℕ) (from q n : ℕ) : Type 0 where
  pub wrote : Wrote ws ws' (1 + 130 * q) n (λ c. word_of ws from c)

-- every next state v, and no note
pub record Flat (ws ws' : List ℕ) (q v : ℕ) : Type 0 where
  pub wrote : Wrote ws ws' (1 + 130 * q) 130 (λ c. cond (ltb c 128) v 0)

-- the row of state `from`, that of a stop being all 0
pub record Defaulted (ws ws' : List ℕ) (q from : ℕ) : Type 0 where
  pub wrote : Wrote ws ws' (1 + 130 * q) 130 (λ c. word_or_stop ws from c)

-- v for the character with which x goes on past u, if it does
pub record Put (ws ws' : List ℕ) (base v : ℕ) (u x : List ℕ) : Type 0 where
  pub wrote : Wrote ws ws' base 128 (λ c. cond (is_prefix (u ++ (c ∷ [])) x) v (get_or ws (base + c) 0))

-- the strings from number k + 1 on that go on past u
pub record Children (ws ws' : List ℕ) (base : ℕ) (u : List ℕ) (ss : List (List ℕ)) (k : ℕ) : Type 0 where
  pub wrote : Wrote ws ws' base 128 (λ c. target (drop k ss) (total_to ss k) u c (get_or ws (base + c) 0))

-- the note of state q where its closing string, of n characters, is the whole text, of l
pub record NotePut (ws ws' : List ℕ) (q closing n l : ℕ) : Type 0 where
  pub frame : Frame ws ws' (1 + 130 * q + 128) 2
  pub notes : word_of ws' q 128 ≡ new_note closing (eqb n l) closing (word_of ws q 128)
  pub wide : word_of ws' q 129 ≡ new_note closing (eqb n l) l (word_of ws q 129)

-- ---- rows and levels

-- row q before the strings that go on past u are put in
pub record Default (ss : List (List ℕ)) (ws : List ℕ) (q : ℕ) (u : List ℕ) : Type 0 where
  pub next : (c : ℕ) → c < 128 → word_of ws q c ≡ default_next ss u c
  pub notes : word_of ws q 128 ≡ default_note ss u
  pub wide : word_of ws q 129 ≡ length_of ss (default_note ss u)

-- row q is that of u, and no other word was written
pub record Rowed (ss : List (List ℕ)) (ws ws' : List ℕ) (q : ℕ) (u : List ℕ) : Type 0 where
  pub row : RowAt ss ws' q u
  pub frame : Frame ws ws' (1 + 130 * q) 130

-- the rows of all texts under n characters
abbrev pub Short : List (List ℕ) → List ℕ → ℕ → Type 0
Short ss ws n = (v : List ℕ) → IsNode ss v → length v < n → RowAt ss ws (state_of ss (at v)) v

-- the first l characters of x have their row, if they are so many; r is the state of the tail of one character more
pub record Stepped (ss : List (List ℕ)) (ws ws' x : List ℕ) (l q r : ℕ) : Type 0 where
  pub same : length x < l → ws' ≡ ws
  pub frame : l ≤ length x → Frame ws ws' (1 + 130 * q) 130
  pub row : l ≤ length x → RowAt ss ws' q (take l x)
  pub next : l < length x → r ≡ state_of ss (reach ss (drop 1 (take (suc l) x)))

-- how long the next text of string i is, where the first j strings are done with l characters
abbrev pub level_of : ℕ → ℕ → ℕ → ℕ
level_of l j i = cond (ltb i j) (suc l) l

-- the rows of all shorter texts stand, and fs holds for each string the state of the tail of its next text
pub record Levels (ss : List (List ℕ)) (ws fs : List ℕ) (l j : ℕ) : Type 0 where
  pub root : RowAt ss ws 1 []
  pub rows : (i k : ℕ) → i < length ss → 0 < k → k < level_of l j i → k ≤ length (get_or ss i [])
      → RowAt ss ws (suc (total_to ss i + k)) (take k (get_or ss i []))
  pub fail : (i : ℕ) → i < length ss → level_of l j i ≤ length (get_or ss i [])
      → get_or fs i 0 ≡ state_of ss (reach ss (drop 1 (take (level_of l j i) (get_or ss i []))))

-- word 0 and the words from n on
pub record Kept (ws ws' : List ℕ) (n : ℕ) : Type 0 where
  pub len : length ws' ≡ length ws
  pub front : get_or ws' 0 0 ≡ get_or ws 0 0
  pub high : (i : ℕ) → n ≤ i → get_or ws' i 0 ≡ get_or ws i 0
