-- Which texts a table has states for, and what is noted in them. `closed` is the first listed string that a text begins
-- with, `child` the first that begins with the text. Assumes nothing.
use Rattle.std.specs.Prelude.{ℕ, zero, suc, Bool, true, false, List, [], ◌∷◌, ◌++◌, eqb, leb, length}
use Rattle.search.specs.Search.{is_prefix, first_number, closed, length_of}

-- the number of the first listed string that w stands at the front of, 0 for none
abbrev pub child : List (List ℕ) → List ℕ → ℕ
child [] w = zero
child (s ∷ ss) w = first_number (is_prefix w s) (child ss w)

-- a text is live where a listed string may yet be found at its front before any that is there now; shut where the
-- string found at its front is the answer; dead where none can be found at its front
pub data Kind : Type 0 where
  live shut dead : Kind

abbrev pub lead : Bool → Kind
lead true = live
lead false = shut

-- of i, the closing string, and j, the child: live where j > 0 and (i = 0 or j ≤ i); else shut where i > 0; else dead
abbrev pub kind : ℕ → ℕ → Kind
kind zero zero = dead
kind zero (suc j) = live
kind (suc i) zero = shut
kind (suc i) (suc j) = lead (leb j i)

abbrev pub text_kind : List (List ℕ) → List ℕ → Kind
text_kind ss w = kind (closed ss w) (child ss w)

-- a stop, or the text that matters
pub data Node : Type 0 where
  stop : Node
  at : List ℕ → Node

abbrev pub arrive : Kind → List ℕ → Node → Node
arrive live v r = at v
arrive shut v r = stop
arrive dead v r = r

-- the longest end of a text that matters to what is found when the text goes on
abbrev pub reach : List (List ℕ) → List ℕ → Node
reach ss [] = arrive (text_kind ss []) [] stop
reach ss (x ∷ w) = arrive (text_kind ss (x ∷ w)) (x ∷ w) (reach ss w)

-- the node after one character more
abbrev pub next_node : List (List ℕ) → Node → ℕ → Node
next_node ss stop c = stop
next_node ss (at v) c = reach ss (v ++ (c ∷ []))

abbrev pub only_where : Bool → ℕ → ℕ
only_where true n = n
only_where false n = zero

-- string i, where it is n characters long; r where no string closes
abbrev pub whole : List (List ℕ) → ℕ → ℕ → ℕ → ℕ
whole ss zero n r = r
whole ss (suc k) n r = only_where (eqb (length_of ss (suc k)) n) (suc k)

-- the number noted at a text: its closing string where this is the whole text, none where it is shorter; else what is
-- noted at the text's tail
abbrev pub note_at : List (List ℕ) → List ℕ → ℕ
note_at ss [] = whole ss (closed ss []) zero zero
note_at ss (x ∷ v) = whole ss (closed ss (x ∷ v)) (suc (length v)) (note_at ss v)

abbrev pub node_note : List (List ℕ) → Node → ℕ
node_note ss stop = zero
node_note ss (at v) = note_at ss v
