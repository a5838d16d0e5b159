-- Lines: 01, "Cue lines and labels". A line ends before byte 10; a last unended line counts if it isn't empty. Assumes
-- nothing.
use Rattle.std.specs.Prelude.{ℕ, zero, suc, ◌+◌, ◌≡◌, Bool, true, cond, List, [], ◌∷◌, ◌++◌, eqb, ltb, length}
use Rattle.strlib.specs.Pointer.{text_of}
use Rattle.words.specs.Ends.{up_to, end_of}
use Rattle.words.specs.Words.{pointer_of}
use Rattle.words.specs.declared.Piece.{Piece}

-- the lines that begin in a text: one begins at each byte that comes first or behind a byte 10, and holds the bytes
-- before the next byte 10. The flag says that a line begins here.
unfoldable pub lines_in : Bool → List ℕ → List (List ℕ)
lines_in start [] = []
lines_in start (c ∷ cs) = cond start (up_to 10 (c ∷ cs) ∷ []) [] ++ lines_in (eqb c 10) cs

abbrev pub lines : List ℕ → List (List ℕ)
lines s = lines_in true s

-- ---- lines by their places

-- the line that begins at a place; the next one begins behind its byte 10
unfoldable pub next_line : List ℕ → ℕ → Piece
next_line s at = record { from = at; to = end_of 10 s at; next = cond (ltb (end_of 10 s at) (length s)) (end_of 10 s at + 1) (end_of 10 s at) }

-- the lines that n turns give from a place on
unfoldable pub lines_from : ℕ → List ℕ → ℕ → List (List ℕ)
lines_from zero s at = []
lines_from (suc n) s at = cond (ltb at (length s)) (text_of s (pointer_of (next_line s at)) ∷ lines_from n s (next_line s at).next) []

-- walking from line to line gives exactly the lines
abbrev pub WalksLines : Type 0
WalksLines = (s : List ℕ) → lines_from (length s) s 0 ≡ lines s
