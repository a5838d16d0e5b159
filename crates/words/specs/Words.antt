-- Words, parted by one or more blanks, with outer blanks allowed: 01, "Cue lines and labels". Assumes nothing.
use Rattle.std.specs.Prelude.{ℕ, zero, suc, ◌-◌, ◌<◌, ◌≡◌, Bool, true, false, cond, not, ◌&&◌, ◌||◌, List, [], ◌∷◌, ◌++◌, eqb, ltb, length, get_or}
use Rattle.strlib.specs.Pointer.{pointer, good_in, text_of}
use Rattle.strlib.specs.declared.StrPtr.{StrPtr}
use Rattle.words.specs.Ends.{up_to, blanks_end, end_of}
use Rattle.words.specs.declared.Piece.{Piece}

-- the words that begin in a text: a word begins at a byte that is no blank (32) and comes first or behind a blank, and
-- holds the bytes before the next blank. The flag says that the byte before the text is in a word.
unfoldable pub words_in : Bool → List ℕ → List (List ℕ)
words_in inside [] = []
words_in inside (c ∷ cs) = cond (inside || eqb c 32) [] ((c ∷ up_to 32 cs) ∷ []) ++ words_in (not (eqb c 32)) cs

abbrev pub words : List ℕ → List (List ℕ)
words s = words_in false s

-- two texts are the same
unfoldable pub same : List ℕ → List ℕ → Bool
same [] [] = true
same [] (y ∷ ys) = false
same (x ∷ xs) [] = false
same (x ∷ xs) (y ∷ ys) = eqb x y && same xs ys

-- ---- words by their places

-- a piece as a string of the text, its room no longer than itself
unfoldable pub pointer_of : Piece → StrPtr
pointer_of w = pointer w.from (w.to - w.from) (w.to - w.from)

-- the first word from a place on; an empty piece where there is none
unfoldable pub next_word : List ℕ → ℕ → Piece
next_word s at = record { from = blanks_end s at; to = end_of 32 s (blanks_end s at); next = end_of 32 s (blanks_end s at) }

-- the first n words from a place on, as strings; where there are fewer, empty strings stand at the end
unfoldable pub first_words : ℕ → List ℕ → ℕ → List StrPtr
first_words zero s at = []
first_words (suc n) s at = pointer_of (next_word s at) ∷ first_words n s (next_word s at).next

-- the string p of the text s names word k, counted from 0: it is good, and empty exactly where there is no such word
pub record NamesWord (s : List ℕ) (k : ℕ) (p : StrPtr) : Type 0 where
  pub good : good_in (length s) p ≡ true
  pub text : text_of s p ≡ get_or (words s) k []
  pub some : ltb 0 p.length ≡ ltb k (length (words s))

-- the first n words by their places are the words of the text (`d`, what `get_or` gives past the end, is never reached)
abbrev pub NamesWords : Type 0
NamesWords = (n : ℕ) (s : List ℕ) (k : ℕ) (d : StrPtr) → k < n → NamesWord s k (get_or (first_words n s 0) k d)
