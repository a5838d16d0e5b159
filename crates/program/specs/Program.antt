-- The program: 01, "Cue lines and labels". It reads cue lines for 64 by 128. Assumes nothing.
use Rattle.std.specs.Prelude.{ℕ, ◌<◌, ◌≡◌, Bool, true, false, ◌||◌, List, [], ◌∷◌, ◌++◌, length, take}
use Rattle.strlib.specs.Quoted.{bytes}
use Rattle.words.specs.Lines.{lines}
use Rattle.words.specs.Words.{same}
use Rattle.answers.specs.Text.{heading}
use Rattle.answers.specs.Pieces.{answers_text, goods, totals, ended}

-- what the program writes for an input: the heading, an answer to each line, and the total
unfoldable pub program_text : List ℕ → List ℕ
program_text input = heading ++ (answers_text 0 (lines input) ++ totals (length (lines input)) (goods (lines input)))

-- what the program has written of an input whose end it has not met: an answer to each line that ended, and no total
unfoldable pub open_text : List ℕ → List ℕ
open_text input = heading ++ answers_text 0 (ended [] input)

-- ---- how a reader of the listing sees that it is whole

-- a line that gives the total, and whether there is one among lines
unfoldable pub is_total : List ℕ → Bool
is_total l = same (take 5 l) (bytes "total")

unfoldable pub total_in : List (List ℕ) → Bool
total_in [] = false
total_in (l ∷ ls) = is_total l || total_in ls

-- the last of some lines; the empty text where there is none
unfoldable pub last_line : List (List ℕ) → List ℕ
last_line [] = []
last_line (l ∷ []) = l
last_line (l ∷ m ∷ ls) = last_line (m ∷ ls)

-- the last line that ended begins with `total` in the whole text, and no line that ended does in any shorter front of
-- it, nor in what is written of an input whose end was not met
pub record TotalLast : Type 0 where
  pub whole : (input : List ℕ) → is_total (last_line (ended [] (program_text input))) ≡ true
  pub shorter : (input : List ℕ) (n : ℕ) → n < length (program_text input) → total_in (ended [] (take n (program_text input))) ≡ false
  pub unmet : (input : List ℕ) → total_in (ended [] (open_text input)) ≡ false
  -- whatever comes behind it, the text of the whole begins with what is written of a part
  pub front : (input more : List ℕ) → take (length (open_text input)) (program_text (input ++ more)) ≡ open_text input
