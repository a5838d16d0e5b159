-- The answers to cue lines for 64 by 128, and to an input that comes in pieces: 01, "Cue lines and labels". Assumes
-- nothing.
use Rattle.std.specs.Prelude.{ℕ, ◌+◌, ◌-◌, min, cond, List, [], ◌∷◌, ◌++◌, eqb, length, take}
use Rattle.strlib.specs.Refusal.{Outcome, refused, gives}
use Rattle.desk.specs.Cue.{cue_rule}
use Rattle.desk.specs.declared.cue.Cue.{Cue}
use Rattle.buffer.specs.Buffer.{grown}
use Rattle.answers.specs.Text.{answer_text, total_text}
use Rattle.answers.specs.declared.lines.State.{State}

-- what a counter shows: it stays at 2^64 − 1, which no input has lines enough to reach
unfoldable pub counted : ℕ → ℕ
counted n = min n 18446744073709551615

-- a good line counts 1
unfoldable pub good_of : Outcome Cue → ℕ
good_of (gives c) = 1
good_of (refused k) = 0

-- the answers to lines that come behind n others, and how many of the lines are good
unfoldable pub answers_text : ℕ → List (List ℕ) → List ℕ
answers_text n [] = []
answers_text n (l ∷ ls) = answer_text (counted (n + 1)) (cue_rule l 64 128) ++ answers_text (n + 1) ls

unfoldable pub goods : List (List ℕ) → ℕ
goods [] = 0
goods (l ∷ ls) = good_of (cue_rule l 64 128) + goods ls

-- the last line, of n lines and k good ones
unfoldable pub totals : ℕ → ℕ → List ℕ
totals n k = total_text (counted n) (counted k) (counted n - counted k)

-- ---- an input that comes in pieces

-- the lines that end in a piece, where p came before it and has no end yet
unfoldable pub ended : List ℕ → List ℕ → List (List ℕ)
ended p [] = []
ended p (c ∷ cs) = cond (eqb c 10) (p ∷ ended [] cs) (ended (p ++ (c ∷ [])) cs)

-- what has no end yet behind it
unfoldable pub left : List ℕ → List ℕ → List ℕ
left p [] = p
left p (c ∷ cs) = cond (eqb c 10) (left [] cs) (left (p ++ (c ∷ [])) cs)

-- a last line without an end counts if it isn't empty
unfoldable pub open_line : List ℕ → List (List ℕ)
open_line [] = []
open_line (c ∷ cs) = (c ∷ cs) ∷ []

-- what is written at the input's end, behind n lines with k good ones, where q has no end
unfoldable pub end_text : ℕ → ℕ → List ℕ → List ℕ
end_text n k q = answers_text n (open_line q) ++ totals (n + length (open_line q)) (k + goods (open_line q))

-- what is held of an unended line behind a piece, where k bytes of h were held and p came since: how many bytes, and
-- the bytes lent for it. The end of a line that was begun earlier is put behind its beginning; a line that is whole in
-- the piece is not held.
unfoldable pub kept_in : ℕ → List ℕ → List ℕ → List ℕ → ℕ × List ℕ
kept_in k h p [] = grown h k p
kept_in k h p (c ∷ cs) = cond (eqb c 10) (kept_in 0 (cond (eqb k 0) h (grown h k p).1) [] cs) (kept_in k h (p ++ (c ∷ [])) cs)

-- the lines that end in a piece, behind what is held
unfoldable pub ended_in : State → List ℕ → List ℕ → List (List ℕ)
ended_in s h part = ended (take s.held h) part

-- a piece of the input: the lines that end in it are answered, and what is left of it is held. The state, the bytes
-- lent for what is held, and the buffer of answers
abbrev pub fed_by : List ℕ → State → List ℕ → List ℕ → State × (List ℕ × List ℕ)
fed_by part s h o = (
  record {
    lines = counted (s.lines + length (ended_in s h part));
    ok = counted (s.ok + goods (ended_in s h part));
    held = (kept_in (min s.held (length h)) h [] part).0;
    out = (grown o 0 (answers_text s.lines (ended_in s h part))).0;
  },
  ((kept_in (min s.held (length h)) h [] part).1, (grown o 0 (answers_text s.lines (ended_in s h part))).1),
)
