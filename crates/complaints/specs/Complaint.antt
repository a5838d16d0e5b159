-- The line that a program of the desk writes on standard error of a run that is not complete. Assumes nothing.
use Rattle.std.specs.Prelude.{ℕ, cond, List, [], ◌∷◌, ◌++◌, eqb, ltb}
use Rattle.strlib.specs.Quoted.{bytes}
use Rattle.endings.specs.declared.Ending.{Ending}
use Rattle.endings.specs.declared.Ending.TheVariants.{Going, Complete, Misused, Unopened, Unread, Unwritten}
use Rattle.endings.specs.declared.Source.{Source}
use Rattle.endings.specs.declared.Source.TheVariants.{Input, File, Neither}

-- a byte as it is shown in a line: `?` (63) for one under 32 and for 127, so that the line stays one
unfoldable pub shown : ℕ → ℕ
shown c = cond (ltb c 32) 63 (cond (eqb c 127) 63 c)

-- what was read, as it is named in a line
unfoldable pub source_text : Source → List ℕ → List ℕ
source_text Input name = bytes "standard input"
source_text Neither name = []
source_text File name = bytes "'" ++ name ++ bytes "'"

-- a line of something that could not be done: of what, and what it was
unfoldable pub failure_text : List ℕ → List ℕ → List ℕ → List ℕ
failure_text program thing what = program ++ bytes ": incomplete: " ++ thing ++ what

abbrev pub unread : List ℕ
unread = bytes " could not be read" ++ (10 ∷ [])

abbrev pub unopened : List ℕ
unopened = bytes " could not be opened" ++ (10 ∷ [])

abbrev pub unwritten : List ℕ
unwritten = bytes " could not be written" ++ (10 ∷ [])

unfoldable pub usage_text : List ℕ → List ℕ
usage_text program = bytes "usage: " ++ program ++ (bytes " [FILE]" ++ (10 ∷ []))

-- what was not done; nothing of a complete run. A run that still goes on has not read its input to the end.
unfoldable pub complaint_text : List ℕ → Source → List ℕ → Ending → List ℕ
complaint_text program source name Going = failure_text program (source_text source name) unread
complaint_text program source name Complete = []
complaint_text program source name Misused = usage_text program
complaint_text program source name Unopened = failure_text program (source_text source name) unopened
complaint_text program source name Unread = failure_text program (source_text source name) unread
complaint_text program source name Unwritten = failure_text program (bytes "standard output") unwritten
