-- What a program of the desk reads, and how its run ended. Assumes nothing.
use Rattle.std.specs.Prelude.{ℕ, Bool, true, false, cond, List, [], ◌∷◌, eqb, ltb}
use Rattle.endings.specs.declared.Ending.{Ending}
use Rattle.endings.specs.declared.Ending.TheVariants.{Going, Complete, Misused, Unopened, Unread, Unwritten}
use Rattle.endings.specs.declared.Source.{Source}
use Rattle.endings.specs.declared.Source.TheVariants.{Input, File, Neither}

unfoldable pub is_going : Ending → Bool
is_going Going = true
is_going Complete = false
is_going Misused = false
is_going Unopened = false
is_going Unread = false
is_going Unwritten = false

unfoldable pub is_complete : Ending → Bool
is_complete Going = false
is_complete Complete = true
is_complete Misused = false
is_complete Unopened = false
is_complete Unread = false
is_complete Unwritten = false

-- after a write: a failed one ends the run, whatever it was before
unfoldable pub after_write : Bool → Ending → Ending
after_write done e = cond done e Unwritten

-- ---- what is read

-- an argument names a file, but `-` (45) is standard input, and no other that begins with it is taken
unfoldable pub named_by : List ℕ → Source
named_by [] = File
named_by (c ∷ []) = cond (eqb c 45) Input File
named_by (c ∷ d ∷ ds) = cond (eqb c 45) Neither File

-- of so many arguments, the program's own name among them; with no other it is standard input
unfoldable pub source_of : ℕ → List ℕ → Source
source_of count name = cond (ltb count 2) Input (cond (ltb 2 count) Neither (named_by name))
