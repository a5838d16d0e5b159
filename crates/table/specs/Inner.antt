-- What the functions inside the crate promise one another. Assumes nothing.
use Rattle.std.specs.Prelude.{ℕ, ◌+◌, ◌*◌, ◌≤◌, ◌<◌, List, length, Option, Some, None}
use Rattle.strlib.specs.Refusal.{Outcome, refused, gives, first}
use Rattle.strlib.specs.declared.StrPtr.{StrPtr}
use Rattle.search.specs.Inner.{placed}
use Rattle.search.specs.Search.{Result}
use Rattle.table.specs.Run.{Walk, bad, rests, before_checks}
use Rattle.table.specs.declared.Note.{Note}
use Rattle.table.specs.declared.Progress.{Progress}

-- the code's values in the rule's words: a note of string 0 is none
abbrev pub note_of : Note → Result
note_of m = placed m.string m.pos1 m.pos2

abbrev pub rests_of : Progress → Walk
rests_of p = rests p.state p.read (note_of p.last)

abbrev pub walked_of : Option Progress → Walk
walked_of (Some p) = rests_of p
walked_of None = bad

-- state q of a table with all its words, and a number read that a store's string may have
pub record Entered (ws : List ℕ) (size q n : ℕ) : Type 0 where
  pub state : q < size
  pub long : 1 + 130 * size ≤ length ws
  pub near : n ≤ 65536

-- what the checks find that are made before a state is entered
unfoldable pub before_run : List ℕ → StrPtr → List ℕ → ℕ
before_run s host ws = first (before_checks s host ws)

-- the answer of a run
abbrev pub ended : Walk → Outcome (Result × ℕ)
ended bad = refused 10
ended (rests q n r) = gives (r, n)
