-- The program's own loop, in the words of a run: 01, "Cue lines and labels". What the system reads and writes no
-- contract can say: what a read answered and whether a write took all are some numbers here. That they are those of the
-- calls, which bytes a write is given, and that there is no other read or write, is read by eye in src/main.rt. Assumes
-- nothing.
use Rattle.std.specs.Prelude.{ℕ, ◌+◌, ◌*◌, ◌≤◌, ◌≡◌, Bool, true, List, [], ◌∷◌, length}
use Rattle.desk_io.specs.Io.{Moved}
use Rattle.endings.specs.Ending.{is_going}
use Rattle.endings.specs.declared.Ending.{Ending}
use Rattle.endings.specs.declared.Ending.TheVariants.{Unopened}
use Rattle.turns.specs.Turn.{Stage, stage, wrote, begun}
use Rattle.program.specs.Run.{Event, reading, turned, ran, answer_room, end_room, Roomy, Writes}
use Rattle.turns.specs.declared.Run.{Run}

-- a piece that something can be read into, and room for the answers to it, and for the end
pub record Room (piece out : List ℕ) : Type 0 where
  pub some : 1 ≤ length piece
  pub answers : answer_room * length piece ≤ length out
  pub last : end_room ≤ length out

-- what the run is told to write was tried to be written; where that is nothing, it was
pub record Tried (run r : Run) : Type 0 where
  pub done : Bool
  pub quiet : run.state.out ≡ 0 → done ≡ true
  pub is : r ≡ wrote done run

abbrev pub from : Run → List ℕ → List ℕ → Stage
from run h o = record { run = run; hold = h; out = o }

-- an event that can be: a read of n bytes may answer so
pub record Possible (n : ℕ) (g : Stage) (e : Event) : Type 0 where
  pub size : length e.piece ≡ n
  pub moved : Moved n e.got
  pub quiet : (reading e g).run.state.out ≡ 0 → e.done ≡ true

-- one turn, the piece being as the read left it
pub record Turned (run : Run) (piece h o : List ℕ) (r : Run) (h' o' : List ℕ) : Type 0 where
  pub event : Event
  pub read : event.piece ≡ piece
  pub possible : Possible (length piece) (from run h o) event
  pub is : stage r h' o' ≡ turned event (from run h o)

-- turns with a piece of n bytes, each of a run that went on
abbrev pub Going : ℕ → List Event → Stage → Type 0
Going n [] g = Unit
Going n (e ∷ es) g = (is_going g.run.ending ≡ true) × (Possible n g e × Going n es (turned e g))

-- turns one behind the other, with room for the answers to each piece; so many are spare of 2^64 − 1
pub record TurnsMade (run : Run) (n : ℕ) (h o : List ℕ) (spare : ℕ) (r : Run) (h' o' : List ℕ) : Type 0 where
  pub events : List Event
  pub went : Going n events (from run h o)
  pub room : Roomy (length o) events
  pub count : length events + spare ≡ 18446744073709551615
  pub is : stage r h' o' ≡ ran events (from run h o)

-- turns as long as the run goes on, until none is spare
pub record AllTurns (run : Run) (n : ℕ) (h o : List ℕ) (r : Run) (h' o' : List ℕ) : Type 0 where
  pub spare : ℕ
  pub turns : TurnsMade run n h o spare r h' o'
  pub over : is_going r.ending ≡ true → spare ≡ 0

-- a run from its heading on, with a buffer o for answers, and how it ended: what it is told to write is what a run of
-- its turns is
pub record Answering (o : List ℕ) (e : Ending) (o' : List ℕ) : Type 0 where
  pub hold : List ℕ
  pub done : Bool
  pub run : Run
  pub hold' : List ℕ
  pub size : ℕ
  pub some : 1 ≤ size
  pub all : AllTurns (wrote done (begun o).0) size hold (begun o).1 run hold' o'
  pub ending : e ≡ run.ending
  pub writes : Writes done all.turns.events hold o

-- the same of a file, where it could be opened
pub data OfFile (o : List ℕ) (e : Ending) (o' : List ℕ) : Type 0 where
  unopened : e ≡ Unopened → o' ≡ o → OfFile o e o'
  answered : Answering o e o' → OfFile o e o'
