-- A turn of the program, a read and a write, as its calls promise it: 01, "Cue lines and labels". Assumes nothing.
use Rattle.std.specs.Prelude.{ℕ, zero, suc, Bool, cond, List, ℤ, pos, negsuc, take}
use Rattle.buffer.specs.Buffer.{grown}
use Rattle.endings.specs.Ending.{is_going, after_write}
use Rattle.endings.specs.declared.Ending.{Ending}
use Rattle.endings.specs.declared.Ending.TheVariants.{Going, Complete, Unread}
use Rattle.answers.specs.Text.{heading}
use Rattle.answers.specs.Pieces.{end_text, fed_by}
use Rattle.answers.specs.declared.lines.State.{State}
use Rattle.turns.specs.declared.Run.{Run}

-- where a run stands: the run itself, and what was lent to it: the bytes of a line that has no end yet, and the buffer
-- of answers
pub record Stage : Type 0 where
  pub run : Run
  pub hold : List ℕ
  pub out : List ℕ

unfoldable pub stage : Run → List ℕ → List ℕ → Stage
stage r h o = record { run = r; hold = h; out = o }

-- a state that has n bytes of answers to write
unfoldable pub telling : State → ℕ → State
telling s n = record { lines = s.lines; ok = s.ok; held = s.held; out = n }

-- ---- a read

-- a piece of the input
unfoldable pub fed : List ℕ → State → List ℕ → List ℕ → Stage
fed part s h o = stage (record { state = (fed_by part s h o).0; ending = Going }) (fed_by part s h o).1.0 (fed_by part s h o).1.1

-- the input's end: a last line without an end is answered, and the total given
unfoldable pub finished : State → List ℕ → List ℕ → Stage
finished s h o =
    stage (record { state = telling s (grown o 0 (end_text s.lines s.ok (take s.held h))).0; ending = Complete }) h
    (grown o 0 (end_text s.lines s.ok (take s.held h))).1

-- nothing is written
unfoldable pub silent : Ending → State → List ℕ → List ℕ → Stage
silent e s h o = stage (record { state = telling s 0; ending = e }) h o

-- after a read: a negative answer is a failed read, 0 is the input's end, any other the number of bytes of the piece
unfoldable pub read_by : ℤ → List ℕ → State → List ℕ → List ℕ → Stage
read_by (negsuc k) piece s h o = silent Unread s h o
read_by (pos zero) piece s h o = finished s h o
read_by (pos (suc k)) piece s h o = fed (take (suc k) piece) s h o

-- a run that has ended takes nothing more in
unfoldable pub after_read : ℤ → List ℕ → Run → List ℕ → List ℕ → Stage
after_read got piece r h o = cond (is_going r.ending) (read_by got piece r.state h o) (silent r.ending r.state h o)

-- ---- a write

-- a write that failed ends the run, whatever it was before
unfoldable pub wrote : Bool → Run → Run
wrote done r = record { state = r.state; ending = after_write done r.ending }

-- what a run is told to write
unfoldable pub told : Stage → List ℕ
told g = take g.run.state.out g.out

-- ---- a run

-- it begins with its heading
unfoldable pub begun : List ℕ → Run × List ℕ
begun o = (record { state = record { lines = 0; ok = 0; held = 0; out = (grown o 0 heading).0 }; ending = Going }, (grown o 0 heading).1)
