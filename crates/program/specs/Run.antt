-- A run of the program, turn by turn, and what it writes: 01, "Cue lines and labels". Assumes nothing.
use Rattle.std.specs.Prelude.{ℕ, zero, suc, ◌*◌, ◌≤◌, ◌≡◌, Bool, true, false, cond, ◌&&◌, List, [], ◌∷◌, ◌++◌, ℤ, pos, negsuc, length, take}
use Rattle.endings.specs.Ending.{is_complete}
use Rattle.endings.specs.declared.Ending.{Ending}
use Rattle.endings.specs.declared.Ending.TheVariants.{Going, Complete, Unread, Unwritten}
use Rattle.answers.specs.Pieces.{ended}
use Rattle.turns.specs.Turn.{Stage, after_read, wrote, told, begun}
use Rattle.program.specs.Program.{program_text, open_text, total_in}

-- a turn, as seen from outside: what the bytes lent to the read were afterwards, what it answered, and whether all was
-- written
pub record Event : Type 0 where
  pub piece : List ℕ
  pub got : ℤ
  pub done : Bool

abbrev pub reading : Event → Stage → Stage
reading e g = after_read e.got e.piece g.run g.hold g.out

abbrev pub turned : Event → Stage → Stage
turned e g = record { run = wrote e.done (reading e g).run; hold = (reading e g).hold; out = (reading e g).out }

abbrev pub ran : List Event → Stage → Stage
ran [] g = g
ran (e ∷ es) g = ran es (turned e g)

-- what it was told to write in these turns
abbrev pub output : List Event → Stage → List ℕ
output [] g = []
output (e ∷ es) g = told (reading e g) ++ output es (turned e g)

-- ---- what a run should do, from the turns alone

-- the bytes that were read, up to the input's end, a failed read or a failed write; `done` says that what was to be
-- written before was
abbrev pub input_by : ℤ → List ℕ → List ℕ → List ℕ
input_by (negsuc k) piece more = []
input_by (pos zero) piece more = []
input_by (pos (suc k)) piece more = take (suc k) piece ++ more

abbrev pub input : Bool → List Event → List ℕ
input done [] = []
input done (e ∷ es) = cond done (input_by e.got e.piece (input e.done es)) []

-- whether the input's end was met: a read answered 0, and none before it failed, nor a write
abbrev pub end_by : ℤ → Bool → Bool
end_by (negsuc k) more = false
end_by (pos zero) more = true
end_by (pos (suc k)) more = more

abbrev pub met_end : Bool → List Event → Bool
met_end done [] = false
met_end done (e ∷ es) = cond done (end_by e.got (met_end e.done es)) false

-- whether every write took all its bytes
abbrev pub all_done : List Event → Bool
all_done [] = true
all_done (e ∷ es) = e.done && all_done es

-- how the run ends: a failed write ends it whatever came before, else the input's end or a failed read does, and else
-- it goes on
abbrev pub ending_by : ℤ → Bool → Ending → Ending
ending_by (negsuc k) done more = cond done Unread Unwritten
ending_by (pos zero) done more = cond done Complete Unwritten
ending_by (pos (suc k)) done more = more

abbrev pub ending_of : Bool → List Event → Ending
ending_of done [] = cond done Going Unwritten
ending_of done (e ∷ es) = cond done (ending_by e.got (e.done && all_done es) (ending_of e.done es)) Unwritten

-- an answer has at most 36 bytes: 20 digits of a counter, ` ok 64 128 -960` and a line end; the end 116: an answer, and
-- the total's words with three counters
abbrev pub answer_room : ℕ
answer_room = 36

abbrev pub end_room : ℕ
end_room = 116

-- a byte of a piece can end one line, so that this is room for the answers to each piece, and for the end
abbrev pub Roomy : ℕ → List Event → Type 0
Roomy n [] = end_room ≤ n
Roomy n (e ∷ es) = (answer_room * length e.piece ≤ n) × Roomy n es

-- a whole run from what was lent: its beginning, the heading's write included, and what it is told to write in all
abbrev pub opened : Bool → List ℕ → List ℕ → Stage
opened done h o = record { run = wrote done (begun o).0; hold = h; out = (begun o).1 }

abbrev pub whole_output : Bool → List Event → List ℕ → List ℕ → List ℕ
whole_output done es h o = take (begun o).0.state.out (begun o).1 ++ output es (opened done h o)

-- What it is told to write is the program's text of what was read: whole if the input's end was met, else without the
-- unended line's answer and the total. It ends as the turns tell, and is complete exactly if the end was met and every
-- write took all.
pub record Writes (done : Bool) (es : List Event) (h o : List ℕ) : Type 0 where
  pub text : whole_output done es h o ≡ cond (met_end done es) (program_text (input done es)) (open_text (input done es))
  pub total : total_in (ended [] (whole_output done es h o)) ≡ met_end done es
  pub ending : (ran es (opened done h o)).run.ending ≡ ending_of done es
  pub complete : is_complete (ending_of done es) ≡ (met_end done es && (done && all_done es))

-- so it is however the input is cut into pieces, whatever a failed read left, and however the run ends
abbrev pub RunWrites : Type 0
RunWrites = (done : Bool) (es : List Event) (h o : List ℕ) → length h ≡ 65537 → Roomy (length o) es → Writes done es h o
