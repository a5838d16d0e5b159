-- The run of a table over a host that comes in bursts: 02, W5. What a run carries is the code's `Carried`: state,
-- number read, total delivered, note, and whether it has stopped. Assumes nothing.
use Rattle.std.specs.Prelude.{ℕ, suc, ◌+◌, Bool, true, false, ◌&&◌, cond, List, [], ◌∷◌, ◌++◌, leb, ltb, eqb, length}
use Rattle.strlib.specs.Pointer.{characters}
use Rattle.strlib.specs.Refusal.{Outcome, first, outcome}
use Rattle.search.specs.Search.{Result, nothing, found}
use Rattle.table.specs.Run.{size_of, is_sized, Walk, bad, rests, is_rest}
use Rattle.table.specs.Resume.{read_on}
use Rattle.bursts.specs.declared.Carried.{Carried}

-- the note carried, if there is one: where there is none, string, pos1 and pos2 say nothing
abbrev pub carried_note : Carried → Result
carried_note c = cond c.noted (found c.string c.pos1 c.pos2) nothing

-- what is carried in state q with n read, d delivered and the note r; where there is none, string, pos1 and pos2 are 0
abbrev pub carried_by : ℕ → ℕ → ℕ → Result → Bool → Carried
carried_by q n d nothing stopped =
    record { state = q; read = n; total = d; noted = false; string = 0; pos1 = 0; pos2 = 0; stopped = stopped }
carried_by q n d (found j pos1 pos2) stopped =
    record { state = q; read = n; total = d; noted = true; string = j; pos1 = pos1; pos2 = pos2; stopped = stopped }

-- a fresh run: state 1, nothing read, delivered or noted
unfoldable pub fresh : Carried
fresh = carried_by 1 0 0 nothing false

-- a note that W5 does not count among those that no run could make, with n characters read; having none is no fault
unfoldable pub is_note : ℕ → Result → Bool
is_note n nothing = true
is_note n (found j pos1 pos2) = (leb 1 j && leb j 32) && (leb pos2 (suc n) && (leb 1 pos1 && leb pos1 pos2))

-- state 0 exactly if stopped
unfoldable pub agrees : Bool → ℕ → Bool
agrees true q = eqb q 0
agrees false q = leb 1 q

-- no fault that shows without a table: state 0 exactly if stopped; the total at least the number read; a possible note
unfoldable pub is_sound : Carried → Bool
is_sound c = agrees c.stopped c.state && (leb c.read c.total && is_note c.read (carried_note c))

-- and none in a table of `size` states: the state is one of them
unfoldable pub is_carried : ℕ → Carried → Bool
is_carried size c = ltb c.state size && is_sound c

-- a burst's length, and the total with it, stopped text included; its characters
abbrev pub delivery_checks : Carried → List ℕ → List (ℕ × Bool)
delivery_checks c burst = (3, leb (length burst) 300) ∷ (3, leb (c.total + length burst) 65536) ∷ (2, characters burst) ∷ []

-- before any of a burst is read, stopped or not: these, then the table's size, then what is carried
abbrev pub before_burst_checks : Carried → List ℕ → List ℕ → List (ℕ × Bool)
before_burst_checks c burst ws = delivery_checks c burst ++ ((10, is_sized ws) ∷ (10, is_carried (size_of ws) c) ∷ [])

unfoldable pub before_burst : Carried → List ℕ → List ℕ → ℕ
before_burst c burst ws = first (before_burst_checks c burst ws)

-- the carried state is entered anew, and the burst is read; a run that has stopped enters and reads nothing (`enter`
-- and `walk` do nothing in state 0)
unfoldable pub walked : Carried → List ℕ → List ℕ → Walk
walked c burst ws = read_on ws burst c.state c.read (carried_note c)

-- then words as they are met
abbrev pub burst_checks : Carried → List ℕ → List ℕ → List (ℕ × Bool)
burst_checks c burst ws = before_burst_checks c burst ws ++ ((10, is_rest (walked c burst ws)) ∷ [])

unfoldable pub burst_refusal : Carried → List ℕ → List ℕ → ℕ
burst_refusal c burst ws = first (burst_checks c burst ws)

-- what is carried on, with d delivered, from where the run rests; words that are no table are refused, and of them this
-- says nothing
abbrev pub carried_on : ℕ → Walk → Carried
carried_on d bad = fresh
carried_on d (rests q n r) = carried_by q n d r (eqb q 0)

-- a refusal is its number alone: what was carried stays as it was
unfoldable pub burst_rule : Carried → List ℕ → List ℕ → Outcome Carried
burst_rule c burst ws = outcome (burst_refusal c burst ws) (carried_on (c.total + length burst) (walked c burst ws))

-- what the run answers with this carried: the last note, and the number read
abbrev pub answer_of : Carried → Result × ℕ
answer_of c = (carried_note c, c.read)
