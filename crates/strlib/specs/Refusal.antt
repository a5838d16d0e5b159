-- Refusals: 01, "Refusal numbers". Assumes nothing.
use Rattle.std.specs.Prelude.{ℕ, zero, suc, Bool, cond, List, [], ◌∷◌, Option, Some, None, Result, Ok, Err}
use Rattle.strlib.specs.declared.refusal.Refusal.{Refusal}
use Rattle.strlib.specs.declared.refusal.Refusal.TheVariants.{Pointer, Character, Range, Position, Overlap, Room, NoNumber, Value, Translation, Table, Form, Matrix, Short, Repeated}

-- what a call answers: a refusal's number, or the value
pub data Outcome (A : Type 0) : Type 0 where
  refused : ℕ → Outcome A
  gives : A → Outcome A

-- what a search gives: nothing found, which is no refusal, or the value
pub data Sought (A : Type 0) : Type 0 where
  nowhere : Sought A
  at : A → Sought A

-- checks in their order, each a number (a refusal's, mostly) with what has to hold: the number of the first that does
-- not hold, 0 if all do
abbrev pub first : List (ℕ × Bool) → ℕ
first [] = 0
first (c ∷ cs) = cond c.1 (first cs) c.0

-- one check more, behind others that found the refusal k, or 0
unfoldable pub also : ℕ → ℕ → Bool → ℕ
also zero n ok = cond ok 0 n
also (suc k) n ok = suc k

-- the answer, from the refusal's number
unfoldable pub outcome : {A : Type 0} → ℕ → A → Outcome A
outcome zero x = gives x
outcome (suc k) x = refused (suc k)

-- what is lent: a refusal leaves it as it was
unfoldable pub after : ℕ → List ℕ → List ℕ → List ℕ
after zero new old = new
after (suc k) new old = old

-- a call that writes: its answer, and what it was lent
unfoldable pub ruled : {A : Type 0} → ℕ → A → List ℕ → List ℕ → Outcome A × List ℕ
ruled k x new old = (outcome k x, after k new old)

-- ---- refusals of the code, as the paper has them

-- a refusal's number
abbrev pub refusal_number : Refusal → ℕ
refusal_number Pointer = 1
refusal_number Character = 2
refusal_number Range = 3
refusal_number Position = 4
refusal_number Overlap = 5
refusal_number Room = 6
refusal_number NoNumber = 7
refusal_number Value = 8
refusal_number Translation = 9
refusal_number Table = 10
refusal_number Form = 11
refusal_number Matrix = 12
refusal_number Short = 13
refusal_number Repeated = 14

-- the number that checks found, 0 where all hold
abbrev pub number_found : {A : Type 0} → Result A Refusal → ℕ
number_found (Ok x) = 0
number_found (Err refusal) = refusal_number refusal

-- the paper's value of an answer
abbrev pub answered : {A : Type 0} → Result A Refusal → Outcome A
answered (Ok x) = gives x
answered (Err refusal) = refused (refusal_number refusal)

-- the same of an answer that may have found nothing
abbrev pub sought_of : {A : Type 0} → Option A → Sought A
sought_of (Some x) = at x
sought_of None = nowhere

abbrev pub sought_answered : {A : Type 0} → Result (Option A) Refusal → Outcome (Sought A)
sought_answered (Ok found) = gives (sought_of found)
sought_answered (Err refusal) = refused (refusal_number refusal)
