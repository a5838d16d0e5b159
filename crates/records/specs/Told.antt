-- An answer that is refused with an offset: 02, W2. Assumes nothing.
use Rattle.std.specs.Prelude.{ℕ, zero, suc, List, Result, Ok, Err}
use Rattle.strlib.specs.Refusal.{after, refusal_number}
use Rattle.records.specs.declared.Fault.{Fault}

-- what a call on a label list answers: a refusal's number and the offset that comes with it, or the value
pub data Told (A : Type 0) : Type 0 where
  refused_at : ℕ → ℕ → Told A
  tells : A → Told A

-- the answer, from the refusal's number and the offset
unfoldable pub told : {A : Type 0} → ℕ → ℕ → A → Told A
told zero offset x = tells x
told (suc k) offset x = refused_at (suc k) offset

-- a call that writes: its answer, and what it was lent
unfoldable pub ruled_at : {A : Type 0} → ℕ → ℕ → A → List ℕ → List ℕ → Told A × List ℕ
ruled_at k offset x new old = (told k offset x, after k new old)

-- the paper's value of an answer
abbrev pub told_by : {A : Type 0} → Result A Fault → Told A
told_by (Ok x) = tells x
told_by (Err f) = refused_at (refusal_number f.refusal) f.offset
