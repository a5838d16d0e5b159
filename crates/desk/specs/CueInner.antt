-- What the functions of a cue line promise one another. Assumes nothing.
use Rattle.std.specs.Prelude.{ℕ, zero, suc, cond, List, leb, ℤ, pos, negsuc, Result, Ok, Err}
use Rattle.strlib.specs.Refusal.{Outcome, first, outcome, refusal_number}
use Rattle.strlib.specs.declared.refusal.Refusal.{Refusal}
use Rattle.desk.specs.declared.cue.Cue.{Cue}
use Rattle.desk.specs.declared.cue.CueFault.{CueFault}
use Rattle.desk.specs.Cue.{line_checks, matrix_checks, cue_of}

-- the refusal that the checks before the words find, 0 for none
unfoldable pub line_refusal : List ℕ → ℕ → ℕ → ℕ
line_refusal line mics lsps = first (line_checks line mics lsps)

-- the number from 1 to the most that z is, or 0
unfoldable pub index_of : ℕ → ℤ → ℕ
index_of most (pos n) = cond (leb n most) n 0
index_of most (negsuc n) = 0

-- a refusal that comes without a word
abbrev pub without_word : Refusal → CueFault
without_word refusal = record { refusal = refusal; word = 0 }

-- the number and the word that checks found, 0 where all hold
abbrev pub fault_found : {A : Type 0} → Result A CueFault → ℕ × ℕ
fault_found (Ok x) = (0, 0)
fault_found (Err f) = (refusal_number f.refusal, f.word)

-- those of the words, from the word
abbrev pub formless : ℕ → ℕ × ℕ
formless zero = (0, 0)
formless (suc k) = (11, suc k)

-- three numbers against the matrix
unfoldable pub in_matrix : ℕ → ℕ → ℤ → ℤ → ℤ → Outcome Cue
in_matrix mics lsps n m g = outcome (first (matrix_checks mics lsps n m g)) (cue_of n m g)
