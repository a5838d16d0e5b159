-- One translation and two hosts, in the words of demand 3: the answers are those of the plain search; the words lent
-- are as the translator leaves them. Assumes nothing.
use Rattle.std.specs.Prelude.{ℕ, ◌≡◌, List, length, Ok, Err, Result as Answer}
use Rattle.strlib.specs.Pointer.{text_of}
use Rattle.strlib.specs.Refusal.{Outcome, refused, gives, first, outcome, refusal_number}
use Rattle.strlib.specs.declared.StrPtr.{StrPtr}
use Rattle.strlib.specs.declared.refusal.Refusal.{Refusal}
use Rattle.search.specs.Search.{Result, plain_search}
use Rattle.table.specs.Run.{host_checks, ran_answered}
use Rattle.table.specs.declared.runs.Ran.{Ran}
use Rattle.preparing.specs.Listed.{listed, translate_refusal}
use Rattle.translator.specs.Translate.{note_in, Words}

-- the number that the checks of a host find, 0 for none
unfoldable pub host_refusal : List ℕ → StrPtr → ℕ
host_refusal s host = first (host_checks s host)

-- what is found in one host
unfoldable pub host_rule : List (List ℕ) → List ℕ → StrPtr → Outcome Result
host_rule ss s host = outcome (host_refusal s host) (plain_search ss (text_of s host))

pub record SearchedTwo (s : List ℕ) (list : List StrPtr) (count : ℕ) (old s₁ : List ℕ) (host₁ : StrPtr) (s₂ : List ℕ) (host₂ : StrPtr)
    (answer : Outcome (Outcome Result × Outcome Result)) (new : List ℕ) : Type 0 where
  pub answered : answer ≡ outcome (translate_refusal s list count (length old)) (host_rule (listed s list count) s₁ host₁, host_rule (listed s list count) s₂ host₂)
  pub words : Words (translate_refusal s list count (length old)) (listed s list count) old new

-- the paper's value of the two runs' answers, or of the translator's refusal
abbrev pub two_answered : Answer (Answer Ran Refusal × Answer Ran Refusal) Refusal → Outcome (Outcome Result × Outcome Result)
two_answered (Ok runs) = gives (note_in (ran_answered runs.0), note_in (ran_answered runs.1))
two_answered (Err refusal) = refused (refusal_number refusal)
