-- A run over a table that the translator wrote ends early: 02, W12. Assumes nothing.
use Rattle.std.specs.Prelude.{ℕ, ◌+◌, ◌≤◌, ◌≡◌, List}
use Rattle.strlib.specs.Pointer.{text_of}
use Rattle.strlib.specs.Refusal.{gives}
use Rattle.strlib.specs.declared.StrPtr.{StrPtr}
use Rattle.search.specs.Search.{plain_search}
use Rattle.table.specs.Run.{run_rule}
use Rattle.states.specs.Sure.{FirstSure}
use Rattle.preparing.specs.Listed.{listed}
use Rattle.translator.specs.Translate.{Host, Translated}

-- what a run over the words does with one host: it names what the plain search names, and reads at most one character
-- past the first place at which that is sure, if there is one; for an empty list this is before the first character (k
-- = 0, `EmptySure`). The bound is on 01's number read: the test for refusal 2 still looks at every byte of the host
pub record EndsEarly (ss : List (List ℕ)) (words s : List ℕ) (host : StrPtr) : Type 0 where
  pub read : ℕ
  pub ran : run_rule s host words ≡ gives (plain_search ss (text_of s host), read)
  pub early : (k : ℕ) → FirstSure ss (text_of s host) k → read ≤ k + 1

-- any list that was translated, whatever the room held; any host that a run takes, in any store. It follows from the
-- translator's promise, which has the bound for every sure place (`Table`)
abbrev pub Early : Type 0
Early =
    (s : List ℕ) (list : List StrPtr) (count : ℕ) (old new : List ℕ)
    → Translated s list count old (gives tt) new
    → (t : List ℕ) (host : StrPtr)
    → Host t host
    → EndsEarly (listed s list count) new t host
