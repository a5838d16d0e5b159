-- Demand 3: what the translator and the run do together: 01, "The search table". The claim is the last definition,
-- `Demand3`; proofs/Demand3 proves it. Assumes nothing.
use Rattle.std.specs.Prelude.{ℕ, ◌≤◌, ◌≡◌, true, List, length, take}
use Rattle.strlib.specs.Pointer.{store_fits, good_in, text_of, all, readable}
use Rattle.strlib.specs.Refusal.{Outcome, gives}
use Rattle.strlib.specs.declared.StrPtr.{StrPtr}
use Rattle.search.specs.Search.{nothing, found, plain_search}
use Rattle.search.specs.Occurrence.{Earliest, Nowhere}
use Rattle.table.specs.Run.{run_rule}
use Rattle.states.specs.State.{total}
use Rattle.preparing.specs.Listed.{listed}
use Rattle.translator.specs.Translate.{Host, Translated}

-- a list within the limits
pub record Listed (s : List ℕ) (list : List StrPtr) (count : ℕ) : Type 0 where
  pub fits : store_fits s ≡ true
  pub few : count ≤ 32
  pub good : all (good_in (length s)) (take count list) ≡ true
  pub plain : all (readable s) (take count list) ≡ true
  pub small : total (listed s list count) ≤ 240

-- what a run over the words gives of one host: it does not refuse; the string, start and end of its last note are the
-- plain search's; and in the words of 01, "Searching": the smallest position, then the smallest number, and nothing
-- found exactly where no listed string occurs
pub record Found (ss : List (List ℕ)) (words s : List ℕ) (host : StrPtr) : Type 0 where
  pub read : ℕ
  pub ran : run_rule s host words ≡ gives (plain_search ss (text_of s host), read)
  pub found_is : (j pos1 pos2 : ℕ) → run_rule s host words ≡ gives (found j pos1 pos2, read) → Earliest ss (text_of s host) j pos1 pos2
  pub is_found : (j pos1 pos2 : ℕ) → Earliest ss (text_of s host) j pos1 pos2 → run_rule s host words ≡ gives (found j pos1 pos2, read)
  pub nothing_is : run_rule s host words ≡ gives (nothing, read) → Nowhere ss (text_of s host)
  pub is_nothing : Nowhere ss (text_of s host) → run_rule s host words ≡ gives (nothing, read)

-- the translator does not refuse, and one table serves any number of hosts, each in a store of its own
pub record Serves (s : List ℕ) (list : List StrPtr) (count : ℕ) (answer : Outcome (Unit {0})) (new : List ℕ) : Type 0 where
  pub done : answer ≡ gives tt
  pub hosts : (t : List ℕ) (host : StrPtr) → Host t host → Found (listed s list count) new t host

-- any list within the limits, in any store; any room of at least 31,461 words, whatever it held; whatever answer and
-- words the call leaves, of which `Translated`, its promise, holds
abbrev pub Demand3 : Type 0
Demand3 =
    (s : List ℕ) (list : List StrPtr) (count : ℕ) (old : List ℕ)
    → Listed s list count
    → 31461 ≤ length old
    → (answer : Outcome (Unit {0})) (new : List ℕ)
    → Translated s list count old answer new
    → Serves s list count answer new
