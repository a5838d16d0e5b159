-- Translating a list into a table: 01, "The search table". Assumes nothing.
use Rattle.std.specs.Prelude.{ℕ, zero, suc, ◌+◌, ◌*◌, ◌≤◌, ◌≡◌, true, List, length, take, get_or}
use Rattle.strlib.specs.Pointer.{store_fits, good_in, text_of, readable}
use Rattle.strlib.specs.Refusal.{Outcome, refused, gives, outcome}
use Rattle.strlib.specs.declared.StrPtr.{StrPtr}
use Rattle.search.specs.Search.{Result, plain_search}
use Rattle.table.specs.Run.{size_of, run_rule}
use Rattle.states.specs.Sure.{Sure}
use Rattle.preparing.specs.Listed.{listed, translate_refusal}

-- a host that a run does not refuse by itself
pub record Host (s : List ℕ) (host : StrPtr) : Type 0 where
  pub fits : store_fits s ≡ true
  pub good : good_in (length s) host ≡ true
  pub plain : readable s host ≡ true

-- what a run answers, the number read left out
abbrev pub note_in : Outcome (Result × ℕ) → Outcome Result
note_in (refused k) = refused k
note_in (gives a) = gives a.0

-- the words `new` that a translation of the strings ss leaves where it was lent the words `old`: S is 2 to 242, the
-- words past 1 + 130S stay, and the first 1 + 130S are free but for this: over a host that is good and of characters
-- the run is not refused, its last note is the plain search's answer, and it reads at most one character past each
-- place at which that answer is sure, the first of them included (02, W12)
pub record Table (ss : List (List ℕ)) (old new : List ℕ) : Type 0 where
  pub low : 2 ≤ size_of new
  pub high : size_of new ≤ 242
  pub same : length new ≡ length old
  pub past : (i : ℕ) → 1 + 130 * size_of new ≤ i → get_or new i 0 ≡ get_or old i 0
  pub finds : (s : List ℕ) (host : StrPtr) → Host s host → note_in (run_rule s host new) ≡ gives (plain_search ss (text_of s host))
  pub early : (s : List ℕ) (host : StrPtr) (k n : ℕ) (r : Result) → Sure ss (take k (text_of s host)) → run_rule s host new ≡ gives (r, n) → n ≤ k + 1

-- by the refusal's number: a refusal changes no word
unfoldable pub Words : ℕ → List (List ℕ) → List ℕ → List ℕ → Type 0
Words zero ss old new = Table ss old new
Words (suc k) ss old new = new ≡ old

-- the call's answer, and the words afterwards
pub record Translated (s : List ℕ) (list : List StrPtr) (count : ℕ) (old : List ℕ) (answer : Outcome (Unit {0})) (new : List ℕ) : Type 0 where
  pub answered : answer ≡ outcome (translate_refusal s list count (length old)) tt
  pub words : Words (translate_refusal s list count (length old)) (listed s list count) old new
