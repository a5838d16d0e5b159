-- How many characters of a host a run reads: 02, W12. The number read is 01's. Assumes nothing.
use Rattle.std.specs.Prelude.{ℕ, ◌+◌, ◌≤◌, ◌<◌, ◌≡◌, true, List, length, take}
use Rattle.strlib.specs.Pointer.{all, characters}
use Rattle.search.specs.Search.{Result, found, plain_search}
use Rattle.table.specs.Run.{rests, run_over, ran_of}
use Rattle.states.specs.State.{Represents}
use Rattle.states.specs.Sure.{Sure, FirstSure}

-- a run over the words ends with the search's answer, and reads at most one character past each place at which that is
-- sure
pub record Ends (ss : List (List ℕ)) (ws host : List ℕ) : Type 0 where
  pub state : ℕ
  pub read : ℕ
  pub ran : run_over ws host ≡ rests state read (plain_search ss host)
  pub early : (k : ℕ) → Sure ss (take k host) → read ≤ k + 1

-- so it does over all words that hold the rows of at most 32 strings of characters, the host being of characters
abbrev pub RunEnds : Type 0
RunEnds =
    (ss : List (List ℕ)) (ws host : List ℕ)
    → Represents ss ws
    → length ss ≤ 32
    → all characters ss ≡ true
    → characters host ≡ true
    → Ends ss ws host

-- ---- what no words can better

-- over every text of characters, of whatever length, the words name the search's answer (bad words: nothing found).
-- Demand 3 asks it of hosts in stores; words that hold the rows have it of all texts, by `RunEnds`
abbrev pub Finds : List (List ℕ) → List ℕ → Type 0
Finds ss ws = (h : List ℕ) → characters h ≡ true → (ran_of (run_over ws h)).0 ≡ plain_search ss h

-- a run in state q with n characters read: it stopped only where the answer is sure, and has read no fewer characters
-- than stand before the first sure place
pub record Stops (ss : List (List ℕ)) (host : List ℕ) (q n : ℕ) : Type 0 where
  pub sure : q ≡ 0 → Sure ss (take n host)
  pub no_fewer : (k : ℕ) → FirstSure ss host k → k ≤ n

abbrev pub RunStops : Type 0
RunStops =
    (ss : List (List ℕ)) (ws host : List ℕ) (q n : ℕ) (r : Result)
    → Finds ss ws
    → characters host ≡ true
    → run_over ws host ≡ rests q n r
    → Stops ss host q n

-- a run in state q with n characters read and the note r: it leaves characters unread only if it stopped; it reads the
-- first character, if there is one, and the one behind what it found, if there is one. So where the first sure place is
-- before the first character (k = 0), or where what was found ends (pos2 = k + 1), it reads k + 1 of a longer host
pub record Reads (host : List ℕ) (q n : ℕ) (r : Result) : Type 0 where
  pub left : n < length host → q ≡ 0
  pub first : 1 ≤ length host → 1 ≤ n
  pub behind : (j pos1 pos2 : ℕ) → r ≡ found j pos1 pos2 → pos2 ≤ length host → pos2 ≤ n

-- whatever the words are
abbrev pub RunReads : Type 0
RunReads = (ws host : List ℕ) (q n : ℕ) (r : Result) → run_over ws host ≡ rests q n r → Reads host q n r
