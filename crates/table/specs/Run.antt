-- The run of a table over a host: 01, "The search table". A table is a list of words, and any words may be passed.
-- Assumes nothing.
use Rattle.std.specs.Prelude.{ℕ, zero, suc, ◌+◌, ◌-◌, ◌*◌, Bool, true, false, ◌&&◌, List, [], ◌∷◌, ◌++◌, leb, ltb, length, get_or, Option, Some, None, Ok, Err, Result as Answer}
use Rattle.strlib.specs.Pointer.{store_fits, good_in, text_of, readable}
use Rattle.strlib.specs.Refusal.{Outcome, refused, gives, first, outcome, refusal_number}
use Rattle.strlib.specs.declared.StrPtr.{StrPtr}
use Rattle.strlib.specs.declared.refusal.Refusal.{Refusal}
use Rattle.search.specs.Search.{Result, nothing, found}
use Rattle.table.specs.declared.Note.{Note}
use Rattle.table.specs.declared.runs.Ran.{Ran}

-- word 0: the number of states, S
abbrev pub size_of : List ℕ → ℕ
size_of ws = get_or ws 0 0

-- word k of state q: its next state by character k for k under 128, its string number f for 128, its length L for 129
abbrev pub word_of : List ℕ → ℕ → ℕ → ℕ
word_of ws q k = get_or ws (1 + 130 * q + k) 0

-- S is 2 to 242, and there are 1 + 130S words at least
unfoldable pub is_sized : List ℕ → Bool
is_sized ws = leb 2 (size_of ws) && (leb (size_of ws) 242 && leb (1 + 130 * size_of ws) (length ws))

-- where a run rests: it met words that are no table; or it has entered state q (0: it stopped) with n characters read
-- and the last note r
pub data Walk : Type 0 where
  bad : Walk
  rests : ℕ → ℕ → Result → Walk

abbrev pub only_if : Bool → Walk → Walk
only_if true w = w
only_if false w = bad

-- a state whose words are f and l is entered: f is 0, or at most 32 with l at most the number read
abbrev pub noted : ℕ → ℕ → ℕ → ℕ → Result → Walk
noted q zero l n r = rests q n r
noted q (suc k) l n r = only_if (leb (suc k) 32 && leb l n) (rests q n (found (suc k) (suc (n - l)) (suc n)))

-- on entering state q; state 0 stops, and its words are not read
unfoldable pub enter : List ℕ → ℕ → ℕ → Result → Walk
enter ws zero n r = rests zero n r
enter ws (suc q) n r = noted (suc q) (word_of ws (suc q) 128) (word_of ws (suc q) 129) n r

-- a character is read, and the next of the `size` states entered
unfoldable pub step : List ℕ → ℕ → Walk → ℕ → Walk
step ws size bad c = bad
step ws size (rests zero n r) c = rests zero n r
step ws size (rests (suc q) n r) c = only_if (ltb (word_of ws (suc q) c) size) (enter ws (word_of ws (suc q) c) (suc n) r)

-- character by character
unfoldable pub walk : List ℕ → ℕ → List ℕ → Walk → Walk
walk ws size [] w = w
walk ws size (c ∷ h) w = walk ws size h (step ws size w c)

-- a run starts in state 1 with 0 characters read
unfoldable pub run_over : List ℕ → List ℕ → Walk
run_over ws h = walk ws (size_of ws) h (enter ws 1 0 nothing)

abbrev pub is_rest : Walk → Bool
is_rest bad = false
is_rest (rests q n r) = true

-- the last note, and the number read (of words that are no table nothing is answered)
abbrev pub ran_of : Walk → Result × ℕ
ran_of bad = (nothing, 0)
ran_of (rests q n r) = (r, n)

-- the host's checks; then 10 in two parts: by the first word and the number of words, then as words are met
abbrev pub host_checks : List ℕ → StrPtr → List (ℕ × Bool)
host_checks s host = (3, store_fits s) ∷ (1, good_in (length s) host) ∷ (2, readable s host) ∷ []

abbrev pub before_checks : List ℕ → StrPtr → List ℕ → List (ℕ × Bool)
before_checks s host ws = host_checks s host ++ ((10, is_sized ws) ∷ [])

abbrev pub met_checks : List ℕ → StrPtr → List ℕ → List (ℕ × Bool)
met_checks s host ws = (10, is_rest (run_over ws (text_of s host))) ∷ []

abbrev pub run_checks : List ℕ → StrPtr → List ℕ → List (ℕ × Bool)
run_checks s host ws = before_checks s host ws ++ met_checks s host ws

unfoldable pub run_refusal : List ℕ → StrPtr → List ℕ → ℕ
run_refusal s host ws = first (run_checks s host ws)

unfoldable pub run_rule : List ℕ → StrPtr → List ℕ → Outcome (Result × ℕ)
run_rule s host ws = outcome (run_refusal s host ws) (ran_of (run_over ws (text_of s host)))

-- the paper's value of an answer
abbrev pub noted_as : Option Note → Result
noted_as (Some m) = found m.string m.pos1 m.pos2
noted_as None = nothing

abbrev pub ran_as : Ran → Result × ℕ
ran_as r = (noted_as r.note, r.read)

abbrev pub ran_answered : Answer Ran Refusal → Outcome (Result × ℕ)
ran_answered (Ok r) = gives (ran_as r)
ran_answered (Err refusal) = refused (refusal_number refusal)
