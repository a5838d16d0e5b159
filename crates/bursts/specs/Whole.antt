-- However a host is cut into bursts, the answer with the last is that of the whole: 02, W5. Assumes nothing.
use Rattle.std.specs.Prelude.{ℕ, ◌+◌, ◌≤◌, ◌<◌, ◌≡◌, true, false, List, [], ◌∷◌, ◌++◌, length, take}
use Rattle.strlib.specs.Pointer.{characters, text_of, store_fits, good_in, joined}
use Rattle.strlib.specs.Refusal.{Outcome, refused, gives, outcome}
use Rattle.strlib.specs.declared.StrPtr.{StrPtr}
use Rattle.search.specs.Search.{Result, plain_search}
use Rattle.table.specs.Run.{size_of, run_rule}
use Rattle.states.specs.Sure.{Sure}
use Rattle.translator.specs.Translate.{Table}
use Rattle.bursts.specs.Bursts.{carried_note, carried_by, fresh, is_carried, before_burst, burst_rule, answer_of}
use Rattle.bursts.specs.declared.Carried.{Carried}

-- bursts in a row over the same words: the first refusal, or what is carried after the last
abbrev pub and_then : Outcome Carried → (Carried → Outcome Carried) → Outcome Carried
and_then (refused k) f = refused k
and_then (gives c) f = f c

abbrev pub bursts : Carried → List (List ℕ) → List ℕ → Outcome Carried
bursts c [] ws = gives c
bursts c (b ∷ bs) ws = and_then (burst_rule c b ws) (λ c'. bursts c' bs ws)

-- the answer with the last of them
abbrev pub last_answer : Outcome Carried → Outcome (Result × ℕ)
last_answer (refused k) = refused k
last_answer (gives c) = gives (answer_of c)

-- any words: from a fresh run, one burst at least, none refused, the last answer is the one that the whole host gives,
-- however it was cut
abbrev pub BurstsWhole : Type 0
BurstsWhole =
    (ws b : List ℕ) (bs : List (List ℕ)) (c : Carried) (s : List ℕ) (host : StrPtr)
    → bursts fresh (b ∷ bs) ws ≡ gives c
    → store_fits s ≡ true → good_in (length s) host ≡ true → text_of s host ≡ joined (b ∷ bs)
    → run_rule s host ws ≡ gives (answer_of c)

-- bursts within the limits: at most 300 each
abbrev pub Short : List (List ℕ) → Type 0
Short [] = Unit {0}
Short (b ∷ bs) = (length b ≤ 300) × Short bs

-- a host of characters, cut into bursts of at most 300: one of them is refused exactly if the whole run is, with the
-- same number, and else the last answer is the whole run's. (The bursts up to any one are bursts too: so the refused
-- burst is the first with which the whole run is refused)
abbrev pub BurstsSame : Type 0
BurstsSame =
    (ws b : List ℕ) (bs : List (List ℕ)) (s : List ℕ) (host : StrPtr)
    → Short (b ∷ bs) → characters (joined (b ∷ bs)) ≡ true
    → store_fits s ≡ true → good_in (length s) host ≡ true → text_of s host ≡ joined (b ∷ bs)
    → last_answer (bursts fresh (b ∷ bs) ws) ≡ run_rule s host ws

-- so what a run carries is no fault, as long as its words stay the same; its total is the bursts', and unless it has
-- stopped it has read them all
pub record CarriesAll (ws : List ℕ) (bs : List (List ℕ)) (c : Carried) : Type 0 where
  pub carried : is_carried (size_of ws) c ≡ true
  pub total : c.total ≡ length (joined bs)
  pub unstopped : c.stopped ≡ false → c.read ≡ c.total

abbrev pub BurstsCarried : Type 0
BurstsCarried = (ws b : List ℕ) (bs : List (List ℕ)) (c : Carried) → bursts fresh (b ∷ bs) ws ≡ gives c → CarriesAll ws (b ∷ bs) c

-- refused bursts among them: what is carried stays as it was
abbrev pub kept : Carried → Outcome Carried → Carried
kept c (refused k) = c
kept c (gives c') = c'

abbrev pub carried_past : Carried → List (List ℕ) → List ℕ → Carried
carried_past c [] ws = c
carried_past c (b ∷ bs) ws = carried_past (kept c (burst_rule c b ws)) bs ws

-- the bursts that were not refused
abbrev pub if_taken : Outcome Carried → List ℕ → List (List ℕ)
if_taken (refused k) b = []
if_taken (gives c) b = b ∷ []

abbrev pub taken : Carried → List (List ℕ) → List ℕ → List (List ℕ)
taken c [] ws = []
taken c (b ∷ bs) ws = if_taken (burst_rule c b ws) b ++ taken (kept c (burst_rule c b ws)) bs ws

-- so they alone count: what is carried after all is what they give
abbrev pub BurstsTaken : Type 0
BurstsTaken = (ws : List ℕ) (bs : List (List ℕ)) (c : Carried) → bursts c (taken c bs ws) ws ≡ gives (carried_past c bs ws)

-- after the stop a burst is checked like any other, and no word of a state is met: state, number read and note stay,
-- and the total grows
abbrev pub AfterStop : Type 0
AfterStop =
    (c : Carried) (b ws : List ℕ) → c.stopped ≡ true
    → burst_rule c b ws ≡ outcome (before_burst c b ws) (carried_by 0 c.read (c.total + length b) (carried_note c) true)

-- bursts over a table of the strings ss: none is refused, the last note is the plain search's answer for them joined,
-- at most one character is read past any place at which that answer is sure, and where more was delivered the run has
-- stopped: what is noted can be told, and stays
pub record Searched (ss : List (List ℕ)) (words : List ℕ) (bs : List (List ℕ)) : Type 0 where
  pub last : Carried
  pub carries : bursts fresh bs words ≡ gives last
  pub found : (answer_of last).0 ≡ plain_search ss (joined bs)
  pub early : (k : ℕ) → Sure ss (take k (joined bs)) → (answer_of last).1 ≤ k + 1
  pub stops : (k : ℕ) → Sure ss (take k (joined bs)) → k + 1 < length (joined bs) → last.stopped ≡ true

-- over every table that the translator leaves; bursts of characters, within the limits
abbrev pub BurstsSearch : Type 0
BurstsSearch =
    (ss : List (List ℕ)) (old new : List ℕ) → Table ss old new
    → (b : List ℕ) (bs : List (List ℕ)) → Short (b ∷ bs) → length (joined (b ∷ bs)) ≤ 65536 → characters (joined (b ∷ bs)) ≡ true
    → Searched ss new (b ∷ bs)
