-- The place rule and the round rule of the checkpointed join: 01, "Copying", second paragraph. Each claim is one type.
-- 01's sentence on the next place is `PlaceRules`, that on m = 0 `NothingMoves`, that on rounds `ChainRules`: any calls
-- from (1, 1) on of which none is refused, however stores and destinations change in between, as long as the sources
-- and m stay. `AgainRules` is the case of one destination, called again on the store that the call before left: there
-- it is enough that the first call is not refused. `AnyLength` says that a destination's length plays no part,
-- `RoundRules` is the round rule on the definitions. Assumes nothing.
use Rattle.std.specs.Prelude.{ℕ, zero, suc, ◌+◌, ◌-◌, ◌/◌, ◌≤◌, ◌<◌, max, ◌≡◌, true, false, List, [], ◌++◌, length, take}
use Rattle.strlib.specs.Pointer.{sized, text_of, texts, joined}
use Rattle.strlib.specs.Refusal.{gives}
use Rattle.strlib.specs.declared.StrPtr.{StrPtr}
use Rattle.joining.specs.Resuming.{length_at, offset, piece, completes, next_place, round_of, join_from_rule}
use Rattle.joining.specs.declared.Place.{Place}
use Rattle.joining.specs.declared.Round.{Round}

-- the place (1, 1)
abbrev pub first_place : Place
first_place = record { string = 1; character = 1 }

-- ---- the place rule

-- of a call's answer: its next place is (count + 1, 1) exactly where it is completed, and else on a character that
-- exists
pub record PlaceRule (list : List StrPtr) (count : ℕ) (r : Round) : Type 0 where
  pub behind : r.completed ≡ true → r.next ≡ record { string = count + 1; character = 1 }
  pub is_behind : r.next ≡ record { string = count + 1; character = 1 } → r.completed ≡ true
  pub inside : r.completed ≡ false
      → ((1 ≤ r.next.string) × (r.next.string ≤ count))
      × ((1 ≤ r.next.character) × (r.next.character ≤ length_at (take count list) (r.next.string - 1)))

-- any store, destination and list, which has 32 places; any call that is not refused
abbrev pub PlaceRules : Type 0
PlaceRules =
    (s : List ℕ) (destination : StrPtr) (list : List StrPtr) (count : ℕ) (from : Place) (r : Round)
    → length list ≡ 32
    → (join_from_rule s destination list count from).0 ≡ gives r
    → PlaceRule list count r

-- with the maximum 0 and something left nothing moves: the round is not completed, the store stays, the destination is
-- empty, and as many characters stand before the next place as before the given one
pub record Unmoved (s : List ℕ) (destination : StrPtr) (list : List StrPtr) (count : ℕ) (from : Place) (r : Round) : Type 0 where
  pub uncompleted : r.completed ≡ false
  pub stays : (join_from_rule s destination list count from).1 ≡ s
  pub to : r.to ≡ sized destination 0
  pub next : offset (texts s (take count list)) r.next ≡ offset (texts s (take count list)) from

abbrev pub NothingMoves : Type 0
NothingMoves =
    (s : List ℕ) (destination : StrPtr) (list : List StrPtr) (count : ℕ) (from : Place) (r : Round)
    → destination.maximum ≡ 0
    → offset (texts s (take count list)) from < length (joined (texts s (take count list)))
    → (join_from_rule s destination list count from).0 ≡ gives r
    → Unmoved s destination list count from r

-- ---- the round rule, on the definitions

-- the place after n rounds with the maximum m, from (1, 1) on
unfoldable pub place_after : List (List ℕ) → ℕ → ℕ → Place
place_after xss m zero = first_place
place_after xss m (suc n) = next_place xss m (offset xss (place_after xss m n))

-- the pieces of n rounds, joined
unfoldable pub moved_after : List (List ℕ) → ℕ → ℕ → List ℕ
moved_after xss m zero = []
moved_after xss m (suc n) = moved_after xss m n ++ piece xss m (offset xss (place_after xss m n))

-- max(1, ⌈t/m⌉)
abbrev pub rounds_for : ℕ → ℕ → ℕ
rounds_for t m = max 1 ((t + (m - 1)) / m)

-- T characters in all: no round before number max(1, ⌈T/m⌉) completes, that one does, and the pieces joined are the
-- whole
pub record RoundRule (xss : List (List ℕ)) (m : ℕ) : Type 0 where
  pub early : (n : ℕ) → n + 1 < rounds_for (length (joined xss)) m → completes xss m (offset xss (place_after xss m n)) ≡ false
  pub done : (n : ℕ) → n + 1 ≡ rounds_for (length (joined xss)) m → completes xss m (offset xss (place_after xss m n)) ≡ true
  pub whole : moved_after xss m (rounds_for (length (joined xss)) m) ≡ joined xss

abbrev pub RoundRules : Type 0
RoundRules = (xss : List (List ℕ)) (m : ℕ) → 1 ≤ m → RoundRule xss m

-- ---- the round rule, of calls

-- where round n + 1 resumes: at (1, 1), then where the round before says
abbrev pub resumes_at : (ℕ → Round) → ℕ → Place
resumes_at rounds zero = first_place
resumes_at rounds (suc n) = (rounds n).next

-- no round before round n + 1 completed, so that it is called
abbrev pub Unfinished : (ℕ → Round) → ℕ → Type 0
Unfinished rounds n = (k : ℕ) → k < n → (rounds k).completed ≡ false

-- calls up to completion of which none is refused, each with its own store and a destination of maximum m, the listed
-- characters staying the same; of rounds past completion nothing is asked
pub record Chain (stores : ℕ → List ℕ) (destinations : ℕ → StrPtr) (list : List StrPtr) (count m : ℕ) (rounds : ℕ → Round) : Type 0 where
  pub room : (n : ℕ) → Unfinished rounds n → (destinations n).maximum ≡ m
  pub same : (n : ℕ) → Unfinished rounds n → texts (stores n) (take count list) ≡ texts (stores 0) (take count list)
  pub call : (n : ℕ) → Unfinished rounds n → (join_from_rule (stores n) (destinations n) list count (resumes_at rounds n)).0 ≡ gives (rounds n)

-- what the destinations hold after n calls, joined
unfoldable pub held_after : (ℕ → List ℕ) → (ℕ → StrPtr) → List StrPtr → ℕ → (ℕ → Round) → ℕ → List ℕ
held_after stores destinations list count rounds zero = []
held_after stores destinations list count rounds (suc n) =
    held_after stores destinations list count rounds n
    ++ text_of (join_from_rule (stores n) (destinations n) list count (resumes_at rounds n)).1 (rounds n).to

-- the round rule for what the calls answer and for what their destinations hold
pub record ChainRule (stores : ℕ → List ℕ) (destinations : ℕ → StrPtr) (list : List StrPtr) (count m : ℕ) (rounds : ℕ → Round) : Type 0 where
  pub early : (n : ℕ) → n + 1 < rounds_for (length (joined (texts (stores 0) (take count list)))) m → (rounds n).completed ≡ false
  pub done : (n : ℕ) → n + 1 ≡ rounds_for (length (joined (texts (stores 0) (take count list)))) m → (rounds n).completed ≡ true
  pub whole : held_after stores destinations list count rounds (rounds_for (length (joined (texts (stores 0) (take count list)))) m)
      ≡ joined (texts (stores 0) (take count list))

abbrev pub ChainRules : Type 0
ChainRules =
    (stores : ℕ → List ℕ) (destinations : ℕ → StrPtr) (list : List StrPtr) (count m : ℕ) (rounds : ℕ → Round)
    → 1 ≤ m
    → Chain stores destinations list count m rounds
    → ChainRule stores destinations list count m rounds

-- ---- one destination, called again

-- the length that a destination has counts for nothing, as long as it keeps to its maximum
abbrev pub AnyLength : Type 0
AnyLength =
    (s : List ℕ) (destination : StrPtr) (list : List StrPtr) (count : ℕ) (from : Place) (n : ℕ)
    → destination.length ≤ destination.maximum
    → n ≤ destination.maximum
    → join_from_rule s (sized destination n) list count from ≡ join_from_rule s destination list count from

-- what round n + 1 answers
abbrev pub round_after : List (List ℕ) → StrPtr → ℕ → Round
round_after xss destination n = round_of xss destination (offset xss (place_after xss destination.maximum n))

-- the store after n calls, each on the store that the call before left
unfoldable pub store_after : List ℕ → StrPtr → List StrPtr → ℕ → ℕ → List ℕ
store_after s destination list count zero = s
store_after s destination list count (suc n) =
    (join_from_rule (store_after s destination list count n) destination list count (place_after (texts s (take count list)) destination.maximum n)).1

-- no later call is refused, whatever length up to the maximum its pointer has, so also with the pointer that the call
-- before gave; and the round rule holds of the calls
pub record AgainRule (s : List ℕ) (destination : StrPtr) (list : List StrPtr) (count : ℕ) : Type 0 where
  pub given : (n k : ℕ) → k ≤ destination.maximum
      → join_from_rule (store_after s destination list count n) (sized destination k) list count (place_after (texts s (take count list)) destination.maximum n)
      ≡ (gives (round_after (texts s (take count list)) destination n), store_after s destination list count (suc n))
  pub rule : ChainRule (store_after s destination list count) (λ _. destination) list count destination.maximum (round_after (texts s (take count list)) destination)

-- any store and list, which has 32 places; a destination of maximum 1 or more; a first call that is not refused
abbrev pub AgainRules : Type 0
AgainRules =
    (s : List ℕ) (destination : StrPtr) (list : List StrPtr) (count : ℕ) (r : Round)
    → length list ≡ 32
    → 1 ≤ destination.maximum
    → (join_from_rule s destination list count first_place).0 ≡ gives r
    → AgainRule s destination list count
