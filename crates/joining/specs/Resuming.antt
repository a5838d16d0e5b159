-- The checkpointed join: 01, "Copying", second paragraph. Assumes nothing.
use Rattle.std.specs.Prelude.{ℕ, zero, suc, ◌+◌, ◌-◌, ◌≡◌, Bool, true, cond, ◌&&◌, List, [], ◌∷◌, ◌++◌, leb, ltb, length, take, drop}
use Rattle.strlib.specs.Pointer.{sized, good_in, clear, all, texts, joined}
use Rattle.strlib.specs.Refusal.{Outcome, gives, first, ruled}
use Rattle.strlib.specs.Store.{put}
use Rattle.strlib.specs.declared.StrPtr.{StrPtr}
use Rattle.joining.specs.Joining.{listed_checks}
use Rattle.joining.specs.declared.Place.{Place}
use Rattle.joining.specs.declared.Round.{Round}

-- ---- places

-- the length of the string of index i, 0 where there is none
unfoldable pub length_at : List StrPtr → ℕ → ℕ
length_at [] i = 0
length_at (p ∷ ps) zero = p.length
length_at (p ∷ ps) (suc i) = length_at ps i

-- a place (k, p) that a call takes: 1 ≤ k ≤ count + 1, and 1 ≤ p ≤ length + 1, so p = 1 where k = count + 1
unfoldable pub place_in : List StrPtr → ℕ → Place → Bool
place_in list count from =
    (leb 1 from.string && leb from.string (count + 1))
    && (leb 1 from.character && leb from.character (length_at (take count list) (from.string - 1) + 1))

-- how many of the joined characters stand before the character of index q of the string of index i
unfoldable pub before : List (List ℕ) → ℕ → ℕ → ℕ
before xss i q = length (joined (take i xss)) + q

-- a place as the number of joined characters before it
abbrev pub offset : List (List ℕ) → Place → ℕ
offset xss from = before xss (from.string - 1) (from.character - 1)

-- the place of the character before which o stand, in strings numbered from k on; where there is none, the place behind
-- the last string
unfoldable pub place_at : ℕ → List (List ℕ) → ℕ → Place
place_at k [] o = record { string = k; character = 1 }
place_at k (x ∷ xss) o = cond (ltb o (length x)) (record { string = k; character = o + 1 }) (place_at (k + 1) xss (o - length x))

-- ---- one round, with the maximum m, from behind o characters on

-- the characters that it moves
unfoldable pub piece : List (List ℕ) → ℕ → ℕ → List ℕ
piece xss m o = take m (drop o (joined xss))

-- whether they are all that was left
unfoldable pub completes : List (List ℕ) → ℕ → ℕ → Bool
completes xss m o = leb (length (drop o (joined xss))) m

-- where the next round resumes
unfoldable pub next_place : List (List ℕ) → ℕ → ℕ → Place
next_place xss m o = place_at 1 xss (o + m)

-- what it answers
unfoldable pub round_of : List (List ℕ) → StrPtr → ℕ → Round
round_of xss destination o =
    let m : ℕ = destination.maximum in
    record { to = sized destination (length (piece xss m o)); completed = completes xss m o; next = next_place xss m o }

-- the answer and the store of a round over the strings ps, from behind the first q characters of the string of index i
-- on
unfoldable pub round_from : List ℕ → StrPtr → List StrPtr → ℕ → ℕ → Round × List ℕ
round_from s destination ps i q =
    let xss : List (List ℕ) = texts s ps in
    let o : ℕ = before xss i q in
    (round_of xss destination o, put s destination.start (piece xss destination.maximum o))

-- ---- the call

-- the checks of a checkpointed join
abbrev pub join_from_checks : List ℕ → StrPtr → List StrPtr → ℕ → Place → List (ℕ × Bool)
join_from_checks s destination list count from =
    listed_checks s destination list count ++ ((4, place_in list count from) ∷ (5, all (clear destination) (take count list)) ∷ [])

-- the number that they find, 0 for none
unfoldable pub join_from_refusal : List ℕ → StrPtr → List StrPtr → ℕ → Place → ℕ
join_from_refusal s destination list count from = first (join_from_checks s destination list count from)

-- a checkpointed join is one round from the given place on
unfoldable pub join_from_rule : List ℕ → StrPtr → List StrPtr → ℕ → Place → Outcome Round × List ℕ
join_from_rule s destination list count from =
    let round : Round × List ℕ = round_from s destination (take count list) (from.string - 1) (from.character - 1) in
    ruled (join_from_refusal s destination list count from) round.0 round.1 s

-- a pointer that a checkpointed join gives is good for the store
abbrev pub JoinFromGood : Type 0
JoinFromGood =
    (s : List ℕ) (destination : StrPtr) (list : List StrPtr) (count : ℕ) (from : Place) (r : Round)
    → (join_from_rule s destination list count from).0 ≡ gives r
    → good_in (length s) r.to ≡ true
