-- Join of a list: 01, "Copying", first paragraph. Assumes nothing.
use Rattle.std.specs.Prelude.{ℕ, ◌≡◌, Bool, true, List, [], ◌∷◌, ◌++◌, leb, length, take}
use Rattle.strlib.specs.Pointer.{store_fits, good_in, texts, joined, readable, clear, all}
use Rattle.strlib.specs.Refusal.{Outcome, gives, first}
use Rattle.strlib.specs.declared.StrPtr.{StrPtr}
use Rattle.copying.specs.Copying.{bounded_copy}
use Rattle.copying.specs.declared.Wrote.{Wrote}

-- the checks that a join and a checkpointed join begin with
abbrev pub listed_checks : List ℕ → StrPtr → List StrPtr → ℕ → List (ℕ × Bool)
listed_checks s destination list count =
    (3, store_fits s) ∷ (3, leb count 32) ∷ (1, good_in (length s) destination) ∷ (1, all (good_in (length s)) (take count list))
    ∷ (2, all (readable s) (take count list)) ∷ []

-- the number that they find, 0 for none
abbrev pub listed_refusal : List ℕ → StrPtr → List StrPtr → ℕ → ℕ
listed_refusal s destination list count = first (listed_checks s destination list count)

-- the checks of a join
abbrev pub join_checks : List ℕ → StrPtr → List StrPtr → ℕ → List (ℕ × Bool)
join_checks s destination list count = listed_checks s destination list count ++ ((5, all (clear destination) (take count list)) ∷ [])

-- the number that they find, 0 for none
unfoldable pub join_refusal : List ℕ → StrPtr → List StrPtr → ℕ → ℕ
join_refusal s destination list count = first (join_checks s destination list count)

-- a join writes the characters of the first `count` strings of the list
unfoldable pub join_rule : List ℕ → StrPtr → List StrPtr → ℕ → Bool → Outcome Wrote × List ℕ
join_rule s destination list count pad =
    bounded_copy (join_refusal s destination list count) s destination (joined (texts s (take count list))) pad

-- a pointer that a join gives is good for the store
abbrev pub JoinGood : Type 0
JoinGood =
    (s : List ℕ) (destination : StrPtr) (list : List StrPtr) (count : ℕ) (pad : Bool) (r : Wrote)
    → (join_rule s destination list count pad).0 ≡ gives r
    → good_in (length s) r.to ≡ true
