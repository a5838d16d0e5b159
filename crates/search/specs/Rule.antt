-- What a search answers: 01, "Searching". Assumes nothing.
use Rattle.std.specs.Prelude.{ℕ, ◌+◌, ◌-◌, Bool, List, [], ◌∷◌, leb, length, take}
use Rattle.strlib.specs.Pointer.{part_of, store_fits, good_in, text_of, texts, all, readable}
use Rattle.strlib.specs.Refusal.{Outcome, first, outcome, Sought, nowhere, at}
use Rattle.strlib.specs.declared.StrPtr.{StrPtr}
use Rattle.search.specs.Search.{Result, nothing, found, plain_search}
use Rattle.search.specs.declared.Match.{Match}
use Rattle.search.specs.declared.Split.{Split}

-- the store and the count; the host's pointer and the listed ones; the host's characters and those of the listed
-- strings
abbrev pub search_checks : List ℕ → StrPtr → List StrPtr → ℕ → List (ℕ × Bool)
search_checks s host list count =
    (3, store_fits s) ∷ (3, leb count 32) ∷ (1, good_in (length s) host) ∷ (1, all (good_in (length s)) (take count list))
    ∷ (2, readable s host) ∷ (2, all (readable s) (take count list)) ∷ []

-- the number of the first that fails, 0 for none
unfoldable pub search_refusal : List ℕ → StrPtr → List StrPtr → ℕ → ℕ
search_refusal s host list count = first (search_checks s host list count)

-- the plain search for the listed strings among the host's characters
unfoldable pub sought : List ℕ → StrPtr → List StrPtr → Result
sought s host list = plain_search (texts s list) (text_of s host)

-- before, match and after: the first two have maximum = length, the third keeps what is left of the host's maximum
unfoldable pub parts_of : StrPtr → ℕ → ℕ → ℕ → Match
parts_of host j pos1 pos2 =
    record {
      number = j;
      before = part_of host 0 (pos1 - 1) (pos1 - 1);
      matched = part_of host (pos1 - 1) (pos2 - pos1) (pos2 - pos1);
      after = part_of host (pos2 - 1) (host.length + 1 - pos2) (host.maximum + 1 - pos2);
    }

-- the host cut in two at a position: the front has maximum = length, the back keeps what is left of the host's maximum
unfoldable pub split_of : StrPtr → ℕ → ℕ → Split
split_of host j p =
    record {
      number = j;
      front = part_of host 0 (p - 1) (p - 1);
      back = part_of host (p - 1) (host.length + 1 - p) (host.maximum + 1 - p);
    }

-- nothing found, or what is given of string j from pos1 to pos2
unfoldable pub given : {A : Type 0} → (ℕ → ℕ → ℕ → A) → Result → Sought A
given f nothing = nowhere
given f (found j pos1 pos2) = at (f j pos1 pos2)

-- the rule of a search that gives f j pos1 pos2 of what it finds
unfoldable pub search_by : {A : Type 0} → (ℕ → ℕ → ℕ → A) → List ℕ → StrPtr → List StrPtr → ℕ → Outcome (Sought A)
search_by f s host list count = outcome (search_refusal s host list count) (given f (sought s host (take count list)))

-- before, match and after
unfoldable pub search_rule : List ℕ → StrPtr → List StrPtr → ℕ → Outcome (Sought Match)
search_rule s host list count = search_by (parts_of host) s host list count

-- before, and match with after: the host is cut where the match begins
unfoldable pub match_after_rule : List ℕ → StrPtr → List StrPtr → ℕ → Outcome (Sought Split)
match_after_rule s host list count = search_by (λ j pos1 pos2. split_of host j pos1) s host list count

-- before with match, and after: the host is cut where the match ends
unfoldable pub before_match_rule : List ℕ → StrPtr → List StrPtr → ℕ → Outcome (Sought Split)
before_match_rule s host list count = search_by (λ j pos1 pos2. split_of host j pos2) s host list count
