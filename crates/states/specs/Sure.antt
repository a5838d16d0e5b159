-- When the answer of a search is sure: 02, W12. Assumes nothing.
use Rattle.std.specs.Prelude.{ℕ, ◌≤◌, ◌≡◌, true, List, [], ◌++◌, length, take}
use Rattle.strlib.specs.Pointer.{all, characters}
use Rattle.search.specs.Search.{nothing, plain_search}

-- after the text t the answer is sure: with every continuation of characters, of whatever length, the search names the
-- same string, start and end, or nothing found (a `Result` has no pointers: these are left aside)
unfoldable pub Sure : List (List ℕ) → List ℕ → Type 0
Sure ss t = (z : List ℕ) → characters z ≡ true → plain_search ss (t ++ z) ≡ plain_search ss t

-- k characters of the host stand before the first place at which it is sure; not every host has such a place
pub record FirstSure (ss : List (List ℕ)) (host : List ℕ) (k : ℕ) : Type 0 where
  pub inside : k ≤ length host
  pub sure : Sure ss (take k host)
  pub first : (i : ℕ) → Sure ss (take i host) → k ≤ i

-- for an empty list that place is before the first character
abbrev pub EmptySure : Type 0
EmptySure = (host : List ℕ) → FirstSure [] host 0

-- and if every listed string is of characters, nothing found is sure only for the empty list: else a listed string may
-- follow
abbrev pub NothingSure : Type 0
NothingSure = (ss : List (List ℕ)) (t : List ℕ) → all characters ss ≡ true → Sure ss t → plain_search ss t ≡ nothing → ss ≡ []
