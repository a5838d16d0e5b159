-- What the plain search gives, in the words of 01, "Searching": the smallest position, then the smallest number, and
-- nothing exactly where no listed string occurs. Assumes nothing.
use Rattle.std.specs.Prelude.{ℕ, ◌+◌, ◌-◌, ◌≤◌, ◌≡◌, List, [], length, take, drop, get_or}
use Rattle.search.specs.Search.{nothing, found, plain_search}

-- the characters of s stand at position p, wholly inside the host; so the null string does at every position
pub record occurs_at (host : List ℕ) (p : ℕ) (s : List ℕ) : Type 0 where
  pub from : 1 ≤ p
  pub to : p ≤ length host + 1
  pub stands : take (length s) (drop (p - 1) host) ≡ s

-- string number j
unfoldable pub string_of : List (List ℕ) → ℕ → List ℕ
string_of ss j = get_or ss (j - 1) []

-- string j of the list occurs at position p
pub record listed_at (ss : List (List ℕ)) (host : List ℕ) (j p : ℕ) : Type 0 where
  pub from : 1 ≤ j
  pub to : j ≤ length ss
  pub occurs : occurs_at host p (string_of ss j)

-- string j from pos1 to pos2 is the answer
pub record Earliest (ss : List (List ℕ)) (host : List ℕ) (j pos1 pos2 : ℕ) : Type 0 where
  pub occurs : listed_at ss host j pos1
  pub ends : pos2 ≡ pos1 + length (string_of ss j)
  pub position : (i p : ℕ) → listed_at ss host i p → pos1 ≤ p
  pub number : (i : ℕ) → listed_at ss host i pos1 → j ≤ i

-- no listed string occurs
abbrev pub Nowhere : List (List ℕ) → List ℕ → Type 0
Nowhere ss host = (j p : ℕ) → listed_at ss host j p → ⊥

-- the law of the search, each answer both ways
pub record SearchLaw (ss : List (List ℕ)) (host : List ℕ) : Type 0 where
  pub found_is : (j pos1 pos2 : ℕ) → plain_search ss host ≡ found j pos1 pos2 → Earliest ss host j pos1 pos2
  pub is_found : (j pos1 pos2 : ℕ) → Earliest ss host j pos1 pos2 → plain_search ss host ≡ found j pos1 pos2
  pub nothing_is : plain_search ss host ≡ nothing → Nowhere ss host
  pub is_nothing : Nowhere ss host → plain_search ss host ≡ nothing

-- of any strings and any host
abbrev pub SearchLaws : Type 0
SearchLaws = (ss : List (List ℕ)) (host : List ℕ) → SearchLaw ss host
