-- How far the listed strings are alike, and what this tells of the prefixes that have rows. Assumes nothing.
use Rattle.std.specs.Prelude.{ℕ, ◌<◌, ◌≡◌, ◌&&◌, List, [], leb, length, get_or}
use Rattle.search.specs.Search.{is_prefix}
use Rattle.words.specs.Alike.{common}

-- the numbers of x: at k, how many characters string k and x begin alike with
pub record AlikeTo (ss : List (List ℕ)) (ns x : List ℕ) : Type 0 where
  pub long : length ns ≡ 32
  pub numbers : (k : ℕ) → k < length ss → get_or ns k 0 ≡ common (get_or ss k []) x

-- those of every string
abbrev pub Alike : List (List ℕ) → List (List ℕ) → Type 0
Alike ss nss = (j : ℕ) → j < length ss → AlikeTo ss (get_or nss j []) (get_or ss j [])

-- n tells whether x begins with u, and whether u begins with x
pub record Tells (n : ℕ) (u x : List ℕ) : Type 0 where
  pub begins : is_prefix u x ≡ leb (length u) n
  pub ends : is_prefix x u ≡ (leb (length x) (length u) && leb (length x) n)

-- numbers that tell it of each string
pub record TellsAll (ns u : List ℕ) (ss : List (List ℕ)) : Type 0 where
  pub long : length ns ≡ 32
  pub tells : (k : ℕ) → k < length ss → Tells (get_or ns k 0) u (get_or ss k [])
