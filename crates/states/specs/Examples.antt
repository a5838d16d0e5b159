-- The first place at which an answer is sure, of some lists and hosts. Assumes nothing.
use Rattle.std.specs.Prelude.{ℕ, List, [], ◌∷◌, take}
use Rattle.strlib.specs.Quoted.{bytes}
use Rattle.states.specs.Sure.{Sure, FirstSure}

abbrev pub single : List (List ℕ)
single = bytes "ab" ∷ []

abbrev pub longer : List (List ℕ)
longer = bytes "ab" ∷ bytes "abc" ∷ []

abbrev pub inner : List (List ℕ)
inner = bytes "abcd" ∷ bytes "bc" ∷ []

abbrev pub null_last : List (List ℕ)
null_last = bytes "ab" ∷ [] ∷ []

abbrev pub null_first : List (List ℕ)
null_first = [] ∷ bytes "ab" ∷ []

pub record Examples : Type 0 where
  -- where the only string ends; never, where it may yet follow
  pub ends : FirstSure single (bytes "abx") 2
  pub never : (k : ℕ) → Sure single (take k (bytes "xa")) → ⊥
  -- 'abc', which goes on there, is listed later and changes nothing
  pub goes_on : FirstSure longer (bytes "abcc") 2
  -- 'bc' is the answer once 'abcd', which would begin before it, has broken off
  pub breaks_off : FirstSure inner (bytes "abcxyz") 4
  -- the null string is found at once, and is the answer once 'ab', which is listed before it, has broken off
  pub null_after : FirstSure null_last (bytes "axy") 2
  -- listed first, it is the answer at once
  pub null_at_once : FirstSure null_first (bytes "axy") 0
