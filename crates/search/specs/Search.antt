-- The plain search: 01, "Searching", over characters. The strings and the host are lists of characters; numbers and
-- positions count from 1. Assumes nothing.
use Rattle.std.specs.Prelude.{ℕ, zero, suc, Bool, true, false, ◌&&◌, List, [], ◌∷◌, eqb, length, get_or}

-- the characters s stand at the front of h
abbrev pub is_prefix : List ℕ → List ℕ → Bool
is_prefix [] h = true
is_prefix (x ∷ s) [] = false
is_prefix (x ∷ s) (y ∷ h) = eqb x y && is_prefix s h

-- the number of a string in a list, one string more in front of it; 0, for none, stays
abbrev pub further : ℕ → ℕ
further zero = zero
further (suc n) = suc (suc n)

-- the number of the first string that passes a test: 1 where the string in front does, else by its number n among the
-- others
abbrev pub first_number : Bool → ℕ → ℕ
first_number true n = 1
first_number false n = further n

-- the number of the first listed string that stands at the front of w, 0 for none. With such a string a search over w
-- is closed: nothing behind the front can come before it
abbrev pub closed : List (List ℕ) → List ℕ → ℕ
closed [] w = zero
closed (s ∷ ss) w = first_number (is_prefix s w) (closed ss w)

-- the length of string number i, 0 for no string
abbrev pub length_of : List (List ℕ) → ℕ → ℕ
length_of ss zero = zero
length_of ss (suc k) = length (get_or ss k [])

-- nothing, or string j from pos1 to pos2
pub data Result : Type 0 where
  nothing : Result
  found : ℕ → ℕ → ℕ → Result

-- a result in a host with one character more in front
abbrev pub onward : Result → Result
onward nothing = nothing
onward (found j pos1 pos2) = found j (suc pos1) (suc pos2)

-- string number i found at the front, or else r
abbrev pub at_front : List (List ℕ) → ℕ → Result → Result
at_front ss zero r = r
at_front ss (suc k) r = found (suc k) 1 (suc (length_of ss (suc k)))

-- the smallest position, then the smallest number
abbrev pub plain_search : List (List ℕ) → List ℕ → Result
plain_search ss [] = at_front ss (closed ss []) nothing
plain_search ss (x ∷ h) = at_front ss (closed ss (x ∷ h)) (onward (plain_search ss h))
