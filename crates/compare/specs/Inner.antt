-- What functions inside the crate ask of their callers, and promise them. Assumes nothing.
use Rattle.std.specs.Prelude.{ℕ, ◌-◌, ◌≤◌, ◌<◌, min, max, ◌≡◌, true, List, length, get_or, pos}
use Rattle.strlib.specs.Pointer.{characters}
use Rattle.compare.specs.Compare.{Decision, unequal_from, decided}

-- n pairs that both texts have, all of characters
pub record Paired (xs ys : List ℕ) (n : ℕ) : Type 0 where
  pub within_1 : n ≤ length xs
  pub within_2 : n ≤ length ys
  pub character_1 : (i : ℕ) → i < n → get_or xs i 0 ≤ 127
  pub character_2 : (i : ℕ) → i < n → get_or ys i 0 ≤ 127

-- two texts of characters, and the shorter one's length
pub record Ended (xs ys : List ℕ) (n : ℕ) : Type 0 where
  pub shorter : n ≡ min (length xs) (length ys)
  pub characters_1 : characters xs ≡ true
  pub characters_2 : characters ys ≡ true

-- in padded style, what decides past the shorter text's end, where all pairs before it are equal
unfoldable pub tail_decision : List ℕ → List ℕ → Decision
tail_decision xs ys =
    let m : ℕ = min (length xs) (length ys) in
    let n : ℕ = max (length xs) (length ys) in
    decided xs ys 0 (pos 0) n (unequal_from xs ys (pos 0) m (n - m))
