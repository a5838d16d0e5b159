-- What moving, blanks, bytes and reversal leave in a store: 01, "Copying". Outside the store nothing is written.
-- Assumes nothing.
use Rattle.std.specs.Prelude.{ℕ, cond, ◌&&◌, List, [], ◌∷◌, ◌++◌, length, take, drop, replicate}
use Rattle.strlib.specs.Pointer.{within}
use Rattle.strlib.specs.Store.{put}

-- s with the n characters at `from`, as they are in s, written at `to`
unfoldable pub moved : List ℕ → ℕ → ℕ → ℕ → List ℕ
moved s from to n = cond (within (length s) from n && within (length s) to n) (put s to (take n (drop from s))) s

-- s with ys, n bytes, written from index at on, where they lie in s
abbrev pub overwritten : List ℕ → ℕ → ℕ → List ℕ → List ℕ
overwritten s at n ys = cond (within (length s) at n) (put s at ys) s

-- s with n blanks written from index at on
unfoldable pub blanked : List ℕ → ℕ → ℕ → List ℕ
blanked s at n = overwritten s at n (replicate n 32)

-- s with bytes written from index at on
unfoldable pub pasted : List ℕ → ℕ → List ℕ → List ℕ
pasted s at xs = overwritten s at (length xs) xs

-- characters from the last to the first
unfoldable pub reversed : List ℕ → List ℕ
reversed [] = []
reversed (x ∷ xs) = reversed xs ++ (x ∷ [])

-- s with its n characters from index at on reversed
unfoldable pub reversed_at : List ℕ → ℕ → ℕ → List ℕ
reversed_at s at n = overwritten s at n (reversed (take n (drop at s)))
