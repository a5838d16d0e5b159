-- Two walks over what is numbered from 0. Assumes nothing.
use Rattle.std.specs.Prelude.{ℕ, zero, suc, Bool, cond, ◌&&◌, eqb}

-- the last of the first n that passes a test, counted from 1; 0 for none
unfoldable pub last_of : (ℕ → Bool) → ℕ → ℕ
last_of f zero = 0
last_of f (suc k) = cond (f k) (suc k) (last_of f k)

-- how many of the first n stand before the first that does not pass
unfoldable pub lead_of : (ℕ → Bool) → ℕ → ℕ
lead_of f zero = 0
lead_of f (suc k) = cond (eqb (lead_of f k) k && f k) (suc k) (lead_of f k)
