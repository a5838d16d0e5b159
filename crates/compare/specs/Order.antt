-- The order of two numbers: 0 less, 1 equal, 2 greater. Assumes nothing.
use Rattle.std.specs.Prelude.{ℕ, cond, ltb, ℤ, pos, negsuc}
use Rattle.std.specs.Int.Signed.{lt_z}

-- of whole numbers, which may be negative
unfoldable pub order_z : ℤ → ℤ → ℕ
order_z a b = cond (lt_z a b) 0 (cond (lt_z b a) 2 1)

-- of lengths and of bytes
unfoldable pub order_n : ℕ → ℕ → ℕ
order_n m n = cond (ltb m n) 0 (cond (ltb n m) 2 1)

-- the sign of m − n: −1, 0 or 1
unfoldable pub sign_of : ℕ → ℕ → ℤ
sign_of m n = cond (ltb m n) (negsuc 0) (cond (ltb n m) (pos 1) (pos 0))
