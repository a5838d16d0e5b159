-- What is written: 01, "Numbers". Fewest digits, minus if negative. Assumes nothing.
use Rattle.std.specs.Prelude.{ℕ, zero, suc, ◌+◌, ◌/◌, ◌%◌, cond, List, [], ◌∷◌, ◌++◌, ltb, ℤ, pos, negsuc, nat_abs}

-- the digits of n, at most k: a number under the base is one digit; else the last digit is the remainder, and those of
-- the quotient stand before it
unfoldable pub digits_in : ℕ → ℕ → ℕ → List ℕ
digits_in zero base n = []
digits_in (suc k) base n = cond (ltb n base) ((48 + n) ∷ []) (digits_in k base (n / base) ++ ((48 + n % base) ∷ []))

-- a number under 2^36 has at most 36 digits, in any base from 2 on; of a greater one these are the last 36 digits at
-- most
unfoldable pub digits : ℕ → ℕ → List ℕ
digits base n = digits_in 36 base n

-- a minus (45) if negative (`negsuc n` is −(n + 1))
unfoldable pub sign : ℤ → List ℕ
sign (pos n) = []
sign (negsuc n) = 45 ∷ []

-- the text of a number
unfoldable pub written : ℕ → ℤ → List ℕ
written base z = sign z ++ digits base (nat_abs z)
