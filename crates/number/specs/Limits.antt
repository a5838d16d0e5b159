-- The base and the range: 01, "Numbers". Assumes nothing.
use Rattle.std.specs.Prelude.{ℕ, Bool, ◌&&◌, leb, ℤ, pos, negsuc}
use Rattle.std.specs.Int.Signed.{le_z}

-- a base is 2 to 10
unfoldable pub is_base : ℕ → Bool
is_base base = leb 2 base && leb base 10

-- the range is −34,359,738,368 to 34,359,738,367, both ends included (`negsuc n` is −(n + 1))
unfoldable pub in_range : ℤ → Bool
in_range z = le_z (negsuc 34359738367) z && le_z z (pos 34359738367)
