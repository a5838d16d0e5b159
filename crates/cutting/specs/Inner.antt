-- What the functions inside the crate ask of one another. Assumes nothing.
use Rattle.std.specs.Prelude.{ℕ, ◌+◌, ◌≤◌, ◌<◌, ◌≡◌, true}
use Rattle.strlib.specs.declared.StrPtr.{StrPtr}
use Rattle.cutting.specs.Cutting.{in_bounds}
use Rattle.cutting.specs.declared.Cut.{Cut}

-- what the code asks before it cuts: the room is in order, its end is a number that the machine has, and the bounds
-- hold
pub record Cuttable (p : StrPtr) (c : Cut) : Type 0 where
  pub room : p.length ≤ p.maximum
  pub end : p.start + p.maximum < 9223372036854775808
  pub bounds : in_bounds p c ≡ true

-- a part begins in the room
pub record Inside (p : StrPtr) (skip : ℕ) : Type 0 where
  pub within : skip ≤ p.maximum
  pub end : p.start + p.maximum < 9223372036854775808
