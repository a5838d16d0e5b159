-- What the functions inside the crate promise one another; `placed` serves the table's run. Assumes nothing.
use Rattle.std.specs.Prelude.{ℕ, zero, suc, ◌+◌, ◌≤◌}
use Rattle.strlib.specs.declared.StrPtr.{StrPtr}
use Rattle.search.specs.Search.{Result, nothing, found}
use Rattle.search.specs.declared.find.Spot.{Spot}

-- a place by its three numbers, with number 0 for nothing
unfoldable pub placed : ℕ → ℕ → ℕ → Result
placed zero pos1 pos2 = nothing
placed (suc j) pos1 pos2 = found (suc j) pos1 pos2

-- the same as the code holds it where something is found
abbrev pub spot : ℕ → ℕ → ℕ → Spot
spot j pos1 pos2 = record { number = j; pos1 = pos1; pos2 = pos2 }

-- what the code asks before it makes pointers: two positions of the host in their order, in a room whose end a store
-- may have
pub record Within (host : StrPtr) (pos1 pos2 : ℕ) : Type 0 where
  pub from : 1 ≤ pos1
  pub order : pos1 ≤ pos2
  pub to : pos2 ≤ host.length + 1
  pub room : host.length ≤ host.maximum
  pub end : host.start + host.maximum ≤ 65536
