use Rattle.std.proofs.Common.{◌≡◌, ◌+◌, ◌≤◌, ◌<◌, drop}
use Rattle.table.specs.Run.{walk}
use Rattle.table.specs.Inner.{rests_of}
use Rattle.table.proofs.walk.Given as goal

abbrev pub invariant-loop-c : goal.invariant-loop-c
invariant-loop-c l =
    (l.at.state < l.size)
    × (l.at.read ≤ l.fn.from.read + l.c-index)
    × (walk l.table l.size l.text (rests_of l.fn.from) ≡ walk l.table l.size (drop l.c-index l.text) (rests_of l.at))
