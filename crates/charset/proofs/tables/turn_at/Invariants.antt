use Rattle.std.proofs.Common.{◌≡◌, length, drop}
use Rattle.charset.specs.Sets.{turned_at}
use Rattle.charset.proofs.tables.turn_at.Given as goal

abbrev pub invariant-loop-x : goal.invariant-loop-x
invariant-loop-x l = (length l.block ≡ 128) × (turned_at l.on l.mask l.text l.fn.block ≡ turned_at l.on l.mask (drop l.x-index l.text) l.block)
