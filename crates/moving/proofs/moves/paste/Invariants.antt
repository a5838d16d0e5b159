use Rattle.std.proofs.Common.{◌≡◌, length}
use lib.Seq as seq
use Rattle.moving.proofs.moves.paste.Given as goal

abbrev pub invariant-loop-i : goal.invariant-loop-i
invariant-loop-i l = (length l.store ≡ length l.initial.store) × (l.store ≡ seq.paste l.initial.store l.at l.bytes l.i)
