use Rattle.charset.proofs.Turning.{Turned}
use Rattle.charset.proofs.tables.turn_all.Given as goal

abbrev pub invariant-loop-word : goal.invariant-loop-word
invariant-loop-word l = Turned l.on l.mask l.fn.block l.block l.word-index
