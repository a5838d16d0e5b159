use Rattle.std.proofs.Common.{arith}
use Rattle.strlib.proofs.Texts.{character_at}
use Rattle.translator.proofs.next_fail.Goals as goal

pub row_word-requires : goal.row_word-requires
row_word-requires c = omega (arith, character_at c.args.x.now c.args.l c.requires.1 c.if-x-l.false)
