use Rattle.std.proofs.Common.{length, arith}
use Rattle.strlib.proofs.Texts.{character_at}
use Rattle.translator.proofs.Writers.{put_laws}
use Rattle.translator.proofs.put_child.Goals as goal

pub returns-then-x-l : goal.returns-then-x-l
returns-then-x-l c = search put_laws

pub bounds-table-base : goal.bounds-table-base
bounds-table-base c = omega (arith, character_at c.args.x.now (length c.args.u.now) c.requires.1 c.if-x-l.false)

pub returns-then-l-alike : goal.returns-then-l-alike
returns-then-l-alike c =
    let small = character_at c.args.x.now (length c.args.u.now) c.requires.1 c.if-x-l.false in
    search put_laws

pub returns-else-l-alike : goal.returns-else-l-alike
returns-else-l-alike c = search put_laws
