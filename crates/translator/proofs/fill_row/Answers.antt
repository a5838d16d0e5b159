use Rattle.std.proofs.Common.{arith}
use Rattle.strlib.proofs.Texts.{texts_long}
use Rattle.states.proofs.Writing.{rowed_default}
use Rattle.translator.proofs.Rows.{next_from, next_open, next_ready}
use Rattle.translator.proofs.fill_row.Goals as goal

pub closed_by-closing-requires : goal.closed_by-closing-requires
closed_by-closing-requires c = (omega (arith, c.requires.0.few, texts_long c.args.store.now c.args.strings.now), c.requires.2)

pub default_row-requires : goal.default_row-requires
default_row-requires c = (
  omega (arith, c.requires.0.long, c.requires.1.inside),
  next_from _ _ _ c.requires.0 _ _ _ c.requires.1 _ _ c.closed_by-closing.ensures c.if_open-from.ensures,
)

pub finish_row-requires : goal.finish_row-requires
finish_row-requires c = (
  next_ready _ _ _ c.requires.0 _ _ _ c.default_row.ensures,
  next_open _ _ _ c.requires.0 _ _ _ c.requires.1 _ _ c.closed_by-closing.ensures c.if_open-from.ensures _ c.default_row.ensures,
  c.requires.2,
)

pub returns : goal.returns
returns c = rowed_default _ _ _ _ _ _ _ c.default_row.ensures c.finish_row.ensures
