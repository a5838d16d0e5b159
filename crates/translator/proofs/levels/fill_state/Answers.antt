use Rattle.translator.proofs.Common.{tells_take}
use Rattle.translator.proofs.Rows.{turn_fail, turn_next, turn_done}
use Rattle.translator.proofs.levels.fill_state.Goals as goal

pub next_fail-next-requires : goal.next_fail-next-requires
next_fail-next-requires c = (turn_fail _ _ _ c.requires.0 _ _ _ _ c.requires.1 c.if-x-l.false, c.requires.1.plain)

pub fill_row-requires : goal.fill_row-requires
fill_row-requires c = (
  c.requires.0,
  turn_next _ _ _ c.requires.0 _ _ _ _ c.requires.1 c.if-x-l.false,
  tells_take _ _ _ _ c.requires.2 c.if-x-l.false,
)

pub returns : goal.returns
returns c = turn_done _ _ _ c.requires.0 _ _ _ _ c.requires.1 c.if-x-l.false _ _ c.next_fail-next.ensures c.fill_row.ensures
