use Rattle.std.proofs.Common.{arith, refl}
use Rattle.strlib.proofs.Texts.{texts_long}
use Rattle.translator.proofs.Checking.{build_total, build_small, row_ready, table_made}
use Rattle.translator.proofs.levels.build.Goals as goal

pub overflow_add-table : goal.overflow_add-table
overflow_add-table c = omega (arith, build_small _ _ _ c.requires _ c.total_of-n.ensures)

pub overflow_cast-table : goal.overflow_cast-table
overflow_cast-table c = omega (arith, build_small _ _ _ c.requires _ c.total_of-n.ensures)

pub fill_alike-requires : goal.fill_alike-requires
fill_alike-requires c = omega (arith, c.requires.few, texts_long c.args.store.now c.args.strings.now)

pub fill_levels-requires : goal.fill_levels-requires
fill_levels-requires c = (
  row_ready _ _ _ c.requires _ c.total_of-n.ensures _ refl _ c.root_row.ensures,
  build_total _ _ _ c.requires _ c.total_of-n.ensures,
  c.root_row.ensures.row,
  c.fill_alike.ensures,
)

pub returns : goal.returns
returns c = table_made _ _ _ c.requires _ c.total_of-n.ensures _ refl _ c.root_row.ensures _ c.fill_levels.ensures
