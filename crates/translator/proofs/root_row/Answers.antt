use Rattle.std.proofs.Common.{arith, sym, ap, ◌∙◌}
use Rattle.strlib.proofs.Texts.{texts_long}
use Rattle.states.specs.Fill.{root_to}
use Rattle.states.proofs.Writing.{rowed_flat}
use Rattle.translator.proofs.Common.{tells_root}
use Rattle.translator.proofs.Rows.{root_ready, root_open}
use Rattle.translator.proofs.root_row.Goals as goal

pub closed_by-closing-requires : goal.closed_by-closing-requires
closed_by-closing-requires c = (omega (arith, c.requires.few, texts_long c.args.store.now c.args.strings.now), tells_root _ _ c.told-alike)

pub finish_row-requires : goal.finish_row-requires
finish_row-requires c = (
  root_ready _ _ _ c.requires _ _ _ c.flat_row.ensures,
  root_open _ _ _ c.requires _ _ _ c.closed_by-closing.ensures (c.root_to.ensures ∙ ap (λ (n : _). root_to n c.closed_by-closing.result) (sym (texts_long c.args.store.now c.args.strings.now))) c.flat_row.ensures,
  tells_root _ _ c.told-alike,
)

pub returns : goal.returns
returns c = rowed_flat _ _ _ _ _ _ _ c.flat_row.ensures c.finish_row.ensures
