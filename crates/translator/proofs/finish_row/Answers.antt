use Rattle.std.proofs.Common.{arith, sym, length-take-le}
use Rattle.strlib.proofs.Texts.{texts_long}
use Rattle.translator.proofs.Rows.{finish_closing, finish_few, finish_plain, finish_small, finish_tells, finish_row}
use Rattle.translator.proofs.finish_row.Goals as goal

pub length_of-n-requires : goal.length_of-n-requires
length_of-n-requires c = finish_closing _ _ _ c.requires.0 _ _ _ c.requires.1

pub slice_bounds-put_children-end : goal.slice_bounds-put_children-end
slice_bounds-put_children-end c = sym (length-take-le _ _ (finish_few _ _ _ c.requires.0 _ _ _ c.requires.1 _ c.limit_of-m.ensures))

pub put_children-requires : goal.put_children-requires
put_children-requires c =
    let h = finish_few _ _ _ c.requires.0 _ _ _ c.requires.1 _ c.limit_of-m.ensures in (
      omega (arith, c.requires.0.few, texts_long c.args.store.now c.args.strings.now, length-take-le _ _ h),
      c.requires.0.room,
      finish_plain _ _ _ c.requires.0 _ _ _ c.requires.1 _ c.limit_of-m.ensures,
      finish_small _ _ _ c.requires.0 _ _ _ c.requires.1 _ c.limit_of-m.ensures,
      c.requires.1.short,
      omega (arith, c.requires.0.long, c.requires.1.inside),
      finish_tells _ _ _ c.requires.0 _ _ _ c.requires.1 _ c.limit_of-m.ensures _ c.requires.2,
    )

pub put_note-requires : goal.put_note-requires
put_note-requires c = (
  omega (arith, c.put_children.ensures.wrote.frame.len, c.requires.0.long, c.requires.1.inside),
  omega (arith, c.requires.0.few, texts_long c.args.store.now c.args.strings.now, finish_closing _ _ _ c.requires.0 _ _ _ c.requires.1),
  c.requires.1.short,
)

pub returns : goal.returns
returns c = finish_row _ _ _ c.requires.0 _ _ _ c.requires.1 _ c.limit_of-m.ensures _ _ _ c.length_of-n.ensures c.put_children.ensures c.put_note.ensures
