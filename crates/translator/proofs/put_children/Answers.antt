use Rattle.std.proofs.Common.{refl, sym, ap, ◌∙◌, arith}
use Rattle.strlib.proofs.Texts.{texts_long}
use Rattle.strlib.specs.Pointer.{texts}
use Rattle.states.proofs.Numbering.{total_to_all}
use Rattle.states.proofs.Writing.{children_none}
use Rattle.states.specs.State.{total_to}
use Rattle.preparing.proofs.Listing.{total_all}
use Rattle.translator.proofs.Common.{text_at}
use Rattle.translator.proofs.Children.{child_room, child_small, child_plain, child_tells, child_step, child_back}
use Rattle.translator.proofs.put_children.Goals as goal

pub loop-k-init : goal.loop-k-init
loop-k-init c =
    let s = c.args.store.now in
    let ps = c.args.strings.now in
    let n = texts_long s ps in
    record {
      at = c.total_of-at.ensures ∙ total_all s ps c.requires.1 c.requires.0 ∙ sym (total_to_all (texts s ps)) ∙ ap (total_to (texts s ps)) n;
      children = children_none _ _ _ _ _ (omega (arith, n));
    }

pub overflow_sub-at : goal.overflow_sub-at
overflow_sub-at c =
    child_room _ _ _ _ c.loop-k-test.true (omega (arith, texts_long c.args.store.now c.args.strings.now)) c.loop-k.invariant.at (text_at _ _ _ _ _ (omega arith) c.text-x.ensures)

pub overflow_add-at : goal.overflow_add-at
overflow_add-at c =
    omega
    (arith, child_small _ _ _ _ c.loop-k-test.true (omega (arith, texts_long c.args.store.now c.args.strings.now)) c.loop-k.invariant.at (text_at _ _ _ _ _ (omega arith) c.text-x.ensures) c.requires.3)

pub overflow_add-at-in-loop-k : goal.overflow_add-at-in-loop-k
overflow_add-at-in-loop-k c =
    omega
    (arith, child_small _ _ _ _ c.loop-k-test.true (omega (arith, texts_long c.args.store.now c.args.strings.now)) c.loop-k.invariant.at (text_at _ _ _ _ _ (omega arith) c.text-x.ensures) c.requires.3)

pub overflow_cast-at : goal.overflow_cast-at
overflow_cast-at c =
    omega
    (arith, child_small _ _ _ _ c.loop-k-test.true (omega (arith, texts_long c.args.store.now c.args.strings.now)) c.loop-k.invariant.at (text_at _ _ _ _ _ (omega arith) c.text-x.ensures) c.requires.3)

pub put_child-requires : goal.put_child-requires
put_child-requires c =
    let h = texts_long c.args.store.now c.args.strings.now in
    let e = text_at _ _ _ _ _ (omega arith) c.text-x.ensures in (
      omega arith,
      child_plain _ _ _ _ c.loop-k-test.true (omega (arith, h)) c.loop-k.invariant.at e c.requires.2,
      child_tells _ _ _ _ c.loop-k-test.true (omega (arith, h)) c.loop-k.invariant.at e _ _ c.requires.6,
    )

pub loop-k-preserved : goal.loop-k-preserved
loop-k-preserved c =
    let h = texts_long c.args.store.now c.args.strings.now in
    let e = text_at _ _ _ _ _ (omega arith) c.text-x.ensures in
    record {
      at = child_back _ _ _ _ c.loop-k-test.true (omega (arith, h)) c.loop-k.invariant.at e;
      children = child_step _ _ _ _ c.loop-k-test.true (omega (arith, h)) c.loop-k.invariant.at e _ _ _ _ _ _ c.loop-k.invariant.children refl c.put_child.ensures;
    }
