use Rattle.std.proofs.Common.{◌≡◌, ◌<◌, false, [], get_or, length, sym, arith}
use borrow.Author.Count.{below_more}
use Rattle.strlib.proofs.Texts.{texts_long}
use Rattle.strlib.specs.Pointer.{texts}
use Rattle.search.specs.Search.{is_prefix}
use Rattle.search.proofs.Finding.{none_closed, first_closed}
use Rattle.translator.proofs.Common.{text_at}
use Rattle.translator.proofs.Writers.{told_here, told_long, told_apart}
use Rattle.translator.proofs.closed_by.Goals.{else-n-u-via-then-n-u+else-n-alike, else-n-u-via-else-n-u}
use Rattle.translator.proofs.closed_by.Goals as goal

pub loop-i-preserved : goal.loop-i-preserved
loop-i-preserved c =
    let ss = texts c.args.store.now c.args.strings.now in
    let h : c.loop-i.i < length ss = rw texts_long c.loop-i-test.true in
    let e = text_at _ _ _ _ _ c.loop-i-test.true c.text-n.ensures in
    below_more (λ k. is_prefix (get_or ss k []) c.args.u.now ≡ false) _ c.loop-i.invariant
    (elim c.else-n-u.branch [
      | else-n-u-via-then-n-u+else-n-alike w ↦ told_apart ss _ _ c.requires.1 _ h _ e w.if-n-alike.false
      | else-n-u-via-else-n-u w ↦ told_long ss _ _ c.requires.1 _ h _ e w.if-n-u.false
    ])

pub returns-then-n-alike : goal.returns-then-n-alike
returns-then-n-alike c =
    let ss = texts c.args.store.now c.args.strings.now in
    let h : c.loop-i.i < length ss = rw texts_long c.loop-i-test.true in
    let e = text_at _ _ _ _ _ c.loop-i-test.true c.text-n.ensures in
    omega (arith, first_closed ss _ _ h (told_here ss _ _ c.requires.1 _ h _ e c.if-n-u.true c.if-n-alike.true) c.loop-i.invariant)

pub returns : goal.returns
returns c =
    let ss = texts c.args.store.now c.args.strings.now in
    sym (none_closed ss _ (λ k h. c.loop-i.invariant k (omega (arith, texts_long c.args.store.now c.args.strings.now))))
