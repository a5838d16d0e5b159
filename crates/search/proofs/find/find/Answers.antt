use Rattle.std.proofs.Common.{ℕ, ◌≡◌, ◌-◌, false, [], get_or, length, take, drop, ap, refl, ◌∙◌, arith}
use borrow.Author.Count.{below_more}
use Rattle.strlib.proofs.Texts.{texts_long}
use Rattle.strlib.specs.Pointer.{texts}
use Rattle.search.specs.Search.{is_prefix}
use Rattle.search.proofs.Finding.{passed_none, passed_all, passed_more, tried_is, find_hit}
use Rattle.search.proofs.find.find.Goals as goal

pub positions-init : goal.positions-init
positions-init c = record { none = refl; passed = passed_none _ _ }

pub loop-k-preserved : goal.loop-k-preserved
loop-k-preserved c =
    let ps = take c.args.list.now.count c.args.list.now.items in
    let rest = take (length c.args.text.now - c.positions.skipped) (drop c.positions.skipped c.args.text.now) in
    record {
      none = c.loop-k.invariant.none;
      tried = below_more (λ (i : ℕ). is_prefix (get_or (texts c.args.store.now ps) i []) rest ≡ false) _ c.loop-k.invariant.tried
          (tried_is _ _ c.args.text.now c.positions.skipped _ (rw c.strings-p-items.ensures at c.loop-k-test.true) _ c.strings-p-items.ensures _ _ c.text-string.ensures _ c.begins_with.ensures ∙ c.if-begins_with.false);
    }

pub positions-preserved : goal.positions-preserved
positions-preserved c = record {
  none = c.loop-k.invariant.none;
  passed = passed_more _ _ _ c.positions.invariant.passed (omega arith)
      (λ k h. c.loop-k.invariant.tried k (omega (arith, texts_long c.args.store.now (take c.args.list.now.count c.args.list.now.items), ap length c.strings-p-items.ensures)));
}

pub returns-then-begins_with : goal.returns-then-begins_with
returns-then-begins_with c =
    find_hit _ _ _ _ _ (rw c.strings-p-items.ensures at c.loop-k-test.true) _ c.strings-p-items.ensures _ _ c.text-string.ensures _ c.begins_with.ensures _ c.positions.invariant.passed
    (omega arith) c.if-begins_with.true c.loop-k.invariant.tried

pub returns-2 : goal.returns-2
returns-2 c =
    rw c.loop-k.invariant.none
    (passed_all _ _ _ _
    (passed_more _ _ _ c.positions.invariant.passed (omega arith)
    (λ k h. c.loop-k.invariant.tried k (omega (arith, texts_long c.args.store.now (take c.args.list.now.count c.args.list.now.items), ap length c.strings-p-items.ensures))))
    (omega arith))
