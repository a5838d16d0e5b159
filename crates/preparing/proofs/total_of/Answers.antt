use Rattle.std.proofs.Common.{arith}
use Rattle.preparing.proofs.Listing.{total_over, total_done, total_step, text_small}
use Rattle.preparing.proofs.total_of.Goals as goal

pub returns-then-store-gt-STORE_MAX : goal.returns-then-store-gt-STORE_MAX
returns-then-store-gt-STORE_MAX c = total_over _ _ c.then-store-gt-STORE_MAX.either

pub loop-p-preserved : goal.loop-p-preserved
loop-p-preserved c = record {
  counted = total_step _ _ _ _ c.loop-p.invariant.counted _ _ c.loop-p-test.true c.text.ensures;
  small = omega (arith, text_small _ _ _ c.if-store-gt-STORE_MAX.false c.text.ensures);
}

pub returns : goal.returns
returns c = total_done _ _ _ _ c.loop-p.invariant.counted c.loop-p-test.false c.if-store-gt-STORE_MAX.false c.if-strings-gt-LIST_MAX.false
