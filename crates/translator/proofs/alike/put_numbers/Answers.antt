use Rattle.std.proofs.Common.{arith, length-set, ◌∙◌}
use Rattle.strlib.proofs.Texts.{texts_long}
use Rattle.translator.proofs.Common.{text_at, numbers_more}
use Rattle.translator.proofs.alike.put_numbers.Goals as goal

pub loop-k-preserved : goal.loop-k-preserved
loop-k-preserved c = record {
  long = length-set _ _ _ ∙ c.loop-k.invariant.long;
  so_far = numbers_more _ _ _ _ _ _ c.loop-k.invariant.so_far (omega arith) (text_at _ _ _ _ _ c.loop-k-test.true c.text.ensures) c.alike.ensures;
}

pub returns : goal.returns
returns c = record {
  long = c.loop-k.invariant.long;
  numbers = λ k h. c.loop-k.invariant.so_far k (omega (arith, texts_long c.args.store.now c.args.strings.now));
}
