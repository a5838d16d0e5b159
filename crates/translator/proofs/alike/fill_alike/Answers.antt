use Rattle.std.proofs.Common.{arith, length-set, ◌∙◌}
use Rattle.strlib.proofs.Texts.{texts_long}
use Rattle.translator.proofs.Common.{text_at, alike_more}
use Rattle.translator.proofs.alike.fill_alike.Goals as goal

pub loop-j-preserved : goal.loop-j-preserved
loop-j-preserved c = record {
  long = length-set _ _ _ ∙ c.loop-j.invariant.long;
  so_far = alike_more _ _ _ _ _ c.loop-j.invariant.so_far (omega arith) (text_at _ _ _ _ _ c.loop-j-test.true c.text.ensures) c.put_numbers.ensures;
}

pub returns : goal.returns
returns c = λ j h. c.loop-j.invariant.so_far j (omega (arith, texts_long c.args.store.now c.args.strings.now))
