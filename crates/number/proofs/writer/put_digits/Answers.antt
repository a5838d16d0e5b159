use Rattle.number.proofs.Writing.{put_step, put_laws}
use Rattle.number.proofs.writer.put_digits.Goals as goal

pub nonzero_rem-m : goal.nonzero_rem-m
nonzero_rem-m c = search put_laws

pub digit-requires : goal.digit-requires
digit-requires c = search put_laws

pub nonzero_div-m : goal.nonzero_div-m
nonzero_div-m c = search put_laws

pub loop-j-preserved : goal.loop-j-preserved
loop-j-preserved c = put_step _ _ _ _ _ c.requires _ _ _ c.loop-j.invariant c.loop-j-test.true _ c.digit.ensures

pub returns : goal.returns
returns c = search put_laws
