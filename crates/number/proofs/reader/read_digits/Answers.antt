use Rattle.std.proofs.Common.{arith, sym, ◌∙◌}
use Rattle.strlib.proofs.Answering.{cond_passed}
use Rattle.number.proofs.Reading.{digits_none, digits_start, digits_stop, digits_step, digits_laws}
use Rattle.number.proofs.reader.read_digits.Goals as goal

pub returns-in_err-check : goal.returns-in_err-check
returns-in_err-check c = digits_none _ _ _ _ _ c.from_residual.ensures.1 c.in_err-check.ensures

pub loop-c-init : goal.loop-c-init
loop-c-init c = (omega arith, digits_start _ _ _ c.in_ok-check.ensures)

pub returns-in_err-check-2 : goal.returns-in_err-check-2
returns-in_err-check-2 c =
    digits_stop _ _ _ _ _ _ c.loop-c.invariant.1 _ _ c.from_residual-in_err-check-2.ensures.1 _ c.loop-c-test.true c.is_digit.ensures c.in_err-check-2.ensures

pub next-v-requires : goal.next-v-requires
next-v-requires c = (c.loop-c.invariant.0, c.requires, sym c.is_digit.ensures ∙ cond_passed _ 6 c.in_ok-check-2.ensures)

pub loop-c-preserved : goal.loop-c-preserved
loop-c-preserved c = (
  omega (arith, c.next-v.ensures),
  digits_step _ _ _ _ _ _ c.loop-c.invariant.1 _ _ c.requires c.loop-c-test.true c.is_digit.ensures (cond_passed _ 6 c.in_ok-check-2.ensures) c.next-v.ensures,
)

pub with_sign-requires : goal.with_sign-requires
with_sign-requires c = c.loop-c.invariant.0

pub returns : goal.returns
returns c = let e = c.loop-c.invariant.1 in search digits_laws
