use Rattle.strlib.proofs.Answering.{answer_laws, stop}
use Rattle.preparing.specs.Inner.{source_refusal}
use Rattle.preparing.specs.Listed.{translate_refusal}
use Rattle.preparing.proofs.Checking.{size_refused, size_checked}
use Rattle.preparing.proofs.check_translate.Goals as goal

pub returns-in_err-check_list : goal.returns-in_err-check_list
unfolding source_refusal translate_refusal
returns-in_err-check_list c = search answer_laws

pub returns-in_err-check : goal.returns-in_err-check
returns-in_err-check c =
    stop _ _ c.from_residual-in_err-check.ensures.1 _ (size_refused _ _ _ _ c.in_ok-check_list.ensures _ c.total_listed-n.ensures _ c.in_err-check.ensures)

pub returns : goal.returns
returns c = size_checked _ _ _ _ c.in_ok-check_list.ensures _ c.total_listed-n.ensures _ c.in_ok-check.ensures c.check-2.ensures
