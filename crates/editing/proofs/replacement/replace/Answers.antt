use Rattle.strlib.proofs.Answering.{ruled_left}
use Rattle.editing.specs.Replacing.{replace_rule}
use Rattle.editing.proofs.Replacing.{replace_laws, replace_done}
use Rattle.editing.proofs.replacement.replace.Goals as goal

pub returns-in_err-check_replace : goal.returns-in_err-check_replace
unfolding replace_rule
returns-in_err-check_replace c = ruled_left _ _ c.from_residual.ensures.1 _ c.in_err-check_replace.ensures _ _ _

pub overflow_add-end : goal.overflow_add-end
overflow_add-end c = search replace_laws

pub overflow_add-tail : goal.overflow_add-tail
overflow_add-tail c = search replace_laws

pub overflow_sub-tail : goal.overflow_sub-tail
overflow_sub-tail c = search replace_laws

pub overflow_add-behind : goal.overflow_add-behind
overflow_add-behind c = search replace_laws

pub overflow_sub-string1 : goal.overflow_sub-string1
overflow_sub-string1 c = search replace_laws

pub overflow_add-string1 : goal.overflow_add-string1
overflow_add-string1 c = search replace_laws

pub returns : goal.returns
returns c = replace_done _ _ _ _ c.in_ok-check_replace.ensures _ _ c.move_characters.ensures c.move_characters-2.ensures _ c.sized.ensures
