use Rattle.answers.proofs.Feeding.{answer_is}
use Rattle.answers.proofs.Putting.{count_laws}
use Rattle.answers.proofs.lines.answer.Goals as goal

pub put_answer-n-requires : goal.put_answer-n-requires
put_answer-n-requires c = search count_laws

pub returns : goal.returns
returns c = search (count_laws, answer_is)
