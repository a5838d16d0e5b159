use borrow.Author.Rules.{rules}
use Rattle.answers.specs.Text.{answer_text}
use Rattle.buffer.proofs.Growing.{grow_more}
use Rattle.answers.proofs.lines.put_answer.Goals as goal

pub returns : goal.returns
unfolding answer_text
returns c = search (rules, grow_more)
