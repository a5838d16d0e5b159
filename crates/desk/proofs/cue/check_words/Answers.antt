use Rattle.std.proofs.Common.{arith}
use Rattle.desk.specs.Cue.{wrong_word}
use Rattle.desk.proofs.CueWords.{form_laws, word_stop, word_next, word_here, fixed_is, there_is}
use Rattle.desk.proofs.cue.check_words.Goals as goal

pub returns-in_err-check_word : goal.returns-in_err-check_word
unfolding wrong_word
returns-in_err-check_word c = search form_laws

pub returns-in_err-check_word-2 : goal.returns-in_err-check_word-2
unfolding wrong_word
returns-in_err-check_word-2 c = search form_laws

pub returns-in_err-check_word-3 : goal.returns-in_err-check_word-3
unfolding wrong_word
returns-in_err-check_word-3 c = search form_laws

pub returns-in_err-check_word-4 : goal.returns-in_err-check_word-4
unfolding wrong_word
returns-in_err-check_word-4 c = search form_laws

pub returns-in_err-check_word-5 : goal.returns-in_err-check_word-5
unfolding wrong_word
returns-in_err-check_word-5 c = search form_laws

pub returns-in_err-check_word-6 : goal.returns-in_err-check_word-6
unfolding wrong_word
returns-in_err-check_word-6 c = search form_laws

pub returns-in_err-check_word-7 : goal.returns-in_err-check_word-7
unfolding wrong_word
returns-in_err-check_word-7 c =
    word_stop _ c.in_err-check_word-7.field-0.0 c.from_residual-in_err-check_word-7.ensures.1 _
    (word_next _ _ _ _ _ c.in_ok-check_word.ensures (fixed_is c.args.line.now c.args.list.now c.requires 0 (omega arith) _ _ _ c.is_word.ensures)
    (word_next _ _ _ _ _ c.in_ok-check_word-2.ensures (there_is c.args.line.now c.args.list.now c.requires 1 (omega arith) _)
    (word_next _ _ _ _ _ c.in_ok-check_word-3.ensures (fixed_is c.args.line.now c.args.list.now c.requires 2 (omega arith) _ _ _ c.is_word-2.ensures)
    (word_next _ _ _ _ _ c.in_ok-check_word-4.ensures (fixed_is c.args.line.now c.args.list.now c.requires 3 (omega arith) _ _ _ c.is_word-3.ensures)
    (word_next _ _ _ _ _ c.in_ok-check_word-5.ensures (there_is c.args.line.now c.args.list.now c.requires 4 (omega arith) _)
    (word_next _ _ _ _ _ c.in_ok-check_word-6.ensures (fixed_is c.args.line.now c.args.list.now c.requires 5 (omega arith) _ _ _ c.is_word-4.ensures)
    (word_here _ _ _ _ _ c.in_err-check_word-7.ensures (there_is c.args.line.now c.args.list.now c.requires 6 (omega arith) _))))))))

pub returns : goal.returns
unfolding wrong_word
returns c = search form_laws
