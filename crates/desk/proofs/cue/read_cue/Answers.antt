use Rattle.std.proofs.Common.{rules, refl, sym, ◌∙◌}
use Rattle.number.specs.Number.{read_rule}
use Rattle.strlib.proofs.Answering.{err_is, refusal_some}
use Rattle.strlib.specs.declared.StrPtr.{StrPtr}
use Rattle.desk.specs.Cue.{wrong_word}
use Rattle.desk.specs.CueInner.{without_word}
use Rattle.desk.proofs.CueReading.{cue_line, cue_form, cue_read, form_none, form_some}
use Rattle.desk.proofs.cue.read_cue.Goals as goal

-- what is read past the end of a list
abbrev none : StrPtr
none = record { start = 0; length = 0; maximum = 0 }

pub returns-in_err-check_line : goal.returns-in_err-check_line
returns-in_err-check_line c = rw (err_is _ (without_word c.in_err-check_line.field-0.0) c.from_residual.ensures.1) (cue_line c.args.line.now c.args.mics c.args.lsps _ c.in_err-check_line.ensures (refusal_some _))

pub returns-in_err-check_words : goal.returns-in_err-check_words
returns-in_err-check_words c =
    let f = form_some _ _ _ (refusal_some _) c.in_err-check_words.ensures in
    rw (err_is _ c.in_err-check_words.field-0.0 c.from_residual-in_err-check_words.ensures.1, f.0, f.1.0) (cue_form c.args.line.now c.args.mics c.args.lsps 0 c.in_ok-check_line.ensures refl _ refl f.1.1)

pub returns-in_err-n : goal.returns-in_err-n
returns-in_err-n c =
    rw (err_is _ (without_word c.in_err-n.field-0.0) c.from_residual-in_err-n.ensures.1)
    (cue_read c.args.line.now c.args.mics c.args.lsps 0 c.in_ok-check_line.ensures refl (wrong_word c.args.line.now) refl (form_none _ c.in_ok-check_words.ensures) _ c.first_words-list.ensures none none none _ _ _ _ c.in_err-n.ensures refl refl refl)

pub returns-in_err-m : goal.returns-in_err-m
returns-in_err-m c =
    rw (err_is _ (without_word c.in_err-m.field-0.0) c.from_residual-in_err-m.ensures.1)
    (cue_read c.args.line.now c.args.mics c.args.lsps 0 c.in_ok-check_line.ensures refl (wrong_word c.args.line.now) refl (form_none _ c.in_ok-check_words.ensures) _ c.first_words-list.ensures none none none _ _ _ _ c.in_ok-n.ensures c.in_err-m.ensures refl refl)

pub returns-in_err-g : goal.returns-in_err-g
returns-in_err-g c =
    rw (err_is _ (without_word c.in_err-g.field-0.0) c.from_residual-in_err-g.ensures.1)
    (cue_read c.args.line.now c.args.mics c.args.lsps 0 c.in_ok-check_line.ensures refl (wrong_word c.args.line.now) refl (form_none _ c.in_ok-check_words.ensures) _ c.first_words-list.ensures none none none _ _ _ _ c.in_ok-n.ensures c.in_ok-m.ensures c.in_err-g.ensures refl)

pub returns-in_err-in_matrix : goal.returns-in_err-in_matrix
returns-in_err-in_matrix c =
    rw (err_is _ (without_word c.in_err-in_matrix.field-0.0) c.from_residual-in_err-in_matrix.ensures.1)
    (cue_read c.args.line.now c.args.mics c.args.lsps 0 c.in_ok-check_line.ensures refl (wrong_word c.args.line.now) refl (form_none _ c.in_ok-check_words.ensures) _ c.first_words-list.ensures none none none _ _ _ _ c.in_ok-n.ensures c.in_ok-m.ensures c.in_ok-g.ensures (search rules))

pub returns : goal.returns
returns c =
    cue_read c.args.line.now c.args.mics c.args.lsps 0 c.in_ok-check_line.ensures refl (wrong_word c.args.line.now) refl (form_none _ c.in_ok-check_words.ensures) _ c.first_words-list.ensures none none none _ _ _ _ c.in_ok-n.ensures c.in_ok-m.ensures c.in_ok-g.ensures (search rules)
