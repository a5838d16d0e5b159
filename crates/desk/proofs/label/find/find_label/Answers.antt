use Rattle.std.proofs.Common.{rules}
use Rattle.std.proofs.Common.{length, refl, ◌∙◌, ◌≡◌, ℕ}
use Rattle.strlib.specs.Refusal.{refusal_number, number_found}
use Rattle.strlib.proofs.Answering.{err_is, refusal_some}
use Rattle.desk.proofs.Refused.{put_err, put_ok}
use Rattle.desk.proofs.LabelFinding.{find_list, find_key, find_name, found_counted}
use Rattle.desk.proofs.label.find.find_label.Goals as goal

pub returns-in_err-read_labels : goal.returns-in_err-read_labels
returns-in_err-read_labels c = rw (err_is _ _ c.from_residual.ensures.1) (find_list _ _ _ _ _ c.in_err-read_labels.ensures)

pub returns-in_err-map_err : goal.returns-in_err-map_err
returns-in_err-map_err c =
    let m : (refusal_number c.in_err-map_err.field-0.0.refusal ≡ number_found c.check_key.result) × (c.in_err-map_err.field-0.0.offset ≡ length c.args.list.now) = put_err _ _ (length c.args.list.now) c.map_err.ensures.cases (λ e f k. search rules) c.in_err-map_err.field-0.0 c.in_err-map_err.was in
    rw (err_is _ _ c.from_residual-in_err-map_err.ensures.1, m.1) (find_key _ _ _ _ _ c.in_ok-read_labels.ensures (m.0 ∙ c.check_key.ensures) (refusal_some _))

pub name_of-requires : goal.name_of-requires
name_of-requires c = found_counted _ _ _ _ c.find_record.ensures

pub returns : goal.returns
returns c =
    let m : 0 ≡ number_found c.check_key.result = put_ok _ _ (length c.args.list.now) c.map_err.ensures.cases (λ e f k. search rules) _ c.in_ok-map_err.was in
    find_name _ _ _ _ 0 c.in_ok-read_labels.ensures (m ∙ c.check_key.ensures) _ _ refl c.find_record.ensures c.name_of.ensures
