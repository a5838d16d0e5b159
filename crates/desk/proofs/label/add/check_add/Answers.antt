use Rattle.strlib.proofs.Answering.{err_is}
use Rattle.std.proofs.Common.{rules}
use Rattle.std.proofs.Common.{length, ◌≡◌, ℕ}
use Rattle.desk.proofs.Refused.{put_err}
use Rattle.desk.proofs.LabelAdding.{refusal_laws, add_list, add_checked, front_length}
use Rattle.desk.proofs.label.add.check_add.Goals as goal

pub returns-then-buffer-used : goal.returns-then-buffer-used
returns-then-buffer-used c = search refusal_laws

pub returns-in_err-read_labels : goal.returns-in_err-read_labels
returns-in_err-read_labels c = rw (err_is _ _ c.from_residual.ensures.1) (add_list _ _ _ _ _ (search rules) _ _ c.in_err-read_labels.ensures)

pub returns : goal.returns
returns c = let a = c.map_err.ensures.cases in add_checked _ _ _ _ _ (search rules) _ c.in_ok-read_labels.ensures _ _ c.map_err.ensures.cases (λ e f k. search (rules, front_length)) c.check_new.ensures
