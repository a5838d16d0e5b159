use Rattle.answers.proofs.Putting.{total_is}
use Rattle.answers.proofs.lines.put_total.Goals as goal

pub returns : goal.returns
returns c =
    total_is _ _ _ _ _ _ _ _ _ _ _ _ _ c.saturating_sub.ensures c.append_both-n.ensures c.append_both-n-2.ensures c.append_both-n-3.ensures
    c.append.ensures
