use borrow.Author.Rules.{rules}
use mir.Facts.{to_z-of_z}
use mir.Syntax.{w64}
use mir.Val.{SFits}
use mathlib.Core.Bool.{true}
use mathlib.Core.Path.{◌≡◌}
use Rattle.number.specs.Limits.{in_range}
use Rattle.answers.proofs.Putting.{ok_is}
use Rattle.answers.proofs.lines.put_ok.Goals as goal

pub returns : goal.returns
returns c =
    let f : SFits w64 c.args.cue.gain = search rules in
    let r : in_range c.args.cue.gain ≡ true = search rules in
    ok_is _ _ _ _ _ _ _ _ _ _ c.args.cue _ r (to_z-of_z f) c.append_both-n.ensures c.append_both-n-2.ensures c.append-n.ensures
    c.append_value.ensures
