use Rattle.std.proofs.Common.{◌∙◌}
use Rattle.number.proofs.Reading.{minus_is}
use Rattle.number.proofs.reader.has_minus.Goals as goal

pub returns : goal.returns
returns c = c.starts_with.ensures.value ∙ minus_is c.args.text.now
