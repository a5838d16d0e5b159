use mir.Facts.{to_z-of_z}
use Rattle.compare.specs.Compare.{translates}
use Rattle.compare.proofs.refusal.check_translation.Goals as goal

pub returns : goal.returns
unfolding translates
returns c = rw (c.check.ensures, c.both.ensures, to_z-of_z c.ranges.translation)
