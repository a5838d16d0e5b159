use Rattle.answers.proofs.Finishing.{feed_laws}
use Rattle.answers.proofs.pieces.feed.Goals as goal

pub walk-requires : goal.walk-requires
walk-requires c = search feed_laws

pub returns : goal.returns
returns c = search feed_laws
