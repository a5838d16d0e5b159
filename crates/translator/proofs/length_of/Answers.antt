use Rattle.preparing.proofs.Listing.{length_some}
use Rattle.translator.proofs.length_of.Goals as goal

pub returns : goal.returns
returns c = length_some _ _ _ _ _ c.if-j-eq0.false c.requires c.text.ensures
