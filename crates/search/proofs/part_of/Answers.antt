use Rattle.strlib.specs.Pointer.{part_of}
use Rattle.search.proofs.part_of.Goals as goal

pub returns : goal.returns
unfolding part_of
returns c = c.part.ensures
