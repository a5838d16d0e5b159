use Rattle.std.proofs.Common.{refl}
use Rattle.saying.proofs.Listing.{laid}
use Rattle.saying.proofs.list_of.Goals as goal

pub returns-clause-listed : goal.returns-clause-listed
returns-clause-listed c = laid _ 32 _ c.args.strings.now _ _ refl refl c.min-room.ensures c.copy_from_slice.ensures.after
