use Rattle.std.proofs.Common.{refl}
use Rattle.number.proofs.Reading.{unsigned_is}
use Rattle.number.proofs.reader.unsigned.Goals as goal

pub returns : goal.returns
returns c = rw c.unwrap_or.ensures (unsigned_is c.args.text.now c.strip_prefix.result c.args.text _ refl c.strip_prefix.ensures.cases)
