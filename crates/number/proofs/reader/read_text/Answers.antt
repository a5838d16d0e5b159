use Rattle.number.proofs.Reading.{text_laws}
use Rattle.number.proofs.reader.read_text.Goals as goal

pub returns : goal.returns
returns c = search text_laws
