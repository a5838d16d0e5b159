use Rattle.desk.proofs.CueWords.{listed_laws}
use Rattle.desk.proofs.cue.first_words.Goals as goal

pub loop-place-init : goal.loop-place-init
loop-place-init c = search listed_laws

pub loop-place-preserved : goal.loop-place-preserved
loop-place-preserved c = search listed_laws

pub returns : goal.returns
returns c = search listed_laws
