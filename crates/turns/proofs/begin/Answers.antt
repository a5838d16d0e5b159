use Rattle.answers.specs.Text.{heading}
use Rattle.turns.proofs.Turning.{turn_laws}
use Rattle.turns.proofs.begin.Goals as goal

pub returns : goal.returns
unfolding heading
returns c = search turn_laws
