use Rattle.turns.specs.Turn.{telling}
use Rattle.turns.proofs.Turning.{turn_laws}
use Rattle.turns.proofs.after_read.Goals as goal

pub returns-then-not-is_going : goal.returns-then-not-is_going
unfolding telling
returns-then-not-is_going c = search turn_laws

pub returns-then-got-lt0 : goal.returns-then-got-lt0
unfolding telling
returns-then-got-lt0 c = search turn_laws

pub returns-then-got-eq0 : goal.returns-then-got-eq0
unfolding telling
returns-then-got-eq0 c = search turn_laws

pub returns : goal.returns
returns c = search turn_laws
