use Rattle.moving.specs.Moving.{reversed_at}
use Rattle.moving.proofs.Writing.{write_laws}
use Rattle.moving.proofs.Turning.{turned, turned_length}
use Rattle.moving.proofs.turns.reverse_in_place.Goals as goal

pub returns-then-is_within : goal.returns-then-is_within
unfolding reversed_at
returns-then-is_within c = search (write_laws, turned, turned_length)

pub returns-else-is_within : goal.returns-else-is_within
unfolding reversed_at
returns-else-is_within c = search write_laws
