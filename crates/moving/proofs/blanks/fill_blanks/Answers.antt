use Rattle.std.proofs.lemmas.List.{length-replicate}
use Rattle.moving.specs.Moving.{blanked}
use Rattle.moving.proofs.Writing.{write_laws}
use Rattle.moving.proofs.Blanking.{filled}
use Rattle.moving.proofs.blanks.fill_blanks.Goals as goal

pub returns-then-is_within : goal.returns-then-is_within
unfolding blanked
returns-then-is_within c = search (write_laws, filled, length-replicate)

pub returns-else-is_within : goal.returns-else-is_within
unfolding blanked
returns-else-is_within c = search write_laws
