use Rattle.moving.specs.Moving.{pasted}
use Rattle.moving.proofs.Writing.{write_laws}
use Rattle.moving.proofs.bytes.write_bytes.Goals as goal

pub returns-then-is_within : goal.returns-then-is_within
unfolding pasted
returns-then-is_within c = search write_laws

pub returns-else-is_within : goal.returns-else-is_within
unfolding pasted
returns-else-is_within c = search write_laws
