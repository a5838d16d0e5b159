use Rattle.moving.proofs.Moving.{moved_laws}
use Rattle.moving.proofs.moves.move_characters.Goals as goal
use Rattle.moving.proofs.moves.move_characters.Goals.{else-is_within-via-then-is_within+else-is_within-2, else-is_within-via-else-is_within}

pub returns-then-to-from : goal.returns-then-to-from
returns-then-to-from c = search moved_laws

pub returns-else-to-from : goal.returns-else-to-from
returns-else-to-from c = search moved_laws

pub returns-else-is_within : goal.returns-else-is_within
returns-else-is_within c =
    elim c.else-is_within.branch [
      | else-is_within-via-then-is_within+else-is_within-2 w ↦ search moved_laws
      | else-is_within-via-else-is_within w ↦ search moved_laws
    ]
