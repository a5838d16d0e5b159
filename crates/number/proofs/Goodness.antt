-- A pointer that a writing returns is good for the same store: it has the destination's room, and a length within it.
-- Assumes nothing.
use lib.ListN.{length}
use Rattle.strlib.proofs.Refusing.{ruled_gave}
use Rattle.strlib.proofs.Pointing.{good_sized}
use Rattle.strlib.specs.Pointer.{sized}
use Rattle.strlib.specs.Store.{put}
use Rattle.number.specs.Written.{written}
use Rattle.number.specs.Number.{write_refusal, write_rule, WriteGood}
use Rattle.number.proofs.Calling.{WritePassed, write_passed}

pub write_good : WriteGood
unfolding write_rule
write_good s p z base q e =
    let g = ruled_gave (write_refusal s p z base) (sized p (length (written base z))) q (put s p.start (written base z)) s e in
    let ok : WritePassed s p z base = write_passed s p z base g.0 in
    rw (← g.1.0) (good_sized (length s) p (length (written base z)) ok.before.good ok.room)
