use Rattle.std.proofs.Common.{◌≡◌, drop}
use Rattle.strlib.specs.Pointer.{characters}
use Rattle.strlib.proofs.Pointing.{characters_with}
use Rattle.strlib.proofs.strings.are_characters.Given as goal

abbrev pub invariant-loop-byte : goal.invariant-loop-byte
invariant-loop-byte l = characters l.bytes ≡ characters_with l.greatest (drop l.byte-index l.bytes)
