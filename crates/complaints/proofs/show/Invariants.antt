use Rattle.std.proofs.Common.{◌≡◌, ◌++◌, length, take, drop, map}
use Rattle.complaints.specs.Complaint.{shown}
use Rattle.complaints.proofs.show.Given as goal

abbrev pub invariant-loop-byte : goal.invariant-loop-byte
invariant-loop-byte l = (length l.name ≡ length l.initial.name) × (l.name ≡ map shown (take l.byte-index l.initial.name) ++ drop l.byte-index l.initial.name)
