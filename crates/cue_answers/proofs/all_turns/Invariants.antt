use Rattle.std.proofs.Common.{◌≡◌, ◌-◌, length}
use Rattle.cue_answers.specs.Loop.{TurnsMade}
use Rattle.cue_answers.proofs.all_turns.Given as goal

abbrev pub invariant-loop : goal.invariant-loop
invariant-loop g l =
    (length l.piece ≡ length l.initial.piece) × (length l.out ≡ length l.initial.out)
    × TurnsMade l.initial.r (length l.initial.piece) l.initial.hold l.initial.out (18446744073709551615 - l.counter) l.r l.hold l.out
