use Rattle.std.proofs.Common.{◌+◌, ◌*◌}
use Rattle.strlib.specs.Pointer.{texts}
use Rattle.states.specs.State.{total}
use Rattle.states.specs.Fill.{Levels, Kept}
use Rattle.translator.proofs.levels.fill_levels.Given as goal

abbrev pub invariant-loop-l : goal.invariant-loop-l
invariant-loop-l l = record {
  levels : Levels (texts l.store l.strings) l.table l.fails l.l 0;
  kept : Kept l.initial.table l.table (1 + 130 * (total (texts l.store l.strings) + 2));
}
