use Rattle.std.proofs.Common.{◌≡◌, ◌+◌, ◌*◌, length}
use Rattle.strlib.specs.Pointer.{texts}
use Rattle.states.specs.State.{total, total_to}
use Rattle.states.specs.Fill.{Levels, Kept}
use Rattle.translator.proofs.levels.fill_level.Given as goal

abbrev pub invariant-loop-j : goal.invariant-loop-j
invariant-loop-j l = record {
  size : length l.fails ≡ 32;
  off : l.off ≡ total_to (texts l.store l.strings) l.j;
  levels : Levels (texts l.store l.strings) l.table l.fails l.l l.j;
  kept : Kept l.initial.table l.table (1 + 130 * (total (texts l.store l.strings) + 2));
}
