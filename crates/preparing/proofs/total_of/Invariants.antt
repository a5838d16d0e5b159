use Rattle.std.proofs.Common.{◌≡◌, ◌≤◌, ◌+◌, ◌*◌, drop}
use Rattle.strlib.specs.Pointer.{texts}
use Rattle.states.specs.State.{total}
use Rattle.preparing.proofs.total_of.Given as goal

abbrev pub invariant-loop-p : goal.invariant-loop-p
invariant-loop-p l = record {
  counted : l.sum + total (texts l.store (drop l.p-index l.strings)) ≡ total (texts l.store l.strings);
  small : l.sum ≤ 65536 * l.p-index;
}
