use Rattle.std.proofs.Common.{◌≡◌}
use Rattle.strlib.specs.Pointer.{texts}
use Rattle.states.specs.State.{total_to}
use Rattle.states.specs.Fill.{Children}
use Rattle.translator.proofs.put_children.Given as goal

abbrev pub invariant-loop-k : goal.invariant-loop-k
invariant-loop-k l = record {
  at : l.at ≡ total_to (texts l.store l.strings) l.k;
  children : Children l.initial.table l.table l.base l.u (texts l.store l.strings) l.k;
}
