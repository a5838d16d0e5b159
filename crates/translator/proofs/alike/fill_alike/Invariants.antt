use Rattle.std.proofs.Common.{ℕ, ◌≡◌, ◌<◌, [], length, get_or}
use Rattle.strlib.specs.Pointer.{texts}
use Rattle.translator.specs.Common.{AlikeTo}
use Rattle.translator.proofs.alike.fill_alike.Given as goal

abbrev pub invariant-loop-j : goal.invariant-loop-j
invariant-loop-j l = record {
  long : length l.alike ≡ 32;
  so_far : (i : ℕ) → i < l.j → AlikeTo (texts l.store l.strings) (get_or l.alike i []) (get_or (texts l.store l.strings) i []);
}
