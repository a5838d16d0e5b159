use Rattle.std.proofs.Common.{ℕ, ◌≡◌, ◌<◌, [], length, get_or}
use Rattle.strlib.specs.Pointer.{texts}
use Rattle.words.specs.Alike.{common}
use Rattle.translator.proofs.alike.put_numbers.Given as goal

abbrev pub invariant-loop-k : goal.invariant-loop-k
invariant-loop-k l = record {
  long : length l.numbers ≡ 32;
  so_far : (i : ℕ) → i < l.k → get_or l.numbers i 0 ≡ common (get_or (texts l.store l.strings) i []) l.x;
}
