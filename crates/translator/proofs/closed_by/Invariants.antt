use Rattle.std.proofs.Common.{ℕ, ◌<◌, ◌≡◌, false, [], get_or}
use Rattle.strlib.specs.Pointer.{texts}
use Rattle.search.specs.Search.{is_prefix}
use Rattle.translator.proofs.closed_by.Given as goal

abbrev pub invariant-loop-i : goal.invariant-loop-i
invariant-loop-i l = (k : ℕ) → k < l.i → is_prefix (get_or (texts l.store l.strings) k []) l.u ≡ false
