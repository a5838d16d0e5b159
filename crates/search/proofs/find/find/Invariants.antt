use Rattle.std.proofs.Common.{ℕ, ◌≡◌, ◌<◌, false, [], get_or, take, None}
use Rattle.strlib.specs.Pointer.{texts}
use Rattle.search.specs.Search.{is_prefix}
use Rattle.search.proofs.Finding.{Passed}
use Rattle.search.proofs.find.find.Given as goal

abbrev pub invariant-positions : goal.invariant-positions
invariant-positions l = record {
  none : l.found ≡ None;
  passed : Passed (texts l.store (take l.list.count l.list.items)) l.text l.skipped;
}

abbrev pub invariant-loop-k : goal.invariant-loop-k
invariant-loop-k l = record {
  none : l.found ≡ None;
  tried : (i : ℕ) → i < l.k → is_prefix (get_or (texts l.store (take l.list.count l.list.items)) i []) l.rest ≡ false;
}
