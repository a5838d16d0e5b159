use Rattle.std.proofs.Common.{◌≡◌, ◌&&◌, ◌-◌, eqb, length}
use Rattle.std.proofs.Math.IntN.{sub_ℕ}
use Rattle.compare.specs.Compare.{unequal_from}
use Rattle.compare.proofs.pairs.are_equal.Given as goal

-- all pairs are equal exactly where those looked at and those left are
abbrev pub invariant-loop-i : goal.invariant-loop-i
invariant-loop-i l =
    eqb (unequal_from l.x l.y (sub_ℕ l.raised 128) 0 (length l.x)) (length l.x)
    ≡ (l.equal && eqb (unequal_from l.x l.y (sub_ℕ l.raised 128) l.i (length l.x - l.i)) (length l.x))
