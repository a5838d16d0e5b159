use Rattle.std.proofs.Common.{◌≡◌, ◌≤◌, drop}
use Rattle.strlib.specs.Pointer.{all}
use Rattle.number.specs.Text.{is_digit, are_digits, value, signed}
use Rattle.number.specs.Inner.{reads}
use Rattle.number.proofs.reader.read_digits.Given as goal

abbrev pub invariant-loop-c : goal.invariant-loop-c
invariant-loop-c l =
    (l.v ≤ 68719476736)
    × (reads (all (is_digit l.base) (drop l.c-index l.digits)) (signed l.negative (value l.base l.v (drop l.c-index l.digits)))
    ≡ reads (are_digits l.base l.digits) (signed l.negative (value l.base 0 l.digits)))
