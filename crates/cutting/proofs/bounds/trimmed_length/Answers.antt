use Rattle.std.proofs.Common.{rules, arith, ◌≡◌, ◌+◌}
use Rattle.cutting.specs.Cutting.{trimmed_length}
use Rattle.cutting.proofs.Bounding.{trim_last}
use Rattle.cutting.proofs.bounds.trimmed_length.Goals as goal

pub returns-in-Some : goal.returns-in-Some
returns-in-Some c =
    let e : c.in-Some.last + 1 ≡ trimmed_length c.args.bytes.now = trim_last _ _ (search rules) (search rules) (search rules) in omega arith
