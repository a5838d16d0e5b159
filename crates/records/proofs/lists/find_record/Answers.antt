use Rattle.std.proofs.Common.{◌≡◌, ℕ, ◌+◌, arith}
use Rattle.records.proofs.Seeking.{seek_laws, record_hit}
use Rattle.records.proofs.lists.find_record.Goals as goal

pub loop-k-init : goal.loop-k-init
loop-k-init c = search seek_laws

pub loop-k-preserved : goal.loop-k-preserved
loop-k-preserved c = search seek_laws

pub returns-then-is_record : goal.returns-then-is_record
returns-then-is_record c =
    let e = record_hit _ _ _ _ _ c.loop-k.invariant _ _ c.loop-k-test.true c.record_at.ensures c.is_record.ensures c.if-is_record.true in
    omega (arith, e)

pub returns : goal.returns
returns c = search seek_laws
