use Rattle.std.proofs.Common.{◌≡◌}
use Rattle.records.specs.Record.{records, record_of}
use Rattle.records.proofs.lists.find_record.Given as goal

abbrev pub invariant-loop-k : goal.invariant-loop-k
invariant-loop-k l = record_of l.list l.kind l.number (records l.list) ≡ record_of l.list l.kind l.number l.k
