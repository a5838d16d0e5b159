-- The label calls' refusals with their offsets, case by case of the rules. Assumes nothing.
use mathlib.Core.Path.{◌≡◌, refl, sym}
use Prim.Native.Nat.{ℕ, ◌-◌}
use native.Mathlib.Omega.{arith}
use lib.ListN.{length}
use Rattle.records.proofs.Telling.{told_no}
use Rattle.records.specs.Record.{records, list_refusal, fault_offset, new_refusal}
use Rattle.desk.proofs.LabelAdding.{add_long, fault_list, fault_new, add_refused}
use Rattle.desk.proofs.LabelFinding.{find_faulty, find_asked}
use Rattle.desk.specs.Label.{read_labels_rule}
use Rattle.desk.specs.LabelFault.{Faults}

pub faults : Faults
unfolding read_labels_rule
faults =
    record {
      listed = λ l f.
          record {
            read = sym (told_no (list_refusal l) (list_refusal l) refl (fault_offset l) (fault_offset l) (records l) refl f);
            find = λ kind number. sym (find_faulty l kind number f);
            add = λ b n kind number name i e.
                sym (add_refused b n kind number name (list_refusal l) (fault_offset l) (rw (← e) (fault_list b n kind number name i (rw e f))));
          };
      asked = λ l g.
          record {
            find = λ kind number f. sym (find_asked l kind number g f);
            add = λ b n kind number name i e f.
                sym
                (add_refused b n kind number name (new_refusal l (length b - n) kind number name) (length l)
                (rw (← e) (fault_new b n kind number name i (rw e g) (rw e f))));
          };
      past = λ b n kind number name h.
          sym (add_refused b n kind number name 4 n (add_long b n kind number name h));
    }
