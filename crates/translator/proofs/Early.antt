-- A run ends early, from the translator's rule: where it did not refuse, the words are a table, which says so of every
-- place. Assumes nothing.
use mathlib.Core.Path.{◌≡◌, sym}
use mathlib.Core.List.{List}
use Prim.Native.Nat.{ℕ}
use lib.ListN.{length}
use Rattle.strlib.proofs.Refusing.{outcome_gave}
use Rattle.strlib.specs.Pointer.{text_of}
use Rattle.search.specs.Search.{plain_search}
use Rattle.table.specs.Run.{run_rule}
use Rattle.preparing.specs.Listed.{listed, translate_refusal}
use Rattle.translator.specs.Translate.{Table, Words}
use Rattle.translator.specs.Early.{Early}
use Rattle.translator.proofs.Demand3.{noted}

pub early_end : Early
unfolding Words
early_end =
    λ s list count old new t u host h.
    let ss : List (List ℕ) = listed s list count in
    let none : translate_refusal s list count (length old) ≡ 0 = (outcome_gave (translate_refusal s list count (length old)) tt tt (sym t.answered)).0 in
    let table : Table ss old new = rw none at t.words in
    let a = noted (run_rule u host new) (plain_search ss (text_of u host)) (table.finds u host h) in
    record { read = a.0; ran = a.1; early = λ k f. table.early u host k a.0 (plain_search ss (text_of u host)) f.sure a.1 }
