-- Demand 3, from the two calls' rules: a list within the limits is not refused, so the words are a table, and the law
-- of the plain search says of each host what the note is. Assumes nothing.
use mathlib.Core.Path.{◌≡◌, ap, ◌∙◌}
use mathlib.Core.List.{List}
use Prim.Native.Nat.{ℕ}
use native.Mathlib.Omega.{arith}
use lib.ListN.{length}
use Rattle.strlib.specs.Pointer.{text_of}
use Rattle.strlib.specs.Refusal.{Outcome, refused, gives, outcome}
use Rattle.strlib.specs.declared.StrPtr.{StrPtr}
use Rattle.search.proofs.Meaning.{search_law}
use Rattle.search.specs.Search.{Result, plain_search}
use Rattle.table.specs.Run.{run_rule}
use Rattle.preparing.proofs.Checking.{translate_taken}
use Rattle.preparing.specs.Listed.{listed, translate_refusal}
use Rattle.translator.specs.Translate.{note_in, Table, Words}
use Rattle.translator.specs.Demand3.{Found, Demand3}

-- a note comes with a number read
pub noted : (o : Outcome (Result × ℕ)) (r : Result) → note_in o ≡ gives r → (n : ℕ) × (o ≡ gives (r, n))
noted (refused k) r e = let z : ◌≡◌ {A = ℕ} 0 1 = cc in absurd (omega arith)
noted (gives a) r e = let z : a.0 ≡ r = cc in (a.1, ap (λ (x : Result). gives (x, a.1)) z)

-- two answers of one run are the same note
same_note : (o : Outcome (Result × ℕ)) (r q : Result) (n m : ℕ) → o ≡ gives (r, n) → o ≡ gives (q, m) → r ≡ q
same_note o r q n m a b = let z : ◌≡◌ {A = Result × ℕ} (r, n) (q, m) = cc in ap (λ (x : Result × ℕ). x.0) z

module _ (ss : List (List ℕ)) (ws s : List ℕ) (host : StrPtr) (e : note_in (run_rule s host ws) ≡ gives (plain_search ss (text_of s host))) where
  found_of : Found ss ws s host
  found_of =
      let a = noted (run_rule s host ws) (plain_search ss (text_of s host)) e in
      let law = search_law ss (text_of s host) in
      record {
        read = a.0;
        ran = a.1;
        found_is = λ j pos1 pos2 f. law.found_is j pos1 pos2 (same_note (run_rule s host ws) _ _ a.0 a.0 a.1 f);
        is_found = λ j pos1 pos2 f. a.1 ∙ ap (λ (x : Result). gives (x, a.0)) (law.is_found j pos1 pos2 f);
        nothing_is = λ f. law.nothing_is (same_note (run_rule s host ws) _ _ a.0 a.0 a.1 f);
        is_nothing = λ f. a.1 ∙ ap (λ (x : Result). gives (x, a.0)) (law.is_nothing f);
      }

pub demand_3 : Demand3
unfolding outcome Words
demand_3 s list count old l room answer new t =
    let none : translate_refusal s list count (length old) ≡ 0
    = translate_taken s list count (length old) l.fits l.few l.good l.plain l.small room in
    let table : Table (listed s list count) old new = rw none at t.words in
    record {
      done = t.answered ∙ ap (λ (k : ℕ). outcome k tt) none;
      hosts = λ u host h. found_of (listed s list count) new u host (table.finds u host h);
    }
