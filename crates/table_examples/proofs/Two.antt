-- From the two calls' promises: a table's run refuses a host as the plain search would, and else finds the same.
-- Assumes nothing.
use Rattle.std.proofs.Common.{ℕ, zero, suc, ◌≡◌, refl, sym, ap, ◌∙◌, Bool, List, ◌∷◌, length, Result as Answer, arith}
use Rattle.std.specs.Result.{IsErrAnd}
use Rattle.std.proofs.lemmas.Result.{err_from_is_err_and}
use Rattle.strlib.proofs.Refusing.{first_before, outcome_gave, outcome_refused}
use Rattle.strlib.specs.Pointer.{text_of}
use Rattle.strlib.specs.Refusal.{refused, gives, outcome, refusal_number}
use Rattle.strlib.specs.declared.StrPtr.{StrPtr}
use Rattle.strlib.specs.declared.refusal.Refusal.{Refusal}
use Rattle.search.specs.Search.{plain_search}
use Rattle.table.proofs.Running.{host_passed}
use Rattle.table.specs.Run.{is_sized, run_over, ran_of, host_checks, met_checks, run_refusal, run_rule, ran_answered}
use Rattle.table.specs.declared.runs.Ran.{Ran}
use Rattle.preparing.specs.Listed.{listed, translate_refusal}
use Rattle.translator.specs.Translate.{note_in, Table, Words, Translated}
use Rattle.table_examples.specs.Two.{host_refusal, host_rule, SearchedTwo, two_answered}

host_found : (ss : List (List ℕ)) (old new s : List ℕ) (host : StrPtr) → Table ss old new → note_in (run_rule s host new) ≡ host_rule ss s host
unfolding host_refusal host_rule run_refusal run_rule outcome
host_found ss old new s host t = go (host_refusal s host) refl
  where
    go : (k : ℕ) → host_refusal s host ≡ k → note_in (run_rule s host new) ≡ host_rule ss s host
    go zero e =
        let ok = host_passed s host e in
        t.finds s host (record { fits = ok.fits; good = ok.good; plain = ok.plain }) ∙ rw (ok.fits, ok.good, ok.plain)
    go (suc k) e =
        let later : List (ℕ × Bool) = (10, is_sized new) ∷ met_checks s host new in
        let f = first_before (host_checks s host) later (suc k) (sym e) (λ z. omega arith) in
        ap (λ (n : ℕ). note_in (outcome n (ran_of (run_over new (text_of s host))))) (sym f) ∙ ap (λ (n : ℕ). outcome n (plain_search ss (text_of s host))) (sym e)

module _ (s : List ℕ) (list : List StrPtr) (count : ℕ) (old s₁ : List ℕ) (host₁ : StrPtr) (s₂ : List ℕ) (host₂ : StrPtr) (new : List ℕ) where
  pub two_refused : (r : Answer (Answer Ran Refusal × Answer Ran Refusal) Refusal) (e : Refusal) → IsErrAnd r (λ x. x ≡ e)
      → Translated s list count old (refused (refusal_number e)) new → SearchedTwo s list count old s₁ host₁ s₂ host₂ (two_answered r) new
  two_refused r e p t =
      let left = err_from_is_err_and r p in
      let refusal = outcome_refused (translate_refusal s list count (length old)) tt _ (refusal_number e) (sym t.answered) in
      record { answered = rw (left.1, left.2) refusal; words = t.words }

  pub two_ran : Translated s list count old (gives tt) new → (r₁ r₂ : Answer Ran Refusal) → ran_answered r₁ ≡ run_rule s₁ host₁ new → ran_answered r₂ ≡ run_rule s₂ host₂ new
      → SearchedTwo s list count old s₁ host₁ s₂ host₂ (gives (note_in (ran_answered r₁), note_in (ran_answered r₂))) new
  unfolding Words outcome
  two_ran t r₁ r₂ p q =
      let z : translate_refusal s list count (length old) ≡ 0 = (outcome_gave (translate_refusal s list count (length old)) tt tt (sym t.answered)).0 in
      let table : Table (listed s list count) old new = rw z at t.words in
      record {
        answered = rw (z, p, q, host_found (listed s list count) old new s₁ host₁ table, host_found (listed s list count) old new s₂ host₂ table);
        words = t.words;
      }
