-- The word number of a cue line: 11 has one, 1 to 8, unless the line is too long, and the form is tested as before.
-- Assumes nothing.
use mathlib.Core.Path.{◌≡◌, refl, sym, ◌∙◌}
use mathlib.Core.Bool.{Bool, true, true≢false, ◌&&◌}
use mathlib.Core.List.{List}
use Prim.Native.Nat.{ℕ, ◌≤◌}
use native.Mathlib.Omega.{arith}
use borrow.Author.Tests.{leb-true, ltb-true, le-leb, lt-leb, eq-eqb, ne_eqb, eqb-true, eqb-false}
use lib.Dec.{eqb}
use lib.ListN.{length}
use Rattle.strlib.proofs.Refusing.{bool_case, and_both, passed, first_under, first_other}
use Rattle.strlib.specs.Quoted.{bytes}
use Rattle.strlib.specs.Refusal.{first}
use Rattle.words.specs.Words.{words, same}
use Rattle.desk.proofs.CueReading.{early, long, behind}
use Rattle.desk.proofs.CueWords.{word_there}
use Rattle.desk.specs.Cue.{word, formed_checks, wrong_word, formed, mic_word, lsp_word, gain_word, number_checks, cue_refusal, cue_word}
use Rattle.desk.specs.CueInner.{line_refusal}
use Rattle.desk.specs.CueWord.{formed_before, FormedSame, Worded}

-- ---- the form

module _ (line : List ℕ) where
  abbrev fixed : Bool
  fixed = (same (word line 1) (bytes "MIC") && same (word line 3) (bytes "TO")) && (same (word line 4) (bytes "LSP") && same (word line 6) (bytes "GAIN"))

  now_before : formed line ≡ true → formed_before line ≡ true
  unfolding formed wrong_word formed_before
  now_before e =
      let p = passed (formed_checks line) refl (eqb-true (wrong_word line) 0 e) in
      let g = ltb-true 6 (length (words line)) (sym (word_there line 6 (omega arith)) ∙ p.1.1.1.1.1.1.0) in
      let n : length (words line) ≡ 7 = omega (arith, g, leb-true (length (words line)) 7 p.1.1.1.1.1.1.1.0) in
      rw (eq-eqb (length (words line)) 7 n, p.0, p.1.1.0, p.1.1.1.0, p.1.1.1.1.1.0)

  before_now : formed_before line ≡ true → formed line ≡ true
  unfolding formed wrong_word formed_before
  before_now e =
      let a = and_both (eqb (length (words line)) 7) fixed e in
      let b = and_both (same (word line 1) (bytes "MIC") && same (word line 3) (bytes "TO")) (same (word line 4) (bytes "LSP") && same (word line 6) (bytes "GAIN")) a.1 in
      let c = and_both (same (word line 1) (bytes "MIC")) (same (word line 3) (bytes "TO")) b.0 in
      let d = and_both (same (word line 4) (bytes "LSP")) (same (word line 6) (bytes "GAIN")) b.1 in
      let n : length (words line) ≡ 7 = eqb-true (length (words line)) 7 a.0 in
      rw (c.0, word_there line 1 (omega arith), c.1, d.0, word_there line 4 (omega arith), d.1, word_there line 6 (omega arith), n)

pub formed_same : FormedSame
formed_same line =
    bool_case (formed line) (λ t. t ∙ sym (now_before line t))
    (λ f. bool_case (formed_before line) (λ t. absurd (true≢false (sym (before_now line t) ∙ f))) (λ g. f ∙ sym g))

-- ---- the word

module _ (line : List ℕ) (mics lsps : ℕ) (e : cue_refusal line mics lsps ≡ 11) (h : length line ≤ 80) where
  -- nothing but the words gives 11: not what stands before them in a line so short, and not the numbers
  some : wrong_word line ≡ 0 → ⊥
  some z = bool_case (eqb (line_refusal line mics lsps) 0) (λ t. later (eqb-true (line_refusal line mics lsps) 0 t)) (λ f. sooner (eqb-false (line_refusal line mics lsps) 0 f))
    where
      later : line_refusal line mics lsps ≡ 0 → ⊥
      later t =
          let n : List (ℕ × Bool) = number_checks mics lsps (mic_word line) (lsp_word line) (gain_word line) in
          let f : first n ≡ 11 = rw (eq-eqb (wrong_word line) 0 z) at (sym (behind line mics lsps (line_refusal line mics lsps) refl t (wrong_word line) refl) ∙ e) in
          omega (arith, first_other 11 n refl f)

      sooner : (line_refusal line mics lsps ≡ 0 → ⊥) → ⊥
      sooner f =
          let g = early line mics lsps (line_refusal line mics lsps) refl f ∙ e in
          true≢false (sym (le-leb (length line) 80 h) ∙ long line mics lsps (line_refusal line mics lsps) refl f g)

  word_is : cue_word line mics lsps ≡ wrong_word line
  unfolding cue_word
  word_is = rw (e, le-leb (length line) 80 h)

pub worded : Worded
unfolding cue_word wrong_word
worded line mics lsps =
    record {
      short = λ e h. word_is line mics lsps e h;
      range = λ e h. rw (word_is line mics lsps e h) (omega (arith, some line mics lsps e h), first_under 8 (formed_checks line) refl);
      long = λ h. rw (lt-leb (length line) 80 h) (bool_case (eqb (cue_refusal line mics lsps) 11) (λ t. rw t) (λ f. rw f));
      other = λ f. rw (ne_eqb (cue_refusal line mics lsps) 11 f);
    }
