-- Laws of the call: the checks before the words find what the rule's first checks find, and behind them and the form
-- the numbers are read as texts of characters, in order. Assumes nothing.
use mathlib.Core.Path.{◌≡◌, refl, sym, ap, ◌∙◌}
use mathlib.Core.Bool.{Bool, true, false, cond, ◌&&◌}
use mathlib.Core.List.{List, [], ◌++◌}
use Prim.Native.Nat.{ℕ, zero, suc, ◌<◌}
use native.Mathlib.Omega.{arith}
use borrow.Author.Rules.{rules}
use borrow.Author.Tests.{eqb-true, eq-eqb, ne_eqb}
use lib.Dec.{leb, eqb}
use lib.IntN.{ℤ}
use lib.ListN.{length, get_or, take}
use Rattle.number.proofs.Telling.{read_text}
use Rattle.number.specs.Text.{number_of}
use Rattle.number.specs.Number.{of_text, read_rule}
use Rattle.strlib.proofs.Refusing.{bool_case, numbered, first_is, first_other, first_before, first_behind, passed, outcome_no, outcome_yes}
use Rattle.strlib.proofs.Texts.{part_readable}
use Rattle.strlib.specs.Pointer.{store_fits, characters}
use Rattle.strlib.specs.Refusal.{Outcome, refused, gives, first, outcome}
use Rattle.strlib.specs.declared.StrPtr.{StrPtr}
use Rattle.words.proofs.Wording.{word_no, words_good}
use Rattle.words.specs.Words.{words, first_words}
use Rattle.desk.specs.declared.cue.Cue.{Cue}
use Rattle.desk.specs.Cue.{wrong_word, formed, is_size, mic_word, lsp_word, gain_word, line_checks, matrix_checks, number_checks, word_checks, cue_of}
use Rattle.desk.specs.Cue.{cue_refusal, cue_rule, cue_word, cue_word_rule}
use Rattle.desk.specs.CueInner.{line_refusal, formless, in_matrix}

-- ---- the checks before the words

pub size_in : (most n : ℕ) (b : Bool) → b ≡ (leb 1 n && leb n most) → b ≡ is_size most n
unfolding is_size
size_in most n b e = e

pub ruleset line_laws = (rules, size_in)

-- what a line has that passes them
pub record LinePassed (s : List ℕ) : Type 0 where
  pub fits : store_fits s ≡ true
  pub plain : characters s ≡ true
  pub short : leb (length s) 80 ≡ true

line_passed : (s : List ℕ) (mics lsps : ℕ) → line_refusal s mics lsps ≡ 0 → LinePassed s
unfolding line_refusal
line_passed s mics lsps e = let p = passed (line_checks s mics lsps) refl e in record { fits = p.0; plain = p.1.1.1.0; short = p.1.1.1.1.0 }

-- ---- the numbers in order are the rule's checks in order

-- a stage that hands a refusal on, and else what the checks behind it decide
stage : {A B : Type 0} (cs ds : List (ℕ × Bool)) → numbered cs ≡ true → (x : A) (y : B) (f : Outcome A → Outcome B) → ((k : ℕ) → f (refused k) ≡ refused k)
    → f (gives x) ≡ outcome (first ds) y → f (outcome (first cs) x) ≡ outcome (first (cs ++ ds)) y
stage cs ds h x y f on back = go (first cs) refl
  where
    go : (k : ℕ) → first cs ≡ k → f (outcome (first cs) x) ≡ outcome (first (cs ++ ds)) y
    go zero e =
        ap f (sym (outcome_yes 0 (first cs) (sym e) x x refl refl)) ∙ back ∙ ap (λ (k : ℕ). outcome k y) (sym (first_behind cs ds h e))
    go (suc k) e =
        let n : suc k ≡ 0 → ⊥ = λ (z : suc k ≡ 0). omega arith in
        ap f (sym (outcome_no (suc k) (first cs) (sym e) x n)) ∙ on (suc k) ∙ outcome_no (suc k) (first (cs ++ ds)) (first_before cs ds (suc k) (sym e) n) y n

-- the refusals of three numbers from left to right, then the matrix
abbrev pub in_order : ℕ → ℕ → Outcome ℤ → Outcome ℤ → Outcome ℤ → Outcome Cue
in_order mics lsps (refused k) m g = refused k
in_order mics lsps (gives n) (refused k) g = refused k
in_order mics lsps (gives n) (gives m) (refused k) = refused k
in_order mics lsps (gives n) (gives m) (gives g) = in_matrix mics lsps n m g

-- an answer that comes without a word
abbrev alone : Outcome Cue → Outcome Cue × ℕ
alone o = (o, 0)

abbrev read : List ℕ → Outcome ℤ
read t = outcome (first (of_text 10 t)) (number_of 10 t)

order_is : (mics lsps : ℕ) (a b c : List ℕ)
    → in_order mics lsps (read a) (read b) (read c) ≡ outcome (first (number_checks mics lsps a b c)) (cue_of (number_of 10 a) (number_of 10 b) (number_of 10 c))
unfolding in_matrix
order_is mics lsps a b c =
    let n : ℤ = number_of 10 a in
    let m : ℤ = number_of 10 b in
    let g : ℤ = number_of 10 c in
    let rest : List (ℕ × Bool) = matrix_checks mics lsps n m g in
    stage (of_text 10 a) (of_text 10 b ++ (of_text 10 c ++ rest)) refl n (cue_of n m g) (λ o. in_order mics lsps o (read b) (read c)) (λ k. refl)
    (stage (of_text 10 b) (of_text 10 c ++ rest) refl m (cue_of n m g) (λ o. in_order mics lsps (gives n) o (read c)) (λ k. refl)
    (stage (of_text 10 c) rest refl g (cue_of n m g) (λ o. in_order mics lsps (gives n) (gives m) o) (λ k. refl) refl))

-- ---- the call

abbrev cue : List ℕ → Cue
cue s = cue_of (number_of 10 (mic_word s)) (number_of 10 (lsp_word s)) (number_of 10 (gain_word s))

module _ (s : List ℕ) (mics lsps k : ℕ) (ek : k ≡ line_refusal s mics lsps) where
  -- a refusal before the words has no word: it is 11 only of a line over 80 characters
  module _ (h : k ≡ 0 → ⊥) where
    pub early : k ≡ cue_refusal s mics lsps
    unfolding cue_refusal line_refusal
    early = first_before (line_checks s mics lsps) (word_checks s mics lsps) k ek h

    pub long : k ≡ 11 → leb (length s) 80 ≡ false
    unfolding line_refusal
    long e =
        bool_case (leb (length s) 80)
        (λ t. let f : first (take 4 (line_checks s mics lsps)) ≡ 11 = rw t at (sym ek ∙ e) in absurd (omega (arith, first_other 11 (take 4 (line_checks s mics lsps)) refl f)))
        (λ f. f)

    no_word : 0 ≡ cue_word s mics lsps
    unfolding cue_word
    no_word = rw (← early) (bool_case (eqb k 11) (λ t. rw (t, long (eqb-true k 11 t))) (λ f. rw f))

    pub cue_line : alone (refused k) ≡ cue_word_rule s mics lsps
    unfolding cue_rule
    cue_line = rw (← no_word) (ap alone (outcome_no k (cue_refusal s mics lsps) early (cue s) h))

  module _ (z : k ≡ 0) (w : ℕ) (ew : w ≡ wrong_word s) where
    passes : LinePassed s
    passes = line_passed s mics lsps (sym ek ∙ z)

    -- the words decide
    pub behind : cue_refusal s mics lsps ≡ cond (eqb w 0) (first (number_checks mics lsps (mic_word s) (lsp_word s) (gain_word s))) 11
    unfolding cue_refusal line_refusal formed
    behind = first_behind (line_checks s mics lsps) (word_checks s mics lsps) refl (sym ek ∙ z) ∙ rw ew

    pub cue_form : (w ≡ 0 → ⊥) → ◌≡◌ {A = Outcome Cue × ℕ} (refused 11, w) (cue_word_rule s mics lsps)
    unfolding cue_rule cue_word
    cue_form f =
        let r : cue_refusal s mics lsps ≡ 11 = behind ∙ rw (ne_eqb w 0 f) in
        let a : refused 11 ≡ cue_rule s mics lsps = outcome_no 11 (cue_refusal s mics lsps) (sym r) (cue s) (λ (y : ◌≡◌ {A = ℕ} 11 0). omega arith) in
        let b : w ≡ cue_word s mics lsps = rw (r, passes.short) ew in
        rw (← a, ← b)

    module _ (y : w ≡ 0) (l : List StrPtr) (el : l ≡ first_words 8 s 0) where
      number_is : (i : ℕ) → i < 8 → (d : StrPtr) → read_rule s (get_or l i d) 10 ≡ read (get_or (words s) i [])
      number_is i h d =
          let w : StrPtr = get_or (first_words 8 s 0) i d in
          rw el (read_text s w passes.fits (words_good 8 s 0 i d (omega arith) h) (part_readable s w passes.plain) ∙ ap read (word_no 8 s 0 i d h))

      none : 0 ≡ cue_word s mics lsps
      unfolding cue_word
      none = rw (passes.short, ← ew, y) (bool_case (eqb (cue_refusal s mics lsps) 11) (λ t. rw t) (λ f. rw f))

      pub cue_read : (dn dm dg : StrPtr) (n m g : Outcome ℤ) (r : Outcome Cue × ℕ) → n ≡ read_rule s (get_or l 1 dn) 10
          → m ≡ read_rule s (get_or l 4 dm) 10 → g ≡ read_rule s (get_or l 6 dg) 10 → r ≡ alone (in_order mics lsps n m g) → r ≡ cue_word_rule s mics lsps
      unfolding cue_rule
      cue_read dn dm dg n m g r en em eg er =
          let o : in_order mics lsps n m g ≡ cue_rule s mics lsps =
          rw (en, em, eg, number_is 1 (omega arith) dn, number_is 4 (omega arith) dm, number_is 6 (omega arith) dg)
          (order_is mics lsps (mic_word s) (lsp_word s) (gain_word s) ∙ ap (λ (x : ℕ). outcome x (cue s)) (sym (behind ∙ rw (eq-eqb w 0 y)))) in
          er ∙ rw (o, ← none)

-- what the words found
pub form_none : (w : ℕ) → ◌≡◌ {A = ℕ × ℕ} (0, 0) (formless w) → w ≡ 0
form_none zero e = refl
form_none (suc w) e = let z : ◌≡◌ {A = ℕ} 0 11 = ap (λ (x : ℕ × ℕ). x.0) e in absurd (omega arith)

pub form_some : (k v w : ℕ) → (k ≡ 0 → ⊥) → (k, v) ≡ formless w → (k ≡ 11) × ((v ≡ w) × (w ≡ 0 → ⊥))
form_some k v zero h e = absurd (h (ap (λ (x : ℕ × ℕ). x.0) e))
form_some k v (suc w) h e = (ap (λ (x : ℕ × ℕ). x.0) e, (ap (λ (x : ℕ × ℕ). x.1) e, λ z. omega arith))
