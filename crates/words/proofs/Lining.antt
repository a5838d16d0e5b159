-- Laws of lines: a line that begins at a place ends before the next byte 10, and the other lines begin behind that.
-- Assumes nothing.
use mathlib.Core.Path.{◌≡◌, refl, sym, ap, ◌∙◌}
use mathlib.Core.Bool.{Bool, true, false, cond}
use mathlib.Core.List.{List, [], ◌∷◌}
use Prim.Native.Nat.{ℕ, zero, suc, ◌+◌, ◌-◌, ◌≤◌, ◌<◌}
use native.Mathlib.Omega.{arith}
use borrow.Author.Rules.{rules}
use borrow.Author.Tests.{ltb-true, ltb-false, lt-ltb, le-ltb}
use lib.Dec.{eqb, ltb}
use lib.ListN.{length, drop, length-drop, drop_of_length-le}
use lib.Seq.{drop-drop}
use Rattle.strlib.specs.Pointer.{pointer, text_of}
use Rattle.words.specs.Ends.{up_to, end_of}
use Rattle.words.specs.Words.{pointer_of}
use Rattle.words.specs.Lines.{lines_in, lines, next_line, lines_from, WalksLines}
use Rattle.words.proofs.Wording.{up_to_take}

module _ (s : List ℕ) (at e : ℕ) (q : e ≡ end_of 10 s at) where
  pub next_in : e < length s → record { from = at; to = e; next = e + 1 } ≡ next_line s at
  unfolding next_line
  next_in h = rw (← q, lt-ltb e (length s) h)

  pub next_last : length s ≤ e → record { from = at; to = e; next = e } ≡ next_line s at
  unfolding next_line
  next_last h = rw (← q, le-ltb e (length s) h)

pub ruleset line_laws = (rules, next_in, next_last)

rest_is : (s : List ℕ) → lines_in false s ≡ lines (drop (suc (length (up_to 10 s))) s)
unfolding lines_in up_to
rest_is [] = refl
rest_is (c ∷ cs) = go (rest_is cs) (eqb c 10) refl
  where
    go : lines_in false cs ≡ lines (drop (suc (length (up_to 10 cs))) cs) → (t : Bool) → eqb c 10 ≡ t
        → lines_in false (c ∷ cs) ≡ lines (drop (suc (length (cond t [] (c ∷ up_to 10 cs)))) (c ∷ cs))
    go r true e = rw e
    go r false e = rw e r

first_line : (s : List ℕ) → 0 < length s → lines s ≡ up_to 10 s ∷ lines_in false s
unfolding lines_in
first_line [] h = absurd (omega (arith, h))
first_line (c ∷ cs) h = refl

module _ (s : List ℕ) (at : ℕ) where
  abbrev size : ℕ
  size = length (up_to 10 (drop at s))

  -- the line's text
  pub line_text : text_of s (pointer_of (next_line s at)) ≡ up_to 10 (drop at s)
  unfolding text_of pointer_of pointer next_line end_of
  line_text = let k : at + size - at ≡ size = omega arith in rw k (up_to_take 10 (drop at s))

  module _ (h : at < length s) where
    next_is : lines (drop (next_line s at).next s) ≡ lines (drop (suc size) (drop at s))
    unfolding next_line end_of
    next_is = rw (drop-drop (suc size) at s) (go (ltb (end_of 10 s at) (length s)) refl)
      where
        go : (t : Bool) → ltb (end_of 10 s at) (length s) ≡ t → lines (drop (cond t (end_of 10 s at + 1) (end_of 10 s at)) s) ≡ lines (drop (at + suc size) s)
        go true e = let k : at + size + 1 ≡ at + suc size = omega arith in rw k
        go false e =
            let a : length s ≤ at + size = ltb-false (at + size) (length s) e in
            let b : length s ≤ at + suc size = omega arith in
            rw (drop_of_length-le s a, drop_of_length-le s b)

    -- a line begins at each place before the end, and the others from its next place on
    pub line_step : lines (drop at s) ≡ text_of s (pointer_of (next_line s at)) ∷ lines (drop (next_line s at).next s)
    line_step =
        let d : 0 < length (drop at s) = rw length-drop (omega arith) in
        rw (next_is, line_text) (first_line (drop at s) d ∙ ap (λ (t : List (List ℕ)). up_to 10 (drop at s) ∷ t) (rest_is (drop at s)))

    pub next_more : at < (next_line s at).next
    unfolding next_line end_of
    next_more = go (ltb (end_of 10 s at) (length s)) refl
      where
        go : (t : Bool) → ltb (end_of 10 s at) (length s) ≡ t → at < cond t (end_of 10 s at + 1) (end_of 10 s at)
        go true e = omega arith
        go false e = omega (arith, ltb-false (at + size) (length s) e)

pub line_none : (s : List ℕ) (at : ℕ) → length s ≤ at → lines (drop at s) ≡ []
unfolding lines_in
line_none s at h = rw (drop_of_length-le s h)

walk_from : (n : ℕ) (s : List ℕ) (at : ℕ) → length s ≤ at + n → lines_from n s at ≡ lines (drop at s)
unfolding lines_from
walk_from zero s at h = sym (line_none s at (omega arith))
walk_from (suc n) s at h = go (ltb at (length s)) refl (λ m. walk_from n s (next_line s at).next m)
  where
    go : (t : Bool) → ltb at (length s) ≡ t → (length s ≤ (next_line s at).next + n → lines_from n s (next_line s at).next ≡ lines (drop (next_line s at).next s))
        → cond t (text_of s (pointer_of (next_line s at)) ∷ lines_from n s (next_line s at).next) [] ≡ lines (drop at s)
    go true e r =
        let k : at < length s = ltb-true at (length s) e in
        rw (r (omega (arith, next_more s at k))) (sym (line_step s at k))
    go false e r = sym (line_none s at (ltb-false at (length s) e))

-- a walk from the front gives exactly the lines
pub walk_lines : WalksLines
walk_lines s = walk_from (length s) s 0 (omega arith)
