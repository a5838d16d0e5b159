-- What is written from a place of the input on: the lines that end in pieces, and the last one, are the lines of the
-- whole. Assumes nothing.
use mathlib.Core.Path.{◌≡◌, refl, sym, ap, ◌∙◌}
use mathlib.Core.Bool.{Bool, true, false, cond}
use mathlib.Core.List.{List, [], ◌∷◌, ◌++◌, append_assoc, append-nil}
use Prim.Native.Nat.{ℕ, ◌+◌}
use native.Mathlib.Nat.{add-zero}
use native.Mathlib.Omega.{arith}
use lib.Dec.{eqb}
use lib.ListN.{length, take, length-append}
use lib.Seq.{append_snoc, take-append_seam}
use Rattle.words.specs.Ends.{up_to}
use Rattle.words.specs.Lines.{lines_in, lines}
use Rattle.answers.proofs.Counting.{answers_append, goods_append}
use Rattle.answers.proofs.Feeding.{ended_append, left_append}
use Rattle.answers.specs.Text.{heading}
use Rattle.answers.specs.Pieces.{answers_text, goods, totals, ended, left, open_line, end_text}
use Rattle.program.specs.Program.{program_text, open_text}

-- ---- the lines of an input are those that end and the last one

pub lines_are : (s : List ℕ) → (ended [] s ++ open_line (left [] s) ≡ lines s)
    × ((x : ℕ) (p : List ℕ) → ended (x ∷ p) s ++ open_line (left (x ∷ p) s) ≡ ((x ∷ p) ++ up_to 10 s) ∷ lines_in false s)
unfolding ended left open_line lines_in up_to
lines_are [] = (refl, λ x p. ap (λ (l : List ℕ). (x ∷ l) ∷ []) (sym (append-nil p)))
lines_are (c ∷ cs) = (here (lines_are cs) (eqb c 10), λ x p. there (lines_are cs) x p (eqb c 10))
  where
    here : (ended [] cs ++ open_line (left [] cs) ≡ lines cs)
        × ((x : ℕ) (p : List ℕ) → ended (x ∷ p) cs ++ open_line (left (x ∷ p) cs) ≡ ((x ∷ p) ++ up_to 10 cs) ∷ lines_in false cs)
        → (b : Bool) → cond b ([] ∷ ended [] cs) (ended (c ∷ []) cs) ++ open_line (cond b (left [] cs) (left (c ∷ []) cs))
        ≡ cond b [] (c ∷ up_to 10 cs) ∷ lines_in b cs
    here r true = ap (λ (l : List (List ℕ)). [] ∷ l) r.0
    here r false = r.1 c []

    there : (ended [] cs ++ open_line (left [] cs) ≡ lines cs)
        × ((x : ℕ) (p : List ℕ) → ended (x ∷ p) cs ++ open_line (left (x ∷ p) cs) ≡ ((x ∷ p) ++ up_to 10 cs) ∷ lines_in false cs)
        → (x : ℕ) (p : List ℕ) (b : Bool)
        → cond b ((x ∷ p) ∷ ended [] cs) (ended (x ∷ (p ++ (c ∷ []))) cs) ++ open_line (cond b (left [] cs) (left (x ∷ (p ++ (c ∷ []))) cs))
        ≡ ((x ∷ p) ++ cond b [] (c ∷ up_to 10 cs)) ∷ lines_in b cs
    there r x p true = ap (λ (l : List (List ℕ)). (x ∷ p) ∷ l) r.0 ∙ ap (λ (l : List ℕ). (x ∷ l) ∷ lines cs) (sym (append-nil p))
    there r x p false = r.1 x (p ++ (c ∷ [])) ∙ ap (λ (l : List ℕ). (x ∷ l) ∷ lines_in false cs) (append_snoc p c (up_to 10 cs))

-- ---- what is written from a place on, with the true counts and the whole of an unended line

-- behind n lines with k good ones, where q has no end, for the input s
abbrev pub rest : ℕ → ℕ → List ℕ → List ℕ → List ℕ
rest n k q s = answers_text n (ended q s) ++ end_text (n + length (ended q s)) (k + goods (ended q s)) (left q s)

pub rest_none : (n k : ℕ) (q : List ℕ) → rest n k q [] ≡ end_text n k q
unfolding ended left answers_text goods
rest_none n k q = rw (add-zero n, add-zero k)

pub rest_more : (n k : ℕ) (q s t : List ℕ)
    → rest n k q (s ++ t) ≡ answers_text n (ended q s) ++ rest (n + length (ended q s)) (k + goods (ended q s)) (left q s) t
rest_more n k q s t =
    let e = ended q s in
    let f = ended (left q s) t in
    let a : n + length e + length f ≡ n + length (e ++ f) = rw length-append (omega arith) in
    let b : k + goods e + goods f ≡ k + goods (e ++ f) = rw goods_append (omega arith) in
    rw (ended_append q s t, left_append q s t, a, b, answers_append n e f)
    (append_assoc (answers_text n e) (answers_text (n + length e) f) (end_text (n + length (e ++ f)) (k + goods (e ++ f)) (left (left q s) t)))

pub rest_all : (s : List ℕ) → heading ++ rest 0 0 [] s ≡ program_text s
unfolding program_text end_text
rest_all s =
    let e = ended [] s in
    let f = open_line (left [] s) in
    let g : 0 + goods e + goods f ≡ goods (e ++ f) = rw goods_append (omega arith) in
    let h : 0 + length e + length f ≡ length (e ++ f) = rw length-append (omega arith) in
    ap (λ (t : List ℕ). heading ++ t)
    (rw (g, h, ← (lines_are s).0, answers_append 0 e f)
    (sym (append_assoc (answers_text 0 e) (answers_text (0 + length e) f) (totals (length (e ++ f)) (goods (e ++ f))))))

-- the same without the unended line and the total
pub open_more : (n : ℕ) (q s t : List ℕ) → answers_text n (ended q (s ++ t)) ≡ answers_text n (ended q s) ++ answers_text (n + length (ended q s)) (ended (left q s) t)
open_more n q s t = rw (ended_append q s t) (answers_append n (ended q s) (ended (left q s) t))

-- whatever comes behind, the text of the whole begins with it
pub open_front : (s t : List ℕ) → take (length (open_text s)) (program_text (s ++ t)) ≡ open_text s
unfolding open_text
open_front s t =
    let a : List ℕ = answers_text 0 (ended [] s) in
    let b : List ℕ = rest (0 + length (ended [] s)) (0 + goods (ended [] s)) (left [] s) t in
    let e : program_text (s ++ t) ≡ (heading ++ a) ++ b =
    sym (rest_all (s ++ t)) ∙ ap (λ (x : List ℕ). heading ++ x) (rest_more 0 0 [] s t) ∙ sym (append_assoc heading a b) in
    rw e (take-append_seam (heading ++ a) b)
