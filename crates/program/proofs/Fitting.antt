-- How long answers are at most: nothing is cut off where the buffer has 36 bytes for each byte of a piece, and 116 for
-- the end. Assumes nothing.
use mathlib.Core.Path.{◌≡◌, refl}
use mathlib.Core.Bool.{Bool, true, false, cond}
use mathlib.Core.List.{List, [], ◌∷◌, ◌++◌}
use Prim.Native.Nat.{ℕ, suc, ◌+◌, ◌-◌, ◌*◌, ◌≤◌}
use native.Mathlib.Omega.{arith}
use lib.Dec.{eqb}
use lib.IntN.{ℤ, nat_abs}
use lib.ListN.{length, length-append}
use Rattle.number.proofs.Counting.{digits_under}
use Rattle.number.proofs.Writing.{written_under}
use Rattle.number.specs.Written.{digits, written}
use Rattle.strlib.specs.Refusal.{Outcome, refused, gives}
use Rattle.desk.proofs.CueGiven.{cue_given, gain_small, cue_refused}
use Rattle.desk.specs.Cue.{cue_rule}
use Rattle.desk.specs.declared.cue.Cue.{Cue}
use Rattle.answers.specs.Text.{heading, ok_text, cue_text, answer_text, total_text}
use Rattle.answers.specs.Pieces.{counted, answers_text, goods, totals, ended, open_line, end_text}

-- ---- one answer

gain_fits : (z : ℤ) → nat_abs z ≤ 960 → length (written 10 z) ≤ 4
gain_fits z h = written_under 10 z 3 (digits_under 10 2 (nat_abs z) (omega arith) (omega arith))

cue_fits : (l : List ℕ) (a : Outcome Cue) → cue_rule l 64 128 ≡ a → length (cue_text a) ≤ 15
unfolding cue_text ok_text
cue_fits l (gives c) e =
    let g = cue_given l 64 128 c e in
    let m : length (digits 10 c.microphone) ≤ 2 = digits_under 10 1 c.microphone (omega arith) (omega (arith, g.mic)) in
    let s : length (digits 10 c.loudspeaker) ≤ 3 = digits_under 10 2 c.loudspeaker (omega arith) (omega (arith, g.lsp)) in
    simp length-append (omega (arith, m, s, gain_fits c.gain (gain_small c.gain g.gain)))
cue_fits l (refused k) e =
    let d : length (digits 10 k) ≤ 2 = digits_under 10 1 k (omega arith) (omega (arith, cue_refused l 64 128 k e)) in
    simp length-append (omega arith)

count_fits : (n : ℕ) → length (digits 10 (counted n)) ≤ 20
unfolding counted
count_fits n = digits_under 10 19 _ (omega arith) (omega arith)

answer_fits : (n : ℕ) (l : List ℕ) → length (answer_text (counted n) (cue_rule l 64 128)) ≤ 36
unfolding answer_text
answer_fits n l = simp length-append (omega (arith, count_fits n, cue_fits l (cue_rule l 64 128) refl))

-- ---- a piece

answers_fit : (n : ℕ) (e : List (List ℕ)) → length (answers_text n e) ≤ 36 * length e
unfolding answers_text
answers_fit n [] = omega arith
answers_fit n (l ∷ ls) = simp length-append (omega (arith, answer_fits (n + 1) l, answers_fit (n + 1) ls))

ended_few : (p s : List ℕ) → length (ended p s) ≤ length s
unfolding ended
ended_few p [] = omega arith
ended_few p (c ∷ cs) = go (ended_few [] cs) (ended_few (p ++ (c ∷ [])) cs) (eqb c 10)
  where
    go : length (ended [] cs) ≤ length cs → length (ended (p ++ (c ∷ [])) cs) ≤ length cs
        → (b : Bool) → length (cond b (p ∷ ended [] cs) (ended (p ++ (c ∷ [])) cs)) ≤ suc (length cs)
    go x y true = omega arith
    go x y false = omega arith

-- the answers to the lines of a piece
pub piece_fits : (n : ℕ) (p s : List ℕ) → length (answers_text n (ended p s)) ≤ 36 * length s
piece_fits n p s = omega (arith, answers_fit n (ended p s), ended_few p s)

-- ---- the end

bad_fits : (n k : ℕ) → length (digits 10 (counted n - counted k)) ≤ 20
unfolding counted
bad_fits n k = digits_under 10 19 _ (omega arith) (omega arith)

totals_fit : (n k : ℕ) → length (totals n k) ≤ 80
unfolding totals total_text
totals_fit n k = simp length-append (omega (arith, count_fits n, count_fits k, bad_fits n k))

last_few : (q : List ℕ) → length (open_line q) ≤ 1
unfolding open_line
last_few [] = omega arith
last_few (c ∷ cs) = omega arith

pub end_fits : (n k : ℕ) (q : List ℕ) → length (end_text n k q) ≤ 116
unfolding end_text
end_fits n k q = rw length-append (omega (arith, answers_fit n (open_line q), last_few q, totals_fit (n + length (open_line q)) (k + goods (open_line q))))

pub heading_fits : length heading ≤ 116
unfolding heading
heading_fits = omega arith
