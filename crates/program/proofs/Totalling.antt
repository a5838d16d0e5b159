-- The total is the listing's last line: every line before it begins with a digit, or is the heading, and no text of a
-- line has a line end in it. Assumes nothing.
use mathlib.Core.Path.{◌≡◌, refl, sym, ap, ◌∙◌}
use mathlib.Core.Bool.{Bool, true, false, cond, not, ◌&&◌, ◌||◌, false≢true, true≢false}
use mathlib.Core.List.{List, [], ◌∷◌, ◌++◌, append_assoc, append-nil}
use Prim.Native.Nat.{ℕ, zero, suc, ◌+◌, ◌-◌, ◌/◌, ◌%◌, ◌<◌}
use native.Mathlib.Nat.{mod-lt}
use native.Mathlib.Omega.{arith}
use borrow.Author.Tests.{ltb-true, ne_eqb, le-leb, leb-true}
use lib.Dec.{eqb, ltb, leb}
use lib.IntN.{ℤ, pos, negsuc}
use lib.ListN.{length, take, drop, length-append, take-append-drop}
use lib.Seq.{append_snoc, take-append-le}
use Rattle.number.specs.Written.{digits_in, digits, sign, written}
use Rattle.strlib.proofs.Refusing.{and_both}
use Rattle.strlib.specs.Quoted.{bytes}
use Rattle.strlib.specs.Refusal.{Outcome, refused, gives}
use Rattle.words.specs.Lines.{lines}
use Rattle.words.specs.Words.{same}
use Rattle.desk.specs.Cue.{cue_rule}
use Rattle.desk.specs.declared.cue.Cue.{Cue}
use Rattle.answers.proofs.Feeding.{ended_append, left_append}
use Rattle.program.proofs.Resting.{open_front}
use Rattle.answers.specs.Text.{heading, ok_text, cue_text, answer_text, total_text}
use Rattle.answers.specs.Pieces.{counted, answers_text, goods, totals, ended, left}
use Rattle.program.specs.Program.{program_text, open_text, is_total, total_in, last_line, TotalLast}

-- ---- texts without a line end

abbrev endless : List ℕ → Bool
endless [] = true
endless (c ∷ cs) = not (eqb c 10) && endless cs

endless_append : (x y : List ℕ) → endless x ≡ true → endless y ≡ true → endless (x ++ y) ≡ true
endless_append [] y p q = q
endless_append (c ∷ cs) y p q = let b = and_both (not (eqb c 10)) (endless cs) p in rw b.0 (endless_append cs y b.1 q)

digits_endless : (k n : ℕ) → endless (digits_in k 10 n) ≡ true
unfolding digits_in
digits_endless zero n = refl
digits_endless (suc k) n = go (ltb n 10) (digits_endless k (n / 10))
  where
    go : (b : Bool) → endless (digits_in k 10 (n / 10)) ≡ true → endless (cond b ((48 + n) ∷ []) (digits_in k 10 (n / 10) ++ ((48 + n % 10) ∷ []))) ≡ true
    go true r = rw (ne_eqb (48 + n) 10 (λ e. omega arith))
    go false r = endless_append (digits_in k 10 (n / 10)) ((48 + n % 10) ∷ []) r (rw (ne_eqb (48 + n % 10) 10 (λ e. omega arith)))

number_endless : (n : ℕ) → endless (digits 10 n) ≡ true
unfolding digits
number_endless n = digits_endless 36 n

gain_endless : (z : ℤ) → endless (written 10 z) ≡ true
unfolding written sign
gain_endless (pos n) = number_endless n
gain_endless (negsuc n) = number_endless (suc n)

cue_endless : (a : Outcome Cue) → endless (cue_text a) ≡ true
unfolding cue_text ok_text
cue_endless (gives c) =
    endless_append ((bytes " ok " ++ digits 10 c.microphone) ++ (bytes " " ++ digits 10 c.loudspeaker) ++ bytes " ") (written 10 c.gain)
    (endless_append ((bytes " ok " ++ digits 10 c.microphone) ++ (bytes " " ++ digits 10 c.loudspeaker)) (bytes " ")
    (endless_append (bytes " ok " ++ digits 10 c.microphone) (bytes " " ++ digits 10 c.loudspeaker) (number_endless c.microphone) (number_endless c.loudspeaker)) refl)
    (gain_endless c.gain)
cue_endless (refused k) = number_endless k

-- ---- lines that begin with a digit give no total

abbrev digit_first : List ℕ → Bool
digit_first [] = false
digit_first (c ∷ cs) = leb c 57

first_append : (x y : List ℕ) → digit_first x ≡ true → digit_first (x ++ y) ≡ true
first_append [] y e = absurd (false≢true e)
first_append (c ∷ cs) y e = e

digits_first : (k n : ℕ) → digit_first (digits_in (suc k) 10 n) ≡ true
unfolding digits_in
digits_first zero n = go (ltb n 10) refl
  where
    go : (b : Bool) → ltb n 10 ≡ b → digit_first (cond b ((48 + n) ∷ []) ([] ++ ((48 + n % 10) ∷ []))) ≡ true
    go true e = le-leb (48 + n) 57 (omega (arith, ltb-true n 10 e))
    go false e = let r : n % 10 < 10 = mod-lt n (omega arith) in le-leb (48 + n % 10) 57 (omega arith)
digits_first (suc k) n = go (ltb n 10) refl (digits_first k (n / 10))
  where
    go : (b : Bool) → ltb n 10 ≡ b → digit_first (digits_in (suc k) 10 (n / 10)) ≡ true
        → digit_first (cond b ((48 + n) ∷ []) (digits_in (suc k) 10 (n / 10) ++ ((48 + n % 10) ∷ []))) ≡ true
    go true e r = le-leb (48 + n) 57 (omega (arith, ltb-true n 10 e))
    go false e r = first_append (digits_in (suc k) 10 (n / 10)) ((48 + n % 10) ∷ []) r

number_first : (n : ℕ) → digit_first (digits 10 n) ≡ true
unfolding digits
number_first n = digits_first 35 n

no_total : (l : List ℕ) → digit_first l ≡ true → is_total l ≡ false
unfolding is_total same
no_total [] e = absurd (false≢true e)
no_total (c ∷ cs) e = rw (ne_eqb c 116 (λ (q : c ≡ 116). omega (arith, leb-true c 57 e)))

-- ---- texts of whole lines that give no total

record Quiet (t : List ℕ) : Type 0 where
  lines : total_in (ended [] t) ≡ false
  clean : left [] t ≡ []

total_append : (e f : List (List ℕ)) → total_in (e ++ f) ≡ (total_in e || total_in f)
unfolding total_in
total_append [] f = refl
total_append (l ∷ ls) f = go (is_total l) (total_append ls f)
  where
    go : (b : Bool) → total_in (ls ++ f) ≡ (total_in ls || total_in f) → (b || total_in (ls ++ f)) ≡ ((b || total_in ls) || total_in f)
    go true r = refl
    go false r = r

ended_behind : (x y : List ℕ) → left [] x ≡ [] → ended [] (x ++ y) ≡ ended [] x ++ ended [] y
ended_behind x y c = ended_append [] x y ∙ ap (λ (l : List ℕ). ended [] x ++ ended l y) c

quiet_append : (x y : List ℕ) → Quiet x → Quiet y → Quiet (x ++ y)
quiet_append x y a b =
    record {
      lines = rw (ended_behind x y a.clean, total_append (ended [] x) (ended [] y), a.lines) b.lines;
      clean = left_append [] x y ∙ ap (λ (l : List ℕ). left l y) a.clean ∙ b.clean;
    }

-- one line, without and with its end
line_open : (x p : List ℕ) → endless x ≡ true → (ended p x ≡ []) × (left p x ≡ p ++ x)
unfolding ended left
line_open [] p e = (refl, sym (append-nil p))
line_open (c ∷ cs) p e =
    let b = and_both (not (eqb c 10)) (endless cs) e in
    go (eqb c 10) b.0 (line_open cs (p ++ (c ∷ [])) b.1)
  where
    go : (t : Bool) → not t ≡ true → (ended (p ++ (c ∷ [])) cs ≡ []) × (left (p ++ (c ∷ [])) cs ≡ (p ++ (c ∷ [])) ++ cs)
        → (cond t (p ∷ ended [] cs) (ended (p ++ (c ∷ [])) cs) ≡ []) × (cond t (left [] cs) (left (p ++ (c ∷ [])) cs) ≡ p ++ (c ∷ cs))
    go true q r = absurd (false≢true q)
    go false q r = (r.0, r.1 ∙ append_snoc p c cs)

line_ended : (x : List ℕ) → endless x ≡ true → (ended [] (x ++ (10 ∷ [])) ≡ x ∷ []) × (left [] (x ++ (10 ∷ [])) ≡ [])
unfolding ended left
line_ended x e =
    let o = line_open x [] e in
    (ended_append [] x (10 ∷ []) ∙ rw (o.0, o.1), left_append [] x (10 ∷ []))

quiet_line : (x : List ℕ) → endless x ≡ true → is_total x ≡ false → Quiet (x ++ (10 ∷ []))
unfolding total_in
quiet_line x e t = let l = line_ended x e in record { lines = rw (l.0, t); clean = l.1 }

quiet_answer : (n : ℕ) (a : Outcome Cue) → Quiet (answer_text n a)
unfolding answer_text
quiet_answer n a =
    quiet_line (digits 10 n ++ cue_text a) (endless_append (digits 10 n) (cue_text a) (number_endless n) (cue_endless a))
    (no_total (digits 10 n ++ cue_text a) (first_append (digits 10 n) (cue_text a) (number_first n)))

quiet_answers : (n : ℕ) (ls : List (List ℕ)) → Quiet (answers_text n ls)
unfolding answers_text total_in ended left
quiet_answers n [] = record { lines = refl; clean = refl }
quiet_answers n (l ∷ ls) = quiet_append _ (answers_text (n + 1) ls) (quiet_answer (counted (n + 1)) (cue_rule l 64 128)) (quiet_answers (n + 1) ls)

quiet_heading : Quiet heading
unfolding heading is_total same total_in ended left
quiet_heading = record { lines = refl; clean = refl }

quiet_front : (ls : List (List ℕ)) → Quiet (heading ++ answers_text 0 ls)
quiet_front ls = quiet_append heading (answers_text 0 ls) quiet_heading (quiet_answers 0 ls)

-- ---- the total

abbrev body : ℕ → ℕ → ℕ → List ℕ
body l k b = (bytes "total " ++ digits 10 l) ++ (bytes " ok " ++ digits 10 k) ++ (bytes " refused " ++ digits 10 b)

body_endless : (l k b : ℕ) → endless (body l k b) ≡ true
body_endless l k b =
    endless_append ((bytes "total " ++ digits 10 l) ++ (bytes " ok " ++ digits 10 k)) (bytes " refused " ++ digits 10 b)
    (endless_append (bytes "total " ++ digits 10 l) (bytes " ok " ++ digits 10 k) (number_endless l) (number_endless k)) (number_endless b)

body_total : (l k b : ℕ) → is_total (body l k b) ≡ true
unfolding is_total same
body_total l k b = refl

last_behind : (ls : List (List ℕ)) (l : List ℕ) → last_line (ls ++ (l ∷ [])) ≡ l
unfolding last_line
last_behind [] l = refl
last_behind (x ∷ []) l = refl
last_behind (x ∷ y ∷ ls) l = last_behind (y ∷ ls) l

-- the whole text is what is quiet, and the total with its line end
module _ (s : List ℕ) where
  abbrev a : List ℕ
  a = heading ++ answers_text 0 (lines s)

  abbrev t : List ℕ
  t = body (counted (length (lines s))) (counted (goods (lines s))) (counted (length (lines s)) - counted (goods (lines s)))

  parts : program_text s ≡ (a ++ t) ++ (10 ∷ [])
  unfolding program_text totals total_text
  parts =
      sym (append_assoc heading (answers_text 0 (lines s)) (t ++ (10 ∷ []))) ∙ sym (append_assoc a t (10 ∷ []))

  t_total : is_total t ≡ true
  t_total = body_total (counted (length (lines s))) (counted (goods (lines s))) (counted (length (lines s)) - counted (goods (lines s)))

  all_lines : ended [] (program_text s) ≡ ended [] a ++ (t ∷ [])
  all_lines =
      ap (ended []) (parts ∙ append_assoc a t (10 ∷ []))
      ∙ ended_behind a (t ++ (10 ∷ [])) (quiet_front (lines s)).clean
      ∙ ap (λ (x : List (List ℕ)). ended [] a ++ x) (line_ended t (body_endless _ _ _)).0

  whole : is_total (last_line (ended [] (program_text s))) ≡ true
  whole = ap (λ (x : List (List ℕ)). is_total (last_line x)) all_lines ∙ ap is_total (last_behind (ended [] a) t) ∙ t_total

  some : total_in (ended [] (program_text s)) ≡ true
  unfolding total_in
  some = rw (all_lines, total_append (ended [] a) (t ∷ []), (quiet_front (lines s)).lines, t_total)

  -- without the last line end no total has ended
  unended : total_in (ended [] (a ++ t)) ≡ false
  unended =
      let q = quiet_front (lines s) in
      let o = line_open t [] (body_endless _ _ _) in
      rw (ended_behind a t q.clean, o.0, append-nil (ended [] a)) q.lines

  shorter : (n : ℕ) → n < length (program_text s) → total_in (ended [] (take n (program_text s))) ≡ false
  shorter n h =
      let x : List ℕ = a ++ t in
      let l : length (program_text s) ≡ length x + 1 = ap length parts ∙ length-append x (10 ∷ []) in
      let f : take n (program_text s) ≡ take n x = ap (take n) parts ∙ take-append-le n x (10 ∷ []) (omega arith) in
      let e : ended [] x ≡ ended [] (take n x) ++ ended (left [] (take n x)) (drop n x) =
      ap (ended []) (sym (take-append-drop n x)) ∙ ended_append [] (take n x) (drop n x) in
      let u : (total_in (ended [] (take n x)) || total_in (ended (left [] (take n x)) (drop n x))) ≡ false =
      sym (total_append (ended [] (take n x)) (ended (left [] (take n x)) (drop n x))) ∙ ap total_in (sym e) ∙ unended in
      rw f (or_first _ _ u)
    where
      or_first : (p q : Bool) → (p || q) ≡ false → p ≡ false
      or_first true q z = absurd (true≢false z)
      or_first false q z = refl

unmet : (s : List ℕ) → total_in (ended [] (open_text s)) ≡ false
unfolding open_text
unmet s = (quiet_front (ended [] s)).lines

-- a total is in the one text and not in the other
pub text_total : (b : Bool) (s : List ℕ) → total_in (ended [] (cond b (program_text s) (open_text s))) ≡ b
text_total true s = some s
text_total false s = unmet s

pub total_last : TotalLast
total_last = record { whole = whole; shorter = shorter; unmet = unmet; front = open_front }
