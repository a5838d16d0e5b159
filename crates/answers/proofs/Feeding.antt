-- Laws of lines that come in pieces. A line is judged by its first 65,537 bytes, so that what is held of it may be cut
-- there; the lines answered so far and what is left are those of the part walked through. Assumes nothing.
use mathlib.Core.Path.{◌≡◌, refl, sym, ap, ◌∙◌}
use mathlib.Core.Bool.{Bool, true, false, cond}
use mathlib.Core.List.{List, [], ◌∷◌, ◌++◌, append-nil}
use Prim.Native.Nat.{ℕ, suc, ◌+◌, ◌-◌, ◌≤◌, ◌<◌}
use native.Mathlib.Nat.{add-zero}
use native.Mathlib.Omega.{arith}
use borrow.Author.Rules.{rules}
use borrow.Author.Tests.{ltb-true, ltb-false, lt-ltb, le-ltb, eq-eqb, ne_eqb}
use lib.Dec.{ltb, eqb}
use lib.ListN.{length, take, drop, length-take, length-drop, length-append, drop_of_length-le}
use lib.Seq.{append_snoc, take_all, take-nil, take-take, take-add, drop-drop}
use Rattle.strlib.proofs.Pointing.{either, text_front}
use Rattle.strlib.specs.Pointer.{pointer, text_of}
use Rattle.strlib.specs.Refusal.{Outcome}
use Rattle.strlib.specs.declared.StrPtr.{StrPtr}
use Rattle.words.proofs.Lining.{line_text, next_more}
use Rattle.words.proofs.Wording.{up_to_take}
use Rattle.words.specs.Ends.{up_to, end_of}
use Rattle.words.specs.Lines.{next_line}
use Rattle.words.specs.Words.{pointer_of}
use Rattle.words.specs.declared.Piece.{Piece}
use Rattle.desk.proofs.CueGiven.{cue_too_long}
use Rattle.desk.specs.Cue.{cue_rule, cue_word_rule}
use Rattle.desk.specs.declared.cue.Cue.{Cue}
use Rattle.buffer.proofs.Growing.{grow_more, grown_none, grown_size, grown_inside, grown_bytes, take_twice}
use Rattle.buffer.specs.Buffer.{grown}
use Rattle.answers.proofs.Counting.{count_again, count_fixed, answers_counted, answers_append, goods_append}
use Rattle.answers.specs.Text.{answer_text}
use Rattle.answers.specs.Pieces.{counted, good_of, answers_text, goods, ended, left, kept_in}
use Rattle.answers.specs.Inner.{Answered, Ready, ended_by, left_by, kept_by, Counted, Taken, Walked, Fed}
use Rattle.answers.specs.declared.lines.State.{State}

-- ---- a line is judged by its first m bytes, where m is over 65,536

module _ (m : ℕ) (big : 65536 < m) where
  pub cue_cut : (l : List ℕ) → cue_rule (take m l) 64 128 ≡ cue_rule l 64 128
  cue_cut l =
      either (length l) m
      (λ (h : length l ≤ m). rw (take_all m l h))
      (λ (h : m < length l).
      let k : 65536 < length (take m l) = rw length-take (omega arith) in
      cue_too_long (take m l) 64 128 k ∙ sym (cue_too_long l 64 128 (omega arith)))

  pub cue_alike : (p q : List ℕ) → take m p ≡ take m q → cue_rule p 64 128 ≡ cue_rule q 64 128
  cue_alike p q e = sym (cue_cut p) ∙ ap (λ (l : List ℕ). cue_rule l 64 128) e ∙ cue_cut q

-- ---- lines that were answered

pub answer_is : (s : State) (o o' l : List ℕ) (a : Outcome Cue) (w m n k : ℕ) → (a, w) ≡ cue_word_rule l 64 128 → m ≡ counted (s.lines + 1)
    → (n, o') ≡ grown o s.out (answer_text m a) → k ≡ counted (s.ok + good_of a)
    → Answered s o (cue_rule l 64 128) (record { lines = m; ok = k; held = 0; out = n }) o'
answer_is s o o' l a w m n k f em g q =
    let e : a ≡ cue_rule l 64 128 = ap (λ (z : Outcome Cue × ℕ). z.0) f in
    record { text = rw (← e, ← em) g; lines = em; ok = rw (← e) q; held = refl }

counted_none : (s : State) (h o : List ℕ) → Ready h o s → Counted s o [] s o
unfolding answers_text goods
counted_none s h o a =
    record {
      text = grown_none o s.out a.inside;
      lines = a.lines ∙ ap counted (sym (add-zero s.lines));
      ok = a.ok ∙ ap counted (sym (add-zero s.ok));
    }

counted_one : (s : State) (o : List ℕ) (r : State) (o' x : List ℕ) → Answered s o (cue_rule x 64 128) r o' → Counted s o (x ∷ []) r o'
unfolding answers_text goods
counted_one s o r o' x w =
    record {
      text = rw (append-nil (answer_text (counted (s.lines + 1)) (cue_rule x 64 128))) w.text;
      lines = w.lines;
      ok = w.ok ∙ sym (ap (λ (j : ℕ). counted (s.ok + j)) (add-zero (good_of (cue_rule x 64 128))));
    }

-- lines behind lines
counted_more : (s : State) (o : List ℕ) (e : List (List ℕ)) (t : State) (o1 : List ℕ) (f : List (List ℕ)) (r : State) (o' : List ℕ)
    → Counted s o e t o1 → Counted t o1 f r o' → Counted s o (e ++ f) r o'
counted_more s o e t o1 f r o' a b =
    let et : answers_text t.lines f ≡ answers_text (s.lines + length e) f =
    answers_counted t.lines (s.lines + length e) f (sym (count_fixed (s.lines + length e) t.lines a.lines) ∙ a.lines) in
    let tx : answers_text s.lines e ++ answers_text t.lines f ≡ answers_text s.lines (e ++ f) = rw et (sym (answers_append s.lines e f)) in
    let ll : s.lines + length e + length f ≡ s.lines + length (e ++ f) = rw length-append (omega arith) in
    let lg : s.ok + goods e + goods f ≡ s.ok + goods (e ++ f) = rw goods_append (omega arith) in
    record {
      text = rw tx at (grow_more o s.out o1 t.out o' r.out (answers_text s.lines e) (answers_text t.lines f) a.text b.text);
      lines = b.lines ∙ count_again (s.lines + length e) (length f) t.lines a.lines ∙ ap counted ll;
      ok = b.ok ∙ count_again (s.ok + goods e) (goods f) t.ok a.ok ∙ ap counted lg;
    }

-- ---- one line

module _ (s : State) (h o part : List ℕ) (full : Bool) (a : Ready h o s) where
  pub take_direct : (r : State) (o' : List ℕ) → full ≡ true → s.held ≡ 0 → Answered s o (cue_rule part 64 128) r o' → Taken s h o full part r h o'
  unfolding ended_by kept_by
  take_direct r o' f z w =
      let e : part ≡ take s.held h ++ part = sym (ap (λ (k : ℕ). take k h ++ part) z) in
      let c : Counted s o ((take s.held h ++ part) ∷ []) r o' = counted_one s o r o' (take s.held h ++ part) (rw e at w) in
      let k : ◌≡◌ {A = ℕ × List ℕ} (r.held, h) (0, cond (eqb s.held 0) h (grown h s.held part).1) = rw (eq-eqb s.held 0 z, w.held) in
      record { counts = rw f c; kept = rw f k }

  pub take_held : (r : State) (h' o' x : List ℕ) (k : ℕ) (w : StrPtr) → full ≡ true → (s.held ≡ 0 → ⊥) → (k, h') ≡ grown h s.held part
      → w ≡ pointer 0 k k → x ≡ text_of h' w → Answered s o (cue_rule x 64 128) r o' → Taken s h o full part r h' o'
  unfolding ended_by kept_by
  take_held r h' o' x k w f z g ew ex v =
      let y = take s.held h ++ part in
      let big : 65536 < length h = omega (arith, a.size) in
      let ey : x ≡ take (length h) y = ex ∙ ap (text_of h') ew ∙ text_front h' k k ∙ grown_bytes h s.held h' k part g in
      let q : cue_rule x 64 128 ≡ cue_rule y 64 128 = rw ey (cue_cut (length h) big y) in
      let c : Counted s o (y ∷ []) r o' = counted_one s o r o' y (rw q at v) in
      let b : h' ≡ (grown h s.held part).1 = ap (λ (p : ℕ × List ℕ). p.1) g in
      let j : ◌≡◌ {A = ℕ × List ℕ} (r.held, h') (0, cond (eqb s.held 0) h (grown h s.held part).1) =
      rw (ne_eqb s.held 0 z, v.held) (ap (λ (l : List ℕ). (0, l)) b) in
      record { counts = rw f c; kept = rw f j }

  pub take_part : (h' : List ℕ) (k : ℕ) → full ≡ false → (k, h') ≡ grown h s.held part
      → Taken s h o full part (record { lines = s.lines; ok = s.ok; held = k; out = s.out }) h' o
  unfolding ended_by kept_by
  take_part h' k f g =
      let c = counted_none s h o a in
      record { counts = rw f (record { text = c.text; lines = c.lines; ok = c.ok }); kept = rw f g }

-- what is held then
module _ (full : Bool) (k : ℕ) (h x : List ℕ) (r : ℕ) (h' : List ℕ) where
  kept_size : (r, h') ≡ kept_by full k h x → length h' ≡ length h
  unfolding kept_by
  kept_size = go full (eqb k 0)
    where
      go : (f b : Bool) → (r, h') ≡ cond f (0, cond b h (grown h k x).1) (grown h k x) → length h' ≡ length h
      go true true e = ap (λ (p : ℕ × List ℕ). length p.1) e
      go true false e = ap (λ (p : ℕ × List ℕ). length p.1) e ∙ grown_size h k (grown h k x).1 (grown h k x).0 x refl
      go false b e = grown_size h k h' r x e

  kept_inside : (r, h') ≡ kept_by full k h x → r ≤ length h'
  unfolding kept_by
  kept_inside = go full
    where
      go : (f : Bool) → (r, h') ≡ cond f (0, cond (eqb k 0) h (grown h k x).1) (grown h k x) → r ≤ length h'
      go true e = let z : r ≡ 0 = ap (λ (p : ℕ × List ℕ). p.0) e in omega arith
      go false e = grown_inside h k h' r x e

  kept_bytes : (r, h') ≡ kept_by full k h x → take r h' ≡ take (length h) (left_by full (take k h) x)
  unfolding kept_by left_by
  kept_bytes = go full
    where
      go : (f : Bool) → (r, h') ≡ cond f (0, cond (eqb k 0) h (grown h k x).1) (grown h k x) → take r h' ≡ take (length h) (cond f [] (take k h ++ x))
      go true e = ap (λ (p : ℕ × List ℕ). take p.0 p.1) e ∙ sym (take-nil (length h))
      go false e = grown_bytes h k h' r x e

-- ---- pieces behind one another

pub ended_append : (p s t : List ℕ) → ended p (s ++ t) ≡ ended p s ++ ended (left p s) t
unfolding ended left
ended_append p [] t = refl
ended_append p (c ∷ cs) t = go (ended_append [] cs t) (ended_append (p ++ (c ∷ [])) cs t) (eqb c 10)
  where
    go : ended [] (cs ++ t) ≡ ended [] cs ++ ended (left [] cs) t
        → ended (p ++ (c ∷ [])) (cs ++ t) ≡ ended (p ++ (c ∷ [])) cs ++ ended (left (p ++ (c ∷ [])) cs) t
        → (b : Bool) → cond b (p ∷ ended [] (cs ++ t)) (ended (p ++ (c ∷ [])) (cs ++ t))
        ≡ cond b (p ∷ ended [] cs) (ended (p ++ (c ∷ [])) cs) ++ ended (cond b (left [] cs) (left (p ++ (c ∷ [])) cs)) t
    go x y true = ap (λ (l : List (List ℕ)). p ∷ l) x
    go x y false = y

pub left_append : (p s t : List ℕ) → left p (s ++ t) ≡ left (left p s) t
unfolding left
left_append p [] t = refl
left_append p (c ∷ cs) t = go (left_append [] cs t) (left_append (p ++ (c ∷ [])) cs t) (eqb c 10)
  where
    go : left [] (cs ++ t) ≡ left (left [] cs) t → left (p ++ (c ∷ [])) (cs ++ t) ≡ left (left (p ++ (c ∷ [])) cs) t
        → (b : Bool) → cond b (left [] (cs ++ t)) (left (p ++ (c ∷ [])) (cs ++ t)) ≡ left (cond b (left [] cs) (left (p ++ (c ∷ [])) cs)) t
    go x y true = x
    go x y false = y

-- ---- only the first m bytes of what came before count

pub record Alike (m : ℕ) (p q s : List ℕ) : Type 0 where
  pub text : (n : ℕ) → answers_text n (ended p s) ≡ answers_text n (ended q s)
  pub count : length (ended p s) ≡ length (ended q s)
  pub goodness : goods (ended p s) ≡ goods (ended q s)
  pub rest : take m (left p s) ≡ take m (left q s)

module _ (m : ℕ) (big : 65536 < m) where
  module _ (p q : List ℕ) (e : take m p ≡ take m q) (t : List (List ℕ)) where
    first_same : (n : ℕ) → answers_text n (p ∷ t) ≡ answers_text n (q ∷ t)
    unfolding answers_text
    first_same n = rw (cue_alike m big p q e)

    good_same : goods (p ∷ t) ≡ goods (q ∷ t)
    unfolding goods
    good_same = rw (cue_alike m big p q e)

  pub alike : (p q s : List ℕ) → take m p ≡ take m q → Alike m p q s
  unfolding ended left
  alike p q [] e = record { text = λ n. refl; count = refl; goodness = refl; rest = e }
  alike p q (c ∷ cs) e =
      let snoc : take m (p ++ (c ∷ [])) ≡ take m (q ++ (c ∷ [])) =
      sym (take_twice m p (c ∷ [])) ∙ ap (λ (l : List ℕ). take m (l ++ (c ∷ []))) e ∙ take_twice m q (c ∷ []) in
      go (alike (p ++ (c ∷ [])) (q ++ (c ∷ [])) cs snoc) (eqb c 10) refl
    where
      go : Alike m (p ++ (c ∷ [])) (q ++ (c ∷ [])) cs → (b : Bool) → eqb c 10 ≡ b → Alike m p q (c ∷ cs)
      go r true f =
          record { text = λ n. rw f (first_same p q e (ended [] cs) n); count = rw f; goodness = rw f (good_same p q e (ended [] cs)); rest = rw f }
      go r false f = record { text = λ n. rw f (r.text n); count = rw f r.count; goodness = rw f r.goodness; rest = rw f r.rest }

pub counted_alike : (m : ℕ) (s : State) (o p q y : List ℕ) (r : State) (o' : List ℕ) → Alike m p q y → Counted s o (ended p y) r o' → Counted s o (ended q y) r o'
counted_alike m s o p q y r o' a c = record { text = rw (a.text s.lines) at c.text; lines = rw a.count at c.lines; ok = rw a.goodness at c.ok }

-- ---- one line of a piece

piece_full : (d p : List ℕ) → length (up_to 10 d) < length d
    → (ended p (take (suc (length (up_to 10 d))) d) ≡ (p ++ up_to 10 d) ∷ []) × (left p (take (suc (length (up_to 10 d))) d) ≡ [])
unfolding ended left up_to
piece_full [] p h = absurd (omega (arith, h))
piece_full (c ∷ cs) p h = go (eqb c 10) refl h (λ k. piece_full cs (p ++ (c ∷ [])) k)
  where
    go : (b : Bool) → eqb c 10 ≡ b → length (cond b [] (c ∷ up_to 10 cs)) < suc (length cs)
        → (length (up_to 10 cs) < length cs
        → (ended (p ++ (c ∷ [])) (take (suc (length (up_to 10 cs))) cs) ≡ ((p ++ (c ∷ [])) ++ up_to 10 cs) ∷ [])
        × (left (p ++ (c ∷ [])) (take (suc (length (up_to 10 cs))) cs) ≡ []))
        → (ended p (take (suc (length (cond b [] (c ∷ up_to 10 cs)))) (c ∷ cs)) ≡ (p ++ cond b [] (c ∷ up_to 10 cs)) ∷ [])
        × (left p (take (suc (length (cond b [] (c ∷ up_to 10 cs)))) (c ∷ cs)) ≡ [])
    go true f h r = (rw f (ap (λ (l : List ℕ). l ∷ []) (sym (append-nil p))), rw f)
    go false f h r =
        let q = r (omega (arith, h)) in
        (rw f (q.0 ∙ ap (λ (l : List ℕ). l ∷ []) (append_snoc p c (up_to 10 cs))), rw f q.1)

piece_open : (d p : List ℕ) → length d ≤ length (up_to 10 d) → (ended p d ≡ []) × (left p d ≡ p ++ d)
unfolding ended left up_to
piece_open [] p h = (refl, sym (append-nil p))
piece_open (c ∷ cs) p h = go (eqb c 10) refl h (λ k. piece_open cs (p ++ (c ∷ [])) k)
  where
    go : (b : Bool) → eqb c 10 ≡ b → suc (length cs) ≤ length (cond b [] (c ∷ up_to 10 cs))
        → (length cs ≤ length (up_to 10 cs) → (ended (p ++ (c ∷ [])) cs ≡ []) × (left (p ++ (c ∷ [])) cs ≡ (p ++ (c ∷ [])) ++ cs))
        → (ended p (c ∷ cs) ≡ []) × (left p (c ∷ cs) ≡ p ++ (c ∷ cs))
    go true f h r = absurd (omega (arith, h))
    go false f h r =
        let q = r (omega (arith, h)) in
        (rw f q.0, rw f (q.1 ∙ append_snoc p c cs))

-- what is held behind it
module _ (k : ℕ) (h : List ℕ) where
  kept_full : (d p : List ℕ) → length (up_to 10 d) < length d
      → kept_in k h p d ≡ kept_in 0 (cond (eqb k 0) h (grown h k (p ++ up_to 10 d)).1) [] (drop (suc (length (up_to 10 d))) d)
  unfolding kept_in up_to
  kept_full [] p l = absurd (omega (arith, l))
  kept_full (c ∷ cs) p l = go (eqb c 10) l (λ m. kept_full cs (p ++ (c ∷ [])) m)
    where
      go : (b : Bool) → length (cond b [] (c ∷ up_to 10 cs)) < suc (length cs)
          → (length (up_to 10 cs) < length cs
          → kept_in k h (p ++ (c ∷ [])) cs
          ≡ kept_in 0 (cond (eqb k 0) h (grown h k ((p ++ (c ∷ [])) ++ up_to 10 cs)).1) [] (drop (suc (length (up_to 10 cs))) cs))
          → cond b (kept_in 0 (cond (eqb k 0) h (grown h k p).1) [] cs) (kept_in k h (p ++ (c ∷ [])) cs)
          ≡ kept_in 0 (cond (eqb k 0) h (grown h k (p ++ cond b [] (c ∷ up_to 10 cs))).1) [] (drop (suc (length (cond b [] (c ∷ up_to 10 cs)))) (c ∷ cs))
      go true l r = rw (append-nil p)
      go false l r =
          r (omega (arith, l))
          ∙ ap (λ (y : List ℕ). kept_in 0 (cond (eqb k 0) h (grown h k y).1) [] (drop (suc (length (up_to 10 cs))) cs)) (append_snoc p c (up_to 10 cs))

  kept_open : (d p : List ℕ) → length d ≤ length (up_to 10 d) → kept_in k h p d ≡ grown h k (p ++ d)
  unfolding kept_in up_to
  kept_open [] p l = rw (append-nil p)
  kept_open (c ∷ cs) p l = go (eqb c 10) l (λ m. kept_open cs (p ++ (c ∷ [])) m)
    where
      go : (b : Bool) → suc (length cs) ≤ length (cond b [] (c ∷ up_to 10 cs))
          → (length cs ≤ length (up_to 10 cs) → kept_in k h (p ++ (c ∷ [])) cs ≡ grown h k ((p ++ (c ∷ [])) ++ cs))
          → cond b (kept_in 0 (cond (eqb k 0) h (grown h k p).1) [] cs) (kept_in k h (p ++ (c ∷ [])) cs) ≡ grown h k (p ++ (c ∷ cs))
      go true l r = absurd (omega (arith, l))
      go false l r = r (omega (arith, l)) ∙ ap (grown h k) (append_snoc p c cs)

kept_none : (k : ℕ) (h : List ℕ) → k ≤ length h → kept_in k h [] [] ≡ (k, h)
unfolding kept_in
kept_none k h l = sym (grown_none h k l)

module _ (s : List ℕ) (at : ℕ) (h : at < length s) where
  abbrev d : List ℕ
  d = drop at s

  abbrev n : ℕ
  n = length (up_to 10 d)

  abbrev l : Piece
  l = next_line s at

  d_length : length d ≡ length s - at
  d_length = length-drop at s

  pub piece : (p : List ℕ) → (ended p (take (l.next - at) d) ≡ ended_by (ltb l.to l.next) p (up_to 10 d))
      × (left p (take (l.next - at) d) ≡ left_by (ltb l.to l.next) p (up_to 10 d))
  unfolding next_line end_of ended_by left_by
  piece p = go (ltb (at + n) (length s)) refl
    where
      go : (b : Bool) → ltb (at + n) (length s) ≡ b
          → (ended p (take (cond b (at + n + 1) (at + n) - at) d) ≡ cond (ltb (at + n) (cond b (at + n + 1) (at + n))) ((p ++ up_to 10 d) ∷ []) [])
          × (left p (take (cond b (at + n + 1) (at + n) - at) d) ≡ cond (ltb (at + n) (cond b (at + n + 1) (at + n))) [] (p ++ up_to 10 d))
      go true e =
          let k : at + n + 1 - at ≡ suc n = omega arith in
          let m : n < length d = omega (arith, d_length, ltb-true (at + n) (length s) e) in
          let q = piece_full d p m in
          (rw (k, lt-ltb (at + n) (at + n + 1) (omega arith)) q.0, rw (k, lt-ltb (at + n) (at + n + 1) (omega arith)) q.1)
      go false e =
          let j : at + n - at ≡ n = omega arith in
          let m : length d ≤ n = omega (arith, d_length, ltb-false (at + n) (length s) e) in
          let u : up_to 10 d ≡ d = sym (up_to_take 10 d) ∙ take_all n d m in
          let q = piece_open d p m in
          (rw (j, take_all n d m, le-ltb (at + n) (at + n) (omega arith)) q.0, rw (j, take_all n d m, le-ltb (at + n) (at + n) (omega arith), u) q.1)

  pub piece_kept : (k : ℕ) (b : List ℕ) (r : ℕ) (b' : List ℕ) → (r, b') ≡ kept_by (ltb l.to l.next) k b (up_to 10 d)
      → kept_in k b [] d ≡ kept_in r b' [] (drop l.next s)
  unfolding next_line end_of kept_by
  piece_kept k b r b' = go (ltb (at + n) (length s)) refl
    where
      go : (t : Bool) → ltb (at + n) (length s) ≡ t
          → (r, b') ≡ cond (ltb (at + n) (cond t (at + n + 1) (at + n))) (0, cond (eqb k 0) b (grown b k (up_to 10 d)).1) (grown b k (up_to 10 d))
          → kept_in k b [] d ≡ kept_in r b' [] (drop (cond t (at + n + 1) (at + n)) s)
      go true e f =
          let m : n < length d = omega (arith, d_length, ltb-true (at + n) (length s) e) in
          let j : at + n + 1 ≡ at + suc n = omega arith in
          let g : ◌≡◌ {A = ℕ × List ℕ} (r, b') (0, cond (eqb k 0) b (grown b k (up_to 10 d)).1) = rw (lt-ltb (at + n) (at + n + 1) (omega arith)) at f in
          let dd : drop (suc n) d ≡ drop (at + n + 1) s = rw j (drop-drop (suc n) at s) in
          kept_full k b d [] m ∙ ap (λ (z : ℕ × List ℕ). kept_in z.0 z.1 [] (drop (suc n) d)) (sym g) ∙ ap (kept_in r b' []) dd
      go false e f =
          let m : length d ≤ n = omega (arith, d_length, ltb-false (at + n) (length s) e) in
          let u : up_to 10 d ≡ d = sym (up_to_take 10 d) ∙ take_all n d m in
          let g : (r, b') ≡ grown b k (up_to 10 d) = rw (le-ltb (at + n) (at + n) (omega arith)) at f in
          let zl : length s ≤ at + n = ltb-false (at + n) (length s) e in
          let z : drop (at + n) s ≡ [] = drop_of_length-le s zl in
          let v : kept_in r b' [] [] ≡ (r, b') = kept_none r b' (grown_inside b k b' r (up_to 10 d) g) in
          kept_open k b d [] m ∙ ap (grown b k) (sym u) ∙ sym g ∙ sym v ∙ ap (kept_in r b' []) (sym z)

-- ---- the walk over a piece

module _ (s : State) (h0 o0 part : List ℕ) (a : Ready h0 o0 s) where
  abbrev p : List ℕ
  p = take s.held h0

  pub walk_start : Walked s h0 o0 part 0 s h0 o0
  unfolding ended left
  walk_start =
      record {
        counts = counted_none s h0 o0 a;
        holds = sym (take_all (length h0) p (rw length-take (omega (arith, a.held))));
        size = refl;
        inside = a.held;
        rest = refl;
      }

  module _ (t : State) (h o : List ℕ) (at : ℕ) (f : Walked s h0 o0 part at t h o) where
    abbrev e0 : List (List ℕ)
    e0 = ended p (take at part)

    pub walk_ready : Ready h o t
    walk_ready =
        record {
          size = f.size ∙ a.size;
          held = f.inside;
          inside = grown_inside o0 s.out o t.out (answers_text s.lines e0) f.counts.text;
          lines = count_fixed (s.lines + length e0) t.lines f.counts.lines;
          ok = count_fixed (s.ok + goods e0) t.ok f.counts.ok;
        }

    pub walk_more : (l : Piece) (w : StrPtr) (x h' o' : List ℕ) (r : State) → at < length part → l ≡ next_line part at → w ≡ pointer_of l → x ≡ text_of part w
        → Taken t h o (ltb l.to l.next) x r h' o' → Walked s h0 o0 part l.next r h' o'
    walk_more l w x h' o' r i el ew ex g =
        let y : List ℕ = take (l.next - at) (drop at part) in
        let q : List ℕ = left p (take at part) in
        let q1 : List ℕ = take t.held h in
        let full : Bool = ltb l.to l.next in
        let m : at < l.next = rw el (next_more part at i) in
        let j : l.next ≡ at + (l.next - at) = omega arith in
        let whole : take l.next part ≡ take at part ++ y = ap (λ (k : ℕ). take k part) j ∙ take-add at (l.next - at) part in
        let ux : x ≡ up_to 10 (drop at part) = ex ∙ rw (ew, el) (line_text part at) in
        let pc : (ended q1 y ≡ ended_by full q1 x) × (left q1 y ≡ left_by full q1 x) = rw (ux, el) (piece part at i q1) in
        let k : take (length h0) q1 ≡ take (length h0) q = ap (take (length h0)) f.holds ∙ take-take (length h0) (length h0) q (omega arith) in
        let al : Alike (length h0) q1 q y = alike (length h0) (omega (arith, a.size)) q1 q y k in
        let e1 : ended p (take l.next part) ≡ e0 ++ ended q y = rw whole (ended_append p (take at part) y) in
        let e2 : left p (take l.next part) ≡ left q y = rw whole (left_append p (take at part) y) in
        let c1 : Counted t o (ended q y) r o' = counted_alike (length h0) t o q1 q y r o' al (rw (← pc.0) at g.counts) in
        let kb : (r.held, h') ≡ kept_by full t.held h x = g.kept in
        let hb : take r.held h' ≡ take (length h0) (left q1 y) = kept_bytes full t.held h x r.held h' kb ∙ rw (f.size, ← pc.1) in
        let rk : kept_in t.held h [] (drop at part) ≡ kept_in r.held h' [] (drop l.next part) = rw el (piece_kept part at i t.held h r.held h' (rw (ux, el) at kb)) in
        record {
          counts = rw e1 (counted_more s o0 e0 t o (ended q y) r o' f.counts c1);
          holds = rw e2 (hb ∙ al.rest);
          size = kept_size full t.held h x r.held h' kb ∙ f.size;
          inside = kept_inside full t.held h x r.held h' kb;
          rest = f.rest ∙ rk;
        }

    pub walk_out : length o ≡ length o0
    walk_out = grown_size o0 s.out o t.out (answers_text s.lines e0) f.counts.text

    pub walk_end : length part ≤ at → Fed s h0 o0 part t h o
    walk_end i =
        let z : drop at part ≡ [] = drop_of_length-le part i in
        record {
          counts = rw (take_all at part i) at f.counts;
          kept = sym (f.rest ∙ rw z (kept_none t.held h f.inside));
        }

pub walk_less : (s : List ℕ) (at : ℕ) (l : Piece) → at < length s → l ≡ next_line s at → length s - l.next < length s - at
walk_less s at l h e = rw e (omega (arith, next_more s at h))

pub ruleset line_laws = (rules, answer_is, take_direct, take_held, take_part)

pub ruleset walk_laws = (rules, walk_start, walk_ready, walk_more, walk_out, walk_end, walk_less)
