-- Laws of a piece that is fed to a state made anew, and of the input's end. Assumes nothing.
use mathlib.Core.Path.{◌≡◌, refl, sym, ap, ◌∙◌}
use mathlib.Core.List.{List, [], ◌∷◌, append-nil}
use Prim.Native.Nat.{ℕ, ◌+◌, ◌-◌, ◌≤◌, ◌<◌, min}
use native.Mathlib.Nat.{add-zero}
use native.Mathlib.Omega.{arith}
use borrow.Author.Rules.{rules}
use lib.ListN.{length, take, length-take}
use lib.Seq.{take_all}
use mir.Syntax.{w64}
use mir.Val.{Fits}
use Rattle.strlib.proofs.Pointing.{either, text_front}
use Rattle.strlib.specs.Pointer.{pointer, text_of}
use Rattle.strlib.specs.declared.StrPtr.{StrPtr}
use Rattle.desk.specs.Cue.{cue_rule}
use Rattle.buffer.proofs.Growing.{grow_more}
use Rattle.buffer.specs.Buffer.{grown}
use Rattle.answers.proofs.Counting.{count_fits}
use Rattle.answers.specs.Text.{answer_text, total_text}
use Rattle.answers.specs.Pieces.{counted, good_of, goods, totals, answers_text, ended, open_line, end_text, kept_in, ended_in, fed_by}
use Rattle.answers.specs.Inner.{Answered, Ready, Fed}
use Rattle.answers.specs.declared.lines.State.{State}

-- ---- a piece is fed to a state that is made anew

pub take_clamped : (k : ℕ) (h : List ℕ) → take (min k (length h)) h ≡ take k h
take_clamped k h =
    either k (length h)
    (λ (l : k ≤ length h). let e : min k (length h) ≡ k = omega arith in rw e)
    (λ (l : length h < k).
    let e : min k (length h) ≡ length h = omega arith in
    rw e (take_all (length h) h (omega arith) ∙ sym (take_all k h (omega arith))))

module _ (s : State) (h o : List ℕ) (k : ℕ) (l : length h ≡ 65537) where
  pub anew_ready : (j : ℕ) → k ≡ min j 65537 → Fits w64 s.lines → Fits w64 s.ok → Ready h o (record { lines = s.lines; ok = s.ok; held = k; out = 0 })
  anew_ready j e f g = record { size = l; held = omega arith; inside = omega arith; lines = count_fits s.lines f; ok = count_fits s.ok g }

  pub fed_is : k ≡ min s.held 65537 → (part : List ℕ) (r : State) (h' o' : List ℕ) → Fed (record { lines = s.lines; ok = s.ok; held = k; out = 0 }) h o part r h' o'
      → (r, (h', o')) ≡ fed_by part s h o
  unfolding ended_in
  fed_is e part r h' o' f =
      let m : k ≡ min s.held (length h) = omega arith in
      let c : take k h ≡ take s.held h = ap (λ (j : ℕ). take j h) m ∙ take_clamped s.held h in
      let a : r.lines ≡ counted (s.lines + length (ended (take s.held h) part)) = rw c at f.counts.lines in
      let b : r.ok ≡ counted (s.ok + goods (ended (take s.held h) part)) = rw c at f.counts.ok in
      let g : (r.out, o') ≡ grown o 0 (answers_text s.lines (ended (take s.held h) part)) = rw c at f.counts.text in
      let g0 : r.out ≡ (grown o 0 (answers_text s.lines (ended (take s.held h) part))).0 = ap (λ (z : ℕ × List ℕ). z.0) g in
      let g1 : o' ≡ (grown o 0 (answers_text s.lines (ended (take s.held h) part))).1 = ap (λ (z : ℕ × List ℕ). z.1) g in
      let q : (r.held, h') ≡ kept_in (min s.held (length h)) h [] part = rw m at f.kept in
      let q0 : r.held ≡ (kept_in (min s.held (length h)) h [] part).0 = ap (λ (z : ℕ × List ℕ). z.0) q in
      let q1 : h' ≡ (kept_in (min s.held (length h)) h [] part).1 = ap (λ (z : ℕ × List ℕ). z.1) q in
      rw (← a, ← b, ← g0, ← g1, ← q0, ← q1)

pub ruleset feed_laws = (rules, anew_ready, fed_is)

-- ---- the input's end

full_last : (q : List ℕ) → 0 < length q → open_line q ≡ q ∷ []
unfolding open_line
full_last [] h = absurd (omega (arith, h))
full_last (c ∷ cs) h = refl

module _ (hold o : List ℕ) (s : State) where
  pub end_none : (o' : List ℕ) (r : ℕ) → Fits w64 s.lines → Fits w64 s.ok → s.held ≤ 0 → (r, o') ≡ grown o 0 (total_text s.lines s.ok (s.lines - s.ok))
      → (r, o') ≡ grown o 0 (end_text s.lines s.ok (take s.held hold))
  unfolding end_text open_line answers_text goods totals
  end_none o' r f k z g =
      let y : s.held ≡ 0 = omega arith in
      let e : take s.held hold ≡ [] = ap (λ (j : ℕ). take j hold) y in
      rw (e, add-zero s.lines, add-zero s.ok, ← (count_fits s.lines f), ← (count_fits s.ok k)) g

  pub end_last : (o1 o' x : List ℕ) (t : State) (w : StrPtr) (r : ℕ) → length hold ≡ 65537 → 0 < s.held → w ≡ pointer 0 s.held s.held → x ≡ text_of hold w
      → Answered (record { lines = s.lines; ok = s.ok; held = 0; out = 0 }) o (cue_rule x 64 128) t o1
      → (r, o') ≡ grown o1 t.out (total_text t.lines t.ok (t.lines - t.ok)) → (r, o') ≡ grown o 0 (end_text s.lines s.ok (take s.held hold))
  unfolding end_text answers_text goods totals
  end_last o1 o' x t w r size h ew ev a g =
      let ex : x ≡ take s.held hold = ev ∙ ap (text_of hold) ew ∙ text_front hold s.held s.held in
      let i : 0 < length x = rw (ex, length-take) (omega arith) in
      let l : open_line x ≡ x ∷ [] = full_last x i in
      let m = grow_more o 0 o1 t.out o' r (answer_text (counted (s.lines + 1)) (cue_rule x 64 128)) (total_text t.lines t.ok (t.lines - t.ok)) a.text g in
      rw (← ex, l, append-nil (answer_text (counted (s.lines + 1)) (cue_rule x 64 128)), add-zero (good_of (cue_rule x 64 128))) (rw (a.lines, a.ok) at m)

pub ruleset end_laws = (rules, end_none, end_last)
