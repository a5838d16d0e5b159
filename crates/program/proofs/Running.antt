-- The run: pieces one behind the other write what the whole writes, since lines that end in pieces are the lines of the
-- whole, and the counters and the bytes held stand for the true ones; a run that has ended writes nothing more. Assumes
-- nothing.
use mathlib.Core.Path.{◌≡◌, refl, sym, ap, ◌∙◌}
use mathlib.Core.Bool.{Bool, true, false, cond, ◌&&◌}
use mathlib.Core.List.{List, [], ◌∷◌, ◌++◌, append_assoc, append-nil}
use Prim.Native.Nat.{ℕ, zero, suc, ◌+◌, ◌*◌, ◌≤◌, ◌<◌, min}
use native.Mathlib.Omega.{arith}
use lib.Dec.{eqb}
use lib.IntN.{ℤ, pos, negsuc}
use lib.ListN.{length, take, length-take}
use lib.Seq.{take-take}
use Rattle.buffer.proofs.Growing.{grown_whole, grown_size, grown_bytes}
use Rattle.buffer.specs.Buffer.{grown}
use Rattle.endings.specs.Ending.{is_going, is_complete, after_write}
use Rattle.endings.specs.declared.Ending.{Ending}
use Rattle.endings.specs.declared.Ending.TheVariants.{Going, Complete, Unread, Unwritten}
use Rattle.answers.proofs.Counting.{count_again, count_fixed, answers_counted}
use Rattle.answers.proofs.Feeding.{cue_alike, Alike, alike}
use Rattle.program.proofs.Fitting.{piece_fits, end_fits, heading_fits}
use Rattle.program.proofs.Resting.{rest, rest_none, rest_more, rest_all, open_more}
use Rattle.program.proofs.Totalling.{text_total}
use Rattle.answers.proofs.Finishing.{take_clamped}
use Rattle.answers.specs.Text.{heading}
use Rattle.answers.specs.Pieces.{counted, answers_text, goods, totals, ended, left, open_line, end_text, kept_in, ended_in}
use Rattle.program.specs.Program.{program_text, open_text, total_in}
use Rattle.turns.specs.Turn.{Stage, stage, telling, fed, finished, silent, read_by, after_read, wrote, told, begun}
use Rattle.program.specs.Run.{Event, reading, turned, ran, output, input, end_by, met_end, all_done, ending_by, ending_of, Roomy, opened, whole_output, RunWrites}
use Rattle.answers.specs.declared.lines.State.{State}

-- ---- a state stands for the true counts and the true line

record Stands (s : State) (h : List ℕ) (n k : ℕ) (q : List ℕ) : Type 0 where
  lines : s.lines ≡ counted n
  ok : s.ok ≡ counted k
  held : take (length h) (take s.held h) ≡ take (length h) q
  size : length h ≡ 65537

totals_stand : (n n' k k' : ℕ) → counted n ≡ counted n' → counted k ≡ counted k' → totals n k ≡ totals n' k'
unfolding totals
totals_stand n n' k k' e f = rw (e, f)

-- an empty list begins as no other does
none : (m : ℕ) (l : List ℕ) → 0 < m → 0 < length l → take m [] ≡ take m l → ⊥
none m l h k e = let f : length (take m []) ≡ length (take m l) = ap length e in omega (arith, rw (length-take m [], length-take m l) at f)

module _ (m : ℕ) (big : 65536 < m) where
  last_alike : (q r : List ℕ) → take m q ≡ take m r → (n : ℕ)
      → (answers_text n (open_line q) ≡ answers_text n (open_line r)) × ((length (open_line q) ≡ length (open_line r)) × (goods (open_line q) ≡ goods (open_line r)))
  unfolding open_line answers_text goods
  last_alike [] [] e n = (refl, (refl, refl))
  last_alike [] (c ∷ r) e n = absurd (none m (c ∷ r) (omega arith) (omega arith) e)
  last_alike (c ∷ q) [] e n = absurd (none m (c ∷ q) (omega arith) (omega arith) (sym e))
  last_alike (c ∷ q) (d ∷ r) e n = let a = cue_alike m big (c ∷ q) (d ∷ r) e in (rw a, (refl, rw a))

end_stands : (s : State) (h : List ℕ) (n k : ℕ) (q : List ℕ) → Stands s h n k q → end_text s.lines s.ok (take s.held h) ≡ end_text n k q
unfolding end_text
end_stands s h n k q w =
    let p : List ℕ = take s.held h in
    let a = last_alike (length h) (omega (arith, w.size)) p q w.held n in
    let b : answers_text s.lines (open_line p) ≡ answers_text n (open_line p) = answers_counted s.lines n (open_line p) (sym (count_fixed n s.lines w.lines) ∙ w.lines) in
    let c : counted (s.lines + length (open_line p)) ≡ counted (n + length (open_line q)) = count_again n (length (open_line p)) s.lines w.lines ∙ rw a.1.0 in
    let d : counted (s.ok + goods (open_line p)) ≡ counted (k + goods (open_line q)) = count_again k (goods (open_line p)) s.ok w.ok ∙ rw a.1.1 in
    rw (b, a.0, totals_stand (s.lines + length (open_line p)) (n + length (open_line q)) (s.ok + goods (open_line p)) (k + goods (open_line q)) c d)

-- what is held behind a piece is what is left of it
kept_left : (d p : List ℕ) (k : ℕ) (h : List ℕ)
    → (take (kept_in k h p d).0 (kept_in k h p d).1 ≡ take (length h) (left (take k h ++ p) d)) × (length (kept_in k h p d).1 ≡ length h)
unfolding kept_in left
kept_left [] p k h = (grown_bytes h k (grown h k p).1 (grown h k p).0 p refl, grown_size h k (grown h k p).1 (grown h k p).0 p refl)
kept_left (c ∷ cs) p k h = go (eqb c 10) (λ (f : List ℕ). kept_left cs [] 0 f) (kept_left cs (p ++ (c ∷ [])) k h)
  where
    first : (b : Bool) → length (cond b h (grown h k p).1) ≡ length h
    first true = refl
    first false = grown_size h k (grown h k p).1 (grown h k p).0 p refl

    go : (b : Bool)
        → ((f : List ℕ) → (take (kept_in 0 f [] cs).0 (kept_in 0 f [] cs).1 ≡ take (length f) (left [] cs)) × (length (kept_in 0 f [] cs).1 ≡ length f))
        → (take (kept_in k h (p ++ (c ∷ [])) cs).0 (kept_in k h (p ++ (c ∷ [])) cs).1 ≡ take (length h) (left (take k h ++ (p ++ (c ∷ []))) cs))
        × (length (kept_in k h (p ++ (c ∷ [])) cs).1 ≡ length h)
        → (take (cond b (kept_in 0 (cond (eqb k 0) h (grown h k p).1) [] cs) (kept_in k h (p ++ (c ∷ [])) cs)).0
        (cond b (kept_in 0 (cond (eqb k 0) h (grown h k p).1) [] cs) (kept_in k h (p ++ (c ∷ [])) cs)).1
        ≡ take (length h) (cond b (left [] cs) (left ((take k h ++ p) ++ (c ∷ [])) cs)))
        × (length (cond b (kept_in 0 (cond (eqb k 0) h (grown h k p).1) [] cs) (kept_in k h (p ++ (c ∷ [])) cs)).1 ≡ length h)
    go true x y =
        let z = x (cond (eqb k 0) h (grown h k p).1) in
        (z.0 ∙ ap (λ (j : ℕ). take j (left [] cs)) (first (eqb k 0)), z.1 ∙ first (eqb k 0))
    go false x y = (y.0 ∙ ap (λ (l : List ℕ). take (length h) (left l cs)) (sym (append_assoc (take k h) p (c ∷ []))), y.1)

module _ (s : State) (h : List ℕ) (n k : ℕ) (q : List ℕ) (w : Stands s h n k q) (o : List ℕ) where
  abbrev p : List ℕ
  p = take s.held h

  module _ (part : List ℕ) where
    same : Alike (length h) p q part
    same = alike (length h) (omega (arith, w.size)) p q part w.held

    fed_size : length (fed part s h o).out ≡ length o
    unfolding fed stage
    fed_size = grown_size o 0 _ _ (answers_text s.lines (ended_in s h part)) refl

    fed_stands : Stands (fed part s h o).run.state (fed part s h o).hold (n + length (ended q part)) (k + goods (ended q part)) (left q part)
    unfolding fed stage ended_in
    fed_stands =
        let l = ended p part in
        let c = kept_left part [] (min s.held (length h)) h in
        let e : take (min s.held (length h)) h ++ [] ≡ p = append-nil (take (min s.held (length h)) h) ∙ take_clamped s.held h in
        let b : take (kept_in (min s.held (length h)) h [] part).0 (kept_in (min s.held (length h)) h [] part).1 ≡ take (length h) (left p part) =
        c.0 ∙ ap (λ (x : List ℕ). take (length h) (left x part)) e in
        record {
          lines = count_again n (length l) s.lines w.lines ∙ ap (λ (x : ℕ). counted (n + x)) same.count;
          ok = count_again k (goods l) s.ok w.ok ∙ ap (λ (x : ℕ). counted (k + x)) same.goodness;
          held = rw c.1 (ap (take (length h)) b ∙ take-take (length h) (length h) (left p part) (omega arith) ∙ same.rest);
          size = c.1 ∙ w.size;
        }

    fed_told : 36 * length part ≤ length o → told (fed part s h o) ≡ answers_text n (ended q part)
    unfolding told fed stage ended_in
    fed_told room =
        grown_whole o _ _ (answers_text s.lines (ended p part)) refl (omega (arith, piece_fits s.lines p part))
        ∙ same.text s.lines
        ∙ answers_counted s.lines n (ended q part) (sym (count_fixed n s.lines w.lines) ∙ w.lines)

  finished_told : 116 ≤ length o → told (finished s h o) ≡ end_text n k q
  unfolding told finished stage telling
  finished_told room =
      grown_whole o _ _ (end_text s.lines s.ok p) refl (omega (arith, end_fits s.lines s.ok p)) ∙ end_stands s h n k q w

-- ---- a run that has ended writes nothing more and reads nothing more

after_ended : (done : Bool) (e : Ending) → is_going e ≡ false → is_going (after_write done e) ≡ false
unfolding after_write is_going
after_ended true e h = h
after_ended false e h = refl

module _ (e : Event) (g : Stage) (h : is_going g.run.ending ≡ false) where
  ended_reading : reading e g ≡ silent g.run.ending g.run.state g.hold g.out
  unfolding after_read
  ended_reading = rw h

  ended_ending : (reading e g).run.ending ≡ g.run.ending
  unfolding silent stage
  ended_ending = ap (λ (x : Stage). x.run.ending) ended_reading

  ended_told : told (reading e g) ≡ []
  unfolding told silent stage telling
  ended_told = ap told ended_reading

  turned_ended : is_going (turned e g).run.ending ≡ false
  unfolding wrote
  turned_ended = after_ended e.done (reading e g).run.ending (rw ended_ending h)

idle_output : (es : List Event) (g : Stage) → is_going g.run.ending ≡ false → output es g ≡ []
idle_output [] g h = refl
idle_output (e ∷ es) g h = rw (ended_told e g h) (idle_output es (turned e g) (turned_ended e g h))

input_none : (es : List Event) → input false es ≡ []
input_none [] = refl
input_none (e ∷ es) = refl

end_none : (es : List Event) → met_end false es ≡ false
end_none [] = refl
end_none (e ∷ es) = refl

-- ---- what the turns write from a state on

abbrev going : State → List ℕ → List ℕ → Stage
going s h o = record { run = record { state = s; ending = Going }; hold = h; out = o }

abbrev Written : List Event → State → List ℕ → List ℕ → ℕ → ℕ → List ℕ → Type 0
Written es s h o n k q =
    output es (going s h o) ≡ cond (met_end true es) (rest n k q (input true es)) (answers_text n (ended q (input true es)))

roomy_end : (m : ℕ) (es : List Event) → Roomy m es → 116 ≤ m
roomy_end m [] r = r
roomy_end m (e ∷ es) r = roomy_end m es r.1

cond_append : (b : Bool) (x y z : List ℕ) → x ++ cond b y z ≡ cond b (x ++ y) (x ++ z)
cond_append true x y z = refl
cond_append false x y z = refl

cond_same : (b : Bool) (x x' y y' : List ℕ) → x ≡ x' → y ≡ y' → cond b x y ≡ cond b x' y'
cond_same true x x' y y' e f = e
cond_same false x x' y y' e f = f

module _ (es : List Event) (ih : (s : State) (h o : List ℕ) (n k : ℕ) (q : List ℕ) → Stands s h n k q → Roomy (length o) es → Written es s h o n k q)
    (s : State) (h o : List ℕ) (n k : ℕ) (q : List ℕ) (w : Stands s h n k q) (piece : List ℕ) (room : 36 * length piece ≤ length o) (more : Roomy (length o) es) where
  -- a failed read
  step_failed : (j : ℕ) (d : Bool) → Written (record { piece = piece; got = negsuc j; done = d } ∷ es) s h o n k q
  unfolding after_read read_by silent stage told telling wrote is_going is_complete ended answers_text
  step_failed j d =
      let g : Stage = record { run = record { state = record { lines = s.lines; ok = s.ok; held = s.held; out = 0 }; ending = after_write d Unread }; hold = h; out = o } in
      let f : is_going (after_write d Unread) ≡ false = after_ended d Unread refl in
      idle_output es g f

  -- the input's end
  step_end : (d : Bool) → Written (record { piece = piece; got = pos 0; done = d } ∷ es) s h o n k q
  unfolding after_read read_by finished stage wrote is_going is_complete
  step_end d =
      let g : Stage = turned (record { piece = piece; got = pos 0; done = d }) (going s h o) in
      let f : is_going g.run.ending ≡ false = after_ended d Complete refl in
      let t : told (finished s h o) ≡ end_text n k q = finished_told s h n k q w o (roomy_end (length o) es more) in
      rw (idle_output es g f) (append-nil (told (finished s h o)) ∙ t ∙ sym (rest_none n k q))

  module _ (j : ℕ) where
    abbrev part : List ℕ
    part = take (suc j) piece

    part_told : told (fed part s h o) ≡ answers_text n (ended q part)
    part_told =
        let l : length part ≤ length piece = rw length-take (omega arith) in
        fed_told s h n k q w o part (omega arith)

    -- a piece whose answers were written
    step_piece : Written (record { piece = piece; got = pos (suc j); done = true } ∷ es) s h o n k q
    unfolding after_read read_by fed stage wrote after_write is_going is_complete
    step_piece =
        let f : Stage = fed part s h o in
        let g : Stage = going f.run.state f.hold f.out in
        let a : List ℕ = answers_text n (ended q part) in
        let n2 : ℕ = n + length (ended q part) in
        let k2 : ℕ = k + goods (ended q part) in
        let q2 : List ℕ = left q part in
        let m : Roomy (length f.out) es = rw (fed_size s h n k q w o part) more in
        let i : Written es f.run.state f.hold f.out n2 k2 q2 = ih f.run.state f.hold f.out n2 k2 q2 (fed_stands s h n k q w o part) m in
        let x : List ℕ = input true es in
        ap (λ (l : List ℕ). l ++ output es g) part_told
        ∙ ap (λ (l : List ℕ). a ++ l) i
        ∙ cond_append (met_end true es) a (rest n2 k2 q2 x) (answers_text n2 (ended q2 x))
        ∙ sym (cond_same (met_end true es) _ _ _ _ (rest_more n k q part x) (open_more n q part x))

    -- a piece whose answers could not be written
    step_unwritten : Written (record { piece = piece; got = pos (suc j); done = false } ∷ es) s h o n k q
    unfolding after_read read_by fed stage wrote after_write is_going is_complete
    step_unwritten =
        let g : Stage = turned (record { piece = piece; got = pos (suc j); done = false }) (going s h o) in
        rw (idle_output es g refl, input_none es, end_none es, append-nil part) (append-nil (told (fed part s h o)) ∙ part_told)

turns_write : (es : List Event) (s : State) (h o : List ℕ) (n k : ℕ) (q : List ℕ) → Stands s h n k q → Roomy (length o) es → Written es s h o n k q
unfolding ended answers_text
turns_write [] s h o n k q w r = refl
turns_write (e ∷ es) s h o n k q w r =
    step (λ (s' : State) (h' o' : List ℕ) (n' k' : ℕ) (q' : List ℕ) (w' : Stands s' h' n' k' q') (r' : Roomy (length o') es). turns_write es s' h' o' n' k' q' w' r')
    e.got e.done
  where
    step : ((s' : State) (h' o' : List ℕ) (n' k' : ℕ) (q' : List ℕ) → Stands s' h' n' k' q' → Roomy (length o') es → Written es s' h' o' n' k' q')
        → (z : ℤ) (d : Bool) → Written (record { piece = e.piece; got = z; done = d } ∷ es) s h o n k q
    step ih (negsuc j) d = step_failed es ih s h o n k q w e.piece r.0 r.1 j d
    step ih (pos zero) d = step_end es ih s h o n k q w e.piece r.0 r.1 d
    step ih (pos (suc j)) true = step_piece es ih s h o n k q w e.piece r.0 r.1 j
    step ih (pos (suc j)) false = step_unwritten es ih s h o n k q w e.piece r.0 r.1 j

-- ---- how a run ends

cond_same_ending : (b : Bool) (e : Ending) → cond b e e ≡ e
cond_same_ending true e = refl
cond_same_ending false e = refl

turned_is : (e : Event) (g : Stage) → is_going g.run.ending ≡ false → (turned e g).run.ending ≡ cond e.done g.run.ending Unwritten
unfolding wrote after_write
turned_is e g h = rw (ended_ending e g h)

-- a run that has ended stays so, but for a failed write
ended_stays : (es : List Event) (g : Stage) → is_going g.run.ending ≡ false → (ran es g).run.ending ≡ cond (all_done es) g.run.ending Unwritten
ended_stays [] g h = refl
ended_stays (e ∷ es) g h =
    ended_stays es (turned e g) (turned_ended e g h)
    ∙ ap (λ (x : Ending). cond (all_done es) x Unwritten) (turned_is e g h)
    ∙ go e.done
  where
    go : (d : Bool) → cond (all_done es) (cond d g.run.ending Unwritten) Unwritten ≡ cond (d && all_done es) g.run.ending Unwritten
    go true = refl
    go false = cond_same_ending (all_done es) Unwritten

unwritten_stays : (es : List Event) (g : Stage) → g.run.ending ≡ Unwritten → (ran es g).run.ending ≡ Unwritten
unfolding is_going
unwritten_stays es g u =
    let h : is_going g.run.ending ≡ false = ap is_going u in
    ended_stays es g h ∙ ap (λ (x : Ending). cond (all_done es) x Unwritten) u ∙ cond_same_ending (all_done es) Unwritten

ending_none : (es : List Event) → ending_of false es ≡ Unwritten
ending_none [] = refl
ending_none (e ∷ es) = refl

module _ (es : List Event) (piece : List ℕ) (s : State) (h o : List ℕ)
    (ih : (s' : State) (h' o' : List ℕ) → (ran es (going s' h' o')).run.ending ≡ ending_of true es) where
  turn_ending : (z : ℤ) (d : Bool)
      → (ran (record { piece = piece; got = z; done = d } ∷ es) (going s h o)).run.ending ≡ ending_of true (record { piece = piece; got = z; done = d } ∷ es)
  unfolding after_read read_by fed finished silent stage wrote after_write is_going
  turn_ending (negsuc j) true = ended_stays es (turned (record { piece = piece; got = negsuc j; done = true }) (going s h o)) refl
  turn_ending (negsuc j) false = unwritten_stays es (turned (record { piece = piece; got = negsuc j; done = false }) (going s h o)) refl
  turn_ending (pos zero) true = ended_stays es (turned (record { piece = piece; got = pos 0; done = true }) (going s h o)) refl
  turn_ending (pos zero) false = unwritten_stays es (turned (record { piece = piece; got = pos 0; done = false }) (going s h o)) refl
  turn_ending (pos (suc j)) true = let f : Stage = fed (take (suc j) piece) s h o in ih f.run.state f.hold f.out
  turn_ending (pos (suc j)) false =
      unwritten_stays es (turned (record { piece = piece; got = pos (suc j); done = false }) (going s h o)) refl ∙ sym (ending_none es)

going_ending : (es : List Event) (s : State) (h o : List ℕ) → (ran es (going s h o)).run.ending ≡ ending_of true es
going_ending [] s h o = refl
going_ending (e ∷ es) s h o = turn_ending es e.piece s h o (λ (s' : State) (h' o' : List ℕ). going_ending es s' h' o') e.got e.done

-- complete exactly if the end was met and every write took all
complete_cond : (b : Bool) → is_complete (cond b Complete Unwritten) ≡ b
unfolding is_complete
complete_cond true = refl
complete_cond false = refl

complete_is : (done : Bool) (es : List Event) → is_complete (ending_of done es) ≡ (met_end done es && (done && all_done es))
unfolding is_complete
complete_is true [] = refl
complete_is false [] = refl
complete_is false (e ∷ es) = refl
complete_is true (e ∷ es) = go e.got e.done (λ (d : Bool). complete_is d es)
  where
    all : (b : Bool) (x : Ending) → is_complete x ≡ false → is_complete (cond b x Unwritten) ≡ false
    all true x h = h
    all false x h = refl

    go : (z : ℤ) (d : Bool) → ((c : Bool) → is_complete (ending_of c es) ≡ (met_end c es && (c && all_done es)))
        → is_complete (ending_by z (d && all_done es) (ending_of d es)) ≡ (end_by z (met_end d es) && (d && all_done es))
    go (negsuc j) d ih = all (d && all_done es) Unread refl
    go (pos zero) d ih = complete_cond (d && all_done es)
    go (pos (suc j)) d ih = ih d

-- ---- a whole run

abbrev start : List ℕ → State
start o = (begun o).0.state

begun_told : (o : List ℕ) → 116 ≤ length o → take (begun o).0.state.out (begun o).1 ≡ heading
unfolding begun
begun_told o r = grown_whole o _ _ heading refl (omega (arith, heading_fits))

pub begun_size : (o : List ℕ) → length (begun o).1 ≡ length o
unfolding begun
begun_size o = grown_size o 0 _ _ heading refl

begun_stands : (h o : List ℕ) → length h ≡ 65537 → Stands (start o) h 0 0 []
unfolding begun counted
begun_stands h o e = record { lines = refl; ok = refl; held = refl; size = e }

module _ (h o : List ℕ) (es : List Event) where
  run_text : (done : Bool) → length h ≡ 65537 → Roomy (length o) es
      → whole_output done es h o ≡ cond (met_end done es) (program_text (input done es)) (open_text (input done es))
  unfolding wrote after_write begun open_text is_going is_complete ended answers_text
  run_text true l r =
      let g : Stage = opened true h o in
      let i : Written es (start o) h (begun o).1 0 0 [] = turns_write es (start o) h (begun o).1 0 0 [] (begun_stands h o l) (rw (begun_size o) r) in
      ap (λ (x : List ℕ). x ++ output es g) (begun_told o (roomy_end (length o) es r))
      ∙ ap (λ (x : List ℕ). heading ++ x) i
      ∙ cond_append (met_end true es) heading (rest 0 0 [] (input true es)) (answers_text 0 (ended [] (input true es)))
      ∙ cond_same (met_end true es) _ _ _ _ (rest_all (input true es)) refl
  run_text false l r =
      let g : Stage = opened false h o in
      rw (idle_output es g refl, input_none es, end_none es) (ap (λ (x : List ℕ). x ++ []) (begun_told o (roomy_end (length o) es r)))

  run_ending : (done : Bool) → (ran es (opened done h o)).run.ending ≡ ending_of done es
  unfolding wrote after_write begun
  run_ending true = going_ending es (start o) h (begun o).1
  run_ending false = unwritten_stays es (opened false h o) refl ∙ sym (ending_none es)

pub run_writes : RunWrites
run_writes done es h o l r =
    let t = run_text h o es done l r in
    record {
      text = t;
      total = ap (λ (x : List ℕ). total_in (ended [] x)) t ∙ text_total (met_end done es) (input done es);
      ending = run_ending h o es done;
      complete = complete_is done es;
    }
