-- The loop makes a run of the turns, and `run_writes` says what the run writes. Assumes nothing.
use mathlib.Core.Path.{◌≡◌, refl, sym, ap, ◌∙◌}
use mathlib.Core.Bool.{Bool, true, false, true≢false}
use mathlib.Core.List.{List, [], ◌∷◌, ◌++◌}
use Prim.Native.Nat.{ℕ, ◌+◌, ◌*◌, ◌≤◌, ◌<◌}
use native.Mathlib.Omega.{arith}
use borrow.Author.Rules.{rules}
use lib.IntN.{ℤ}
use lib.ListN.{length, take, length-append}
use Rattle.desk_io.specs.Io.{Moved}
use Rattle.strlib.proofs.Pointing.{text_front}
use Rattle.strlib.specs.Pointer.{pointer, text_of}
use Rattle.strlib.specs.declared.StrPtr.{StrPtr}
use Rattle.endings.specs.Ending.{is_going}
use Rattle.endings.specs.declared.Ending.{Ending}
use Rattle.endings.specs.declared.Ending.TheVariants.{Unopened}
use Rattle.program.proofs.Running.{begun_size, run_writes}
use Rattle.turns.specs.Turn.{Stage, stage, after_read, wrote, begun}
use Rattle.program.specs.Run.{Event, turned, ran, answer_room, Roomy}
use Rattle.turns.specs.declared.Run.{Run}
use Rattle.cue_answers.specs.Loop.{Room, Tried, from, Possible, Turned, Going, TurnsMade, AllTurns, Answering, OfFile}

-- ---- a write and a turn

pub tried_is : (run r : Run) (done : Bool) (out x : List ℕ) (w : StrPtr) → w ≡ pointer 0 run.state.out run.state.out → x ≡ text_of out w
    → (length x ≡ 0 → done ≡ true) → r ≡ wrote done run → Tried run r
tried_is run r done out x w ew ex f e =
    record {
      done = done;
      quiet = λ z. f (ap length (ex ∙ ap (text_of out) ew ∙ text_front out run.state.out run.state.out ∙ ap (λ (k : ℕ). take k out) z));
      is = e;
    }

pub turn_is : (run : Run) (h o piece : List ℕ) (got z : ℤ) (l : ℕ) (t : Run) (h' o' : List ℕ) (r : Run) → z ≡ got → length piece ≡ l → Moved l got
    → stage t h' o' ≡ after_read z piece run h o → Tried t r → Turned run piece h o r h' o'
unfolding stage
turn_is run h o piece got z l t h' o' r ez el m e w =
    let a : from t h' o' ≡ after_read got piece run h o = e ∙ ap (λ (x : ℤ). after_read x piece run h o) ez in
    record {
      event = record { piece = piece; got = got; done = w.done };
      read = refl;
      possible = record { size = refl; moved = rw el m; quiet = λ q. w.quiet (ap (λ (g : Stage). g.run.state.out) a ∙ q) };
      is = rw w.is (ap (λ (x : Stage). from (wrote w.done x.run) x.hold x.out) a);
    }

-- ---- turns one behind the other

ran_behind : (es : List Event) (e : Event) (g : Stage) → ran (es ++ (e ∷ [])) g ≡ turned e (ran es g)
ran_behind [] e g = refl
ran_behind (d ∷ es) e g = ran_behind es e (turned d g)

room_behind : (n : ℕ) (es : List Event) (e : Event) → Roomy n es → answer_room * length e.piece ≤ n → Roomy n (es ++ (e ∷ []))
room_behind n [] e r h = (h, r)
room_behind n (d ∷ es) e r h = (r.0, room_behind n es e r.1 h)

going_behind : (n : ℕ) (es : List Event) (e : Event) (g : Stage) → Going n es g → is_going (ran es g).run.ending ≡ true → Possible n (ran es g) e → Going n (es ++ (e ∷ [])) g
going_behind n [] e g w b p = (b, (p, tt))
going_behind n (d ∷ es) e g w b p = (w.0, (w.1.0, going_behind n es e (turned d g) w.1.1 b p))

pub turns_start : (run : Run) (p h o : List ℕ) → Room p o → TurnsMade run (length p) h o 18446744073709551615 run h o
unfolding stage
turns_start run p h o a = record { events = []; went = tt; room = a.last; count = refl; is = refl }

pub turns_more : (run : Run) (p h o : List ℕ) (spare : ℕ) (r : Run) (h' o' : List ℕ) (b : Bool) (piece : List ℕ) (r'' : Run) (h'' o'' : List ℕ) → Room p o
    → TurnsMade run (length p) h o spare r h' o' → b ≡ is_going r.ending → b ≡ true → Turned r piece h' o' r'' h'' o'' → length piece ≡ length p
    → (left : ℕ) → left + 1 ≡ spare → TurnsMade run (length p) h o left r'' h'' o''
unfolding stage
turns_more run p h o spare r h' o' b piece r'' h'' o'' a f eb y t l left k =
    let e : Event = t.event in
    let n : length e.piece ≡ length p = ap length t.read ∙ l in
    let w : is_going (ran f.events (from run h o)).run.ending ≡ true = ap (λ (x : Stage). is_going x.run.ending) (sym f.is) ∙ sym eb ∙ y in
    let q : Possible (length p) (ran f.events (from run h o)) e = rw (l, f.is) at t.possible in
    record {
      events = f.events ++ (e ∷ []);
      went = going_behind (length p) f.events e (from run h o) f.went w q;
      room = room_behind (length o) f.events e f.room (rw n a.answers);
      count = rw length-append (omega (arith, f.count));
      is = t.is ∙ ap (turned e) f.is ∙ sym (ran_behind f.events e (from run h o));
    }

module _ (run : Run) (n : ℕ) (h o : List ℕ) (spare : ℕ) (r : Run) (h' o' : List ℕ) (f : TurnsMade run n h o spare r h' o') where
  pub turns_ended : (b : Bool) → b ≡ is_going r.ending → b ≡ false → AllTurns run n h o r h' o'
  turns_ended b e z = record { spare = spare; turns = f; over = λ (y : is_going r.ending ≡ true). absurd (true≢false (sym y ∙ sym e ∙ z)) }

  pub turns_over : spare ≤ 0 → AllTurns run n h o r h' o'
  turns_over z = record { spare = spare; turns = f; over = λ y. omega arith }

pub room_kept : (p p' o o' : List ℕ) → Room p o → length p' ≡ length p → length o' ≡ length o → Room p' o'
room_kept p p' o o' a e f = record { some = rw e a.some; answers = rw (e, f) a.answers; last = rw f a.last }

pub ruleset loop_laws = (rules, tried_is, turn_is, turns_start, turns_more, turns_ended, turns_over, room_kept)

-- ---- a whole run

pub answering_is : (o o' p : List ℕ) (b r r' : Run) (h h' o'' : List ℕ) → 1 ≤ length p → length h ≡ 65537 → (b, o') ≡ begun o → Tried b r
    → AllTurns r (length p) h o' r' h' o'' → Answering o r'.ending o''
answering_is o o' p b r r' h h' o'' s l e w f =
    let eb : b ≡ (begun o).0 = ap (λ (z : Run × List ℕ). z.0) e in
    let eo : o' ≡ (begun o).1 = ap (λ (z : Run × List ℕ). z.1) e in
    let er : r ≡ wrote w.done (begun o).0 = w.is ∙ ap (wrote w.done) eb in
    let g : AllTurns (wrote w.done (begun o).0) (length p) h (begun o).1 r' h' o'' = rw (er, eo) at f in
    record {
      hold = h;
      done = w.done;
      run = r';
      hold' = h';
      size = length p;
      some = s;
      all = g;
      ending = refl;
      writes = run_writes w.done g.turns.events h o l (rw (begun_size o) at g.turns.room);
    }

pub file_unopened : (o : List ℕ) → OfFile o Unopened o
file_unopened o = OfFile.unopened refl refl

pub file_answered : (o : List ℕ) (e : Ending) (o' : List ℕ) → Answering o e o' → OfFile o e o'
file_answered o e o' w = OfFile.answered w

pub ruleset answer_laws = (rules, answering_is, file_unopened, file_answered)
