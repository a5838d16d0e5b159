-- What a run carries is never refused: it rests in one of its states with a note that it can make. So bursts within the
-- limits are refused exactly if the whole run is, and over a translated table never. Assumes nothing.
use Prim.Native.Nat.{ℕ, zero, suc, ◌+◌, ◌≤◌, ◌<◌}
use mathlib.Core.Path.{◌≡◌, refl, sym, ap, ◌∙◌}
use mathlib.Core.Bool.{true, false}
use mathlib.Core.List.{List, [], ◌∷◌, ◌++◌}
use native.Mathlib.Omega.{arith}
use lib.Dec.{leb, eqb}
use lib.ListN.{length, length-append, take}
use lib.Seq.{take_all}
use borrow.Author.Tests.{le-leb, lt-ltb, ne_eqb, eqb-false}
use Rattle.strlib.proofs.Pointing.{fits_is, good_is, is_good, text_length}
use Rattle.strlib.proofs.Refusing.{bool_case, and_both}
use Rattle.strlib.proofs.Texts.{characters_append}
use Rattle.strlib.specs.Pointer.{pointer, store_fits, good_in, text_of, characters, readable, joined}
use Rattle.strlib.specs.Refusal.{Outcome, refused, gives}
use Rattle.strlib.specs.declared.StrPtr.{StrPtr}
use Rattle.search.specs.Search.{Result, nothing, found, plain_search}
use Rattle.table.proofs.Pieces.{walk_append, run_is, again, in_walk, ReadsAll, all_enter, all_walk, NotedIn, WellNoted, well_enter, well_walk}
use Rattle.table.proofs.Running.{sized_is, run_plain, run_unsized}
use Rattle.table.proofs.Walking.{walk_none, walk_bad, RestsIn, in_enter}
use Rattle.table.specs.Run.{size_of, is_sized, Walk, bad, rests, enter, walk, run_over, run_rule}
use Rattle.table.specs.Inner.{ended}
use Rattle.states.specs.Sure.{Sure}
use Rattle.translator.proofs.Demand3.{noted}
use Rattle.translator.specs.Translate.{Host, Table}
use Rattle.bursts.specs.Bursts.{carried_note, carried_by, fresh, is_note, agrees, is_sound, is_carried, before_burst, walked, burst_rule, answer_of}
use Rattle.bursts.specs.Whole.{and_then, bursts, last_answer, Short, BurstsSame, CarriesAll, BurstsCarried, Searched, BurstsSearch}
use Rattle.bursts.specs.declared.Carried.{Carried}
use Rattle.bursts.proofs.Bursting.{answer_at, burst_yes, burst_no}
use Rattle.bursts.proofs.Whole.{place, place_by, gives≢refused, took, again_walked, outcome_case}

-- ---- what a run carries

note_good : (n : ℕ) (r : Result) → NotedIn n r → is_note n r ≡ true
unfolding is_note
note_good n nothing h = refl
note_good n (found j pos1 pos2) h =
    rw (le-leb 1 j h.some, le-leb j 32 h.few, le-leb pos2 (suc n) h.to, le-leb 1 pos1 h.from, le-leb pos1 pos2 h.order)

stopped_good : (q : ℕ) → agrees (eqb q 0) q ≡ true
unfolding agrees
stopped_good zero = refl
stopped_good (suc q) = rw (ne_eqb (suc q) 0 (λ e. omega arith)) (le-leb 1 (suc q) (omega arith))

record Runs (ws : List ℕ) (d : ℕ) (c : Carried) : Type 0 where
  pub state : c.state < size_of ws
  pub stopped : c.stopped ≡ eqb c.state 0
  pub total : c.total ≡ d
  pub reads : c.read ≤ d
  pub note : NotedIn c.read (carried_note c)
  pub unstopped : (c.state ≡ 0 → ⊥) → c.read ≡ d

runs_by : (ws : List ℕ) (q n d : ℕ) (r : Result) → q < size_of ws → n ≤ d → NotedIn n r → ((q ≡ 0 → ⊥) → n ≡ d) → Runs ws d (carried_by q n d r (eqb q 0))
runs_by ws q n d nothing x y z u = record { state = x; stopped = refl; total = refl; reads = y; note = z; unstopped = u }
runs_by ws q n d (found j pos1 pos2) x y z u = record { state = x; stopped = refl; total = refl; reads = y; note = z; unstopped = u }

carry_good : (ws : List ℕ) (d : ℕ) (c : Carried) → Runs ws d c → is_carried (size_of ws) c ≡ true
unfolding is_carried is_sound
carry_good ws d c k =
    rw (
      lt-ltb c.state (size_of ws) k.state,
      k.stopped,
      stopped_good c.state,
      k.total,
      le-leb c.read d k.reads,
      note_good c.read (carried_note c) k.note,
    )

-- where a burst leads from there
module _ (ws : List ℕ) (b : List ℕ) (d : ℕ) (c : Carried) (k : Runs ws d c) where
  rests_in : RestsIn (size_of ws) (d + length b) (walked c b ws)
  unfolding walked
  rests_in =
      in_walk ws (size_of ws) d b (enter ws c.state c.read (carried_note c))
      (in_enter ws (size_of ws) c.state c.read d (carried_note c) k.state k.reads)

  well_noted : WellNoted (walked c b ws)
  unfolding walked
  well_noted =
      well_walk ws (size_of ws) b (enter ws c.state c.read (carried_note c)) (well_enter ws c.state c.read (carried_note c) k.note)

  reads_all : ReadsAll (d + length b) (walked c b ws)
  unfolding walked
  reads_all =
      all_walk ws (size_of ws) d b (enter ws c.state c.read (carried_note c)) (all_enter ws c.state c.read d (carried_note c) k.unstopped)

-- from where a run rests, the answer with the last of the bursts is that of the walk over them joined
abbrev Continues : List ℕ → List (List ℕ) → ℕ → Type 0
Continues ws bs d =
    (c : Carried) → Runs ws d c → again ws (place c) ≡ place c
    → last_answer (bursts c bs ws) ≡ ended (walk ws (size_of ws) (joined bs) (place c))

module _ (ws : List ℕ) (sized : is_sized ws ≡ true) where
  burst_good : (b : List ℕ) (d : ℕ) (c : Carried) → Runs ws d c → length b ≤ 300 → d + length b ≤ 65536 → characters b ≡ true
      → burst_rule c b ws ≡ answer_at (d + length b) (walked c b ws)
  unfolding before_burst
  burst_good b d c k short total plain =
      let t : leb (c.total + length b) 65536 ≡ true = rw k.total (le-leb (d + length b) 65536 total) in
      burst_yes c b ws (rw (le-leb (length b) 300 short, t, plain, sized, carry_good ws d c k)) ∙ rw k.total

  go_on : (bs : List (List ℕ)) (d : ℕ) → Continues ws bs d → (w : Walk) → RestsIn (size_of ws) d w → WellNoted w → ReadsAll d w → again ws w ≡ w
      → last_answer (and_then (answer_at d w) (λ c. bursts c bs ws)) ≡ ended (walk ws (size_of ws) (joined bs) w)
  go_on bs d ih bad i v u a = sym (ap ended (walk_bad ws (size_of ws) (joined bs)))
  go_on bs d ih (rests q n r) i v u a =
      let p = place_by q n d r (eqb q 0) in
      ih (carried_by q n d r (eqb q 0)) (runs_by ws q n d r i.0 i.1 v u) (ap (again ws) p ∙ a ∙ sym p)
      ∙ ap (λ (w : Walk). ended (walk ws (size_of ws) (joined bs) w)) p

  -- one burst from a state that is entered, for the first time or anew
  one_more : (b : List ℕ) (bs : List (List ℕ)) (d : ℕ) (c : Carried) → Runs ws d c → length b ≤ 300 → d + length b ≤ 65536 → characters b ≡ true
      → Continues ws bs (d + length b)
      → last_answer (bursts c (b ∷ bs) ws) ≡ ended (walk ws (size_of ws) (b ++ joined bs) (enter ws c.state c.read (carried_note c)))
  unfolding walked
  one_more b bs d c k short total plain ih =
      rw (burst_good b d c k short total plain)
      (go_on bs (d + length b) ih (walked c b ws) (rests_in ws b d c k) (well_noted ws b d c k) (reads_all ws b d c k) (again_walked c b ws)
      ∙ sym (ap ended (walk_append ws (size_of ws) b (joined bs) (enter ws c.state c.read (carried_note c)))))

  rest_same : (bs : List (List ℕ)) (d : ℕ) → Short bs → d + length (joined bs) ≤ 65536 → characters (joined bs) ≡ true → Continues ws bs d
  unfolding joined
  rest_same [] d short total plain = λ c k a. ap ended (sym (walk_none ws (size_of ws) (place c)))
  rest_same (b ∷ bs) d short total plain =
      let l : length (b ++ joined bs) ≡ length b + length (joined bs) = length-append b (joined bs) in
      let p = and_both (characters b) (characters (joined bs)) (sym (characters_append b (joined bs)) ∙ plain) in
      λ c k a. one_more b bs d c k short.0 (omega arith) p.0 (rest_same bs (d + length b) short.1 (omega arith) p.1)
      ∙ ap (λ (w : Walk). ended (walk ws (size_of ws) (b ++ joined bs) w)) a

-- ---- what a run carries is no fault

carries_on : (ws : List ℕ) (d : ℕ) (w : Walk) (c : Carried) → answer_at d w ≡ gives c → RestsIn (size_of ws) d w → WellNoted w → ReadsAll d w → Runs ws d c
carries_on ws d bad c e i v u = absurd (gives≢refused 10 c e)
carries_on ws d (rests q n r) c e i v u = let z : carried_by q n d r (eqb q 0) ≡ c = cc in rw z at (runs_by ws q n d r i.0 i.1 v u)

module _ (ws : List ℕ) where
  burst_carries : (b : List ℕ) (d : ℕ) (c c' : Carried) → Runs ws d c → burst_rule c b ws ≡ gives c' → Runs ws (d + length b) c'
  burst_carries b d c c' k e =
      carries_on ws (d + length b) (walked c b ws) c' (rw (← k.total) (sym (burst_yes c b ws (took c b ws c' e).none) ∙ e))
      (rests_in ws b d c k) (well_noted ws b d c k) (reads_all ws b d c k)

  rest_carries : (bs : List (List ℕ)) (d : ℕ) (c c' : Carried) → Runs ws d c → bursts c bs ws ≡ gives c' → Runs ws (d + length (joined bs)) c'
  unfolding joined
  rest_carries [] d c c' k e =
      let z : c ≡ c' = cc in
      let n : d + 0 ≡ d = omega arith in
      rw n (rw z at k)
  rest_carries (b ∷ bs) d c c' k e =
      let n : d + length (b ++ joined bs) ≡ (d + length b) + length (joined bs) = omega (arith, length-append b (joined bs)) in
      outcome_case (burst_rule c b ws)
      (λ i p. absurd (gives≢refused i c' (rw p at e)))
      (λ c₁ p. rw n (rest_carries bs (d + length b) c₁ c' (burst_carries b d c c₁ k p) (rw p at e)))

-- ---- from a fresh run

fresh_runs : (ws : List ℕ) → is_sized ws ≡ true → Runs ws 0 fresh
unfolding fresh
fresh_runs ws z = record { state = omega (arith, (sized_is ws z).low); stopped = refl; total = refl; reads = omega arith; note = tt; unstopped = λ h. refl }

pub bursts_carried : BurstsCarried
unfolding joined
bursts_carried ws b bs c e =
    outcome_case (burst_rule fresh b ws)
    (λ n p. absurd (gives≢refused n c (rw p at e)))
    (λ c₁ p. let k = rest_carries ws (b ∷ bs) 0 fresh c (fresh_runs ws (took fresh b ws c₁ p).ok.sized) e in
    record {
      carried = carry_good ws (0 + length (b ++ joined bs)) c k;
      total = omega (arith, k.total);
      unstopped = λ h. k.unstopped (λ z. eqb-false c.state 0 (sym k.stopped ∙ h) z) ∙ sym k.total;
    })

-- the bursts joined as one text, whatever store holds it
from_fresh : (ws b : List ℕ) (bs : List (List ℕ)) → is_sized ws ≡ true → Short (b ∷ bs) → length (joined (b ∷ bs)) ≤ 65536 → characters (joined (b ∷ bs)) ≡ true
    → last_answer (bursts fresh (b ∷ bs) ws) ≡ ended (run_over ws (joined (b ∷ bs)))
unfolding fresh joined
from_fresh ws b bs z short total plain =
    let l : length (b ++ joined bs) ≡ length b + length (joined bs) = length-append b (joined bs) in
    let p = and_both (characters b) (characters (joined bs)) (sym (characters_append b (joined bs)) ∙ plain) in
    one_more ws z b bs 0 fresh (fresh_runs ws z) short.0 (omega arith) p.0
    (rest_same ws z bs (0 + length b) short.1 (omega arith) p.1)
    ∙ ap ended (sym (run_is ws (b ++ joined bs)))

-- words that are no table are refused with the first burst
fresh_unsized : (ws b : List ℕ) → is_sized ws ≡ false → length b ≤ 300 → characters b ≡ true → before_burst fresh b ws ≡ 10
unfolding before_burst fresh
fresh_unsized ws b z short plain =
    let t : 0 + length b ≤ 65536 = omega arith in
    rw (le-leb (length b) 300 short, le-leb (0 + length b) 65536 t, plain, z)

burst_unsized : (ws b : List ℕ) (bs : List (List ℕ)) → is_sized ws ≡ false → length b ≤ 300 → characters b ≡ true
    → last_answer (bursts fresh (b ∷ bs) ws) ≡ refused 10
burst_unsized ws b bs z short plain =
    rw (← burst_no fresh b ws 10 (sym (fresh_unsized ws b z short plain)) (λ e. omega arith))

host_short : (s : List ℕ) (host : StrPtr) (h : List ℕ) → store_fits s ≡ true → good_in (length s) host ≡ true → text_of s host ≡ h → length h ≤ 65536
host_short s host h fits good is = omega (arith, ap length is, text_length s host good, good_is (length s) host good, fits_is s fits)

pub bursts_same : BurstsSame
unfolding readable joined
bursts_same ws b bs s host short plain fits good is =
    let n : length (b ++ joined bs) ≤ 65536 = host_short s host (b ++ joined bs) fits good is in
    let l : length (b ++ joined bs) ≡ length b + length (joined bs) = length-append b (joined bs) in
    let p = and_both (characters b) (characters (joined bs)) (sym (characters_append b (joined bs)) ∙ plain) in
    let read : characters (text_of s host) ≡ true = ap characters is ∙ plain in
    bool_case (is_sized ws)
    (λ z. from_fresh ws b bs z short n plain ∙ sym (run_plain s host ws fits good read z ∙ ap (λ (h : List ℕ). ended (run_over ws h)) is))
    (λ z. burst_unsized ws b bs z short.0 p.0 ∙ sym (run_unsized s host ws fits good read z))

-- ---- over a table that the translator left

-- the text as a store of its own
module _ (h : List ℕ) (n : length h ≤ 65536) where
  abbrev alone : StrPtr
  alone = pointer 0 (length h) (length h)

  alone_fits : store_fits h ≡ true
  unfolding store_fits
  alone_fits = le-leb (length h) 65536 n

  alone_good : good_in (length h) alone ≡ true
  unfolding pointer
  alone_good = is_good (length h) alone (omega arith) (omega arith)

  alone_text : text_of h alone ≡ h
  unfolding pointer text_of
  alone_text = take_all (length h) h (omega arith)

-- an answer is that of something carried
carried_answer : (x : Outcome Carried) (r : Result) (m : ℕ) → last_answer x ≡ gives (r, m) → (c : Carried) × (x ≡ gives c) × (answer_of c ≡ (r, m))
carried_answer (refused k) r m e = let z : ◌≡◌ {A = ℕ} 0 1 = cc in absurd (omega arith)
carried_answer (gives c) r m e = (c, refl, cc)

-- the same, from what the whole host gives
module _ (ss : List (List ℕ)) (old new : List ℕ) (table : Table ss old new) (b : List ℕ) (bs : List (List ℕ)) (h : List ℕ) (host : StrPtr)
    (is : text_of h host ≡ joined (b ∷ bs)) (m : ℕ) (ran : run_rule h host new ≡ gives (plain_search ss (text_of h host), m)) where
  searched : (c : Carried) × (bursts fresh (b ∷ bs) new ≡ gives c) × (answer_of c ≡ (plain_search ss (text_of h host), m)) → Searched ss new (b ∷ bs)
  searched (c, carries, answers) =
      record {
        last = c;
        carries = carries;
        found = ap (λ (x : Result × ℕ). x.0) answers ∙ ap (plain_search ss) is;
        early = early;
        stops = λ k sure long. bool_case c.stopped (λ p. p) (λ p. absurd (omega (arith, early k sure, all.unstopped p, all.total)));
      }
    where
      all : CarriesAll new (b ∷ bs) c
      all = bursts_carried new b bs c carries

      early : (k : ℕ) → Sure ss (take k (joined (b ∷ bs))) → c.read ≤ k + 1
      early k sure =
          let e : c.read ≡ m = ap (λ (x : Result × ℕ). x.1) answers in
          omega (arith, e, table.early h host k m (plain_search ss (text_of h host)) (rw is sure) ran)

pub bursts_search : BurstsSearch
unfolding readable
bursts_search ss old new table b bs short n plain =
    go (joined (b ∷ bs)) refl n
  where
    go : (h : List ℕ) → h ≡ joined (b ∷ bs) → length h ≤ 65536 → Searched ss new (b ∷ bs)
    go h e l =
        let is : text_of h (alone h l) ≡ h = alone_text h l in
        let host : Host h (alone h l) = record { fits = alone_fits h l; good = alone_good h l; plain = ap characters (is ∙ e) ∙ plain } in
        let (m, ran) = noted (run_rule h (alone h l) new) (plain_search ss (text_of h (alone h l))) (table.finds h (alone h l) host) in
        searched ss old new table b bs h (alone h l) (is ∙ e) m ran
        (carried_answer (bursts fresh (b ∷ bs) new) (plain_search ss (text_of h (alone h l))) m
        (bursts_same new b bs h (alone h l) short plain host.fits host.good (is ∙ e) ∙ ran))
