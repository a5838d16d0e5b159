-- The answer with the last burst is the whole host's: the bursts joined are walked as one text, since a state that was
-- entered may be entered anew. Assumes nothing.
use Prim.Native.Nat.{ℕ, zero, suc, ◌+◌}
use mathlib.Core.Path.{◌≡◌, refl, sym, ap, ◌∙◌}
use mathlib.Core.Bool.{Bool, true}
use mathlib.Core.List.{List, [], ◌∷◌, ◌++◌}
use native.Mathlib.Omega.{arith}
use lib.Dec.{eqb}
use lib.ListN.{length}
use borrow.Author.Tests.{eqb-true}
use Rattle.strlib.proofs.Refusing.{outcome_no}
use Rattle.strlib.proofs.Texts.{characters_append}
use Rattle.strlib.specs.Pointer.{all, characters, readable, joined}
use Rattle.strlib.specs.Refusal.{Outcome, refused, gives, outcome}
use Rattle.search.specs.Search.{Result, nothing, found}
use Rattle.table.proofs.Pieces.{walk_append, run_is, again, again_enter, again_walk}
use Rattle.table.proofs.Running.{run_plain}
use Rattle.table.proofs.Walking.{enter_stop, walk_none, walk_stop}
use Rattle.table.specs.Run.{size_of, Walk, bad, rests, enter, walk, run_over}
use Rattle.table.specs.Inner.{ended}
use Rattle.bursts.specs.Bursts.{carried_note, carried_by, fresh, agrees, before_burst, walked, burst_rule}
use Rattle.bursts.specs.Whole.{bursts, BurstsWhole, BurstsTaken, AfterStop}
use Rattle.bursts.specs.declared.Carried.{Carried}
use Rattle.bursts.proofs.Bursting.{Accepted, accepted, sound_has, answer_at, burst_yes, burst_no}

-- ---- one burst that was not refused

-- where a run rests that carries this
abbrev pub place : Carried → Walk
place c = rests c.state c.read (carried_note c)

pub place_by : (q n d : ℕ) (r : Result) (stopped : Bool) → place (carried_by q n d r stopped) ≡ rests q n r
place_by q n d nothing stopped = refl
place_by q n d (found j pos1 pos2) stopped = refl

pub gives≢refused : (k : ℕ) (c : Carried) → refused k ≡ gives c → ⊥
gives≢refused k c e = let z : ◌≡◌ {A = ℕ} 0 1 = cc in omega arith

rested : (d : ℕ) (w : Walk) (c : Carried) → answer_at d w ≡ gives c → w ≡ place c
rested d bad c e = absurd (gives≢refused 10 c e)
rested d (rests q n r) c e = let z : carried_by q n d r (eqb q 0) ≡ c = cc in sym (place_by q n d r (eqb q 0)) ∙ ap place z

pub record Took (c : Carried) (b ws : List ℕ) (c' : Carried) : Type 0 where
  pub none : before_burst c b ws ≡ 0
  pub ok : Accepted c b ws
  pub ends : walked c b ws ≡ place c'

pub took : (c : Carried) (b ws : List ℕ) (c' : Carried) → burst_rule c b ws ≡ gives c' → Took c b ws c'
took c b ws c' e = go (before_burst c b ws) refl
  where
    go : (k : ℕ) → k ≡ before_burst c b ws → Took c b ws c'
    go zero p =
        record { none = sym p; ok = accepted c b ws (sym p); ends = rested (c.total + length b) (walked c b ws) c' (sym (burst_yes c b ws (sym p)) ∙ e) }
    go (suc k) p = absurd (gives≢refused (suc k) c' (burst_no c b ws (suc k) p (λ z. omega arith) ∙ e))

-- ---- all bursts, none refused

walked_again : (c : Carried) (b ws : List ℕ) → again ws (place c) ≡ place c → walked c b ws ≡ walk ws (size_of ws) b (place c)
unfolding walked
walked_again c b ws e = ap (walk ws (size_of ws) b) e

pub again_walked : (c : Carried) (b ws : List ℕ) → again ws (walked c b ws) ≡ walked c b ws
unfolding walked
again_walked c b ws =
    again_walk ws (size_of ws) b (enter ws c.state c.read (carried_note c)) (again_enter ws c.state c.read (carried_note c))

pub outcome_case : {P : Type 0} (x : Outcome Carried) → ((k : ℕ) → x ≡ refused k → P) → ((c : Carried) → x ≡ gives c → P) → P
outcome_case (refused k) f g = f k refl
outcome_case (gives c) f g = g c refl

-- the rest of a host, from a state that has been entered
record Ends (ws h : List ℕ) (c c' : Carried) : Type 0 where
  pub plain : characters h ≡ true
  pub same : walk ws (size_of ws) h (place c) ≡ place c'

rest_ends : (ws : List ℕ) (bs : List (List ℕ)) (c c' : Carried) → again ws (place c) ≡ place c → bursts c bs ws ≡ gives c' → Ends ws (joined bs) c c'
unfolding characters all joined
rest_ends ws [] c c' a e = let z : c ≡ c' = cc in record { plain = refl; same = walk_none ws (size_of ws) (place c) ∙ ap place z }
rest_ends ws (b ∷ bs) c c' a e =
    outcome_case (burst_rule c b ws)
    (λ k p. absurd (gives≢refused k c' (rw p at e)))
    (λ c₁ p. let t = took c b ws c₁ p in
    let r = rest_ends ws bs c₁ c' (rw t.ends at (again_walked c b ws)) (rw p at e) in
    record {
      plain = characters_append b (joined bs) ∙ rw (t.ok.plain, r.plain);
      same = walk_append ws (size_of ws) b (joined bs) (place c) ∙ rw (← walked_again c b ws a, t.ends) r.same;
    })

fresh_over : (ws b h : List ℕ) (c c' : Carried) → walked fresh b ws ≡ place c → walk ws (size_of ws) h (place c) ≡ place c' → run_over ws (b ++ h) ≡ place c'
unfolding walked fresh
fresh_over ws b h c c' p q = run_is ws (b ++ h) ∙ walk_append ws (size_of ws) b h (enter ws 1 0 nothing) ∙ ap (walk ws (size_of ws) h) p ∙ q

pub bursts_whole : BurstsWhole
unfolding readable joined
bursts_whole ws b bs c s host e fits good is =
    outcome_case (burst_rule fresh b ws)
    (λ k p. absurd (gives≢refused k c (rw p at e)))
    (λ c₁ p. let t = took fresh b ws c₁ p in
    let r = rest_ends ws bs c₁ c (rw t.ends at (again_walked fresh b ws)) (rw p at e) in
    let plain : characters (b ++ joined bs) ≡ true = characters_append b (joined bs) ∙ rw (t.ok.plain, r.plain) in
    run_plain s host ws fits good (ap characters is ∙ plain) t.ok.sized
    ∙ ap (λ (h : List ℕ). ended (run_over ws h)) is
    ∙ ap ended (fresh_over ws b (joined bs) c₁ c t.ends r.same))

-- ---- refused bursts among them

pub bursts_taken : BurstsTaken
bursts_taken ws [] c = refl
bursts_taken ws (b ∷ bs) c =
    outcome_case (burst_rule c b ws)
    (λ k p. rw p (bursts_taken ws bs c))
    (λ c' p. rw p (rw p (bursts_taken ws bs c')))

-- ---- a burst after the stop

walked_stop : (c : Carried) (b ws : List ℕ) → c.state ≡ 0 → walked c b ws ≡ rests 0 c.read (carried_note c)
unfolding walked
walked_stop c b ws e = rw (e, enter_stop ws c.read (carried_note c)) (walk_stop ws (size_of ws) b c.read (carried_note c))

pub after_stop : AfterStop
unfolding outcome agrees
after_stop c b ws e = go (before_burst c b ws) refl
  where
    onward : Carried
    onward = carried_by 0 c.read (c.total + length b) (carried_note c) true

    go : (k : ℕ) → k ≡ before_burst c b ws → burst_rule c b ws ≡ outcome (before_burst c b ws) onward
    go zero p =
        let k = sound_has c (accepted c b ws (sym p)).sound in
        let q : c.state ≡ 0 = eqb-true c.state 0 (rw e at k.stopped) in
        rw (← p) (burst_yes c b ws (sym p) ∙ ap (answer_at (c.total + length b)) (walked_stop c b ws q))
    go (suc k) p =
        sym (burst_no c b ws (suc k) p (λ z. omega arith)) ∙ outcome_no (suc k) (before_burst c b ws) p onward (λ z. omega arith)
