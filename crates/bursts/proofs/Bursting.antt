-- Laws of a burst's code: each return is a clause of the rule, and what was checked is what a run that goes on asks.
-- Assumes nothing.
use mathlib.Core.Path.{◌≡◌, refl, sym, ap, ◌∙◌}
use mathlib.Core.Bool.{Bool, true, false, ◌&&◌, cond}
use mathlib.Core.List.{List, [], ◌∷◌, ◌++◌}
use Prim.Native.Nat.{ℕ, ◌+◌, ◌≤◌}
use native.Mathlib.Omega.{arith}
use mir.Syntax.{w64}
use mir.Val.{Fits}
use lib.Dec.{leb, ltb, eqb}
use lib.ListN.{length}
use borrow.Author.Rules.{rules}
use borrow.Author.Tests.{leb-true}
use Rattle.strlib.proofs.Checking.{first_both}
use Rattle.strlib.proofs.Refusing.{and_both, passed, first_before, first_behind, outcome_no}
use Rattle.strlib.specs.Pointer.{characters}
use Rattle.strlib.specs.Refusal.{Outcome, refused, gives, first, outcome}
use Rattle.search.specs.Search.{Result}
use Rattle.table.proofs.Resuming.{resumed_is}
use Rattle.table.specs.Run.{size_of, is_sized, Walk, bad, rests, only_if, is_rest}
use Rattle.table.specs.Resume.{read_on, resumed}
use Rattle.table.specs.Inner.{rests_of, note_of}
use Rattle.table.specs.declared.Progress.{Progress}
use Rattle.bursts.specs.Bursts.{carried_note, carried_by, is_note, agrees, is_sound, is_carried, delivery_checks, before_burst_checks, before_burst, walked, burst_refusal, carried_on, burst_rule}
use Rattle.bursts.specs.Inner.{own_refusal}
use Rattle.bursts.specs.declared.Carried.{Carried}

-- ---- the refusals

pub record Sound (c : Carried) : Type 0 where
  pub stopped : agrees c.stopped c.state ≡ true
  pub reads : c.read ≤ c.total
  pub note : is_note c.read (carried_note c) ≡ true

pub sound_has : (c : Carried) → is_sound c ≡ true → Sound c
unfolding is_sound
sound_has c e =
    let a = and_both (agrees c.stopped c.state) _ e in
    let b = and_both (leb c.read c.total) _ a.1 in
    record { stopped = a.0; reads = leb-true _ _ b.0; note = b.1 }

-- what is known where the checks of a burst's delivery find nothing
record Delivered (c : Carried) (b : List ℕ) : Type 0 where
  pub total : c.total + length b ≤ 65536
  pub plain : characters b ≡ true

delivery_passed : (c : Carried) (b : List ℕ) → first (delivery_checks c b) ≡ 0 → Delivered c b
delivery_passed c b e = let ok = passed (delivery_checks c b) refl e in record { total = leb-true _ _ ok.1.0; plain = ok.1.1.0 }

-- what was checked where nothing is refused before the burst is read
pub record Accepted (c : Carried) (b ws : List ℕ) : Type 0 where
  pub plain : characters b ≡ true
  pub sized : is_sized ws ≡ true
  pub sound : is_sound c ≡ true

pub accepted : (c : Carried) (b ws : List ℕ) → before_burst c b ws ≡ 0 → Accepted c b ws
unfolding before_burst is_carried
accepted c b ws z =
    let own : List (ℕ × Bool) = (10, is_sized ws) ∷ (10, ltb c.state (size_of ws) && is_sound c) ∷ [] in
    let d = first_both (delivery_checks c b) own refl z in
    let ok = passed own refl d.1 in
    record { plain = (delivery_passed c b d.0).plain; sized = ok.0; sound = (and_both (ltb c.state (size_of ws)) (is_sound c) ok.1.0).1 }

-- what needs no table is refused in its place, with its number
own_first : (cs : List (ℕ × Bool)) (sound sized state : Bool) (k : ℕ) → k ≡ first (cs ++ ((10, sound) ∷ [])) → (k ≡ 0 → ⊥)
    → k ≡ first (cs ++ ((10, sized) ∷ (10, state && sound) ∷ []))
own_first [] true sized state k e h = absurd (h e)
own_first [] false false state k e h = e
own_first [] false true true k e h = e
own_first [] false true false k e h = e
own_first ((n, true) ∷ cs) sound sized state k e h = own_first cs sound sized state k e h
own_first ((n, false) ∷ cs) sound sized state k e h = e

own_before : (c : Carried) (b ws : List ℕ) (k : ℕ) → k ≡ own_refusal c b → (k ≡ 0 → ⊥) → k ≡ before_burst c b ws
unfolding own_refusal before_burst is_carried
own_before c b ws k e h =
    own_first (delivery_checks c b) (is_sound c) (is_sized ws) (ltb c.state (size_of ws)) k e h

-- where that is passed, the words and the state decide
module _ (c : Carried) (b : List ℕ) (z : own_refusal c b ≡ 0) where
  own_both : (first (delivery_checks c b) ≡ 0) × (first ((10, is_sound c) ∷ []) ≡ 0)
  unfolding own_refusal
  own_both = first_both (delivery_checks c b) ((10, is_sound c) ∷ []) refl z

  delivered : Delivered c b
  delivered = delivery_passed c b own_both.0

  sound : is_sound c ≡ true
  sound = (passed ((10, is_sound c) ∷ []) refl own_both.1).0

  own_sound : Sound c
  own_sound = sound_has c sound

  own_near : c.read + length b ≤ 65536
  own_near = omega (arith, own_sound.reads, delivered.total)

  own_decides : (ws : List ℕ) (on : Bool) → (is_sized ws && ltb c.state (size_of ws)) ≡ on → before_burst c b ws ≡ cond on 0 10
  unfolding before_burst is_carried
  own_decides ws on e =
      first_behind (delivery_checks c b) ((10, is_sized ws) ∷ (10, ltb c.state (size_of ws) && is_sound c) ∷ []) refl own_both.0
      ∙ rw sound (go (is_sized ws) (ltb c.state (size_of ws)) on e)
    where
      go : (sized state on : Bool) → (sized && state) ≡ on → first ((10, sized) ∷ (10, state && true) ∷ []) ≡ cond on 0 10
      go false state on e = rw (← e)
      go true false on e = rw (← e)
      go true true on e = rw (← e)

-- ---- the call

-- what is answered from where the run rests
abbrev pub answer_at : ℕ → Walk → Outcome Carried
answer_at d bad = refused 10
answer_at d (rests q n r) = gives (carried_by q n d r (eqb q 0))

module _ (c : Carried) (b ws : List ℕ) where
  abbrev afterwards : List (ℕ × Bool)
  afterwards = (10, is_rest (walked c b ws)) ∷ []

  -- nothing was refused before: the answer is the walk's
  pub burst_yes : before_burst c b ws ≡ 0 → burst_rule c b ws ≡ answer_at (c.total + length b) (walked c b ws)
  unfolding before_burst burst_refusal burst_rule outcome
  burst_yes z = rw (first_behind (before_burst_checks c b ws) afterwards refl z) (go (walked c b ws))
    where
      go : (w : Walk) → outcome (first ((10, is_rest w) ∷ [])) (carried_on (c.total + length b) w) ≡ answer_at (c.total + length b) w
      go bad = refl
      go (rests q n r) = refl

  pub burst_no : (k : ℕ) → k ≡ before_burst c b ws → (k ≡ 0 → ⊥) → refused k ≡ burst_rule c b ws
  unfolding before_burst burst_refusal burst_rule
  burst_no k e h =
      outcome_no k (burst_refusal c b ws) (first_before (before_burst_checks c b ws) afterwards k e h)
      (carried_on (c.total + length b) (walked c b ws)) h

module _ (c : Carried) (b ws : List ℕ) where
  pub burst_refused : (k : ℕ) → k ≡ own_refusal c b → (k ≡ 0 → ⊥) → refused k ≡ burst_rule c b ws
  burst_refused k e h = burst_no c b ws k (own_before c b ws k e h) h

  module _ (z : 0 ≡ own_refusal c b) where
    pub burst_note : is_note c.read (carried_note c) ≡ true
    burst_note = (own_sound c b (sym z)).note

    pub burst_fits : Fits w64 (c.total + length b)
    burst_fits = record { fits = omega (arith, (delivered c b (sym z)).total) }

    decided : (on : Bool) → (is_sized ws && ltb c.state (size_of ws)) ≡ on
        → burst_rule c b ws ≡ answer_at (c.total + length b) (only_if on (read_on ws b c.state c.read (carried_note c)))
    unfolding walked
    decided true y = burst_yes c b ws (own_decides c b (sym z) ws true y)
    decided false y = sym (burst_no c b ws 10 (sym (own_decides c b (sym z) ws false y)) (λ x. omega arith))

    -- from where the table's run rests
    goes_on : burst_rule c b ws ≡ answer_at (c.total + length b) (resumed ws b c.state c.read (carried_note c))
    goes_on =
        decided (is_sized ws && ltb c.state (size_of ws)) refl
        ∙ ap (answer_at (c.total + length b)) (sym (resumed_is ws b c.state c.read (carried_note c) (delivered c b (sym z)).plain (own_near c b (sym z))))

    module _ (p : Progress) (ep : rests_of p ≡ rests c.state c.read (carried_note c)) where
      resting : {q n q' n' : ℕ} {r r' : Result} → rests q n r ≡ rests q' n' r' → (q ≡ q') × (n ≡ n') × (r ≡ r')
      resting h = (cc, cc, cc)

      pub burst_rests : (w : Walk) → w ≡ resumed ws b p.state p.read (note_of p.last) → answer_at (c.total + length b) w ≡ burst_rule c b ws
      burst_rests w d =
          let y = resting ep in
          ap (answer_at (c.total + length b)) (d ∙ rw (y.0, y.1, y.2)) ∙ sym goes_on

pub ruleset burst_laws = (rules, burst_refused, burst_note, burst_fits)
