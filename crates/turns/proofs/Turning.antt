-- Laws of a turn: what a read answered is taken apart as the rule does. Assumes nothing.
use mathlib.Core.Path.{◌≡◌, refl, sym, ap, ◌∙◌}
use mathlib.Core.Bool.{Bool, true, false, true≢false}
use mathlib.Core.List.{List}
use Prim.Native.Nat.{ℕ, zero, suc}
use native.Mathlib.Omega.{arith}
use borrow.Author.Rules.{rules}
use borrow.Author.Tests.{ltb-true}
use lib.IntN.{ℤ, pos, negsuc}
use lib.ListN.{length, take}
use lib.Signed.{lt_z}
use mir.Syntax.{w64}
use mir.Val.{SFits, to_z, of_z}
use mir.Facts.{to_z-of_z}
use Rattle.io.specs.Counts.{clamp_len}
use Rattle.buffer.specs.Buffer.{grown}
use Rattle.endings.specs.Ending.{is_going, after_write}
use Rattle.endings.specs.declared.Ending.{Ending}
use Rattle.endings.specs.declared.Ending.TheVariants.{Going, Complete, Unread}
use Rattle.answers.specs.Text.{heading}
use Rattle.answers.proofs.Finishing.{take_clamped}
use Rattle.answers.specs.Pieces.{end_text, fed_by}
use Rattle.answers.specs.declared.lines.State.{State}
use Rattle.turns.specs.Turn.{stage, telling, fed, finished, silent, read_by, after_read, wrote, begun}
use Rattle.turns.specs.declared.Run.{Run}

-- ---- a run

pub begin_is : (o o' : List ℕ) (n : ℕ) → (n, o') ≡ grown o 0 heading
    → ◌≡◌ {A = Run × List ℕ} (record { state = record { lines = 0; ok = 0; held = 0; out = n }; ending = Going }, o') (begun o)
unfolding begun
begin_is o o' n g =
    ap (λ (z : ℕ × List ℕ). the_run z.0 z.1) g
  where
    the_run : ℕ → List ℕ → Run × List ℕ
    the_run k b = (record { state = record { lines = 0; ok = 0; held = 0; out = k }; ending = Going }, b)

pub wrote_is : (done : Bool) (r : Run) (e : Ending) → e ≡ after_write done r.ending → ◌≡◌ {A = Run} (record { state = r.state; ending = e }) (wrote done r)
unfolding wrote
wrote_is done r e p = rw p

-- ---- after a read

module _ (got : ℤ) (fits : SFits w64 got) (piece : List ℕ) (r : Run) (h o : List ℕ) (b : Bool) (eb : b ≡ is_going r.ending) where
  pub read_not : b ≡ false → stage (record { state = telling r.state 0; ending = r.ending }) h o ≡ after_read got piece r h o
  unfolding after_read silent
  read_not f = rw (← eb, f)

  module _ (f : b ≡ true) where
    going : read_by got piece r.state h o ≡ after_read got piece r h o
    unfolding after_read
    going = rw (← eb, f)

    pub read_failed : lt_z (to_z w64 (of_z w64 got)) (pos 0) ≡ true → stage (record { state = telling r.state 0; ending = Unread }) h o ≡ after_read got piece r h o
    unfolding read_by silent
    read_failed l = go got (rw (to_z-of_z fits) at l) ∙ going
      where
        go : (z : ℤ) → lt_z z (pos 0) ≡ true → stage (record { state = telling r.state 0; ending = Unread }) h o ≡ read_by z piece r.state h o
        go (pos n) q = absurd (omega (arith, ltb-true n 0 q))
        go (negsuc n) q = refl

    pub read_end : (n : ℕ) (o' : List ℕ) → of_z w64 got ≡ 0 → (n, o') ≡ grown o 0 (end_text r.state.lines r.state.ok (take r.state.held h))
        → stage (record { state = telling r.state n; ending = Complete }) h o' ≡ after_read got piece r h o
    unfolding read_by finished
    read_end n o' z g =
        let zero_is : got ≡ pos 0 = sym (to_z-of_z fits) ∙ ap (to_z w64) z in
        let g0 : n ≡ (grown o 0 (end_text r.state.lines r.state.ok (take r.state.held h))).0 = ap (λ (y : ℕ × List ℕ). y.0) g in
        let g1 : o' ≡ (grown o 0 (end_text r.state.lines r.state.ok (take r.state.held h))).1 = ap (λ (y : ℕ × List ℕ). y.1) g in
        let q : stage (record { state = telling r.state n; ending = Complete }) h o' ≡ read_by (pos 0) piece r.state h o = rw (← g0, ← g1) in
        q ∙ ap (λ (y : ℤ). read_by y piece r.state h o) (sym zero_is) ∙ going

    pub read_more : (n : ℕ) (t : State) (h' o' : List ℕ) → lt_z (to_z w64 (of_z w64 got)) (pos 0) ≡ false → (of_z w64 got ≡ 0 → ⊥)
        → n ≡ clamp_len (to_z w64 (of_z w64 got)) (length piece) → (t, (h', o')) ≡ fed_by (take n piece) r.state h o
        → stage (record { state = t; ending = Going }) h' o' ≡ after_read got piece r h o
    unfolding read_by fed
    read_more n t h' o' l z c d = ap (λ (y : State × (List ℕ × List ℕ)). stage (record { state = y.0; ending = Going }) y.1.0 y.1.1) d ∙ go got (rw (to_z-of_z fits) at l) z (rw (to_z-of_z fits) at c) ∙ going
      where
        go : (y : ℤ) → lt_z y (pos 0) ≡ false → (of_z w64 y ≡ 0 → ⊥) → n ≡ clamp_len y (length piece) → fed (take n piece) r.state h o ≡ read_by y piece r.state h o
        go (pos zero) p u v = absurd (u refl)
        go (pos (suc k)) p u v =
            let tx : take n piece ≡ take (suc k) piece = ap (λ (i : ℕ). take i piece) v ∙ take_clamped (suc k) piece in
            rw tx
        go (negsuc k) p u v = absurd (true≢false p)

pub ruleset turn_laws = (rules, begin_is, wrote_is, read_not, read_failed, read_end, read_more)
