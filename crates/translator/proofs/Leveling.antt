-- Laws of a level, string by string. Assumes nothing.
use Rattle.std.proofs.Common.{ℕ, suc, ◌+◌, ◌*◌, ◌≤◌, ◌<◌, ◌≡◌, sym, ap, ◌∙◌, List, [], length, get_or, set, arith}
use native.Mathlib.Numerals.{add-one}
use borrow.Author.Tests.{le-ltb}
use Rattle.strlib.proofs.Listing.{all_at}
use Rattle.strlib.specs.Pointer.{characters}
use Rattle.states.proofs.Levelling.{kept_step, level_step, level_next, level_short}
use Rattle.states.proofs.Numbering.{total_to_zero, total_to_suc, total_to_le, state_le}
use Rattle.states.specs.State.{total, total_to}
use Rattle.states.specs.Fill.{Stepped, level_of, Levels, Kept}
use Rattle.translator.specs.Inner.{Ready, Turn, Leveled}

pub level_off0 : (ss : List (List ℕ)) → 0 ≡ total_to ss 0
level_off0 ss = sym (total_to_zero ss)

module _ (s : List ℕ) (ss : List (List ℕ)) (ws₀ : List ℕ) (r : Ready s ss ws₀) where
  module _ (j off : ℕ) (x : List ℕ) (h : j < length ss) (e : off ≡ total_to ss j) (p : x ≡ get_or ss j []) where
    after : total_to ss (j + 1) ≡ total_to ss j + length x
    after = ap (total_to ss) (add-one j) ∙ total_to_suc ss j h ∙ ap (λ (t : List ℕ). total_to ss j + length t) (sym p)

    pub level_off : off + length x ≡ total_to ss (j + 1)
    level_off = omega (arith, after)

    pub level_small : off + length x ≤ 240
    level_small = omega (arith, after, total_to_le ss (j + 1), r.small)

    -- what a turn needs
    pub level_turn : (ws fs : List ℕ) (l q fail : ℕ) → 0 < l → Levels ss ws fs l j → q ≡ off + l + 1 → fail ≡ get_or fs j 0 → Turn ss ws x l q fail
    level_turn ws fs l q fail l0 lv eq ef =
        record {
          some = l0;
          plain = ap characters p ∙ all_at characters ss j [] r.plain h;
          short = omega (arith, after, total_to_le ss (j + 1), r.small);
          rows = level_short ss ws fs l j lv;
          inside = λ a. omega (arith, state_le ss j l h (rw (← p) a));
          failed = λ a.
              let k : level_of l j j ≡ l = rw (le-ltb j j (omega arith)) in
              let f = lv.fail j h (rw (k, ← p) a) in
              ef ∙ (rw (k, ← p) at f);
        }

    -- what it gives
    module _ (ws ws' fs : List ℕ) (l q n : ℕ) (eq : q ≡ off + l + 1) (st : Stepped ss ws ws' x l q n) where
      stepped : Stepped ss ws ws' (get_or ss j []) l (suc (total_to ss j + l)) n
      stepped =
          let z : q ≡ suc (total_to ss j + l) = omega arith in
          rw (← p) (rw z at st)

      pub level_on : 0 < l → length fs ≡ 32 → Levels ss ws fs l j → Levels ss ws' (set fs j n) l (j + 1)
      level_on l0 hf lv = level_step ss ws ws' fs l j n l0 h (omega (arith, r.few)) lv stepped

      pub level_kept : Kept ws₀ ws (1 + 130 * (total ss + 2)) → Kept ws₀ ws' (1 + 130 * (total ss + 2))
      level_kept k = kept_step ss ws₀ ws ws' l j n h k stepped

  pub level_end : (ws fs : List ℕ) (l j : ℕ) → length ss ≤ j → Levels ss ws fs l j → Kept ws₀ ws (1 + 130 * (total ss + 2)) → Leveled ss ws₀ ws fs (l + 1)
  level_end ws fs l j h lv k = record { levels = level_next ss ws fs l j h lv; kept = k }
