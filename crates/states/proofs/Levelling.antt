-- The levels of a table, filled string by string. Assumes nothing.
use Prim.Native.Nat.{ℕ, suc, ◌+◌, ◌-◌, ◌*◌, ◌≤◌, ◌<◌}
use mathlib.Core.Path.{◌≡◌, refl, sym, ◌∙◌}
use mathlib.Core.Bool.{Bool, true, false, cond}
use mathlib.Core.List.{List, [], ◌∷◌}
use native.Mathlib.Omega.{arith}
use native.Mathlib.Numerals.{add-one}
use lib.Dec.{ltb}
use lib.ListN.{length, get_or, take, drop, set, length-take, length-drop}
use lib.Seq.{take-suc, drop-append-le, get_or-set_same, get_or-set_other}
use borrow.Author.Tests.{lt-ltb, le-ltb}
use Rattle.strlib.proofs.Pointing.{either}
use Rattle.states.specs.Node.{reach}
use Rattle.states.specs.State.{total, total_to, state_of, RowAt}
use Rattle.states.specs.Fill.{word_or_stop, Frame, Short, Stepped, level_of, Levels, Kept}
use Rattle.states.proofs.Reaching.{text_kind_cons}
use Rattle.states.proofs.Numbering.{state_apart, state_le}
use Rattle.states.proofs.Rowing.{same_or_not, step_word, row_stays, short_of}

level_other : (l j i : ℕ) → (i ≡ j → ⊥) → level_of l (j + 1) i ≡ level_of l j i
level_other l j i n =
    either j i
    (λ (a : j ≤ i). rw (le-ltb i j a, le-ltb i (j + 1) (either i j (λ (b : i ≤ j). absurd (n (omega arith))) (λ (b : j < i). omega arith))))
    (λ (a : i < j). rw (lt-ltb i j a, lt-ltb i (j + 1) (omega arith)))

level_same : (l j : ℕ) → level_of l (j + 1) j ≡ suc l
level_same l j = rw (lt-ltb j (j + 1) (omega arith))

level_old : (l j : ℕ) → level_of l j j ≡ l
level_old l j = rw (le-ltb j j (omega arith))

level_le : (l j i : ℕ) → l ≤ level_of l j i
level_le l j i = go (ltb i j)
  where
    go : (b : Bool) → l ≤ cond b (suc l) l
    go true = omega arith
    go false = omega arith

module _ (ss : List (List ℕ)) (ws ws' fs : List ℕ) (l j r : ℕ) (l0 : 0 < l) (hj : j < length ss) (hf : length ss ≤ length fs)
    (lv : Levels ss ws fs l j) (st : Stepped ss ws ws' (get_or ss j []) l (suc (total_to ss j + l)) r) where
  keep : (p : ℕ) (v : List ℕ) → (l ≤ length (get_or ss j []) → p ≡ suc (total_to ss j + l) → ⊥) → RowAt ss ws p v → RowAt ss ws' p v
  keep p v n o =
      either l (length (get_or ss j []))
      (λ (a : l ≤ length (get_or ss j [])). row_stays ss ws ws' p (suc (total_to ss j + l)) v (st.frame a) (n a) o)
      (λ (a : length (get_or ss j []) < l). rw (st.same a) o)

  rows : (i k : ℕ) → i < length ss → 0 < k → k < level_of l (j + 1) i → k ≤ length (get_or ss i []) → RowAt ss ws' (suc (total_to ss i + k)) (take k (get_or ss i []))
  rows i k hi k0 kl kn =
      same_or_not i j
      (λ e. same_or_not k l
      (λ d. rw (e, d) (st.row (rw (e, d) at kn)))
      (λ d. keep (suc (total_to ss i + k)) _
      (λ a p. d (state_apart ss i j k l hi hj k0 kn l0 a (omega arith)).1)
      (lv.rows i k hi k0 (let y : k < suc l = (rw (e, level_same) at kl) in let x : k < level_of l j i = (rw (e, level_old) (omega arith)) in x) kn)))
      (λ e. keep (suc (total_to ss i + k)) _
      (λ a p. e (state_apart ss i j k l hi hj k0 kn l0 a (omega arith)).0)
      (lv.rows i k hi k0 (rw (level_other l j i e) at kl) kn))

  fail : (i : ℕ) → i < length ss → level_of l (j + 1) i ≤ length (get_or ss i []) → get_or (set fs j r) i 0 ≡ state_of ss (reach ss (drop 1 (take (level_of l (j + 1) i) (get_or ss i []))))
  fail i hi li =
      same_or_not i j
      (λ e. let y : suc l ≤ length (get_or ss j []) = (rw (e, level_same) at li) in
      rw (e, level_same, get_or-set_same fs j r 0 (omega arith)) (st.next (omega arith)))
      (λ e. rw (level_other l j i e, get_or-set_other fs j i r 0 e) (lv.fail i hi (rw (level_other l j i e) at li)))

  pub level_step : Levels ss ws' (set fs j r) l (j + 1)
  level_step = record { root = keep 1 [] (λ a p. omega arith) lv.root; rows = rows; fail = fail }

pub level_next : (ss : List (List ℕ)) (ws fs : List ℕ) (l j : ℕ) → length ss ≤ j → Levels ss ws fs l j → Levels ss ws fs (l + 1) 0
level_next ss ws fs l j h lv =
    record {
      root = lv.root;
      rows = λ i k hi k0 kl kn. lv.rows i k hi k0 (rw (same i hi) at kl) kn;
      fail = λ i hi li. rw (same i hi) (lv.fail i hi (rw (same i hi) at li));
    }
  where
    same : (i : ℕ) → i < length ss → level_of (l + 1) 0 i ≡ level_of l j i
    same i hi = rw (lt-ltb i j (omega arith), le-ltb i 0 (omega arith), add-one l)

pub level_short : (ss : List (List ℕ)) (ws fs : List ℕ) (l j : ℕ) → Levels ss ws fs l j → Short ss ws l
level_short ss ws fs l j lv = short_of ss ws l lv.root (λ i k hi k0 kl kn. lv.rows i k hi k0 (omega (arith, level_le l j i)) kn)

one_none : (s : List ℕ) → drop 1 (take 1 s) ≡ []
one_none [] = refl
one_none (x ∷ s) = refl

pub start_one : (ss : List (List ℕ)) → 0 < length ss → state_of ss (reach ss []) ≡ 1
start_one [] h = absurd (omega arith)
start_one (s ∷ ss) h = rw (text_kind_cons s ss [])

pub level_start : (ss : List (List ℕ)) (ws fs : List ℕ) → RowAt ss ws 1 [] → ((i : ℕ) → i < length ss → get_or fs i 0 ≡ 1) → Levels ss ws fs 1 0
level_start ss ws fs r f =
    record {
      root = r;
      rows = λ i k hi k0 kl kn. absurd (let y : k < 1 = (rw (le-ltb i 0 (omega arith)) at kl) in omega arith);
      fail = λ i hi li. f i hi ∙ sym (rw (le-ltb i 0 (omega arith), one_none (get_or ss i [])) (start_one ss (omega arith)));
    }

-- the failure state of a prefix with one character more
pub next_fail : (ss : List (List ℕ)) (ws x : List ℕ) (l fail : ℕ) → Short ss ws l → 0 < l → l < length x → get_or x l 0 < 128
    → fail ≡ state_of ss (reach ss (drop 1 (take l x)))
    → word_or_stop ws fail (get_or x l 0) ≡ state_of ss (reach ss (drop 1 (take (suc l) x)))
next_fail ss ws x l fail sh l0 h c e =
    let n : length (drop 1 (take l x)) ≡ l - 1 = simp (length-drop, length-take) (omega arith) in
    let m : suc (length (drop 1 (take l x))) ≡ l = omega arith in
    rw (e, take-suc x l 0 h, drop-append-le 1 (take l x) (get_or x l 0 ∷ []) (simp length-take (omega arith)))
    (step_word ss ws (drop 1 (take l x)) (rw m sh) (get_or x l 0) c)

pub kept_none : (ws : List ℕ) (n : ℕ) → Kept ws ws n
kept_none ws n = record { len = refl; front = refl; high = λ i h. refl }

pub kept_frame : (ws ws₁ ws₂ : List ℕ) (q s : ℕ) → Kept ws ws₁ (1 + 130 * s) → Frame ws₁ ws₂ (1 + 130 * q) 130 → q < s → Kept ws ws₂ (1 + 130 * s)
kept_frame ws ws₁ ws₂ q s k f h =
    record { len = f.len ∙ k.len; front = f.low 0 (omega arith) ∙ k.front; high = λ i l. f.high i (omega arith) ∙ k.high i l }

pub kept_step : (ss : List (List ℕ)) (ws ws₁ ws₂ : List ℕ) (l j r : ℕ) → j < length ss → Kept ws ws₁ (1 + 130 * (total ss + 2))
    → Stepped ss ws₁ ws₂ (get_or ss j []) l (suc (total_to ss j + l)) r → Kept ws ws₂ (1 + 130 * (total ss + 2))
kept_step ss ws ws₁ ws₂ l j r hj k st =
    either l (length (get_or ss j []))
    (λ (a : l ≤ length (get_or ss j [])). kept_frame ws ws₁ ws₂ (suc (total_to ss j + l)) (total ss + 2) k (st.frame a) (omega (arith, state_le ss j l hj a)))
    (λ (a : length (get_or ss j []) < l). rw (st.same a) k)

pub kept_trans : (ws ws₁ ws₂ : List ℕ) (n : ℕ) → Kept ws ws₁ n → Kept ws₁ ws₂ n → Kept ws ws₂ n
kept_trans ws ws₁ ws₂ n a b = record { len = b.len ∙ a.len; front = b.front ∙ a.front; high = λ i h. b.high i h ∙ a.high i h }
