-- A row from its parts: the default of the tail, the strings that go on, the note; and rows that other writes leave.
-- Assumes nothing.
use Prim.Native.Nat.{ℕ, zero, suc, ◌+◌, ◌*◌, ◌≤◌, ◌<◌}
use mathlib.Core.Path.{◌≡◌, refl, sym, ap, ◌∙◌}
use mathlib.Core.Bool.{Bool, true, false}
use mathlib.Core.List.{List, [], ◌∷◌, ◌++◌}
use native.Mathlib.Omega.{arith}
use mathlib.Core.Logic.{inl, inr}
use lib.Dec.{eqb}
use lib.ListN.{length, get_or, take, drop}
use borrow.Author.Tests.{lt-ltb, le-ltb, eqb-true}
use Rattle.strlib.proofs.Refusing.{bool_case}
use Rattle.strlib.proofs.Pointing.{either}
use Rattle.search.proofs.Prefixes.{prefix_length, prefix_stands}
use Rattle.search.specs.Search.{is_prefix, further, first_number, closed, length_of}
use Rattle.table.specs.Run.{word_of}
use Rattle.states.specs.Node.{child, Node, stop, at, reach, note_at, node_note}
use Rattle.states.specs.State.{total, total_to, total_before, state_of, IsNode, RowAt}
use Rattle.states.specs.Fill.{limit, if_open, default_note, root_to, word_or_stop, new_note, Frame, Flat, Defaulted, Children, NotePut, Default, Rowed, Short, Levels}
use Rattle.states.proofs.Reaching.{live_child, reach_live, reach_step, reach_length}
use Rattle.states.proofs.Noting.{note_reach, note_closed}
use Rattle.states.proofs.Numbering.{total_to_zero, further_pos, state_le, state_pos}
use Rattle.states.proofs.Targeting.{reach_target}

pub same_or_not : {P : Type 0} (i j : ℕ) → (i ≡ j → P) → ((i ≡ j → ⊥) → P) → P
same_or_not i j f g = either i j (λ (a : i ≤ j). either j i (λ (b : j ≤ i). f (omega arith)) (λ (b : i < j). g (λ e. omega arith))) (λ (a : j < i). g (λ e. omega arith))

word_pos : (ws : List ℕ) (q c : ℕ) → 0 < q → word_or_stop ws q c ≡ word_of ws q c
word_pos ws zero c h = absurd (omega arith)
word_pos ws (suc q) c h = refl

module _ (ss : List (List ℕ)) (ws v : List ℕ) (sh : Short ss ws (suc (length v))) where
  at_node : {P : Type 0} (nd : Node) → reach ss v ≡ nd → (nd ≡ stop → P) → ((v' : List ℕ) → nd ≡ at v' → RowAt ss ws (state_of ss (at v')) v' → P) → P
  at_node stop e f g = f refl
  at_node (at v') e f g = g v' refl (sh v' (inr (live_child ss v' (reach_live ss v e))) (omega (arith, reach_length ss v e)))

  pub step_word : (c : ℕ) → c < 128 → word_or_stop ws (state_of ss (reach ss v)) c ≡ state_of ss (reach ss (v ++ (c ∷ [])))
  step_word c h =
      at_node (reach ss v) refl
      (λ p. rw (reach_step ss v c, p))
      (λ v' p r. rw (reach_step ss v c, p) (word_pos ws (state_of ss (at v')) c (state_pos ss v') ∙ r.next c h))

  pub note_word : word_or_stop ws (state_of ss (reach ss v)) 128 ≡ node_note ss (reach ss v)
  note_word =
      at_node (reach ss v) refl
      (λ p. rw p)
      (λ v' p r. rw p (word_pos ws (state_of ss (at v')) 128 (state_pos ss v') ∙ r.notes))

  pub wide_word : word_or_stop ws (state_of ss (reach ss v)) 129 ≡ length_of ss (node_note ss (reach ss v))
  wide_word =
      at_node (reach ss v) refl
      (λ p. rw p)
      (λ v' p r. rw p (word_pos ws (state_of ss (at v')) 129 (state_pos ss v') ∙ r.wide))

-- the default row of a prefix that is not empty
zero_or_not : {P : Type 0} (n : ℕ) → (n ≡ zero → P) → ((k : ℕ) → n ≡ suc k → P) → P
zero_or_not zero f g = f refl
zero_or_not (suc k) f g = g k refl

pub default_of : (ss : List (List ℕ)) (ws ws' : List ℕ) (q fail : ℕ) (u : List ℕ)
    → 0 < length u → Short ss ws (length u) → fail ≡ state_of ss (reach ss (drop 1 u))
    → Defaulted ws ws' q (if_open (closed ss u) fail) → Default ss ws' q u
default_of ss ws ws' q fail [] h sh e d = absurd (omega arith)
default_of ss ws ws' q fail (x ∷ v) h sh e d =
    let w = d.wrote in
    zero_or_not (closed ss (x ∷ v))
    (λ z. record {
      next = λ c l. w.here c (omega arith) ∙ rw (z, e) (step_word ss ws v sh c l);
      notes = w.here 128 (omega arith) ∙ rw (z, e) (note_word ss ws v sh ∙ sym (note_reach ss v));
      wide = w.here 129 (omega arith) ∙ rw (z, e) (wide_word ss ws v sh ∙ ap (length_of ss) (sym (note_reach ss v)));
    })
    (λ k z. record {
      next = λ c l. w.here c (omega arith) ∙ rw z;
      notes = w.here 128 (omega arith) ∙ rw z;
      wide = w.here 129 (omega arith) ∙ rw z;
    })

root_to_lem : (ss : List (List ℕ)) → closed ss [] ≡ zero → root_to (length ss) (closed ss []) ≡ if_open (closed ss []) (state_of ss (reach ss []))
root_to_lem [] z = refl
root_to_lem (s ∷ ss) z = rw z

root_to_suc : (n k : ℕ) → root_to n (suc k) ≡ 0
root_to_suc zero k = refl
root_to_suc (suc n) k = refl

pub default_root : (ss : List (List ℕ)) (ws ws' : List ℕ) → Flat ws ws' 1 (root_to (length ss) (closed ss [])) → Default ss ws' 1 []
default_root ss ws ws' d =
    let w = d.wrote in
    zero_or_not (closed ss [])
    (λ z. record {
      next = λ c l. w.here c (omega arith) ∙ rw (lt-ltb c 128 l) (root_to_lem ss z);
      notes = w.here 128 (omega arith) ∙ rw z;
      wide = w.here 129 (omega arith) ∙ rw z;
    })
    (λ k z. record {
      next = λ c l. w.here c (omega arith) ∙ rw (z, lt-ltb c 128 l) (root_to_suc (length ss) k);
      notes = w.here 128 (omega arith) ∙ rw z;
      wide = w.here 129 (omega arith) ∙ rw z;
    })

note_new : (ss : List (List ℕ)) (u : List ℕ) → new_note (closed ss u) (eqb (length_of ss (closed ss u)) (length u)) (closed ss u) (default_note ss u) ≡ note_at ss u
note_new ss u =
    zero_or_not (closed ss u)
    (λ z. rw z)
    (λ k z. bool_case (eqb (length_of ss (suc k)) (length u))
    (λ b. rw (z, b) (sym (note_closed ss u z ∙ rw b)))
    (λ b. rw (z, b) (sym (note_closed ss u z ∙ rw b))))

wide_new : (ss : List (List ℕ)) (u : List ℕ) → new_note (closed ss u) (eqb (length_of ss (closed ss u)) (length u)) (length u) (length_of ss (default_note ss u)) ≡ length_of ss (note_at ss u)
wide_new ss u =
    zero_or_not (closed ss u)
    (λ z. rw z)
    (λ k z. bool_case (eqb (length_of ss (suc k)) (length u))
    (λ b. let f : note_at ss u ≡ suc k = note_closed ss u z ∙ rw b in rw (z, b, f) (sym (eqb-true (length_of ss (suc k)) (length u) b)))
    (λ b. let f : note_at ss u ≡ zero = note_closed ss u z ∙ rw b in rw (z, b, f)))

pub row_of : (ss : List (List ℕ)) (ws ws₁ ws₂ : List ℕ) (q cl : ℕ) (u : List ℕ)
    → cl ≡ closed ss u → Default ss ws q u
    → Children ws ws₁ (1 + 130 * q) u (take (limit cl (length ss)) ss) 0
    → NotePut ws₁ ws₂ q cl (length_of ss cl) (length u)
    → Rowed ss ws ws₂ q u
row_of ss ws ws₁ ws₂ q cl u e d kids n =
    let w = kids.wrote in
    record {
      row = record {
        next = λ c l.
            n.frame.low (1 + 130 * q + c) (omega arith) ∙ w.here c l
            ∙ rw (total_to_zero (take (limit cl (length ss)) ss), e, d.next c l) (reach_target ss u c);
        notes = n.notes ∙ rw (w.frame.high (1 + 130 * q + 128) (omega arith), d.notes, e) (note_new ss u);
        wide = n.wide ∙ rw (w.frame.high (1 + 130 * q + 129) (omega arith), d.wide, e) (wide_new ss u);
      };
      frame = record {
        len = n.frame.len ∙ w.frame.len;
        low = λ i h. n.frame.low i (omega arith) ∙ w.frame.low i h;
        high = λ i h. n.frame.high i (omega arith) ∙ w.frame.high i (omega arith);
      };
    }

-- other rows stay
pub row_stays : (ss : List (List ℕ)) (ws ws' : List ℕ) (p q : ℕ) (v : List ℕ) → Frame ws ws' (1 + 130 * q) 130 → (p ≡ q → ⊥) → RowAt ss ws p v → RowAt ss ws' p v
row_stays ss ws ws' p q v f n r =
    record { next = λ c h. keep c (omega arith) ∙ r.next c h; notes = keep 128 (omega arith) ∙ r.notes; wide = keep 129 (omega arith) ∙ r.wide }
  where
    keep : (c : ℕ) → c < 130 → word_of ws' p c ≡ word_of ws p c
    keep c h =
        either p q
        (λ (a : p ≤ q). f.low (1 + 130 * p + c) (either q p (λ (b : q ≤ p). absurd (n (omega arith))) (λ (b : p < q). omega arith)))
        (λ (a : q < p). f.high (1 + 130 * p + c) (omega arith))

-- `child` is a listed string that has v as a prefix
abbrev pub ChildIs : List (List ℕ) → List ℕ → Type 0
ChildIs ss v = (k : ℕ) × ((child ss v ≡ suc k) × (k < length ss) × (is_prefix v (get_or ss k []) ≡ true))

child_more : (s : List ℕ) (ss : List (List ℕ)) (v : List ℕ) → is_prefix v s ≡ false → ChildIs ss v → ChildIs (s ∷ ss) v
child_more s ss v p (m, (a, b, c)) = (suc m, (ap (λ (t : Bool). first_number t (child ss v)) p ∙ ap further a, omega arith, c))

pub child_is : (ss : List (List ℕ)) (v : List ℕ) → 0 < child ss v → ChildIs ss v
child_is [] v h = absurd (omega arith)
child_is (s ∷ ss) v h =
    bool_case (is_prefix v s)
    (λ p. (0, (ap (λ (t : Bool). first_number t (child ss v)) p, omega arith, p)))
    (λ p. child_more s ss v p (child_is ss v (further_pos (child ss v) (rw p at h))))

-- the row of a node from the rows of the strings' prefixes
module _ (ss : List (List ℕ)) (ws : List ℕ) (n : ℕ) (root : RowAt ss ws 1 [])
    (rows : (i k : ℕ) → i < length ss → 0 < k → k < n → k ≤ length (get_or ss i []) → RowAt ss ws (suc (total_to ss i + k)) (take k (get_or ss i []))) where
  node_row : (x : ℕ) (v : List ℕ) → ChildIs ss (x ∷ v) → suc (length v) < n → RowAt ss ws (state_of ss (at (x ∷ v))) (x ∷ v)
  node_row x v (k, (a, b, c)) l =
      let r = rows k (suc (length v)) b (omega arith) l (prefix_length (x ∷ v) (get_or ss k []) c) in
      let e : state_of ss (at (x ∷ v)) ≡ suc (total_to ss k + suc (length v)) = ap (λ (j : ℕ). suc (total_before ss j + suc (length v))) a in
      rw e (rw (prefix_stands (x ∷ v) (get_or ss k []) c) at r)

  pub short_of : Short ss ws n
  short_of [] i l = root
  short_of (x ∷ v) (inl e) l = absurd (let z : ◌≡◌ {A = ℕ} 0 1 = cc in omega arith)
  short_of (x ∷ v) (inr h) l = node_row x v (child_is ss (x ∷ v) h) l

-- all levels done
pub rows_of : (ss : List (List ℕ)) (ws fs : List ℕ) (l : ℕ) → Levels ss ws fs l 0 → total ss < l → (v : List ℕ) → IsNode ss v → RowAt ss ws (state_of ss (at v)) v
rows_of ss ws fs l lv h v i =
    short_of ss ws (suc (length v)) lv.root
    (λ a k ha k0 _ b. lv.rows a k ha k0 (rw (le-ltb a 0 (omega arith)) (omega (arith, state_le ss a k ha b))) b)
    v i (omega arith)
