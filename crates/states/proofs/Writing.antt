-- What each writer of words leaves, one word more at a time. Assumes nothing.
use Prim.Native.Nat.{ℕ, zero, suc, ◌+◌, ◌-◌, ◌*◌, ◌≤◌, ◌<◌}
use mathlib.Core.Path.{◌≡◌, refl, sym, ap, ◌∙◌}
use mathlib.Core.Bool.{Bool, true, false, false≢true, cond, and-true}
use mathlib.Core.List.{List, [], ◌∷◌, ◌++◌}
use native.Mathlib.Omega.{arith}
use lib.Dec.{eqb, ltb}
use lib.ListN.{length, get_or, set, length-set, drop_of_length-le}
use lib.Seq.{get_or-set_same, get_or-set_other, drop-cons}
use borrow.Author.Tests.{lt-ltb, le-ltb, eq-eqb, ne_eqb}
use Rattle.strlib.proofs.Pointing.{either}
use Rattle.strlib.proofs.Refusing.{bool_case, and_both}
use Rattle.search.proofs.Prefixes.{prefix_length}
use Rattle.search.specs.Search.{is_prefix}
use Rattle.table.specs.Run.{word_of}
use Rattle.states.specs.State.{total_to}
use Rattle.states.specs.Fill.{new_note, Frame, Wrote, Filled, Copied, Flat, Defaulted, Put, Children, NotePut, Rowed}
use Rattle.states.proofs.Prefixes.{not_prefix_longer, length_snoc}
use Rattle.states.proofs.Numbering.{total_to_suc}
use Rattle.states.proofs.Rowing.{same_or_not}

pub frame_none : (ws : List ℕ) (base n : ℕ) → Frame ws ws base n
frame_none ws base n = record { len = refl; low = λ i h. refl; high = λ i h. refl }

-- one word more inside the frame
pub frame_set : (ws ws' : List ℕ) (base n j v : ℕ) → Frame ws ws' base n → base ≤ j → j < base + n → Frame ws (set ws' j v) base n
frame_set ws ws' base n j v f a b =
    record {
      len = length-set ws' j v ∙ f.len;
      low = λ i h. get_or-set_other ws' j i v 0 (λ e. omega arith) ∙ f.low i h;
      high = λ i h. get_or-set_other ws' j i v 0 (λ e. omega arith) ∙ f.high i h;
    }

pub frame_wider : (ws ws' : List ℕ) (base n m : ℕ) → Frame ws ws' base n → n ≤ m → Frame ws ws' base m
frame_wider ws ws' base n m f h = record { len = f.len; low = f.low; high = λ i l. f.high i (omega arith) }

-- two writes in one frame
pub frame_then : (ws ws₁ ws₂ : List ℕ) (base n : ℕ) → Frame ws ws₁ base n → Frame ws₁ ws₂ base n → Frame ws ws₂ base n
frame_then ws ws₁ ws₂ base n f g = record { len = g.len ∙ f.len; low = λ i h. g.low i h ∙ f.low i h; high = λ i h. g.high i h ∙ f.high i h }

-- words written from the front
pub wrote_none : (ws : List ℕ) (base : ℕ) (f : ℕ → ℕ) → Wrote ws ws base 0 f
wrote_none ws base f = record { frame = frame_none ws base 0; here = λ c h. absurd (omega arith) }

pub wrote_more : (ws ws' : List ℕ) (base n v : ℕ) (f : ℕ → ℕ) → Wrote ws ws' base n f → base + n < length ws' → v ≡ f n → Wrote ws (set ws' (base + n) v) base (n + 1) f
wrote_more ws ws' base n v f w h e =
    record {
      frame = frame_set ws ws' base (n + 1) (base + n) v (frame_wider ws ws' base n (n + 1) w.frame (omega arith)) (omega arith) (omega arith);
      here = λ c l. same_or_not c n
          (λ p. rw (p, get_or-set_same ws' (base + n) v 0 h) e)
          (λ p. get_or-set_other ws' (base + n) (base + c) v 0 (λ q. p (omega arith)) ∙ w.here c (either c n (λ (a : c ≤ n). either n c (λ (b : n ≤ c). absurd (p (omega arith))) (λ (b : c < n). b)) (λ (a : n < c). absurd (omega arith))));
    }

-- a copy of row a into row b reads words that are not written yet, or written with the same
copy_reads : (ws ws' : List ℕ) (a b n : ℕ) → Wrote ws ws' (1 + 130 * b) n (λ c. word_of ws a c) → n < 130 → get_or ws' (1 + 130 * a + n) 0 ≡ word_of ws a n
copy_reads ws ws' a b n w h =
    same_or_not a b
    (λ p. w.frame.high (1 + 130 * a + n) (omega arith))
    (λ p. either a b
    (λ (l : a ≤ b). w.frame.low (1 + 130 * a + n) (either b a (λ (m : b ≤ a). absurd (p (omega arith))) (λ (m : a < b). omega arith)))
    (λ (l : b < a). w.frame.high (1 + 130 * a + n) (omega arith)))

pub filled_none : (ws : List ℕ) (base v : ℕ) → Filled ws ws base 0 v
filled_none ws base v = record { wrote = wrote_none ws base (λ c. v) }

pub filled_more : (ws ws' : List ℕ) (base i n v : ℕ) → Filled ws ws' base i v → i < n → base + n ≤ length ws → Filled ws (set ws' (base + i) v) base (i + 1) v
filled_more ws ws' base i n v w h l = let e = w.wrote.frame.len in record { wrote = wrote_more ws ws' base i v (λ c. v) w.wrote (omega arith) refl }

pub filled_end : (ws ws' : List ℕ) (base i n v : ℕ) → Filled ws ws' base i v → i ≤ n → n ≤ i → Filled ws ws' base n v
filled_end ws ws' base i n v w a b = let e : i ≡ n = omega arith in rw (← e) w

pub copied_none : (ws : List ℕ) (from q : ℕ) → Copied ws ws from q 0
copied_none ws from q = record { wrote = wrote_none ws (1 + 130 * q) (λ c. word_of ws from c) }

pub copied_more : (ws ws' : List ℕ) (from q i : ℕ) → Copied ws ws' from q i → i < 130 → 1 + 130 * q + 130 ≤ length ws → Copied ws (set ws' (1 + 130 * q + i) (get_or ws' (1 + 130 * from + i) 0)) from q (i + 1)
copied_more ws ws' from q i w h l =
    let e = w.wrote.frame.len in
    record { wrote = wrote_more ws ws' (1 + 130 * q) i _ (λ c. word_of ws from c) w.wrote (omega arith) (copy_reads ws ws' from q i w.wrote h) }

pub copied_end : (ws ws' : List ℕ) (from q i : ℕ) → Copied ws ws' from q i → i ≤ 130 → 130 ≤ i → Copied ws ws' from q 130
copied_end ws ws' from q i w a b = let e : i ≡ 130 = omega arith in rw e at w

-- two fills, one after the other
flat : (ws ws₁ ws₂ : List ℕ) (base v : ℕ) → Wrote ws ws₁ base 128 (λ c. v) → Wrote ws₁ ws₂ (base + 128) 2 (λ c. 0) → Wrote ws ws₂ base 130 (λ c. cond (ltb c 128) v 0)
flat ws ws₁ ws₂ base v a b =
    record {
      frame = record {
        len = b.frame.len ∙ a.frame.len;
        low = λ i h. b.frame.low i (omega arith) ∙ a.frame.low i h;
        high = λ i h. b.frame.high i (omega arith) ∙ a.frame.high i (omega arith);
      };
      here = λ c h. either 128 c
          (λ (l : 128 ≤ c).
          let e : base + c ≡ base + 128 + (c - 128) = omega arith in
          rw (le-ltb c 128 l, e) (b.here (c - 128) (omega arith)))
          (λ (l : c < 128). rw (lt-ltb c 128 l) (b.frame.low (base + c) (omega arith) ∙ a.here c l));
    }

pub flat_of : (ws ws₁ ws₂ : List ℕ) (q v : ℕ) → Filled ws ws₁ (1 + 130 * q) 128 v → Filled ws₁ ws₂ (1 + 130 * q + 128) 2 0 → Flat ws ws₂ q v
flat_of ws ws₁ ws₂ q v f g = record { wrote = flat ws ws₁ ws₂ (1 + 130 * q) v f.wrote g.wrote }

cond_same : (b : Bool) (n : ℕ) → cond b n n ≡ n
cond_same true n = refl
cond_same false n = refl

pub default_zero : (ws ws' : List ℕ) (q from : ℕ) → Flat ws ws' q 0 → from ≡ 0 → Defaulted ws ws' q from
default_zero ws ws' q from w e = rw e (record { wrote = record { frame = w.wrote.frame; here = λ c h. w.wrote.here c h ∙ cond_same (ltb c 128) 0 } })

pub default_copy : (ws ws' : List ℕ) (q from : ℕ) → Copied ws ws' from q 130 → (from ≡ 0 → ⊥) → Defaulted ws ws' q from
default_copy ws ws' q zero w e = absurd (e refl)
default_copy ws ws' q (suc k) w e = record { wrote = w.wrote }

-- a string that goes on past u
pub on_short : (u x : List ℕ) (c : ℕ) → length x ≤ length u → is_prefix (u ++ (c ∷ [])) x ≡ false
on_short u x c h = bool_case (is_prefix (u ++ (c ∷ [])) x) (λ p. absurd (omega (arith, prefix_length (u ++ (c ∷ [])) x p, length_snoc u c))) (λ p. p)

pub on_at : (u x : List ℕ) (c : ℕ) → is_prefix u x ≡ true → length u < length x → is_prefix (u ++ (c ∷ [])) x ≡ eqb c (get_or x (length u) 0)
on_at [] [] c p h = absurd (omega arith)
on_at [] (y ∷ x) c p h = rw and-true
on_at (a ∷ u) [] c p h = absurd (omega arith)
on_at (a ∷ u) (y ∷ x) c p h =
    bool_case (eqb a y)
    (λ e. rw e (on_at u x c (and_both (eqb a y) _ p).1 (omega arith)))
    (λ e. absurd (false≢true (rw e at p)))

module _ (ws : List ℕ) (base v : ℕ) (u x : List ℕ) where
  pub put_short : length x ≤ length u → Put ws ws base v u x
  put_short h = record { wrote = record { frame = frame_none ws base 128; here = λ c l. rw (on_short u x c h) } }

  pub put_not : is_prefix u x ≡ false → Put ws ws base v u x
  put_not p = record { wrote = record { frame = frame_none ws base 128; here = λ c l. rw (not_prefix_longer u (c ∷ []) x p) } }

  pub put_set : (d : ℕ) → is_prefix u x ≡ true → length u < length x → d ≡ get_or x (length u) 0 → d < 128 → base + 128 ≤ length ws → Put ws (set ws (base + d) v) base v u x
  put_set d p h k m n =
      record {
        wrote = record {
          frame = frame_set ws ws base 128 (base + d) v (frame_none ws base 128) (omega arith) (omega arith);
          here = λ c l. same_or_not c d
              (λ q. rw (on_at u x c p h, eq-eqb c (get_or x (length u) 0) (q ∙ k), q, get_or-set_same ws (base + d) v 0 (omega arith)))
              (λ q. rw (on_at u x c p h, ne_eqb c (get_or x (length u) 0) (λ r. q (r ∙ sym k)), get_or-set_other ws (base + d) (base + c) v 0 (λ r. q (omega arith))));
        };
      }

-- the strings that go on, from the last to the first
module _ (ws : List ℕ) (base : ℕ) (u : List ℕ) (ss : List (List ℕ)) where
  pub children_none : (k : ℕ) → length ss ≤ k → Children ws ws base u ss k
  children_none k h = record { wrote = record { frame = frame_none ws base 128; here = λ c l. rw (drop_of_length-le ss h) } }

  pub children_more : (ws₁ ws₂ : List ℕ) (k v : ℕ) (x : List ℕ) → Children ws ws₁ base u ss k → 0 < k → k ≤ length ss → x ≡ get_or ss (k - 1) []
      → v ≡ total_to ss (k - 1) + length u + 2
      → Put ws₁ ws₂ base v u x
      → Children ws ws₂ base u ss (k - 1)
  children_more ws₁ ws₂ zero v x w k0 kl e f p = absurd (omega arith)
  children_more ws₁ ws₂ (suc k) v x kids k0 kl e f put =
      let w = kids.wrote in
      let p = put.wrote in
      let z : suc k - 1 ≡ k = omega arith in
      let g : get_or ss (suc k - 1) [] ≡ get_or ss k [] = ap (λ (i : ℕ). get_or ss i []) z in
      let b : total_to ss (suc k - 1) ≡ total_to ss k = ap (total_to ss) z in
      let y : v ≡ suc (total_to ss k + suc (length u)) = omega arith in
      record {
        wrote = record {
          frame = frame_then ws ws₁ ws₂ base 128 w.frame p.frame;
          here = λ c l. p.here c l ∙ rw (w.here c l, z, e, g, y, drop-cons ss k [] (omega arith), total_to_suc ss k (omega arith));
        };
      }

  pub children_all : (ws' : List ℕ) (k : ℕ) → Children ws ws' base u ss k → k ≤ 0 → Children ws ws' base u ss 0
  children_all ws' k w h = let e : k ≡ 0 = omega arith in rw e at w

-- the note of a whole string
module _ (ws : List ℕ) (q cl n l : ℕ) where
  pub noted_none : cl ≡ 0 → NotePut ws ws q cl n l
  noted_none e = record { frame = frame_none ws _ _; notes = rw e; wide = rw e }

  new_other : (k m d : ℕ) → new_note k false m d ≡ d
  new_other zero m d = refl
  new_other (suc k) m d = refl

  new_whole : (k m d : ℕ) → (k ≡ 0 → ⊥) → new_note k true m d ≡ m
  new_whole zero m d e = absurd (e refl)
  new_whole (suc k) m d e = refl

  pub noted_other : (n ≡ l → ⊥) → NotePut ws ws q cl n l
  noted_other e =
      record { frame = frame_none ws _ _; notes = rw (ne_eqb n l e, new_other cl cl (word_of ws q 128)); wide = rw (ne_eqb n l e, new_other cl l (word_of ws q 129)) }

  whole : (cl ≡ 0 → ⊥) → n ≡ l → 1 + 130 * q + 130 ≤ length ws → NotePut ws (set (set ws (1 + 130 * q + 128) cl) (1 + 130 * q + 129) l) q cl n l
  whole z e h =
      record {
        frame = frame_set ws _ _ 2 _ l (frame_set ws ws (1 + 130 * q + 128) 2 (1 + 130 * q + 128) cl (frame_none ws _ _) (omega arith) (omega arith)) (omega arith) (omega arith);
        notes = get_or-set_other (set ws (1 + 130 * q + 128) cl) (1 + 130 * q + 129) (1 + 130 * q + 128) l 0 (λ r. omega arith) ∙ get_or-set_same ws (1 + 130 * q + 128) cl 0 (omega arith) ∙ sym (rw (eq-eqb n l e) (new_whole cl cl (word_of ws q 128) z));
        wide = get_or-set_same (set ws (1 + 130 * q + 128) cl) (1 + 130 * q + 129) l 0 (simp length-set (omega arith)) ∙ sym (rw (eq-eqb n l e) (new_whole cl l (word_of ws q 129) z));
      }

  pub noted_whole : (a b : ℕ) → a ≡ cl → b ≡ l → (cl ≡ 0 → ⊥) → n ≡ l → 1 + 130 * q + 130 ≤ length ws → NotePut ws (set (set ws (1 + 130 * q + 128) a) (1 + 130 * q + 129) b) q cl n l
  noted_whole a b p r z e h = rw (p, r) (whole z e h)

module _ (ss : List (List ℕ)) (ws ws₁ ws₂ : List ℕ) (q n : ℕ) (u : List ℕ) where
  rowed_behind : Frame ws ws₁ (1 + 130 * q) 130 → Rowed ss ws₁ ws₂ q u → Rowed ss ws ws₂ q u
  rowed_behind f r = record { row = r.row; frame = frame_then ws ws₁ ws₂ (1 + 130 * q) 130 f r.frame }

  pub rowed_default : Defaulted ws ws₁ q n → Rowed ss ws₁ ws₂ q u → Rowed ss ws ws₂ q u
  rowed_default d r = rowed_behind d.wrote.frame r

  pub rowed_flat : Flat ws ws₁ q n → Rowed ss ws₁ ws₂ q u → Rowed ss ws ws₂ q u
  rowed_flat d r = rowed_behind d.wrote.frame r
