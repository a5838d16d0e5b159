-- The run over words that hold the rows of a list finds what the plain search finds: after each character the note is
-- the plain search's answer for what was read, and a stop changes nothing for any continuation. The number read is that
-- of the run over the nodes. Assumes nothing.
use Prim.Native.Nat.{ℕ, zero, suc, ◌+◌, ◌≤◌, ◌<◌}
use mathlib.Core.Path.{◌≡◌, refl, sym, ap, ◌∙◌}
use mathlib.Core.Bool.{true}
use mathlib.Core.List.{List, [], ◌∷◌, ◌++◌}
use native.Mathlib.Omega.{arith}
use mathlib.Core.List.{append_assoc, append-nil}
use mathlib.Core.Logic.{inl, inr}
use lib.Dec.{leb}
use lib.ListN.{length}
use borrow.Author.Tests.{leb-true, lt-ltb, le-leb}
use Rattle.strlib.proofs.Refusing.{and_both}
use Rattle.strlib.specs.Pointer.{all, characters}
use Rattle.search.specs.Search.{length_of, Result, nothing, plain_search}
use Rattle.table.proofs.Walking.{enter_pos, step_pos, walk_stop}
use Rattle.table.specs.Run.{Walk, rests, noted, enter, step, walk, run_over}
use Rattle.states.specs.Node.{Node, stop, at, reach, next_node, note_at, node_note}
use Rattle.states.specs.State.{total, state_of, IsNode, Represents}
use Rattle.states.specs.Reads.{RunEnds}
use Rattle.states.proofs.Prefixes.{length_snoc}
use Rattle.states.proofs.Reaching.{reach_step, reach_live, reach_length, live_child, stopped}
use Rattle.states.proofs.Noting.{renoted, note_length, note_count, note_reach, search_start, search_snoc}
use Rattle.states.proofs.Reading.{read_from, read_over, read_early}
use Rattle.states.proofs.Numbering.{state_lt, state_pos}

-- a node stands for the text t: it is a stop like t's, or it goes on as t does. The start stands for [], for an empty
-- list too
abbrev Stands : List (List ℕ) → List ℕ → Node → Type 0
Stands ss t stop = reach ss t ≡ stop
Stands ss t (at v) = (c : ℕ) → reach ss (t ++ (c ∷ [])) ≡ reach ss (v ++ (c ∷ []))

stands : (ss : List (List ℕ)) (t : List ℕ) (nd : Node) → reach ss t ≡ nd → Stands ss t nd
stands ss t stop e = e
stands ss t (at v) e = λ c. reach_step ss t c ∙ ap (λ (nd : Node). next_node ss nd c) e

-- a note that the words hold is the node's
noted_renoted : (ss : List (List ℕ)) (q f n : ℕ) (r : Result) → f ≤ 32 → length_of ss f ≤ n → noted q f (length_of ss f) n r ≡ rests q n (renoted ss f n r)
noted_renoted ss q zero n r c l = refl
noted_renoted ss q (suc k) n r c l = rw (le-leb (suc k) 32 c, le-leb (length_of ss (suc k)) n l)

-- a node that the run may stand at with n characters read
abbrev Ok : List (List ℕ) → Node → ℕ → Type 0
Ok ss stop n = Unit {0}
Ok ss (at v) n = IsNode ss v × (length v ≤ n)

ok_reach : (ss : List (List ℕ)) (w : List ℕ) (n : ℕ) → length w ≤ n → (nd : Node) → reach ss w ≡ nd → Ok ss nd n
ok_reach ss w n l stop e = tt
ok_reach ss w n l (at v) e = (inr (live_child ss v (reach_live ss w e)), omega (arith, reach_length ss w e))

ok_lt : (ss : List (List ℕ)) (nd : Node) (n : ℕ) → Ok ss nd n → state_of ss nd < total ss + 2
ok_lt ss stop n h = omega arith
ok_lt ss (at v) n h = state_lt ss v h.0

-- a run rests with n characters read and the answer r
record Answers (w : Walk) (n : ℕ) (r : Result) : Type 0 where
  pub state : ℕ
  pub is : w ≡ rests state n r

module _ (ss : List (List ℕ)) (ws : List ℕ) (table : Represents ss ws) (few : length ss ≤ 32) where
  -- on entering a node's state its string is noted
  enter_node : (nd : Node) (n : ℕ) (r : Result) → Ok ss nd n → enter ws (state_of ss nd) n r ≡ rests (state_of ss nd) n (renoted ss (node_note ss nd) n r)
  unfolding enter
  enter_node stop n r k = refl
  enter_node (at v) n r k =
      enter_pos ws (state_of ss (at v)) n r (state_pos ss v)
      ∙ rw ((table.rows v k.0).notes, (table.rows v k.0).wide)
      (noted_renoted ss (state_of ss (at v)) (note_at ss v) n r (omega (arith, note_count ss v)) (omega (arith, note_length ss v)))

  -- one step: from the answer for t to the answer for t and one character more
  step_node : (t v : List ℕ) (c : ℕ) → Stands ss t (at v) → Ok ss (at v) (length t) → c < 128
      → step ws (total ss + 2) (rests (state_of ss (at v)) (length t) (plain_search ss t)) c
      ≡ rests (state_of ss (reach ss (t ++ (c ∷ [])))) (suc (length t)) (plain_search ss (t ++ (c ∷ [])))
  step_node t v c e k s =
      let k' = ok_reach ss (v ++ (c ∷ [])) (suc (length t)) (rw (length_snoc v c) (omega arith)) (reach ss (t ++ (c ∷ []))) (sym (e c)) in
      step_pos ws (total ss + 2) (state_of ss (at v)) (length t) (plain_search ss t) c (state_pos ss v)
      ∙ rw ((table.rows v k.0).next c s, ← e c, lt-ltb _ _ (ok_lt ss (reach ss (t ++ (c ∷ []))) (suc (length t)) k'))
      (enter_node (reach ss (t ++ (c ∷ []))) (suc (length t)) (plain_search ss t) k'
      ∙ rw (← note_reach ss (t ++ (c ∷ []))) (ap (rests (state_of ss (reach ss (t ++ (c ∷ [])))) (suc (length t))) (sym (search_snoc ss t c))))

  -- a run that stands where t led rests with the search's answer for t ++ h
  walk_node : (h t : List ℕ) (nd : Node) → Stands ss t nd → Ok ss nd (length t) → characters h ≡ true
      → Answers (walk ws (total ss + 2) h (rests (state_of ss nd) (length t) (plain_search ss t))) (read_from ss h nd (length t)) (plain_search ss (t ++ h))
  unfolding walk step characters all
  walk_node [] t stop e k s = record { state = 0; is = ap (rests 0 (length t)) (ap (plain_search ss) (sym (append-nil t))) }
  walk_node [] t (at v) e k s = record { state = state_of ss (at v); is = ap (rests (state_of ss (at v)) (length t)) (ap (plain_search ss) (sym (append-nil t))) }
  walk_node (c ∷ h) t stop e k s =
      record { state = 0; is = walk_stop ws (total ss + 2) h (length t) (plain_search ss t) ∙ ap (rests zero (length t)) (sym (stopped ss t (c ∷ h) e)) }
  walk_node (c ∷ h) t (at v) e k s =
      let b = and_both (leb c 127) (characters h) s in
      let k' = ok_reach ss (t ++ (c ∷ [])) (length (t ++ (c ∷ []))) (omega arith) (reach ss (t ++ (c ∷ []))) refl in
      let ih = walk_node h (t ++ (c ∷ [])) (reach ss (t ++ (c ∷ []))) (stands ss (t ++ (c ∷ [])) (reach ss (t ++ (c ∷ []))) refl) k' b.1 in
      let n : read_from ss h (reach ss (t ++ (c ∷ []))) (length (t ++ (c ∷ []))) ≡ read_from ss h (reach ss (v ++ (c ∷ []))) (suc (length t)) = rw (length_snoc t c, e c) in
      record {
        state = ih.state;
        is =
            ap (walk ws (total ss + 2) h) (step_node t v c e k (omega (arith, leb-true c 127 b.0)))
            ∙ ap (λ (n : ℕ). walk ws (total ss + 2) h (rests (state_of ss (reach ss (t ++ (c ∷ [])))) n (plain_search ss (t ++ (c ∷ []))))) (sym (length_snoc t c))
            ∙ ih.is
            ∙ ap (λ (m : ℕ). rests ih.state m (plain_search ss (t ++ (c ∷ []) ++ h))) n
            ∙ ap (λ (u : List ℕ). rests ih.state (read_from ss h (reach ss (v ++ (c ∷ []))) (suc (length t))) (plain_search ss u)) (append_assoc t (c ∷ []) h);
      }

  -- the whole run
  run_search : (h : List ℕ) → characters h ≡ true → Answers (run_over ws h) (read_over ss h) (plain_search ss h)
  unfolding run_over
  run_search h s =
      let a = walk_node h [] (at []) (λ c. refl) (inl refl, omega arith) s in
      record {
        state = a.state;
        is =
            rw table.size
            (ap (walk ws (total ss + 2) h) (enter_node (at []) 0 nothing (inl refl, omega arith) ∙ ap (rests 1 0) (sym (search_start ss))) ∙ a.is);
      }

pub run_ends : RunEnds
run_ends =
    λ ss ws host t few ks kh.
    let a = run_search ss ws t few host kh in
    record { state = a.state; read = read_over ss host; ran = a.is; early = λ k d. read_early ss host k ks kh d }
