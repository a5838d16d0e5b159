-- The numbers of the states: each is under the number of states, and no two texts of the strings share one. Assumes
-- nothing.
use Prim.Native.Nat.{ℕ, zero, suc, ◌+◌, ◌≤◌, ◌<◌}
use mathlib.Core.Path.{◌≡◌, refl, ap}
use mathlib.Core.List.{List, [], ◌∷◌}
use native.Mathlib.Omega.{arith}
use mathlib.Core.Logic.{inl, inr}
use lib.ListN.{length, get_or}
use Rattle.strlib.proofs.Refusing.{bool_case}
use Rattle.strlib.proofs.Pointing.{either}
use Rattle.search.proofs.Prefixes.{prefix_length}
use Rattle.search.specs.Search.{is_prefix, further}
use Rattle.states.specs.Node.{child, Node, stop, at, reach}
use Rattle.states.specs.State.{total, total_to, total_before, state_of, IsNode}
use Rattle.states.proofs.Reaching.{reach_live, live_child}

-- the places of the strings
pub total_to_suc : (ss : List (List ℕ)) (k : ℕ) → k < length ss → total_to ss (suc k) ≡ total_to ss k + length (get_or ss k [])
total_to_suc [] k h = absurd (omega arith)
total_to_suc (s ∷ []) zero h = omega arith
total_to_suc (s ∷ t ∷ ss) zero h = omega arith
total_to_suc (s ∷ ss) (suc k) h = omega (arith, total_to_suc ss k (omega arith))

pub total_to_zero : (ss : List (List ℕ)) → total_to ss zero ≡ zero
total_to_zero [] = refl
total_to_zero (s ∷ ss) = refl

pub total_to_mono : (ss : List (List ℕ)) (i j : ℕ) → i ≤ j → total_to ss i ≤ total_to ss j
total_to_mono [] i j h = omega arith
total_to_mono (s ∷ ss) zero j h = omega arith
total_to_mono (s ∷ ss) (suc i) zero h = absurd (omega arith)
total_to_mono (s ∷ ss) (suc i) (suc j) h = omega (arith, total_to_mono ss i j (omega arith))

pub total_to_all : (ss : List (List ℕ)) → total_to ss (length ss) ≡ total ss
total_to_all [] = refl
total_to_all (s ∷ ss) = ap (λ (n : ℕ). length s + n) (total_to_all ss)

pub total_to_le : (ss : List (List ℕ)) (k : ℕ) → total_to ss k ≤ total ss
total_to_le [] k = omega arith
total_to_le (s ∷ ss) zero = omega arith
total_to_le (s ∷ ss) (suc k) = omega (arith, total_to_le ss k)

pub state_le : (ss : List (List ℕ)) (j k : ℕ) → j < length ss → k ≤ length (get_or ss j []) → total_to ss j + k ≤ total ss
state_le ss j k h l = omega (arith, total_to_suc ss j h, total_to_le ss (suc j))

-- no two prefixes of the listed strings share a number
pub state_apart : (ss : List (List ℕ)) (i j k l : ℕ) → i < length ss → j < length ss → 0 < k → k ≤ length (get_or ss i []) → 0 < l → l ≤ length (get_or ss j [])
    → total_to ss i + k ≡ total_to ss j + l → (i ≡ j) × (k ≡ l)
state_apart ss i j k l hi hj k0 kl l0 ll e =
    either i j
    (λ (a : i ≤ j). either j i
    (λ (b : j ≤ i). let q : i ≡ j = omega arith in (q, let p : total_to ss i ≡ total_to ss j = ap (total_to ss) q in omega arith))
    (λ (b : i < j). absurd (omega (arith, total_to_suc ss i hi, total_to_mono ss (suc i) j (omega arith)))))
    (λ (a : j < i). absurd (omega (arith, total_to_suc ss j hj, total_to_mono ss (suc j) i (omega arith))))

-- the numbers stay below the size
pub further_pos : (i : ℕ) → 0 < further i → 0 < i
further_pos zero h = absurd (omega arith)
further_pos (suc i) h = omega arith

pub total_before_further : (s : List ℕ) (ss : List (List ℕ)) (i : ℕ) → 0 < i → total_before (s ∷ ss) (further i) ≡ length s + total_before ss i
total_before_further s ss zero h = absurd (omega arith)
total_before_further s ss (suc i) h = refl

pub total_before_le : (ss : List (List ℕ)) (v : List ℕ) → 0 < child ss v → total_before ss (child ss v) + length v ≤ total ss
total_before_le [] v h = absurd (omega arith)
total_before_le (s ∷ ss) v h =
    bool_case (is_prefix v s)
    (λ p. rw p (omega (arith, prefix_length v s p)))
    (λ p. let b = further_pos (child ss v) (rw p at h) in
    rw (p, total_before_further s ss (child ss v) b) (omega (arith, total_before_le ss v b)))

pub state_lt : (ss : List (List ℕ)) (v : List ℕ) → IsNode ss v → state_of ss (at v) < total ss + 2
state_lt ss [] h = omega arith
state_lt ss (x ∷ v) (inl e) = absurd (let z : ◌≡◌ {A = ℕ} 0 1 = cc in omega arith)
state_lt ss (x ∷ v) (inr h) = omega (arith, total_before_le ss (x ∷ v) h)

pub state_pos : (ss : List (List ℕ)) (v : List ℕ) → 0 < state_of ss (at v)
state_pos ss [] = omega arith
state_pos ss (x ∷ v) = omega arith

pub reach_lt : (ss : List (List ℕ)) (w : List ℕ) → state_of ss (reach ss w) < total ss + 2
reach_lt ss w = go (reach ss w) refl
  where
    go : (nd : Node) → reach ss w ≡ nd → state_of ss nd < total ss + 2
    go stop e = omega arith
    go (at v) e = state_lt ss v (inr (live_child ss v (reach_live ss w e)))
