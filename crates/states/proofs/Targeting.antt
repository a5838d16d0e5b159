-- The next state of a text: the first string that goes on, else by the tail, is the state of what the longer text
-- reaches. Assumes nothing.
use Prim.Native.Nat.{ℕ, zero, suc, ◌+◌}
use mathlib.Core.Path.{◌≡◌, refl, sym, ◌∙◌}
use mathlib.Core.Bool.{true, false, true≢false}
use mathlib.Core.List.{List, [], ◌∷◌, ◌++◌}
use native.Mathlib.Omega.{arith}
use mathlib.Core.Logic.{⊎_elim}
use lib.ListN.{length, take}
use Rattle.strlib.proofs.Refusing.{bool_case}
use Rattle.search.proofs.Prefixes.{prefix_length}
use Rattle.search.specs.Search.{is_prefix, further, closed, length_of}
use Rattle.states.specs.Node.{child, Kind, live, shut, dead, text_kind, reach}
use Rattle.states.specs.State.{total_before, state_of}
use Rattle.states.specs.Fill.{target, limit, default_next}
use Rattle.states.proofs.Prefixes.{how, prefix_longer, prefix_same, prefix_snoc, length_snoc}
use Rattle.states.proofs.Reaching.{text_kind_cons, kind_case, dead_closed, shut_closed, live_child}
use Rattle.states.proofs.Noting.{shut_length, snoc_closed}
use Rattle.states.proofs.Numbering.{total_before_further}

abbrev or_live : Kind → ℕ → ℕ → ℕ
or_live live a d = a
or_live shut a d = d
or_live dead a d = d

or_live_same : (k : Kind) (a b d : ℕ) → (k ≡ live → a ≡ b) → or_live k a d ≡ or_live k b d
or_live_same live a b d f = f refl
or_live_same shut a b d f = refl
or_live_same dead a b d f = refl

limit_further : (i n : ℕ) → limit (further i) (suc n) ≡ suc (limit i n)
limit_further zero n = refl
limit_further (suc i) n = refl

-- a string that goes on past u does not close u
past_not : (s u : List ℕ) (c : ℕ) → is_prefix (u ++ (c ∷ [])) s ≡ true → is_prefix s u ≡ false
past_not s u c p =
    bool_case (is_prefix s u)
    (λ q. absurd (omega (arith, prefix_length s u q, prefix_length (u ++ (c ∷ [])) s p, length_snoc u c)))
    (λ q. q)

not_longer : (s u z : List ℕ) → is_prefix s (u ++ z) ≡ false → is_prefix s u ≡ false
not_longer s u z p = bool_case (is_prefix s u) (λ q. absurd (true≢false (sym (prefix_longer s u z q) ∙ p))) (λ q. q)

target_kind : (ss : List (List ℕ)) (off : ℕ) (u : List ℕ) (c d : ℕ)
    → target (take (limit (closed ss u) (length ss)) ss) off u c d
    ≡ or_live (text_kind ss (u ++ (c ∷ []))) (suc (off + total_before ss (child ss (u ++ (c ∷ []))) + suc (length u))) d
target_kind [] off u c d = refl
target_kind (s ∷ ss) off u c d =
    how s (u ++ (c ∷ []))
    (λ p. rw (text_kind_cons, past_not s u c p, limit_further, p) (omega arith))
    (λ p q. bool_case (is_prefix s u)
    (λ r. rw (text_kind_cons, r, p, q))
    (λ r. absurd (true≢false (sym (prefix_same s (u ++ (c ∷ [])) q (prefix_snoc s u c q r ∙ sym (length_snoc u c))) ∙ p))))
    (λ p q. rw (text_kind_cons, not_longer s u (c ∷ []) q, limit_further, p, q)
    (target_kind ss (off + length s) u c d
    ∙ or_live_same (text_kind ss (u ++ (c ∷ []))) _ _ d
    (λ l. let b = total_before_further s ss (child ss (u ++ (c ∷ []))) (live_child ss (u ++ (c ∷ [])) l) in omega arith)))

shut_prev : (ss : List (List ℕ)) (u : List ℕ) (c : ℕ) → text_kind ss (u ++ (c ∷ [])) ≡ shut → (k : ℕ) × (closed ss u ≡ suc k)
shut_prev ss u c p =
    let (k, q) = shut_closed ss (u ++ (c ∷ [])) p in
    ⊎_elim (λ e. (k, sym e ∙ q)) (λ e. absurd (shut_length ss (u ++ (c ∷ [])) p (e ∙ sym (length_snoc u c)))) (snoc_closed ss u c)

dead_prev : (ss : List (List ℕ)) (u : List ℕ) (c : ℕ) → text_kind ss (u ++ (c ∷ [])) ≡ dead → closed ss u ≡ zero
dead_prev ss u c p =
    let q = dead_closed ss (u ++ (c ∷ [])) p in
    ⊎_elim (λ e. sym e ∙ q) (λ e. absurd (let z : length_of ss zero ≡ suc (length u) = (rw q at e) in omega arith)) (snoc_closed ss u c)

default_shut : (ss : List (List ℕ)) (u : List ℕ) (c : ℕ) → (k : ℕ) × (closed ss u ≡ suc k) → default_next ss u c ≡ 0
default_shut ss u c (k, q) = rw q

-- the next state by the rule
pub reach_target : (ss : List (List ℕ)) (u : List ℕ) (c : ℕ)
    → target (take (limit (closed ss u) (length ss)) ss) 0 u c (default_next ss u c) ≡ state_of ss (reach ss (u ++ (c ∷ [])))
reach_target ss [] c =
    target_kind ss 0 [] c (default_next ss [] c)
    ∙ kind_case (text_kind ss (c ∷ []))
    (λ p. rw p (omega arith))
    (λ p. rw p (default_shut ss [] c (shut_prev ss [] c p)))
    (λ p. rw (p, dead_prev ss [] c p))
reach_target ss (x ∷ v) c =
    target_kind ss 0 (x ∷ v) c (default_next ss (x ∷ v) c)
    ∙ kind_case (text_kind ss (x ∷ v ++ (c ∷ [])))
    (λ p. rw p (omega (arith, length_snoc v c)))
    (λ p. rw p (default_shut ss (x ∷ v) c (shut_prev ss (x ∷ v) c p)))
    (λ p. rw (p, dead_prev ss (x ∷ v) c p))
