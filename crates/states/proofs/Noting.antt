-- What is noted: one character more changes the answer of the plain search exactly by the note of the text that was
-- read. Assumes nothing.
use Prim.Native.Nat.{ℕ, zero, suc, ◌-◌, ◌≤◌}
use mathlib.Core.Path.{◌≡◌, refl, sym, ap, ◌∙◌}
use mathlib.Core.Bool.{Bool, true, false, true≢false}
use mathlib.Core.List.{List, [], ◌∷◌, ◌++◌}
use native.Mathlib.Omega.{arith}
use mathlib.Core.Logic.{◌⊎◌, inl, inr, ⊎_elim}
use lib.Dec.{eqb}
use lib.ListN.{length}
use borrow.Author.Tests.{eq-eqb, ne_eqb}
use Rattle.strlib.proofs.Refusing.{bool_case}
use Rattle.search.proofs.Prefixes.{prefix_length}
use Rattle.search.specs.Search.{is_prefix, further, closed, length_of, Result, nothing, found, onward, at_front, plain_search}
use Rattle.states.specs.Node.{shut, text_kind, reach, only_where, whole, note_at, node_note}
use Rattle.states.proofs.Prefixes.{prefix_longer, prefix_same, prefix_snoc, length_snoc, how}
use Rattle.states.proofs.Reaching.{text_kind_cons, live≢shut, shut≢dead, dead_closed, shut_closed, kind_case}

-- the lengths
length_further : (s : List ℕ) (ss : List (List ℕ)) (i : ℕ) → length_of (s ∷ ss) (further i) ≡ length_of ss i
length_further s ss zero = refl
length_further s ss (suc i) = refl

pub closed_length : (ss : List (List ℕ)) (w : List ℕ) → length_of ss (closed ss w) ≤ length w
closed_length [] w = omega arith
closed_length (s ∷ ss) w =
    bool_case (is_prefix s w)
    (λ p. rw p (prefix_length s w p))
    (λ p. rw (p, length_further) (closed_length ss w))

-- a shut node is no whole string
pub shut_length : (ss : List (List ℕ)) (w : List ℕ) → text_kind ss w ≡ shut → length_of ss (closed ss w) ≡ length w → ⊥
shut_length [] w e l = shut≢dead (sym e)
shut_length (s ∷ ss) w e l =
    how s w
    (λ p. live≢shut (rw (text_kind_cons, p) at e))
    (λ p q. true≢false (sym (prefix_same s w q (rw q at l)) ∙ p))
    (λ p q. shut_length ss w (rw (text_kind_cons, p, q) at e) (rw (q, length_further) at l))

-- what holds of both numbers and of 0 holds of the one that is noted
whole_holds : (P : ℕ → Type 0) → P 0 → (ss : List (List ℕ)) (i n r : ℕ) → P i → P r → P (whole ss i n r)
whole_holds P z ss zero n r h h' = h'
whole_holds P z ss (suc k) n r h h' = go (eqb (length_of ss (suc k)) n)
  where
    go : (b : Bool) → P (only_where b (suc k))
    go true = h
    go false = z

-- the noted string is no longer than the text
pub note_length : (ss : List (List ℕ)) (w : List ℕ) → length_of ss (note_at ss w) ≤ length w
note_length ss [] = whole_holds (λ i. length_of ss i ≤ 0) (omega arith) ss (closed ss []) zero zero (closed_length ss []) (omega arith)
note_length ss (x ∷ w) =
    whole_holds (λ i. length_of ss i ≤ suc (length w)) (omega arith) ss (closed ss (x ∷ w)) (suc (length w)) (note_at ss w) (closed_length ss (x ∷ w))
    (omega (arith, note_length ss w))

-- what is noted depends on the node alone
whole_shut : (ss : List (List ℕ)) (i n r : ℕ) → (k : ℕ) × (i ≡ suc k) → (length_of ss i ≡ n → ⊥) → whole ss i n r ≡ zero
whole_shut ss i n r (k, q) h = rw (q, ne_eqb (length_of ss (suc k)) n (rw q at h))

pub note_reach : (ss : List (List ℕ)) (w : List ℕ) → note_at ss w ≡ node_note ss (reach ss w)
note_reach ss [] =
    kind_case (text_kind ss [])
    (λ p. rw p)
    (λ p. rw p (whole_shut ss (closed ss []) zero zero (shut_closed ss [] p) (shut_length ss [] p)))
    (λ p. rw (p, dead_closed ss [] p))
note_reach ss (x ∷ w) =
    kind_case (text_kind ss (x ∷ w))
    (λ p. rw p)
    (λ p. rw p (whole_shut ss (closed ss (x ∷ w)) (suc (length w)) (note_at ss w) (shut_closed ss (x ∷ w) p) (shut_length ss (x ∷ w) p)))
    (λ p. rw (p, dead_closed ss (x ∷ w) p) (note_reach ss w))

-- one character more
pub snoc_closed : (ss : List (List ℕ)) (t : List ℕ) (c : ℕ)
    → (closed ss (t ++ (c ∷ [])) ≡ closed ss t) ⊎ (length_of ss (closed ss (t ++ (c ∷ []))) ≡ suc (length t))
snoc_closed [] t c = inl refl
snoc_closed (s ∷ ss) t c =
    bool_case (is_prefix s t)
    (λ p. inl (rw (p, prefix_longer s t (c ∷ []) p)))
    (λ p. bool_case (is_prefix s (t ++ (c ∷ [])))
    (λ q. inr (rw q (prefix_snoc s t c q p)))
    (λ q. rw (p, q, length_further) (⊎_elim (λ e. inl (ap further e)) (λ e. inr e) (snoc_closed ss t c))))

-- the answer after a note of string f with n characters read
abbrev pub renoted : List (List ℕ) → ℕ → ℕ → Result → Result
renoted ss zero n r = r
renoted ss (suc k) n r = found (suc k) (suc (n - length_of ss (suc k))) (suc n)

found_eq : (j : ℕ) {p q d e : ℕ} → p ≡ q → d ≡ e → found j p d ≡ found j q e
found_eq j a b = cc

renoted_onward : (ss : List (List ℕ)) (f n : ℕ) (r : Result) → length_of ss f ≤ n → onward (renoted ss f n r) ≡ renoted ss f (suc n) (onward r)
renoted_onward ss zero n r h = refl
renoted_onward ss (suc k) n r h = found_eq (suc k) (omega arith) refl

snoc_core : (ss : List (List ℕ)) (i i₀ n : ℕ) (r r₀ : Result) (f : ℕ)
    → (i ≡ i₀) ⊎ (length_of ss i ≡ suc n) → length_of ss i₀ ≤ n → r ≡ renoted ss f (suc n) r₀
    → at_front ss i r ≡ renoted ss (whole ss i (suc n) f) (suc n) (at_front ss i₀ r₀)
snoc_core ss zero i₀ n r r₀ f (inl q) h e = rw (← q) e
snoc_core ss zero i₀ n r r₀ f (inr q) h e = absurd (omega arith)
snoc_core ss (suc k) i₀ n r r₀ f (inl q) h e =
    rw (← q, ne_eqb (length_of ss (suc k)) (suc n) (λ l. let h' = (rw (← q) at h) in omega arith))
snoc_core ss (suc k) i₀ n r r₀ f (inr q) h e =
    rw (eq-eqb (length_of ss (suc k)) (suc n) q) (found_eq (suc k) (omega arith) (omega arith))

pub search_start : (ss : List (List ℕ)) → plain_search ss [] ≡ renoted ss (note_at ss []) zero nothing
search_start ss = go (closed ss []) (closed_length ss [])
  where
    go : (i : ℕ) → length_of ss i ≤ zero → at_front ss i nothing ≡ renoted ss (whole ss i zero zero) zero nothing
    go zero h = refl
    go (suc k) h = rw (eq-eqb (length_of ss (suc k)) zero (omega arith)) (found_eq (suc k) (omega arith) (omega arith))

pub search_snoc : (ss : List (List ℕ)) (t : List ℕ) (c : ℕ)
    → plain_search ss (t ++ (c ∷ [])) ≡ renoted ss (note_at ss (t ++ (c ∷ []))) (suc (length t)) (plain_search ss t)
search_snoc ss [] c =
    snoc_core ss (closed ss (c ∷ [])) (closed ss []) zero (onward (plain_search ss [])) nothing (note_at ss []) (snoc_closed ss [] c) (closed_length ss [])
    (ap onward (search_start ss) ∙ renoted_onward ss (note_at ss []) zero nothing (note_length ss []))
search_snoc ss (x ∷ t) c =
    rw (length_snoc t c)
    (snoc_core ss (closed ss (x ∷ t ++ (c ∷ []))) (closed ss (x ∷ t)) (suc (length t)) (onward (plain_search ss (t ++ (c ∷ [])))) (onward (plain_search ss t))
    (note_at ss (t ++ (c ∷ []))) (snoc_closed ss (x ∷ t) c) (closed_length ss (x ∷ t))
    (ap onward (search_snoc ss t c)
    ∙ renoted_onward ss (note_at ss (t ++ (c ∷ []))) (suc (length t)) (plain_search ss t) (rw (length_snoc t c) at (note_length ss (t ++ (c ∷ []))))))

further_le : (i m : ℕ) → i ≤ m → further i ≤ suc m
further_le zero m h = omega arith
further_le (suc i) m h = omega arith

pub closed_count : (ss : List (List ℕ)) (w : List ℕ) → closed ss w ≤ length ss
closed_count [] w = omega arith
closed_count (s ∷ ss) w =
    bool_case (is_prefix s w)
    (λ p. rw p (omega arith))
    (λ p. rw p (further_le (closed ss w) (length ss) (closed_count ss w)))

pub note_closed : (ss : List (List ℕ)) (v : List ℕ) {k : ℕ} → closed ss v ≡ suc k → note_at ss v ≡ only_where (eqb (length_of ss (suc k)) (length v)) (suc k)
note_closed ss [] e = rw e
note_closed ss (x ∷ v) e = rw e

-- what is noted is a listed string
pub note_count : (ss : List (List ℕ)) (v : List ℕ) → note_at ss v ≤ length ss
note_count ss [] = whole_holds (λ i. i ≤ length ss) (omega arith) ss (closed ss []) zero zero (closed_count ss []) (omega arith)
note_count ss (x ∷ v) =
    whole_holds (λ i. i ≤ length ss) (omega arith) ss (closed ss (x ∷ v)) (suc (length v)) (note_at ss v) (closed_count ss (x ∷ v)) (note_count ss v)
