-- Which text matters: by the kinds of a text, each by going through the strings. One character more is one step from
-- the text that matters, and after a stop nothing changes. Assumes nothing.
use Prim.Native.Nat.{ℕ, zero, suc, ◌≤◌, ◌<◌}
use mathlib.Core.Path.{◌≡◌, refl, sym, ap, ◌∙◌}
use mathlib.Core.Bool.{Bool, true, false}
use mathlib.Core.List.{List, [], ◌∷◌, ◌++◌}
use native.Mathlib.Omega.{arith}
use lib.Dec.{leb, leb-suc-zero, leb-suc-suc, leb-zero}
use lib.ListN.{length}
use Rattle.search.specs.Search.{is_prefix, further, first_number, closed, length_of, nothing, found, onward, plain_search}
use Rattle.states.specs.Node.{child, Kind, live, shut, dead, lead, kind, text_kind, stop, at, arrive, reach, next_node}
use Rattle.states.proofs.Prefixes.{not_prefix_longer, prefix_longer, apart_longer, how}

-- `text_kind` by recursion on the list of strings
abbrev pub kind_step : Bool → Bool → Kind → Kind
kind_step true b k = live
kind_step false true k = shut
kind_step false false k = k

kind_one_left : (i : ℕ) → kind i 1 ≡ live
kind_one_left zero = refl
kind_one_left (suc i) = rw (leb-zero i)

kind_one_right : (j : ℕ) → kind 1 (further j) ≡ shut
kind_one_right zero = refl
kind_one_right (suc j) = rw (leb-suc-zero j)

kind_further : (i j : ℕ) → kind (further i) (further j) ≡ kind i j
kind_further zero zero = refl
kind_further zero (suc j) = refl
kind_further (suc i) zero = refl
kind_further (suc i) (suc j) = rw (leb-suc-suc j i)

kind_cons : (a b : Bool) (i j : ℕ) → kind (first_number b i) (first_number a j) ≡ kind_step a b (kind i j)
kind_cons true b i j = kind_one_left (first_number b i)
kind_cons false true i j = kind_one_right j
kind_cons false false i j = kind_further i j

pub text_kind_cons : (s : List ℕ) (ss : List (List ℕ)) (w : List ℕ) → text_kind (s ∷ ss) w ≡ kind_step (is_prefix w s) (is_prefix s w) (text_kind ss w)
text_kind_cons s ss w = kind_cons (is_prefix w s) (is_prefix s w) (closed ss w) (child ss w)

pub live≢shut : live ≡ shut → ⊥
live≢shut e = let z : ◌≡◌ {A = ℕ} 0 1 = cc in omega arith

pub live≢dead : live ≡ dead → ⊥
live≢dead e = let z : ◌≡◌ {A = ℕ} 0 1 = cc in omega arith

pub shut≢dead : shut ≡ dead → ⊥
shut≢dead e = let z : ◌≡◌ {A = ℕ} 0 1 = cc in omega arith

pub at≢stop : {v : List ℕ} → at v ≡ stop → ⊥
at≢stop e = let z : ◌≡◌ {A = ℕ} 0 1 = cc in omega arith

-- shut stays shut, and closed by the same string
pub shut_longer : (ss : List (List ℕ)) (w z : List ℕ) → text_kind ss w ≡ shut → (text_kind ss (w ++ z) ≡ shut) × (closed ss (w ++ z) ≡ closed ss w)
shut_longer [] w z e = absurd (shut≢dead (sym e))
shut_longer (s ∷ ss) w z e =
    how s w
    (λ p. absurd (live≢shut (rw (text_kind_cons, p) at e)))
    (λ p q. (rw (text_kind_cons, not_prefix_longer w z s p, prefix_longer s w z q), rw (prefix_longer s w z q, q)))
    (λ p q. let ih = shut_longer ss w z (rw (text_kind_cons, p, q) at e) in
    (rw (text_kind_cons, not_prefix_longer w z s p, apart_longer s w z p q) ih.0, rw (apart_longer s w z p q, q) (ap further ih.1)))

-- dead stays dead
pub dead_longer : (ss : List (List ℕ)) (w z : List ℕ) → text_kind ss w ≡ dead → text_kind ss (w ++ z) ≡ dead
dead_longer [] w z e = refl
dead_longer (s ∷ ss) w z e =
    how s w
    (λ p. absurd (live≢dead (rw (text_kind_cons, p) at e)))
    (λ p q. absurd (shut≢dead (rw (text_kind_cons, p, q) at e)))
    (λ p q. rw (text_kind_cons, not_prefix_longer w z s p, apart_longer s w z p q) (dead_longer ss w z (rw (text_kind_cons, p, q) at e)))

-- what a kind says of the two numbers
lead≢dead : (b : Bool) → lead b ≡ dead → ⊥
lead≢dead true e = live≢dead e
lead≢dead false e = shut≢dead e

kind_dead : (i j : ℕ) → kind i j ≡ dead → i ≡ zero
kind_dead zero j e = refl
kind_dead (suc i) zero e = absurd (shut≢dead e)
kind_dead (suc i) (suc j) e = absurd (lead≢dead (leb j i) e)

kind_shut : (i j : ℕ) → kind i j ≡ shut → (k : ℕ) × (i ≡ suc k)
kind_shut zero zero e = absurd (shut≢dead (sym e))
kind_shut zero (suc j) e = absurd (live≢shut e)
kind_shut (suc i) j e = (i, refl)

kind_live : (i j : ℕ) → kind i j ≡ live → 0 < j
kind_live zero zero e = absurd (live≢dead (sym e))
kind_live zero (suc j) e = omega arith
kind_live (suc i) zero e = absurd (live≢shut (sym e))
kind_live (suc i) (suc j) e = omega arith

pub dead_closed : (ss : List (List ℕ)) (w : List ℕ) → text_kind ss w ≡ dead → closed ss w ≡ zero
dead_closed ss w e = kind_dead (closed ss w) (child ss w) e

pub shut_closed : (ss : List (List ℕ)) (w : List ℕ) → text_kind ss w ≡ shut → (k : ℕ) × (closed ss w ≡ suc k)
shut_closed ss w e = kind_shut (closed ss w) (child ss w) e

pub live_child : (ss : List (List ℕ)) (w : List ℕ) → text_kind ss w ≡ live → 0 < child ss w
live_child ss w e = kind_live (closed ss w) (child ss w) e

pub kind_case : {P : Type 0} (k : Kind) → (k ≡ live → P) → (k ≡ shut → P) → (k ≡ dead → P) → P
kind_case live f g h = f refl
kind_case shut f g h = g refl
kind_case dead f g h = h refl

-- one character more
pub reach_step : (ss : List (List ℕ)) (t : List ℕ) (c : ℕ) → reach ss (t ++ (c ∷ [])) ≡ next_node ss (reach ss t) c
reach_step ss [] c =
    kind_case (text_kind ss [])
    (λ p. ap (λ (k : Kind). next_node ss (arrive k [] stop) c) (sym p))
    (λ p. rw (p, (shut_longer ss [] (c ∷ []) p).0))
    (λ p. rw (p, dead_longer ss [] (c ∷ []) p))
reach_step ss (x ∷ t) c =
    kind_case (text_kind ss (x ∷ t))
    (λ p. rw p)
    (λ p. rw (p, (shut_longer ss (x ∷ t) (c ∷ []) p).0))
    (λ p. rw (p, dead_longer ss (x ∷ t) (c ∷ []) p) (reach_step ss t c))

-- what holds of every live text and itself, and with a character more in front, holds of a text and the node that it
-- reaches
reach_holds : (ss : List (List ℕ)) (P : List ℕ → List ℕ → Type 0) → ((w : List ℕ) → text_kind ss w ≡ live → P w w)
    → ((x : ℕ) (w v : List ℕ) → P w v → P (x ∷ w) v) → (w : List ℕ) {v : List ℕ} → reach ss w ≡ at v → P w v
reach_holds ss P f g [] {v} e =
    kind_case (text_kind ss [])
    (λ p. let q : [] ≡ v = cc (rw p at e) in rw (← q) (f [] p))
    (λ p. absurd (at≢stop (sym (rw p at e))))
    (λ p. absurd (at≢stop (sym (rw p at e))))
reach_holds ss P f g (x ∷ w) {v} e =
    kind_case (text_kind ss (x ∷ w))
    (λ p. let q : x ∷ w ≡ v = cc (rw p at e) in rw (← q) (f (x ∷ w) p))
    (λ p. absurd (at≢stop (sym (rw p at e))))
    (λ p. g x w v (reach_holds ss P f g w (rw p at e)))

-- a node that is reached is live: it is a prefix of a listed string
pub reach_live : (ss : List (List ℕ)) (w : List ℕ) {v : List ℕ} → reach ss w ≡ at v → text_kind ss v ≡ live
reach_live ss w e = reach_holds ss (λ w v. text_kind ss v ≡ live) (λ w p. p) (λ x w v h. h) w e

-- the text that matters is an end of the whole, and so no longer
pub reach_length : (ss : List (List ℕ)) (w : List ℕ) {v : List ℕ} → reach ss w ≡ at v → length v ≤ length w
reach_length ss w e = reach_holds ss (λ w v. length v ≤ length w) (λ w p. omega arith) (λ x w v h. omega arith) w e

-- what a stop means
pub search_front : (ss : List (List ℕ)) (h : List ℕ) {k : ℕ} → closed ss h ≡ suc k → plain_search ss h ≡ found (suc k) 1 (suc (length_of ss (suc k)))
search_front ss [] e = rw e
search_front ss (x ∷ h) e = rw e

search_none : (ss : List (List ℕ)) → ((z : List ℕ) → closed ss z ≡ zero) → (h : List ℕ) → plain_search ss h ≡ nothing
search_none ss f [] = rw (f [])
search_none ss f (x ∷ h) = rw (f (x ∷ h)) (ap onward (search_none ss f h))

shut_search : (ss : List (List ℕ)) (w z : List ℕ) → text_kind ss w ≡ shut → plain_search ss (w ++ z) ≡ plain_search ss w
shut_search ss w z p =
    let (k, q) = shut_closed ss w p in
    search_front ss (w ++ z) ((shut_longer ss w z p).1 ∙ q) ∙ sym (search_front ss w q)

pub stopped : (ss : List (List ℕ)) (w z : List ℕ) → reach ss w ≡ stop → plain_search ss (w ++ z) ≡ plain_search ss w
stopped ss [] z e =
    kind_case (text_kind ss [])
    (λ p. absurd (at≢stop (rw p at e)))
    (λ p. shut_search ss [] z p)
    (λ p. let f : (y : List ℕ) → closed ss y ≡ zero = λ y. dead_closed ss y (dead_longer ss [] y p) in
    search_none ss f z ∙ sym (search_none ss f []))
stopped ss (x ∷ w) z e =
    kind_case (text_kind ss (x ∷ w))
    (λ p. absurd (at≢stop (rw p at e)))
    (λ p. shut_search ss (x ∷ w) z p)
    (λ p. rw (dead_closed ss (x ∷ w ++ z) (dead_longer ss (x ∷ w) z p), dead_closed ss (x ∷ w) p) (ap onward (stopped ss w z (rw p at e))))
