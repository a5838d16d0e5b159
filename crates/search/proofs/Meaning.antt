-- The law of the plain search. The first listed prefix is found by going through the list, and a character more in
-- front moves every occurrence by one position, so the law follows by going through the host. Assumes nothing.
use Prim.Native.Nat.{ℕ, zero, suc, ◌+◌, ◌-◌, ◌≤◌, ◌<◌}
use mathlib.Core.Path.{◌≡◌, refl, sym, ap, ◌∙◌}
use mathlib.Core.Bool.{Bool, true, false, true≢false}
use mathlib.Core.List.{List, [], ◌∷◌}
use mathlib.Core.Logic.{◌⊎◌, inl, inr, ⊎_elim}
use native.Mathlib.Omega.{arith}
use lib.ListN.{length, drop, get_or}
use lib.Seq.{drop-nil}
use Rattle.search.proofs.Prefixes.{prefix_stands, stands_prefix}
use Rattle.search.specs.Search.{is_prefix, first_number, closed, length_of, Result, nothing, found, onward, at_front, plain_search}
use Rattle.search.specs.Occurrence.{string_of, listed_at, Earliest, Nowhere, SearchLaw, SearchLaws}

-- ---- the first listed string that is a prefix

abbrev Prefix : List (List ℕ) → List ℕ → ℕ → Type 0
Prefix ss w k = (k < length ss) × (is_prefix (get_or ss k []) w ≡ true)

abbrev ClosedIs : List (List ℕ) → List ℕ → ℕ → Type 0
ClosedIs ss w zero = (k : ℕ) → Prefix ss w k → ⊥
ClosedIs ss w (suc k) = Prefix ss w k × ((i : ℕ) → Prefix ss w i → k ≤ i)

closed_cons : (s : List ℕ) (ss : List (List ℕ)) (w : List ℕ) (b : Bool) → is_prefix s w ≡ b → (n : ℕ) → ClosedIs ss w n → ClosedIs (s ∷ ss) w (first_number b n)
closed_cons s ss w true e n c = ((omega arith, e), λ i q. omega arith)
closed_cons s ss w false e zero c = go
  where
    go : (k : ℕ) → Prefix (s ∷ ss) w k → ⊥
    go zero q = true≢false (sym q.1 ∙ e)
    go (suc k) q = c k (omega arith, q.1)
closed_cons s ss w false e (suc k) c = ((omega arith, c.0.1), go)
  where
    go : (i : ℕ) → Prefix (s ∷ ss) w i → suc k ≤ i
    go zero q = absurd (true≢false (sym q.1 ∙ e))
    go (suc i) q = omega (arith, c.1 i (omega arith, q.1))

closed_is : (ss : List (List ℕ)) (w : List ℕ) → ClosedIs ss w (closed ss w)
closed_is [] w = λ k q. omega arith
closed_is (s ∷ ss) w = closed_cons s ss w (is_prefix s w) refl (closed ss w) (closed_is ss w)

-- ---- the answer, counted from 0: string k with o characters before it

record Stands (ss : List (List ℕ)) (h : List ℕ) (k o : ℕ) : Type 0 where
  pub inside : o ≤ length h
  pub here : Prefix ss (drop o h) k

record First (ss : List (List ℕ)) (h : List ℕ) (j p e : ℕ) : Type 0 where
  pub k : ℕ
  pub o : ℕ
  pub string : j ≡ suc k
  pub place : p ≡ suc o
  pub ends : e ≡ p + length (get_or ss k [])
  pub stands : Stands ss h k o
  pub least : (i n : ℕ) → Stands ss h i n → (o < n) ⊎ ((o ≡ n) × (k ≤ i))

abbrev Best : List (List ℕ) → List ℕ → Result → Type 0
Best ss h nothing = (k o : ℕ) → Stands ss h k o → ⊥
Best ss h (found j p e) = First ss h j p e

best_front : (ss : List (List ℕ)) (h : List ℕ) (k : ℕ) → ClosedIs ss h (suc k) → First ss h (suc k) 1 (suc (length_of ss (suc k)))
best_front ss h k c =
    record {
      k = k;
      o = zero;
      string = refl;
      place = refl;
      ends = omega arith;
      stands = record { inside = omega arith; here = c.0 };
      least = go;
    }
  where
    go : (i n : ℕ) → Stands ss h i n → (0 < n) ⊎ ((0 ≡ n) × (k ≤ i))
    go i zero q = inr (refl, c.1 i q.here)
    go i (suc n) q = inl (omega arith)

back : {ss : List (List ℕ)} {x : ℕ} {h : List ℕ} {k o : ℕ} → Stands ss (x ∷ h) k (suc o) → Stands ss h k o
back q = record { inside = omega (arith, q.inside); here = q.here }

best_onward : (ss : List (List ℕ)) (x : ℕ) (h : List ℕ) (r : Result) → ClosedIs ss (x ∷ h) zero → Best ss h r → Best ss (x ∷ h) (onward r)
best_onward ss x h nothing c b = go
  where
    go : (k o : ℕ) → Stands ss (x ∷ h) k o → ⊥
    go k zero q = c k q.here
    go k (suc o) q = b k o (back q)
best_onward ss x h (found j p e) c b =
    record {
      k = b.k;
      o = suc b.o;
      string = b.string;
      place = ap suc b.place;
      ends = omega (arith, b.ends);
      stands = record { inside = omega (arith, b.stands.inside); here = b.stands.here };
      least = go;
    }
  where
    go : (i n : ℕ) → Stands ss (x ∷ h) i n → (suc b.o < n) ⊎ ((suc b.o ≡ n) × (b.k ≤ i))
    go i zero q = absurd (c i q.here)
    go i (suc n) q = ⊎_elim (λ l. inl (omega arith)) (λ l. inr (ap suc l.0, l.1)) (b.least i n (back q))

best_nil : (ss : List (List ℕ)) (n : ℕ) → ClosedIs ss [] n → Best ss [] (at_front ss n nothing)
best_nil ss zero c = λ k o q. c k (rw (drop-nil o) at q.here)
best_nil ss (suc k) c = best_front ss [] k c

best_cons : (ss : List (List ℕ)) (x : ℕ) (h : List ℕ) (n : ℕ) → ClosedIs ss (x ∷ h) n → (r : Result) → Best ss h r → Best ss (x ∷ h) (at_front ss n (onward r))
best_cons ss x h zero c r b = best_onward ss x h r c b
best_cons ss x h (suc k) c r b = best_front ss (x ∷ h) k c

best : (ss : List (List ℕ)) (h : List ℕ) → Best ss h (plain_search ss h)
best ss [] = best_nil ss (closed ss []) (closed_is ss [])
best ss (x ∷ h) = best_cons ss x h (closed ss (x ∷ h)) (closed_is ss (x ∷ h)) (plain_search ss h) (best ss h)

-- ---- in the paper's words, counted from 1

module _ (ss : List (List ℕ)) (h : List ℕ) where
  listed : {k o : ℕ} → Stands ss h k o → listed_at ss h (suc k) (suc o)
  unfolding string_of
  listed {k} {o} q =
      let a : suc k - 1 ≡ k = omega arith in
      let b : suc o - 1 ≡ o = omega arith in
      record {
        from = omega arith;
        to = omega (arith, q.here.0);
        occurs =
            record {
              from = omega arith;
              to = omega (arith, q.inside);
              stands = rw (a, b) (prefix_stands (get_or ss k []) (drop o h) q.here.1);
            };
      }

  standing : {j p : ℕ} → listed_at ss h j p → Stands ss h (j - 1) (p - 1)
  unfolding string_of
  standing {j} {p} q =
      record {
        inside = omega (arith, q.occurs.from, q.occurs.to);
        here = (omega (arith, q.from, q.to), stands_prefix (get_or ss (j - 1) []) (drop (p - 1) h) q.occurs.stands);
      }

  earliest : {j p e : ℕ} → First ss h j p e → Earliest ss h j p e
  unfolding string_of
  earliest {j} {p} {e} f =
      let a : j - 1 ≡ f.k = omega (arith, f.string) in
      record {
        occurs = rw (f.string, f.place) (listed f.stands);
        ends = rw a f.ends;
        position = λ i n q. ⊎_elim (λ l. omega (arith, f.place, q.occurs.from)) (λ l. omega (arith, f.place, q.occurs.from)) (f.least (i - 1) (n - 1) (standing q));
        number = λ i q. ⊎_elim (λ l. absurd (omega (arith, f.place))) (λ l. omega (arith, f.string, q.from)) (f.least (i - 1) (p - 1) (standing q));
      }

  one : {j p e j' p' e' : ℕ} → Earliest ss h j p e → Earliest ss h j' p' e' → found j p e ≡ found j' p' e'
  one {j} {p} {e} {j'} {p'} {e'} a b =
      let x : p ≡ p' = omega (arith, a.position j' p' b.occurs, b.position j p a.occurs) in
      let y : j ≡ j' = omega (arith, a.number j' (rw (← x) at b.occurs), b.number j (rw x at a.occurs)) in
      let z : e ≡ e' = a.ends ∙ rw (x, y) (sym b.ends) in
      rw (x, y, z)

  law_of : SearchLaw ss h
  law_of =
      record {
        found_is = λ j p e q. earliest (rw q at (best ss h));
        is_found = λ j p e a. is_found a (plain_search ss h) (best ss h);
        nothing_is = λ q j p l. nowhere (plain_search ss h) q (best ss h) l;
        is_nothing = λ n. is_nothing n (plain_search ss h) (best ss h);
      }
    where
      is_found : {j p e : ℕ} → Earliest ss h j p e → (r : Result) → Best ss h r → r ≡ found j p e
      is_found {j} {p} a nothing b = absurd (b (j - 1) (p - 1) (standing a.occurs))
      is_found a (found j p e) b = one (earliest b) a

      nowhere : (r : Result) → r ≡ nothing → Best ss h r → {j p : ℕ} → listed_at ss h j p → ⊥
      nowhere nothing q b {j} {p} l = b (j - 1) (p - 1) (standing l)
      nowhere (found i n e) q b l = let z : ◌≡◌ {A = ℕ} 0 1 = cc in absurd (omega arith)

      is_nothing : Nowhere ss h → (r : Result) → Best ss h r → r ≡ nothing
      is_nothing n nothing b = refl
      is_nothing n (found j p e) b = absurd (n j p (earliest b).occurs)

pub search_law : SearchLaws
search_law ss h = law_of ss h
