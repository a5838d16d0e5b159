-- Where the answer is sure, one character more leads to a stop. A text that has not led to a stop can still become a
-- listed string, and the answer then ends past the text; an answer found in a text ends inside it. And a stop is led to
-- only where the answer is sure. Assumes nothing.
use Prim.Native.Nat.{ℕ, zero, suc, ◌+◌, ◌≤◌}
use mathlib.Core.Path.{◌≡◌, refl, sym, ap, ◌∙◌}
use mathlib.Core.Bool.{Bool, true, false, false≢true}
use mathlib.Core.List.{List, [], ◌∷◌, ◌++◌, append_assoc}
use native.Mathlib.Omega.{arith}
use lib.Dec.{eqb, leb}
use lib.ListN.{length, length-append}
use lib.Seq.{take-length}
use borrow.Author.Tests.{eqb-true, le-leb}
use Rattle.strlib.proofs.Refusing.{and_both}
use Rattle.strlib.specs.Pointer.{all, characters}
use Rattle.search.proofs.Answering.{found_bounds}
use Rattle.search.proofs.Prefixes.{stands_prefix}
use Rattle.search.specs.Search.{is_prefix, closed, length_of, Result, nothing, found, onward, at_front, plain_search}
use Rattle.states.specs.Node.{live, text_kind, Node, stop, at, reach}
use Rattle.states.specs.Sure.{Sure, EmptySure, NothingSure}
use Rattle.states.proofs.Prefixes.{apart_longer, how, length_snoc}
use Rattle.states.proofs.Reaching.{text_kind_cons, live≢shut, live≢dead, at≢stop, dead_closed, dead_longer, kind_case, search_front, stopped}

-- ---- what a live text can become

-- what is missing of a string that begins with w
record Rest (w s : List ℕ) : Type 0 where
  pub rest : List ℕ
  pub plain : characters rest ≡ true
  pub whole : w ++ rest ≡ s

rest_cons : (x y : ℕ) (w s : List ℕ) → x ≡ y → Rest w s → Rest (x ∷ w) (y ∷ s)
rest_cons x y w s e r = record { rest = r.rest; plain = r.plain; whole = rw (e, r.whole) }

prefix_rest : (w s : List ℕ) → is_prefix w s ≡ true → characters s ≡ true → Rest w s
unfolding characters all
prefix_rest [] s e k = record { rest = s; plain = k; whole = refl }
prefix_rest (x ∷ w) [] e k = absurd (false≢true e)
prefix_rest (x ∷ w) (y ∷ s) e k =
    let b = and_both (eqb x y) (is_prefix w s) e in
    rest_cons x y w s (eqb-true x y b.0) (prefix_rest w s b.1 (and_both (leb y 127) (characters s) k).1)

prefix_self : (s : List ℕ) → is_prefix s s ≡ true
prefix_self s = stands_prefix s s (take-length s)

-- with some rest behind w a listed string is found at the front that is at least as long as w
record Grows (ss : List (List ℕ)) (w : List ℕ) : Type 0 where
  pub rest : List ℕ
  pub plain : characters rest ≡ true
  pub number : ℕ
  pub closes : closed ss (w ++ rest) ≡ suc number
  pub long : length w ≤ length_of ss (suc number)

grows_here : (s : List ℕ) (ss : List (List ℕ)) (w : List ℕ) → Rest w s → Grows (s ∷ ss) w
grows_here s ss w r =
    let l : length w + length r.rest ≡ length s = sym (length-append w r.rest) ∙ ap length r.whole in
    record { rest = r.rest; plain = r.plain; number = zero; closes = rw (r.whole, prefix_self s); long = omega arith }

grows_later : (s : List ℕ) (ss : List (List ℕ)) (w : List ℕ) → is_prefix w s ≡ false → is_prefix s w ≡ false → Grows ss w → Grows (s ∷ ss) w
grows_later s ss w p q g =
    record { rest = g.rest; plain = g.plain; number = suc g.number; closes = rw (apart_longer s w g.rest p q, g.closes); long = g.long }

live_grows : (ss : List (List ℕ)) (w : List ℕ) → all characters ss ≡ true → text_kind ss w ≡ live → Grows ss w
unfolding all
live_grows [] w k e = absurd (live≢dead (sym e))
live_grows (s ∷ ss) w k e =
    let b = and_both (characters s) (all characters ss) k in
    how s w
    (λ p. grows_here s ss w (prefix_rest w s p b.0))
    (λ p q. absurd (live≢shut (sym (rw (text_kind_cons, p, q) at e))))
    (λ p q. grows_later s ss w p q (live_grows ss w b.1 (rw (text_kind_cons, p, q) at e)))

-- ---- a text that has not led to a stop is not sure for good

-- with some rest behind t the answer ends past t
record Unsettled (ss : List (List ℕ)) (t : List ℕ) : Type 0 where
  pub rest : List ℕ
  pub plain : characters rest ≡ true
  pub number : ℕ
  pub pos1 : ℕ
  pub pos2 : ℕ
  pub finds : plain_search ss (t ++ rest) ≡ found number pos1 pos2
  pub late : suc (length t) ≤ pos2

unsettled_here : (ss : List (List ℕ)) (t : List ℕ) → Grows ss t → Unsettled ss t
unsettled_here ss t g =
    record {
      rest = g.rest;
      plain = g.plain;
      number = suc g.number;
      pos1 = 1;
      pos2 = suc (length_of ss (suc g.number));
      finds = search_front ss (t ++ g.rest) g.closes;
      late = omega (arith, g.long);
    }

unsettled_later : (ss : List (List ℕ)) (x : ℕ) (t : List ℕ) → ((z : List ℕ) → closed ss (x ∷ t ++ z) ≡ zero) → Unsettled ss t → Unsettled ss (x ∷ t)
unsettled_later ss x t d o =
    record {
      rest = o.rest;
      plain = o.plain;
      number = o.number;
      pos1 = suc o.pos1;
      pos2 = suc o.pos2;
      finds = rw (d o.rest, o.finds);
      late = omega (arith, o.late);
    }

reach_unsettled : (ss : List (List ℕ)) (t : List ℕ) {w : List ℕ} → all characters ss ≡ true → reach ss t ≡ at w → Unsettled ss t
reach_unsettled ss [] k e =
    kind_case (text_kind ss [])
    (λ p. unsettled_here ss [] (live_grows ss [] k p))
    (λ p. absurd (at≢stop (sym (rw p at e))))
    (λ p. absurd (at≢stop (sym (rw p at e))))
reach_unsettled ss (x ∷ t) k e =
    kind_case (text_kind ss (x ∷ t))
    (λ p. unsettled_here ss (x ∷ t) (live_grows ss (x ∷ t) k p))
    (λ p. absurd (at≢stop (sym (rw p at e))))
    (λ p. unsettled_later ss x t (λ z. dead_closed ss (x ∷ t ++ z) (dead_longer ss (x ∷ t) z p)) (reach_unsettled ss t k (rw p at e)))

-- ---- where the answer is sure, one character more leads to a stop

pub sure_stop : (ss : List (List ℕ)) (t : List ℕ) (c : ℕ) → all characters ss ≡ true → c ≤ 127 → Sure ss t → reach ss (t ++ (c ∷ [])) ≡ stop
unfolding Sure characters all
sure_stop ss t c k l d = go (reach ss (t ++ (c ∷ []))) refl
  where
    go : (nd : Node) → reach ss (t ++ (c ∷ [])) ≡ nd → nd ≡ stop
    go stop e = refl
    go (at w) e =
        let o = reach_unsettled ss (t ++ (c ∷ [])) k e in
        let plain : characters (c ∷ o.rest) ≡ true = rw (le-leb c 127 l) o.plain in
        let q : plain_search ss t ≡ found o.number o.pos1 o.pos2
        = sym (d (c ∷ o.rest) plain) ∙ ap (plain_search ss) (sym (append_assoc t (c ∷ []) o.rest)) ∙ o.finds in
        absurd (omega (arith, (found_bounds ss t o.number o.pos1 o.pos2 q).1.1, o.late, length_snoc t c))

-- the other way round
stop_sure : (ss : List (List ℕ)) (t : List ℕ) → reach ss t ≡ stop → Sure ss t
unfolding Sure
stop_sure ss t e = λ z k. stopped ss t z e

pub empty_sure : EmptySure
empty_sure = λ host. record { inside = omega arith; sure = stop_sure [] [] refl; first = λ i d. omega arith }

-- ---- with a listed string behind any text something is found

abbrev is_found : Result → Bool
is_found nothing = false
is_found (found j pos1 pos2) = true

front_found : (ss : List (List ℕ)) (i : ℕ) (r : Result) → is_found r ≡ true → is_found (at_front ss i (onward r)) ≡ true
front_found ss zero (found j pos1 pos2) e = refl
front_found ss zero nothing e = e
front_found ss (suc i) r e = refl

listed_found : (s : List ℕ) (ss : List (List ℕ)) (t : List ℕ) → is_found (plain_search (s ∷ ss) (t ++ s)) ≡ true
listed_found s ss [] = rw (search_front (s ∷ ss) s {k = 0} (rw (prefix_self s)))
listed_found s ss (x ∷ t) = front_found (s ∷ ss) (closed (s ∷ ss) (x ∷ t ++ s)) (plain_search (s ∷ ss) (t ++ s)) (listed_found s ss t)

pub nothing_sure : NothingSure
unfolding Sure all
nothing_sure = go
  where
    go : (ss : List (List ℕ)) (t : List ℕ) → all characters ss ≡ true → Sure ss t → plain_search ss t ≡ nothing → ss ≡ []
    go [] t k d e = refl
    go (s ∷ ss) t k d e =
        absurd (false≢true (ap is_found (sym (d s (and_both (characters s) (all characters ss) k).0 ∙ e)) ∙ listed_found s ss t))
