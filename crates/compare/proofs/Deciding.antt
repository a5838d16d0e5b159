-- Laws of what decides a comparison: the first unequal pair that both texts have, or the longer one's tail, or the
-- lengths. Assumes nothing.
use mathlib.Core.Path.{◌≡◌, refl, sym, ◌∙◌}
use mathlib.Core.Bool.{Bool, true, false, cond}
use mathlib.Core.Logic.{◌⊎◌, inl, inr}
use mathlib.Core.List.{List}
use Prim.Native.Nat.{ℕ, ◌+◌, ◌-◌, ◌≤◌, ◌<◌, min, max}
use native.Mathlib.Omega.{arith}
use lib.Dec.{eqb, ltb}
use lib.IntN.{ℤ, pos, ◌+ℤ◌}
use lib.ListN.{length, get_or}
use borrow.Author.Rules.{rules}
use borrow.Author.Tests.{eq-eqb, ne_eqb, lt-ltb, le-ltb}
use Rattle.strlib.proofs.Pointing.{either}
use Rattle.strlib.proofs.Refusing.{bool_case}
use Rattle.strlib.proofs.Texts.{character_at}
use Rattle.strlib.specs.Pointer.{characters}
use Rattle.compare.specs.Order.{order_z, order_n}
use Rattle.compare.specs.Compare.{Decision, pairs, length_decides, order_at, unequal_from, decided, decision}
use Rattle.compare.specs.Inner.{Paired, Ended, tail_decision}
use Rattle.compare.proofs.Extending.{extent, pairs_unpadded}
use Rattle.compare.proofs.Ordering.{order_plain}
use Rattle.compare.proofs.Pairing.{FirstFrom, first_from, first_of, unequal_is, inside_is, padded_in, padded_past}
use Rattle.compare.proofs.Tailing.{past_any, zero_translates}

pub shortest : (xs ys : List ℕ) (n : ℕ) → n ≡ min (length xs) (length ys) → characters xs ≡ true → characters ys ≡ true → Ended xs ys n
shortest xs ys n e c d = record { shorter = e; characters_1 = c; characters_2 = d }

pub both_have : (xs ys : List ℕ) (n : ℕ) → n ≡ min (length xs) (length ys) → characters xs ≡ true → characters ys ≡ true → Paired xs ys n
both_have xs ys n e c d =
    record {
      within_1 = omega arith;
      within_2 = omega arith;
      character_1 = λ i h. character_at xs i c (omega arith);
      character_2 = λ i h. character_at ys i d (omega arith);
    }

-- ---- the first pair by itself; t is what the machine reads back from the bits of t', here and below

module _ (xs ys : List ℕ) (n : ℕ) (t t' : ℤ) (et : t ≡ t') where
  pub first_pair : (o : ℕ) → Paired xs ys n → (n ≡ 0 → ⊥) → o ≡ order_z (pos (get_or xs 0 0)) (pos (get_or ys 0 0) +ℤ t) → (o ≡ 1 → ⊥) → 0 ≡ unequal_from xs ys t' 0 n
  first_pair o p h eo e =
      let k : 0 < n = omega arith in
      rw (← et)
      (unequal_is xs ys t 0 n 0 (record { from = omega arith; within = omega arith; equal = λ j l m. omega arith; unequal = λ l z. e (eo ∙ inside_is xs ys t n p 0 k ∙ z) }))

  pub read_back : (r : ℕ) → r ≡ unequal_from xs ys t 0 n → r ≡ unequal_from xs ys t' 0 n
  read_back r e = e ∙ rw et

pub no_pair : (xs ys : List ℕ) (n : ℕ) (t : ℤ) → n ≡ 0 → 0 ≡ unequal_from xs ys t 0 n
unfolding unequal_from
no_pair xs ys n t h = rw h

-- ---- the tail

module _ (xs ys : List ℕ) (n d : ℕ) (p : Ended xs ys n) (e : d ≡ unequal_from xs ys (pos 0) n (max (length xs) (length ys) - n)) where
  tail_by : decided xs ys 0 (pos 0) (max (length xs) (length ys)) d ≡ tail_decision xs ys
  unfolding tail_decision
  tail_by = rw (e, p.shorter)

  tail_from : n ≤ d
  tail_from = rw e (first_from xs ys (pos 0) n (max (length xs) (length ys) - n)).from

  tail_order : order_at xs ys (pos 0) d ≡ order_z (pos (get_or xs d 32)) (pos (get_or ys d 32) +ℤ pos 0)
  tail_order = extent.past xs ys (pos 0) d (omega (arith, p.shorter, tail_from)) ∙ order_plain (get_or xs d 32) (get_or ys d 32)

  tail_pair : (o : ℕ) → d < max (length xs) (length ys) → o ≡ order_at xs ys (pos 0) d → record { order = o; split = d + 1 } ≡ tail_decision xs ys
  unfolding decided
  tail_pair o h eo = rw eo (rw (lt-ltb d (max (length xs) (length ys)) h) at tail_by)

  pub tail_of_first : (o : ℕ) → d < length xs → o ≡ order_z (pos (get_or xs d 0)) (pos 32 +ℤ pos 0) → record { order = o; split = d + 1 } ≡ tail_decision xs ys
  tail_of_first o h eo =
      let k : length ys ≤ d = omega (arith, p.shorter, tail_from) in
      tail_pair o (omega arith) (eo ∙ rw (padded_in xs d h) (rw (sym (padded_past ys d 32 k)) at (sym tail_order)))

  pub tail_of_second : (o : ℕ) → length xs ≤ d → d < length ys → o ≡ order_z (pos 32) (pos (get_or ys d 0) +ℤ pos 0) → record { order = o; split = d + 1 } ≡ tail_decision xs ys
  tail_of_second o k h eo = tail_pair o (omega arith) (eo ∙ rw (padded_in ys d h) (rw (sym (padded_past xs d 32 k)) at (sym tail_order)))

  pub tail_nothing : length xs ≤ d → length ys ≤ d → record { order = 1; split = 0 } ≡ tail_decision xs ys
  unfolding decided length_decides
  tail_nothing h k = let m : max (length xs) (length ys) ≤ d = omega arith in rw (le-ltb d (max (length xs) (length ys)) m) at tail_by

-- ---- the decision

pairs_least : (style m n : ℕ) → min m n ≤ pairs style m n
unfolding pairs
pairs_least style m n = bool_case (eqb style 0) (λ e. rw e (omega arith)) (λ e. rw e (omega arith))

module _ (xs ys : List ℕ) (style n d : ℕ) (t t' : ℤ) (p : Ended xs ys n) (et : t ≡ t') (ed : d ≡ unequal_from xs ys t 0 n) where
  by : (m e : ℕ) → m ≡ pairs style (length xs) (length ys) → e ≡ unequal_from xs ys t 0 m → decided xs ys style t m e ≡ decision xs ys style t'
  unfolding decision
  by m e em ee = rw (← et, ← em, ← ee)

  whole : FirstFrom xs ys t 0 n d
  whole = rw (← ed) at (first_of xs ys t n)

  pub by_pair : (o : ℕ) → d < n → o ≡ order_z (pos (get_or xs d 0)) (pos (get_or ys d 0) +ℤ t) → record { order = o; split = d + 1 } ≡ decision xs ys style t'
  unfolding decided
  by_pair o h eo =
      let m : ℕ = pairs style (length xs) (length ys) in
      let k : d < m = omega (arith, pairs_least style (length xs) (length ys), p.shorter) in
      let e : d ≡ unequal_from xs ys t 0 m =
      unequal_is xs ys t 0 m d (record { from = omega arith; within = omega arith; equal = whole.equal; unequal = λ l. whole.unequal h }) in
      rw (eo, inside_is xs ys t n (both_have xs ys n p.shorter p.characters_1 p.characters_2) d h) (rw (lt-ltb d m k) at (by m d refl e))

  -- where all pairs that both have are equal
  module _ (h : n ≤ d) where
    all_equal : (j : ℕ) → j < n → order_at xs ys t j ≡ 1
    all_equal j l = whole.equal j (omega arith) (omega arith)

    longer : ℕ
    longer = max (length xs) (length ys)

    tail_at : ℕ
    tail_at = unequal_from xs ys (pos 0) n (longer - n)

    in_tail : FirstFrom xs ys (pos 0) n longer tail_at
    unfolding tail_at longer
    in_tail = let k : n + (max (length xs) (length ys) - n) ≡ max (length xs) (length ys) = omega (arith, p.shorter) in rw k at (first_from xs ys (pos 0) n (max (length xs) (length ys) - n))

    in_all : tail_at ≡ unequal_from xs ys t 0 longer
    in_all =
        unequal_is xs ys t 0 longer tail_at
        (record {
          from = omega arith;
          within = omega (arith, in_tail.within);
          equal = λ j k l. either n j (λ m. past_any xs ys n p t (pos 0) j m ∙ in_tail.equal j m l) (λ m. all_equal j m);
          unequal = λ l o. in_tail.unequal (omega arith) (past_any xs ys n p (pos 0) t tail_at in_tail.from ∙ o);
        })

    tail_decides : decided xs ys style (pos 0) longer tail_at ≡ decided xs ys style t longer tail_at
    unfolding decided
    tail_decides = bool_case (ltb tail_at longer) (λ e. rw (e, past_any xs ys n p (pos 0) t tail_at in_tail.from)) (λ e. rw e)

    padded : style ≡ 0 → longer ≡ pairs style (length xs) (length ys)
    unfolding pairs longer
    padded s = rw (eq-eqb style 0 s)

    pub by_tail : (r : Decision) → style ≡ 0 → r ≡ tail_decision xs ys → r ≡ decision xs ys style t'
    unfolding tail_at longer
    by_tail r s er = rw s (er ∙ sym (tail_by xs ys n tail_at p refl) ∙ (rw s at (tail_decides ∙ by longer tail_at (padded s) in_all)))

    unpadded : (style ≡ 0 → ⊥) → n ≡ pairs style (length xs) (length ys)
    unpadded s = p.shorter ∙ sym (pairs_unpadded style (length xs) (length ys) s)

    pub by_length : (o : ℕ) → style ≡ 1 → (length xs ≡ length ys → ⊥) → o ≡ order_n (length xs) (length ys) → record { order = o; split = n + 1 } ≡ decision xs ys style t'
    unfolding decided length_decides
    by_length o s f eo =
        rw eo (rw (le-ltb d n h, eq-eqb style 1 s, ne_eqb (length xs) (length ys) f) at (by n d (unpadded (λ z. omega arith)) ed))

    pub by_nothing : (style ≡ 0 → ⊥) → ((style ≡ 1) × (length xs ≡ length ys)) ⊎ (style ≡ 1 → ⊥) → record { order = 1; split = 0 } ≡ decision xs ys style t'
    unfolding decided length_decides
    by_nothing s (inl p) = rw (le-ltb d n h, eq-eqb style 1 p.0, eq-eqb (length xs) (length ys) p.1) at (by n d (unpadded s) ed)
    by_nothing s (inr f) = rw (le-ltb d n h, ne_eqb style 1 f) at (by n d (unpadded s) ed)

pub ruleset deciding_laws =
    (rules, shortest, both_have, first_pair, read_back, no_pair, zero_translates, tail_of_first, tail_of_second, tail_nothing, by_pair, by_tail, by_length, by_nothing)
