-- Laws of the padded order. The first unequal pair is the first place at which the two texts, which go on with blanks for
-- ever, differ; from that all else follows place by place. Assumes nothing.
use mathlib.Core.Path.{◌≡◌, refl, sym, ap, ◌∙◌, subst}
use mathlib.Core.List.{List, [], ◌∷◌, ◌++◌}
use Prim.Native.Nat.{ℕ, zero, suc, ◌+◌, ◌-◌, ◌≤◌, ◌<◌, min, max}
use native.Mathlib.Omega.{arith}
use lib.IntN.{pos}
use lib.ListN.{length, get_or, replicate}
use borrow.Author.Rules.{rules}
use borrow.Author.Tests.{lt-ltb, le-ltb}
use Rattle.strlib.proofs.Pointing.{either}
use Rattle.compare.specs.Order.{order_n}
use Rattle.compare.specs.Compare.{pairs, length_decides, order_at, unequal_from, FirstUnequal, decided, decision}
use Rattle.compare.specs.Padded.{padded_order, Equal, Less, PaddedOrder}
use Rattle.compare.proofs.Extending.{untranslated, turned_round}
use Rattle.compare.proofs.Ordering.{by_order, plain, less as order_less, same as order_same, more as order_more}
use Rattle.compare.proofs.Pairing.{first_unequal_is, padded_in, padded_past}

-- ---- what decides

pub data Which (xs ys : List ℕ) : Type 0 where
  is_less : Less xs ys → Which xs ys
  is_equal : Equal xs ys → Which xs ys
  is_more : Less ys xs → Which xs ys

order_one : (a b : ℕ) → order_n a b ≡ 1 → a ≡ b
order_one a b e = by_order a b (λ h. absurd (omega (arith, order_less a b h))) (λ h. h) (λ h. absurd (omega (arith, order_more a b h)))

module _ (xs ys : List ℕ) where
  at_is : (i : ℕ) → order_at xs ys (pos 0) i ≡ order_n (get_or xs i 32) (get_or ys i 32)
  at_is i = untranslated xs ys i ∙ plain (get_or xs i 32) (get_or ys i 32)

  abbrev most : ℕ
  most = max (length xs) (length ys)

  unequal : ℕ
  unequal = unequal_from xs ys (pos 0) 0 most

  first_is : FirstUnequal xs ys (pos 0) most unequal
  unfolding unequal
  first_is = first_unequal_is xs ys (pos 0) most

  by_place : unequal < most → padded_order xs ys ≡ order_n (get_or xs unequal 32) (get_or ys unequal 32)
  unfolding padded_order decision decided pairs unequal
  by_place h = rw (lt-ltb unequal most h, padded_order) (at_is unequal)

  by_nothing : most ≤ unequal → padded_order xs ys ≡ 1
  unfolding padded_order decision decided pairs length_decides unequal
  by_nothing h = rw (le-ltb unequal most h, padded_order)

  same_before : (i : ℕ) → i < unequal → get_or xs i 32 ≡ get_or ys i 32
  same_before i h = order_one (get_or xs i 32) (get_or ys i 32) (sym (at_is i) ∙ first_is.equal i h)

  not_same : unequal < most → get_or xs unequal 32 ≡ get_or ys unequal 32 → ⊥
  not_same h e = first_is.unequal h (at_is unequal ∙ order_same (get_or xs unequal 32) (get_or ys unequal 32) e)

  both_past : (i : ℕ) → most ≤ i → get_or xs i 32 ≡ get_or ys i 32
  both_past i h = sym (padded_past xs i 32 (omega arith)) ∙ padded_past ys i 32 (omega arith)

  which : Which xs ys
  which =
      either most unequal
      (λ (h : most ≤ unequal). is_equal (λ i. either unequal i (λ (k : unequal ≤ i). both_past i (omega arith)) (λ (k : i < unequal). same_before i k)))
      (λ (h : unequal < most).
      by_order (get_or xs unequal 32) (get_or ys unequal 32)
      (λ l. is_less (record { place = unequal; same = same_before; less = l }))
      (λ e. absurd (not_same h e))
      (λ l. is_more (record { place = unequal; same = λ i k. sym (same_before i k); less = l })))

  -- the first place at which they differ
  at_place : (p : ℕ) → ((i : ℕ) → i < p → get_or xs i 32 ≡ get_or ys i 32) → (get_or xs p 32 ≡ get_or ys p 32 → ⊥) → padded_order xs ys ≡ order_n (get_or xs p 32) (get_or ys p 32)
  at_place p same differs =
      let h : p < most = either most p (λ (k : most ≤ p). absurd (differs (both_past p k))) (λ (k : p < most). k) in
      by_order unequal p
      (λ (k : unequal < p). absurd (not_same (omega arith) (same unequal k)))
      (λ e. subst (λ (j : ℕ). padded_order xs ys ≡ order_n (get_or xs j 32) (get_or ys j 32)) e (by_place (omega arith)))
      (λ (k : p < unequal). absurd (differs (same_before p k)))

  equal_order : Equal xs ys → padded_order xs ys ≡ 1
  equal_order e = either most unequal by_nothing (λ (h : unequal < most). absurd (not_same h (e unequal)))

  less_order : Less xs ys → padded_order xs ys ≡ 0
  less_order r =
      at_place r.place r.same (λ e. omega (arith, r.less)) ∙ order_less (get_or xs r.place 32) (get_or ys r.place 32) r.less

-- the texts exchanged
pub padded_turned : (xs ys : List ℕ) → padded_order ys xs ≡ 2 - padded_order xs ys
unfolding padded_order
padded_turned xs ys = ap (λ d. d.order) (turned_round xs ys 0 (pos 0))

-- ---- the laws of the order

module _ (xs ys : List ℕ) where
  more_order : Less ys xs → padded_order xs ys ≡ 2
  more_order r = padded_turned ys xs ∙ rw (less_order ys xs r)

  three : padded_order xs ys ≤ 2
  three = go (which xs ys)
    where
      go : Which xs ys → padded_order xs ys ≤ 2
      go (is_less r) = omega (arith, less_order xs ys r)
      go (is_equal e) = omega (arith, equal_order xs ys e)
      go (is_more r) = omega (arith, more_order r)

  order_equal : padded_order xs ys ≡ 1 → Equal xs ys
  order_equal o = go (which xs ys)
    where
      go : Which xs ys → Equal xs ys
      go (is_less r) = absurd (omega (arith, less_order xs ys r))
      go (is_equal e) = e
      go (is_more r) = absurd (omega (arith, more_order r))

  order_is_less : padded_order xs ys ≡ 0 → Less xs ys
  order_is_less o = go (which xs ys)
    where
      go : Which xs ys → Less xs ys
      go (is_less r) = r
      go (is_equal e) = absurd (omega (arith, equal_order xs ys e))
      go (is_more r) = absurd (omega (arith, more_order r))

less_less : (xs ys zs : List ℕ) → Less xs ys → Less ys zs → Less xs zs
less_less xs ys zs r s =
    by_order r.place s.place
    (λ (k : r.place < s.place).
    record { place = r.place; same = λ i h. r.same i h ∙ s.same i (omega arith); less = omega (arith, r.less, s.same r.place k) })
    (λ (e : r.place ≡ s.place).
    record {
      place = r.place;
      same = λ i h. r.same i h ∙ s.same i (omega arith);
      less = omega (arith, r.less, subst (λ (j : ℕ). get_or ys j 32 < get_or zs j 32) (sym e) s.less);
    })
    (λ (k : s.place < r.place).
    record { place = s.place; same = λ i h. r.same i (omega arith) ∙ s.same i h; less = omega (arith, s.less, r.same s.place k) })

-- one of two equal texts in the place of the other, on the left and so on the right
padded_left : (xs xs' ys : List ℕ) → padded_order xs xs' ≡ 1 → padded_order xs ys ≡ padded_order xs' ys
padded_left xs xs' ys o = go (which xs ys)
  where
    e : Equal xs xs'
    e = order_equal xs xs' o

    go : Which xs ys → padded_order xs ys ≡ padded_order xs' ys
    go (is_less r) =
        less_order xs ys r
        ∙ sym (less_order xs' ys (record { place = r.place; same = λ i h. sym (e i) ∙ r.same i h; less = omega (arith, r.less, e r.place) }))
    go (is_equal f) = equal_order xs ys f ∙ sym (equal_order xs' ys (λ i. sym (e i) ∙ f i))
    go (is_more r) =
        more_order xs ys r
        ∙ sym (more_order xs' ys (record { place = r.place; same = λ i h. r.same i h ∙ e i; less = omega (arith, r.less, e r.place) }))

padded_right : (xs ys ys' : List ℕ) → padded_order ys ys' ≡ 1 → padded_order xs ys ≡ padded_order xs ys'
padded_right xs ys ys' o = padded_turned ys xs ∙ ap (λ (n : ℕ). 2 - n) (padded_left ys ys' xs o) ∙ sym (padded_turned ys' xs)

-- blanks put behind
blank_at : (n i : ℕ) → ◌≡◌ {A = ℕ} (get_or (replicate n 32) i 32) 32
blank_at zero i = refl
blank_at (suc n) zero = refl
blank_at (suc n) (suc i) = blank_at n i

blanks_behind : (xs : List ℕ) (n : ℕ) → Equal (xs ++ replicate n 32) xs
blanks_behind [] n i = blank_at n i
blanks_behind (x ∷ xs) n zero = refl
blanks_behind (x ∷ xs) n (suc i) = blanks_behind xs n i

pub padded_order_is : PaddedOrder
padded_order_is =
    record {
      three = three;
      is_less = order_is_less;
      less_is = less_order;
      is_equal = order_equal;
      equal_is = equal_order;
      turned = padded_turned;
      itself = λ xs. equal_order xs xs (λ i. refl);
      equal_turned = λ xs ys o. padded_turned xs ys ∙ rw o;
      equal_equal = λ xs ys zs o p. padded_left xs ys zs o ∙ p;
      left = padded_left;
      right = padded_right;
      less_less = λ xs ys zs o p. less_order xs zs (less_less xs ys zs (order_is_less xs ys o) (order_is_less ys zs p));
      blanks = λ xs n. equal_order (xs ++ replicate n 32) xs (blanks_behind xs n);
    }

-- ---- the walk of the code, place by place

pub record SameTo (xs ys : List ℕ) (i : ℕ) : Type 0 where
  pub same : (j : ℕ) → j < i → get_or xs j 32 ≡ get_or ys j 32

module _ (xs ys : List ℕ) where
  pub same_none : SameTo xs ys 0
  same_none = record { same = λ j h. absurd (omega arith) }

  module _ (i : ℕ) (s : SameTo xs ys i) where
    module _ (a b : ℕ) (e : a ≡ get_or xs i 32) (f : b ≡ get_or ys i 32) where
      pub same_more : a ≡ b → SameTo xs ys (i + 1)
      same_more g =
          record {
            same = λ j h. either (suc j) i (s.same j) (λ (k : i < suc j). let z : j ≡ i = omega arith in rw z (sym e ∙ g ∙ f));
          }

      pub order_here : (a ≡ b → ⊥) → (r : ℕ) → r ≡ order_n a b → r ≡ padded_order xs ys
      order_here g r p = p ∙ rw (e, f) (sym (at_place xs ys i s.same (λ z. g (e ∙ z ∙ sym f))))

    pub order_end : (n : ℕ) → n ≡ max (length xs) (length ys) → n ≤ i → 1 ≡ padded_order xs ys
    order_end n e h =
        sym (equal_order xs ys (λ j. either i j (λ (k : i ≤ j). both_past xs ys j (omega arith)) (λ (k : j < i). s.same j k)))

pub ruleset order_laws = (rules, padded_in, padded_past, same_more, order_here, order_end)
