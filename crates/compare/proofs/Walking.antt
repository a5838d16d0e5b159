-- Laws of orders as the library answers them: an order's number and sign, and the order of two texts that have the same
-- length. Assumes nothing.
use Rattle.std.proofs.Common.{◌≡◌, refl, sym, ap, ◌∙◌, Bool, true, false, cond, List, [], ◌∷◌, ℕ, zero, suc, ◌+◌, ◌≤◌, ◌<◌, min, max, ℤ, pos, length, take, get_or, arith, Ordering, Less, Equal, Greater, nat_cmp, int_cmp, rules, zero-le, true≢false, is_eq, is_lt, is_le, is_gt, is_ge, not}
use Rattle.std.specs.Ordering.{ordering_index, is_ne}
use Rattle.std.specs.Cmp.{nat_cmp_is}
use Rattle.std.specs.Cmp.Lexicographic.{slice_cmp}
use lib.Signed.{lt_z}
use Rattle.compare.specs.Order.{order_z, order_n, sign_of}
use Rattle.compare.specs.Compare.{holds, ordering_sign}
use Rattle.compare.specs.Padded.{padded_order}
use Rattle.compare.proofs.Ordering.{by_order, less, same, more}
use Rattle.compare.proofs.Whole.{sign_less, sign_more, sign_same}
use Rattle.compare.proofs.Pairing.{padded_in}
use Rattle.compare.proofs.Padding.{SameTo, same_none, same_more, order_here, order_end}

-- ---- two numbers

module _ (m n : ℕ) where
  is_less : m < n → nat_cmp m n ≡ Less
  is_less h = sym (nat_cmp_is m n Less h)

  is_same : m ≡ n → nat_cmp m n ≡ Equal
  is_same h = sym (nat_cmp_is m n Equal h)

  is_more : n < m → nat_cmp m n ≡ Greater
  is_more h = sym (nat_cmp_is m n Greater h)

  pub index_is : ordering_index (nat_cmp m n) ≡ order_n m n
  index_is =
      by_order m n (λ h. rw (is_less h) (sym (less m n h))) (λ h. rw (is_same h) (sym (same m n h))) (λ h. rw (is_more h) (sym (more m n h)))

  pub sign_is : ordering_sign (nat_cmp m n) ≡ sign_of m n
  sign_is =
      by_order m n (λ h. rw (is_less h) (sign_less m n h)) (λ h. rw (is_same h) (sign_same m n (omega arith) (omega arith))) (λ h. rw (is_more h) (sign_more m n h))

  pub ne_differs : true ≡ is_ne (nat_cmp m n) → m ≡ n → ⊥
  ne_differs e h = true≢false (rw (is_same h) at e)

  pub eq_same : false ≡ is_ne (nat_cmp m n) → m ≡ n
  eq_same e = by_order m n (λ h. absurd (true≢false (sym (rw (is_less h) at e)))) (λ h. h) (λ h. absurd (true≢false (sym (rw (is_more h) at e))))

pub whole_index : (a b : ℤ) → ordering_index (int_cmp a b) ≡ order_z a b
unfolding order_z
whole_index a b = go (lt_z a b) (lt_z b a)
  where
    go : (p q : Bool) → ordering_index (cond p Less (cond q Greater Equal)) ≡ cond p 0 (cond q 2 1)
    go true q = refl
    go false true = refl
    go false false = refl

pub ne_one : (o : Ordering) → true ≡ is_ne o → ordering_index o ≡ 1 → ⊥
ne_one Less e h = omega arith
ne_one Equal e h = true≢false e
ne_one Greater e h = omega arith

-- ---- texts cut to the same length: a place tells, or none does

pub data Walk (xs ys : List ℕ) (n : ℕ) (o : Ordering) : Type 0 where
  nowhere : o ≡ Equal → SameTo xs ys n → Walk xs ys n o
  at : (i : ℕ) → SameTo xs ys i → (get_or xs i 32 ≡ get_or ys i 32 → ⊥) → o ≡ nat_cmp (get_or xs i 32) (get_or ys i 32) → Walk xs ys n o

same_front : (x y : ℕ) (xs ys : List ℕ) (i : ℕ) → x ≡ y → SameTo xs ys i → SameTo (x ∷ xs) (y ∷ ys) (suc i)
same_front x y xs ys i e s = record { same = go }
  where
    go : (j : ℕ) → j < suc i → get_or (x ∷ xs) j 32 ≡ get_or (y ∷ ys) j 32
    go zero h = e
    go (suc j) h = s.same j (omega arith)

walk : (n : ℕ) (xs ys : List ℕ) → n ≤ length xs → n ≤ length ys → Walk xs ys n (slice_cmp nat_cmp (take n xs) (take n ys))
walk zero xs ys h k = nowhere refl (same_none xs ys)
walk (suc n) [] ys h k = absurd (omega arith)
walk (suc n) (x ∷ xs) [] h k = absurd (omega arith)
walk (suc n) (x ∷ xs) (y ∷ ys) h k =
    by_order x y
    (λ l. at 0 (same_none (x ∷ xs) (y ∷ ys)) (λ e. omega arith) (rw (is_less x y l)))
    (λ e. go e (slice_cmp nat_cmp (take n xs) (take n ys)) (rw (is_same x y e)) (walk n xs ys (omega arith) (omega arith)))
    (λ l. at 0 (same_none (x ∷ xs) (y ∷ ys)) (λ e. omega arith) (rw (is_more x y l)))
  where
    go : x ≡ y → (o : Ordering) → slice_cmp nat_cmp (x ∷ take n xs) (y ∷ take n ys) ≡ o → Walk xs ys n o
        → Walk (x ∷ xs) (y ∷ ys) (suc n) (slice_cmp nat_cmp (x ∷ take n xs) (y ∷ take n ys))
    go e o f (nowhere z s) = nowhere (f ∙ z) (same_front x y xs ys n e s)
    go e o f (at i s d z) = at (suc i) (same_front x y xs ys i e s) d (f ∙ z)

module _ (xs ys : List ℕ) where
  module _ (n : ℕ) (o : Ordering) (en : n ≡ min (length xs) (length ys)) (eo : o ≡ slice_cmp nat_cmp (take n xs) (take n ys)) where
    walked : Walk xs ys n o
    walked = rw eo (walk n xs ys (omega arith) (omega arith))

    pub head_here : true ≡ is_ne o → ordering_index o ≡ padded_order xs ys
    head_here e = go walked
      where
        go : Walk xs ys n o → ordering_index o ≡ padded_order xs ys
        go (nowhere z s) = absurd (true≢false (rw z at e))
        go (at i s d z) = order_here xs ys i s (get_or xs i 32) (get_or ys i 32) refl refl d (ordering_index o) (rw z (index_is (get_or xs i 32) (get_or ys i 32)))

    pub head_same : false ≡ is_ne o → SameTo xs ys n
    head_same e = go walked
      where
        go : Walk xs ys n o → SameTo xs ys n
        go (nowhere z s) = s
        go (at i s d z) = absurd (d (eq_same (get_or xs i 32) (get_or ys i 32) (rw (← z) e)))

  -- one place more
  module _ (i : ℕ) (s : SameTo xs ys i) (a b : ℕ) (ea : a ≡ get_or xs i 32) (eb : b ≡ get_or ys i 32) (o : Ordering) (eo : o ≡ nat_cmp a b) where
    pub tail_here : true ≡ is_ne o → ordering_index o ≡ padded_order xs ys
    tail_here e = order_here xs ys i s a b ea eb (ne_differs a b (rw (← eo) e)) (ordering_index o) (rw eo (index_is a b))

    pub tail_same : false ≡ is_ne o → SameTo xs ys (i + 1)
    tail_same e = same_more xs ys i s a b ea eb (eq_same a b (rw (← eo) e))
