-- Laws of the first unequal pair: what it is, and how it is found block by block. Assumes nothing.
use mathlib.Core.Path.{◌≡◌, refl, sym, ◌∙◌}
use mathlib.Core.Bool.{Bool, true, false, cond, ◌&&◌, and-true, and_assoc}
use mathlib.Core.List.{List, [], ◌∷◌}
use Prim.Native.Nat.{ℕ, zero, suc, ◌+◌, ◌-◌, ◌≤◌, ◌<◌}
use native.Mathlib.Nat.{zero-add, sub-zero, not-suc-le-zero, le_of_suc-le-suc}
use native.Mathlib.Omega.{arith}
use lib.Dec.{eqb}
use lib.IntN.{ℤ, pos, ◌+ℤ◌}
use lib.ListN.{length, get_or, take, drop, length-take, length-drop, get_or-eq_default}
use lib.Seq.{get_or-take, get_or-drop}
use borrow.Author.Rules.{rules}
use borrow.Author.Tests.{eqb-true, eqb-false, eq-eqb, ne_eqb}
use Rattle.strlib.proofs.Pointing.{either}
use Rattle.strlib.proofs.Refusing.{bool_case}
use Rattle.compare.specs.Order.{order_z}
use Rattle.compare.specs.Compare.{order_at, unequal_from, SplitsFirst}
use Rattle.compare.specs.Inner.{Paired}
use Rattle.compare.proofs.Extending.{extent}

-- ---- what it is

-- of the pairs from i up to n, all before d are equal, and the one at d, where there is one, is not
pub record FirstFrom (xs ys : List ℕ) (t : ℤ) (i n d : ℕ) : Type 0 where
  pub from : i ≤ d
  pub within : d ≤ n
  pub equal : (j : ℕ) → i ≤ j → j < d → order_at xs ys t j ≡ 1
  pub unequal : d < n → order_at xs ys t d ≡ 1 → ⊥

module _ (xs ys : List ℕ) (t : ℤ) where
  pub first_from : (i k : ℕ) → FirstFrom xs ys t i (i + k) (unequal_from xs ys t i k)
  unfolding unequal_from
  first_from i zero = record { from = omega arith; within = omega arith; equal = λ j h l. omega arith; unequal = λ l e. omega arith }
  first_from i (suc k) = go (eqb (order_at xs ys t i) 1) refl (first_from (suc i) k)
    where
      go : (b : Bool) → eqb (order_at xs ys t i) 1 ≡ b → FirstFrom xs ys t (suc i) (suc i + k) (unequal_from xs ys t (suc i) k)
          → FirstFrom xs ys t i (i + suc k) (cond b (unequal_from xs ys t (suc i) k) i)
      go true e f =
          record {
            from = omega (arith, f.from);
            within = omega (arith, f.within);
            equal = λ j h l. either (suc i) j (λ m. f.equal j m l) (λ m. let same : j ≡ i = omega arith in rw same (eqb-true (order_at xs ys t i) 1 e));
            unequal = λ l. f.unequal (omega arith);
          }
      go false e f = record { from = omega arith; within = omega arith; equal = λ j h l. omega arith; unequal = λ l. eqb-false (order_at xs ys t i) 1 e }

  -- there is but one
  pub unequal_is : (i k d : ℕ) → FirstFrom xs ys t i (i + k) d → d ≡ unequal_from xs ys t i k
  unequal_is i k d f = either d e (λ h. either e d (λ l. omega arith) over) under
    where
      e : ℕ
      e = unequal_from xs ys t i k

      g : FirstFrom xs ys t i (i + k) e
      g = first_from i k

      over : d < e → d ≡ e
      over h = absurd (f.unequal (omega (arith, g.within)) (g.equal d f.from h))

      under : e < d → d ≡ e
      under h = absurd (g.unequal (omega (arith, f.within)) (f.equal e g.from h))

-- from the front
pub first_of : (xs ys : List ℕ) (t : ℤ) (n : ℕ) → FirstFrom xs ys t 0 n (unequal_from xs ys t 0 n)
first_of xs ys t n = rw zero-add at (first_from xs ys t 0 n)

pub first_unequal_is : SplitsFirst
first_unequal_is xs ys t n =
    let f = first_of xs ys t n in record { within = f.within; equal = λ i. f.equal i (omega arith); unequal = f.unequal }

-- ---- the code's pair

get_d_any : (l : List ℕ) (i d e : ℕ) → i < length l → get_or l i d ≡ get_or l i e
get_d_any [] i d e h = absurd (not-suc-le-zero h)
get_d_any (x ∷ l) zero d e h = refl
get_d_any (x ∷ l) (suc i) d e h = get_d_any l i d e (le_of_suc-le-suc h)

pub padded_in : (l : List ℕ) (i : ℕ) → i < length l → get_or l i 0 ≡ get_or l i 32
padded_in l i h = get_d_any l i 0 32 h

pub padded_past : (l : List ℕ) (i d : ℕ) → length l ≤ i → d ≡ get_or l i d
padded_past l i d h = sym (get_or-eq_default l d h)

pub inside_is : (xs ys : List ℕ) (t : ℤ) (n : ℕ) → Paired xs ys n → (i : ℕ) → i < n → order_z (pos (get_or xs i 0)) (pos (get_or ys i 0) +ℤ t) ≡ order_at xs ys t i
inside_is xs ys t n p i h =
    let k : i < length xs = omega (arith, p.within_1) in
    let l : i < length ys = omega (arith, p.within_2) in
    rw (padded_in xs i k, padded_in ys i l) (sym (extent.inside xs ys t i k l))

-- ---- a block, without leaving early

module _ (xs ys : List ℕ) (t : ℤ) where
  -- whether all pairs from i up to n are equal
  all_step : (i n : ℕ) → i < n → eqb (unequal_from xs ys t i (n - i)) n ≡ (eqb (order_at xs ys t i) 1 && eqb (unequal_from xs ys t (i + 1) (n - (i + 1))) n)
  unfolding unequal_from
  all_step i n h =
      let k : n - i ≡ suc (n - (i + 1)) = omega arith in
      let j : i + 1 ≡ suc i = omega arith in
      rw (k, j) (bool_case (eqb (order_at xs ys t i) 1) (λ e. rw e) (λ e. rw e (ne_eqb i n (λ z. omega arith))))

  all_end : (i n : ℕ) → i ≡ n → eqb (unequal_from xs ys t i (n - i)) n ≡ true
  unfolding unequal_from
  all_end i n h = let k : n - i ≡ 0 = omega arith in rw k (eq-eqb i n h)

  pub block_start : (n : ℕ) → eqb (unequal_from xs ys t 0 n) n ≡ (true && eqb (unequal_from xs ys t 0 (n - 0)) n)
  block_start n = rw sub-zero

  module _ (i n : ℕ) (equal : Bool) (e : eqb (unequal_from xs ys t 0 n) n ≡ (equal && eqb (unequal_from xs ys t i (n - i)) n)) where
    pub block_step : Paired xs ys n → i < n → (b r : Bool) → b ≡ eqb (order_z (pos (get_or xs i 0)) (pos (get_or ys i 0) +ℤ t)) 1 → r ≡ (equal && b)
        → eqb (unequal_from xs ys t 0 n) n ≡ (r && eqb (unequal_from xs ys t (i + 1) (n - (i + 1))) n)
    block_step pair h b r p q =
        e ∙ rw (all_step i n h, q, p, inside_is xs ys t n pair i h) (sym (and_assoc equal (eqb (order_at xs ys t i) 1) (eqb (unequal_from xs ys t (i + 1) (n - (i + 1))) n)))

    pub block_end : i ≤ n → n ≤ i → equal ≡ eqb (unequal_from xs ys t 0 n) n
    block_end h k = sym (e ∙ rw (all_end i n (omega arith), and-true))

-- ---- block by block

pub still_within : (xs ys : List ℕ) (t : ℤ) (n i : ℕ) → i ≤ unequal_from xs ys t 0 n → i ≤ n
still_within xs ys t n i h = omega (arith, (first_of xs ys t n).within)

pub none_left : (xs ys : List ℕ) (t : ℤ) (n k : ℕ) → n < k → unequal_from xs ys t 0 n < k
none_left xs ys t n k h = omega (arith, (first_of xs ys t n).within)

-- the characters from index i up to e, as the code cuts them out
abbrev pub cut : List ℕ → ℕ → ℕ → List ℕ
cut xs i e = take (e - i) (drop i xs)

pub cut_length : (xs : List ℕ) (i e : ℕ) → e ≤ length xs → length (cut xs i e) ≡ e - i
cut_length xs i e h = simp (length-take, length-drop) (omega arith)

pub cut_at : (xs : List ℕ) (i e j d : ℕ) → i + j < e → get_or (cut xs i e) j d ≡ get_or xs (i + j) d
cut_at xs i e j d h = get_or-take (e - i) (drop i xs) j d (omega arith) ∙ get_or-drop i xs j d

module _ (xs ys : List ℕ) (t : ℤ) (n i w : ℕ) (p : Paired xs ys n) (l : i ≤ unequal_from xs ys t 0 n) (h : w ≤ n - i) where
  whole : FirstFrom xs ys t 0 n (unequal_from xs ys t 0 n)
  whole = first_of xs ys t n

  end : i + w ≤ n
  end = omega (arith, whole.within)

  width : i + w - i ≡ w
  width = omega arith

  x_length : length (cut xs i (i + w)) ≡ w
  x_length = cut_length xs i (i + w) (omega (arith, end, p.within_1)) ∙ width

  y_length : length (cut ys i (i + w)) ≡ w
  y_length = cut_length ys i (i + w) (omega (arith, end, p.within_2)) ∙ width

  pub cut_paired : Paired (cut xs i (i + w)) (cut ys i (i + w)) (length (cut xs i (i + w)))
  cut_paired =
      record {
        within_1 = omega arith;
        within_2 = omega (arith, x_length, y_length);
        character_1 = λ j k. let m : j < w = omega (arith, x_length) in rw (cut_at xs i (i + w) j 0 (omega arith)) (p.character_1 (i + j) (omega (arith, end)));
        character_2 = λ j k. let m : j < w = omega (arith, x_length) in rw (cut_at ys i (i + w) j 0 (omega arith)) (p.character_2 (i + j) (omega (arith, end)));
      }

  cut_order : (j : ℕ) → j < w → order_at (cut xs i (i + w)) (cut ys i (i + w)) t j ≡ order_at xs ys t (i + j)
  cut_order j k =
      extent.inside (cut xs i (i + w)) (cut ys i (i + w)) t j (omega (arith, x_length)) (omega (arith, y_length))
      ∙ rw (cut_at xs i (i + w) j 32 (omega arith), cut_at ys i (i + w) j 32 (omega arith)) (sym (extent.inside xs ys t (i + j) (omega (arith, p.within_1, end)) (omega (arith, p.within_2, end))))

  -- the first unequal pair of the block alone
  alone : FirstFrom (cut xs i (i + w)) (cut ys i (i + w)) t 0 w (unequal_from (cut xs i (i + w)) (cut ys i (i + w)) t 0 w)
  alone = first_of (cut xs i (i + w)) (cut ys i (i + w)) t w

  module _ (b : Bool) (e : b ≡ eqb (unequal_from (cut xs i (i + w)) (cut ys i (i + w)) t 0 (length (cut xs i (i + w)))) (length (cut xs i (i + w)))) where
    e' : b ≡ eqb (unequal_from (cut xs i (i + w)) (cut ys i (i + w)) t 0 w) w
    e' = rw x_length at e

    pub block_passed : b ≡ true → i + w ≤ unequal_from xs ys t 0 n
    block_passed q =
        let u : ℕ = unequal_from xs ys t 0 n in
        let v : unequal_from (cut xs i (i + w)) (cut ys i (i + w)) t 0 w ≡ w = eqb-true _ w (sym e' ∙ q) in
        either (i + w) u (λ k. k)
        (λ k.
        let m : u - i < w = omega arith in
        let s : i + (u - i) ≡ u = omega arith in
        let o : order_at xs ys t (i + (u - i)) ≡ 1 = sym (cut_order (u - i) m) ∙ alone.equal (u - i) (omega arith) (omega arith) in
        absurd (whole.unequal (omega (arith, end)) (rw s at o)))

    pub block_stopped : b ≡ false → unequal_from xs ys t 0 n < i + w
    block_stopped q =
        let u : ℕ = unequal_from xs ys t 0 n in
        let v : ℕ = unequal_from (cut xs i (i + w)) (cut ys i (i + w)) t 0 w in
        let m : v < w = either w v (λ k. absurd (eqb-false v w (sym e' ∙ q) (omega (arith, alone.within)))) (λ k. k) in
        either (i + w) u (λ k. absurd (alone.unequal m (cut_order v m ∙ whole.equal (i + v) (omega arith) (omega arith)))) (λ k. k)

-- the last blocks are of one pair; t' is what the machine reads back from the bits of t'', t what its byte stands for
pub all_passed : (xs ys : List ℕ) (t t' t'' : ℤ) (n r : ℕ) → (r ≤ unequal_from xs ys t 0 n) × (unequal_from xs ys t 0 n < r + 1) → t ≡ t' → t' ≡ t'' → r ≡ unequal_from xs ys t'' 0 n
all_passed xs ys t t' t'' n r h e f = rw (← f, ← e) (omega arith)

pub ruleset pairing_laws = (rules, still_within, block_start, block_end, all_passed)
