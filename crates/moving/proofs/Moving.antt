-- Laws of the moving leaf. What is moved is what `put` writes, some bytes more each step: behind it for a move from front
-- to back, in front of it for one from back to front; the bytes still to be read are as they were. Assumes nothing.
use Rattle.std.proofs.Common.{◌≡◌, ℕ, ◌+◌, ◌-◌, ◌%◌, ◌^◌, ◌<◌, ◌≤◌, Bool, true, false, ◌⊎◌, List, ◌++◌, length, take, drop, sym, ◌∙◌, inl, inr, ⊎_elim, add-zero, mod-eq_of_lt, arith, length-drop, length-take, take_all, drop-drop, take-add, rules}
use mathlib.Core.Bool.{and-false}
use native.Mathlib.Nat.{sub_self, sub-zero, mod-eq-sub-mod}
use Rattle.strlib.specs.Pointer.{within}
use Rattle.strlib.specs.Store.{put}
use Rattle.strlib.proofs.Pointing.{either, within_so, is_within}
use Rattle.strlib.proofs.Storing.{put_none, put_put, put_before, part_put, part_before, part_after, put_length}
use Rattle.moving.specs.Moving.{moved}
use Rattle.moving.proofs.Writing.{part_length}

-- ---- one step

-- a part of the store s, from `from` on, is put over the whole block b; t, the block then, is what was read
step_read : (s b t : List ℕ) (from : ℕ) → t ≡ put b 0 (take (from + length b - from) (drop from s)) → from + length b ≤ length s → t ≡ take (length b) (drop from s)
step_read s b t from e hf =
    let xs : List ℕ = take (length b) (drop from s) in
    let j : from + length b - from ≡ length b = omega arith in
    let l : length xs ≡ length b = part_length s from (length b) hf in
    let m : length (put b 0 xs) ≡ length b = put_length b 0 xs (omega arith) in
    let p : take (length xs) (drop 0 (put b 0 xs)) ≡ xs = part_put b 0 xs (omega arith) in
    rw (e, j) (sym (take_all (length xs) (put b 0 xs) (omega arith)) ∙ p)

pub step_end : (s b t u : List ℕ) (from to : ℕ) → t ≡ put b 0 (take (from + length b - from) (drop from s)) → from + length b ≤ length s → u ≡ put s to t
    → u ≡ put s to (take (length b) (drop from s))
step_end s b t u from to e hf h = h ∙ rw (step_read s b t from e hf)

-- ---- the two loops, whatever the width k of a step

-- i bytes moved from the front on
unfoldable pub down : List ℕ → ℕ → ℕ → ℕ → List ℕ
down s from to i = put s to (take i (drop from s))

-- all but the first i of n bytes moved
unfoldable pub up : List ℕ → ℕ → ℕ → ℕ → ℕ → List ℕ
up s from to n i = put s (to + i) (take (n - i) (drop (from + i) s))

pub down_none : (s : List ℕ) (from to : ℕ) → s ≡ down s from to 0
unfolding down
down_none s from to = sym (put_none s to)

module _ (s t : List ℕ) (from to n i : ℕ) (e : t ≡ down s from to i) (hf : from + n ≤ length s) (ht : to + n ≤ length s) (a : (to ≤ from) ⊎ (from + n ≤ to)) where
  pub down_step : (u : List ℕ) (k : ℕ) → u ≡ put t (to + i) (take k (drop (from + i) t)) → i ≤ n → k ≤ n - i → u ≡ down s from to (i + k)
  unfolding down
  down_step u k q h g =
      let xs : List ℕ = take i (drop from s) in
      let zs : List ℕ = take k (drop (from + i) s) in
      let l : length xs ≡ i = part_length s from i (omega arith) in
      let same : take k (drop (from + i) (put s to xs)) ≡ zs =
      ⊎_elim (λ b. part_after s to xs (omega arith) (from + i) k (omega arith)) (λ b. part_before s to xs (omega arith) (from + i) k (omega arith)) a
      in
      let r : take k (drop (from + i) t) ≡ zs = rw e same in
      let m : put (put s to xs) (to + length xs) zs ≡ put s to (xs ++ zs) = put_put s to xs (omega arith) zs in
      q ∙ rw (r, e, take-add i k (drop from s), drop-drop i from s) (rw l at m)

pub up_none : (s : List ℕ) (from to n : ℕ) → s ≡ up s from to n n
unfolding up
up_none s from to n = rw sub_self (sym (put_none s (to + n)))

module _ (s t : List ℕ) (from to n i : ℕ) (e : t ≡ up s from to n i) (ht : to + n ≤ length s) (hf : from ≤ to) where
  pub up_step : (u : List ℕ) (k : ℕ) → u ≡ put t (to + (i - k)) (take k (drop (from + (i - k)) t)) → k ≤ i → i ≤ n → u ≡ up s from to n (i - k)
  unfolding up
  up_step u k q h g =
      let j : ℕ = i - k in
      let xs : List ℕ = take k (drop (from + j) s) in
      let ys : List ℕ = take (n - i) (drop (from + i) s) in
      let l : length xs ≡ k = part_length s (from + j) k (omega arith) in
      let y : length ys ≡ n - i = part_length s (from + i) (n - i) (omega arith) in
      let a : to + j + k ≡ to + i = omega arith in
      let b : n - j ≡ k + (n - i) = omega arith in
      let f : from + j + k ≡ from + i = omega arith in
      let r : take k (drop (from + j) t) ≡ xs = rw e (part_before s (to + i) ys (omega arith) (from + j) k (omega arith)) in
      let m : put (put s (to + j + length xs) ys) (to + j) xs ≡ put s (to + j) (xs ++ ys) = put_before s (to + j) xs ys (omega arith) in
      q ∙ rw (r, e, b, take-add k (n - i) (drop (from + j) s), drop-drop k (from + j) s, f) (rw (l, a) at m)

-- modulo the width w, what is left of n bytes stays the same
pub left_all : (n w : ℕ) → (n - 0) % w ≡ n % w
left_all n w = rw sub-zero

pub left_down : (n i k w : ℕ) → (n - i) % w ≡ n % w → k ≡ w → k ≤ n - i → (n - (i + k)) % w ≡ n % w
left_down n i k w e f h =
    let g : w ≤ n - i = omega arith in
    let j : n - (i + k) ≡ n - i - w = omega arith in
    rw j (sym (mod-eq-sub-mod g) ∙ e)

pub left_up : (n i k w : ℕ) → i % w ≡ n % w → k ≡ w → k ≤ i → (i - k) % w ≡ n % w
left_up n i k w e f h = let g : w ≤ i = omega arith in rw f (sym (mod-eq-sub-mod g) ∙ e)

-- a loop's end, in the words of its promise
pub down_is : (s t : List ℕ) (from to n i k w : ℕ) → t ≡ down s from to i → i ≤ n → (n - i) % w ≡ n % w → k ≡ w → n - i < k → t ≡ put s to (take (n - n % w) (drop from s))
unfolding down
down_is s t from to n i k w e h m f l =
    let g : n - i < w = omega arith in
    let r : n % w ≡ n - i = sym m ∙ mod-eq_of_lt g in
    let j : n - n % w ≡ i = rw r (omega arith) in
    e ∙ rw j

pub up_is : (s t : List ℕ) (from to n i k w : ℕ) → t ≡ up s from to n i → i % w ≡ n % w → k ≡ w → i < k → t ≡ put s (to + n % w) (take (n - n % w) (drop (from + n % w) s))
unfolding up
up_is s t from to n i k w e m f l =
    let g : i < w = omega arith in
    let r : n % w ≡ i = sym m ∙ mod-eq_of_lt g in
    e ∙ rw r

-- ---- the two moves: steps of 64, of eight, of one

-- all but the last n % 8 are moved, then these
pub down_end : (s t u : List ℕ) (from to n : ℕ) → t ≡ put s to (take (n - n % 8) (drop from s)) → u ≡ put t (to + (n - n % 8)) (take (n % 8 - n % 8 % 1) (drop (from + (n - n % 8)) t))
    → from + n ≤ length s → to + n ≤ length s → (to ≤ from) ⊎ (from + n ≤ to) → u ≡ put s to (take n (drop from s))
unfolding down
down_end s t u from to n e q hf ht a =
    let z : n % 8 - n % 8 % 1 ≡ n % 8 = omega arith in
    let j : n - n % 8 + n % 8 ≡ n = omega arith in
    down_step s t from to n (n - n % 8) e hf ht a u (n % 8) (rw z at q) (omega arith) (omega arith) ∙ rw j

pub rest_ahead : (from to n : ℕ) → (to ≤ from) ⊎ (from + n ≤ to) → (to + (n - n % 8) ≤ from + (n - n % 8)) ⊎ (from + (n - n % 8) + n % 8 ≤ to + (n - n % 8))
rest_ahead from to n a = ⊎_elim (λ h. inl (omega arith)) (λ h. inr (omega arith)) a

-- all but the first i are moved, then all of these but the first j
module _ (s t : List ℕ) (from to n i : ℕ) (e : t ≡ up s from to n i) (ht : to + n ≤ length s) (hf : from ≤ to) where
  up_more : (u : List ℕ) (j : ℕ) → u ≡ put t (to + j) (take (i - j) (drop (from + j) t)) → j ≤ i → i ≤ n → u ≡ up s from to n j
  up_more u j q h g =
      let y : i - (i - j) ≡ j = omega arith in
      let p : u ≡ put t (to + (i - (i - j))) (take (i - j) (drop (from + (i - (i - j))) t)) = q ∙ rw y in
      rw y at (up_step s t from to n i e ht hf u (i - j) p (omega arith) g)

-- all but the first n % 64 are moved, then of these all but the first n % 64 % 8, then the rest
pub up_end : (s t u v : List ℕ) (from to n : ℕ) → t ≡ put s (to + n % 64) (take (n - n % 64) (drop (from + n % 64) s))
    → u ≡ put t (to + n % 64 % 8) (take (n % 64 - n % 64 % 8) (drop (from + n % 64 % 8) t))
    → v ≡ put u (to + n % 64 % 8 % 1) (take (n % 64 % 8 - n % 64 % 8 % 1) (drop (from + n % 64 % 8 % 1) u)) → to + n ≤ length s → from ≤ to → v ≡ put s to (take n (drop from s))
unfolding up
up_end s t u v from to n e q r ht hf =
    let z : n % 64 % 8 % 1 ≡ 0 = omega arith in
    let a : u ≡ up s from to n (n % 64 % 8) = up_more s t from to n (n % 64) e ht hf u (n % 64 % 8) q (omega arith) (omega arith) in
    let b : v ≡ up s from to n 0 = up_more s u from to n (n % 64 % 8) a ht hf v 0 (rw z at r) (omega arith) (omega arith) in
    rw (add-zero to, add-zero from, sub-zero) at b

-- ---- the leaf

-- within the store it is what `put` writes
pub moved_in : (s : List ℕ) (from to n : ℕ) → from + n ≤ length s → to + n ≤ length s → moved s from to n ≡ put s to (take n (drop from s))
unfolding moved
moved_in s from to n h k = rw (is_within (length s) from n h, is_within (length s) to n k)

module _ (s : List ℕ) (from to n : ℕ) (b : Bool) where
  pub moved_from : b ≡ within (length s) from n → b ≡ false → s ≡ moved s from to n
  unfolding moved
  moved_from e f = rw (← e, f)

  pub moved_to : b ≡ within (length s) to n → b ≡ false → s ≡ moved s from to n
  unfolding moved
  moved_to e f = rw (← e, f, and-false)

pub moved_done : (s t : List ℕ) (from to n : ℕ) → t ≡ put s to (take n (drop from s)) → from + n ≤ length s → to + n ≤ length s → t ≡ moved s from to n
moved_done s t from to n p h k = p ∙ sym (moved_in s from to n h k)

-- r is `to` less `from`, wrapped round: under n the target begins no earlier than the source, else no later or behind all
-- of it
module _ (size from to n : ℕ) (b : Bool) (e : b ≡ within size from n) (f : b ≡ true) (r : ℕ) (w : (r + from) % 2 ^ 64 ≡ to) (l : size < 2 ^ 64) where
  lies : from + n ≤ size
  lies = within_so size from n b e f

  pub goes_up : r < n → from ≤ to
  goes_up h =
      let m : r + from < 2 ^ 64 = omega (arith, lies) in
      let j : r + from ≡ to = sym (mod-eq_of_lt m) ∙ w in
      omega arith

  pub goes_down : n ≤ r → r < 2 ^ 64 → (to ≤ from) ⊎ (from + n ≤ to)
  goes_down h k =
      either
      (2 ^ 64)
      (r + from)
      (λ o. let m : r + from - 2 ^ 64 < 2 ^ 64 = omega (arith, lies) in
      let j : r + from - 2 ^ 64 ≡ to = sym (mod-eq_of_lt m) ∙ sym (mod-eq-sub-mod o) ∙ w in
      inl (omega arith))
      (λ o. let j : r + from ≡ to = sym (mod-eq_of_lt o) ∙ w in inr (omega arith))

pub ruleset moved_laws = (rules, within_so, moved_from, moved_to, moved_done)

pub ruleset down_laws = (rules, down_none, down_step, left_all, left_down, down_is)

pub ruleset up_laws = (rules, up_none, up_step, left_up, up_is)
