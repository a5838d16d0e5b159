-- Laws of the two searches: what is found is the first, or the last, of the characters in a masked table. Assumes
-- nothing.
use Prim.Native.Nat.{ℕ, zero, suc, ◌+◌, ◌≤◌, ◌<◌}
use mathlib.Core.Path.{◌≡◌, refl, sym, ap, ◌∙◌}
use mathlib.Core.Bool.{Bool, true, false, cond}
use mathlib.Core.List.{List, [], ◌∷◌}
use native.Mathlib.Omega.{arith}
use lib.ListN.{length, get_or}
use Rattle.std.specs.Iterator.{Yields}
use Rattle.std.specs.List.{push}
use Rattle.std.proofs.Common.{Option, Some}
use Rattle.strlib.specs.Refusal.{Sought, nowhere, at}
use Rattle.charset.specs.Rule.{or_else, chosen, found_at, found_from}
use Rattle.charset.specs.Sets.{in_tables}
use Rattle.charset.specs.declared.CharAt.{CharAt}

module _ (block : List ℕ) (mask : ℕ) where
  -- the test of the character at index i
  abbrev In : List ℕ → ℕ → Bool
  In xs i = in_tables block mask (get_or xs i 0)

  -- the character at position p
  abbrev char : ℕ → ℕ → Sought CharAt
  char p x = at (record { position = p; code = x })

  step : (last : Bool) (p x : ℕ) (xs : List ℕ) (t : Bool) → in_tables block mask x ≡ t
      → found_from last block mask p (x ∷ xs) ≡ chosen last (cond t (char p x) nowhere) (found_from last block mask (suc p) xs)
  unfolding found_from found_at
  step last p x xs t e = rw e

  pub none_in : (last : Bool) (p : ℕ) (xs : List ℕ) → ((k : ℕ) → k < length xs → In xs k ≡ false) → found_from last block mask p xs ≡ nowhere
  unfolding found_from chosen or_else
  none_in last p [] h = refl
  none_in false p (x ∷ xs) h = step false p x xs false (h 0 (omega arith)) ∙ none_in false (suc p) xs (λ k l. h (suc k) (omega arith))
  none_in true p (x ∷ xs) h =
      step true p x xs false (h 0 (omega arith)) ∙ ap (λ r. or_else r nowhere) (none_in true (suc p) xs (λ k l. h (suc k) (omega arith)))

  pub first_in : (p : ℕ) (xs : List ℕ) (i q : ℕ) → i + p ≡ q → i < length xs → In xs i ≡ true → ((k : ℕ) → k < i → In xs k ≡ false)
      → char q (get_or xs i 0) ≡ found_from false block mask p xs
  unfolding chosen or_else
  first_in p [] i q e l t h = absurd (omega arith)
  first_in p (x ∷ xs) zero q e l t h = let z : p ≡ q = omega arith in sym (step false p x xs true t ∙ ap (λ r. char r x) z)
  first_in p (x ∷ xs) (suc i) q e l t h =
      first_in (suc p) xs i q (omega arith) (omega arith) t (λ k m. h (suc k) (omega arith)) ∙ sym (step false p x xs false (h 0 (omega arith)))

  pub last_in : (p : ℕ) (xs : List ℕ) (i q : ℕ) → i + p ≡ q → i < length xs → In xs i ≡ true → ((k : ℕ) → i + 1 ≤ k → k < length xs → In xs k ≡ false)
      → char q (get_or xs i 0) ≡ found_from true block mask p xs
  unfolding chosen or_else
  last_in p [] i q e l t h = absurd (omega arith)
  last_in p (x ∷ xs) zero q e l t h =
      let z : p ≡ q = omega arith in
      sym
      (step true p x xs true t
      ∙ ap (λ r. or_else r (char p x)) (none_in true (suc p) xs (λ k m. h (suc k) (omega arith) (omega arith)))
      ∙ ap (λ r. char r x) z)
  last_in p (x ∷ xs) (suc i) q e l t h =
      sym
      (step true p x xs (in_tables block mask x) refl
      ∙ ap (λ r. or_else r (cond (in_tables block mask x) (char p x) nowhere)) (sym (last_in (suc p) xs i q (omega arith) (omega arith) t (λ k m n. h (suc k) (omega arith) (omega arith)))))

-- what a walk from the end of a list of small numbers comes to is small
module _ {S A : Type 0} (steps : S → Option A → S → Type 0) (rest : S → List ℕ) (now : A → ℕ) (back : (s : S) (x : A) (t : S) → steps s (Some x) t → rest s ≡ push (rest t) (now x)) (n : ℕ) where
  abbrev Small : List ℕ → Type 0
  Small xs = (k : ℕ) → k < length xs → get_or xs k 0 < n

  front_small : (xs : List ℕ) (x : ℕ) → Small (push xs x) → Small xs
  front_small [] x h k l = absurd (omega arith)
  front_small (y ∷ ys) x h zero l = h 0 (omega arith)
  front_small (y ∷ ys) x h (suc k) l = front_small ys x (λ j m. h (suc j) (omega arith)) k (omega arith)

  end_small : (xs : List ℕ) (x : ℕ) → Small (push xs x) → x < n
  end_small [] x h = h 0 (omega arith)
  end_small (y ∷ ys) x h = end_small ys x (λ j m. h (suc j) (omega arith))

  pub back_small : (s : S) → Small (rest s) → (xs : List A) (t : S) → Yields steps s xs t → (x : A) (u : S) → steps t (Some x) u → now x < n
  back_small s h [] t y x u g = end_small (rest u) (now x) (rw (← (back t x u g)) (rw y at h))
  back_small s h (z ∷ zs) t y x u g = back_small y.0 (front_small (rest y.0) (now z) (rw (back s z y.0 y.1) at h)) zs t y.2 x u g
