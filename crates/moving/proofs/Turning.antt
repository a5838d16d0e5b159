-- Laws of reversal. Assumes nothing.
use Rattle.std.proofs.Common.{◌≡◌, ℕ, ◌+◌, ◌-◌, ◌≤◌, List, [], ◌∷◌, ◌++◌, length, take, drop, refl, ap, ◌∙◌, arith}
use Rattle.std.proofs.lemmas.List.{reverse-append, length-reverse}
use mathlib.Core.List.{reverse}
use Rattle.strlib.specs.Store.{put}
use Rattle.strlib.proofs.Storing.{put_over, put_length, part_put}
use Rattle.moving.specs.Moving.{reversed, reversed_at}
use Rattle.moving.proofs.Writing.{part_length, written_in}

-- it is std's reversal
pub reversed_is : (xs : List ℕ) → reverse xs ≡ reversed xs
unfolding reversed
reversed_is [] = refl
reversed_is (x ∷ xs) = reverse-append (x ∷ []) xs ∙ ap (λ (ys : List ℕ). ys ++ (x ∷ [])) (reversed_is xs)

pub reversed_length : (xs : List ℕ) → length (reversed xs) ≡ length xs
reversed_length xs = rw (← (reversed_is xs)) (length-reverse xs)

-- what `reverse` makes of a part of the store
pub turned : (s xs : List ℕ) (at n : ℕ) → xs ≡ reverse (take (at + n - at) (drop at s)) → xs ≡ reversed (take n (drop at s))
turned s xs at n e = let j : at + n - at ≡ n = omega arith in e ∙ rw (j, reversed_is)

pub turned_length : (s : List ℕ) (at n : ℕ) → at + n ≤ length s → length (reversed (take n (drop at s))) ≡ n
turned_length s at n h = reversed_length (take n (drop at s)) ∙ part_length s at n h

-- ---- the leaf

pub reversed_in : (s : List ℕ) (at n : ℕ) → at + n ≤ length s → reversed_at s at n ≡ put s at (reversed (take n (drop at s)))
unfolding reversed_at
reversed_in s at n = written_in s at n (reversed (take n (drop at s)))

-- characters put and then reversed
pub reversed_put : (s : List ℕ) (at : ℕ) (xs : List ℕ) → at + length xs ≤ length s → reversed_at (put s at xs) at (length xs) ≡ put s at (reversed xs)
reversed_put s at xs h =
    let l : length (put s at xs) ≡ length s = put_length s at xs h in
    reversed_in (put s at xs) at (length xs) (omega arith)
    ∙ rw (part_put s at xs (omega arith)) (put_over s at xs (omega arith) (reversed xs) (omega (arith, reversed_length xs)))
