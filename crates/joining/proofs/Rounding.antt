-- The place rule and the round rule. A place is an offset, and each round adds m to it, up to T; so the pieces of n
-- rounds are the first n * m characters, and the rule is arithmetic on T / m. Assumes nothing.
use mathlib.Core.Path.{◌≡◌, ◌∙◌}
use mathlib.Core.Bool.{true, false}
use mathlib.Core.List.{List, []}
use Prim.Native.Nat.{ℕ, zero, suc, ◌+◌, ◌-◌, ◌*◌, ◌/◌, ◌≤◌, ◌<◌, min}
use native.Mathlib.Nat.{suc-mul, zero-mul, mul-le-mul_right, div-mul-le_self, lt-div-mul-add}
use native.Mathlib.Omega.{arith}
use lib.ListN.{length, drop, take, get_or, length-drop, drop_of_length-le}
use lib.Seq.{take-add, take_all}
use borrow.Author.Tests.{leb-true, leb-false, le-leb, lt-leb}
use Rattle.strlib.proofs.Pointing.{either}
use Rattle.strlib.specs.Pointer.{joined}
use Rattle.joining.specs.Resuming.{before, offset, piece, completes, next_place}
use Rattle.joining.specs.RoundRule.{place_after, moved_after, rounds_for, RoundRule, RoundRules}
use Rattle.joining.proofs.Placing.{place_on, place_behind, place_offset}

-- the place rule on the definitions
pub record PlaceLaw (xss : List (List ℕ)) (m o : ℕ) : Type 0 where
  pub behind : completes xss m o ≡ true → next_place xss m o ≡ record { string = length xss + 1; character = 1 }
  pub inside : completes xss m o ≡ false
      → ((1 ≤ (next_place xss m o).string) × ((next_place xss m o).string ≤ length xss))
      × ((1 ≤ (next_place xss m o).character) × ((next_place xss m o).character ≤ length (get_or xss ((next_place xss m o).string - 1) [])))

pub place_rule : (xss : List (List ℕ)) (m o : ℕ) → PlaceLaw xss m o
unfolding completes next_place
place_rule xss m o =
    let l : length (drop o (joined xss)) ≡ length (joined xss) - o = length-drop o (joined xss) in
    let e : 1 + length xss ≡ length xss + 1 = omega arith in
    record {
      behind = λ p. let h = leb-true (length (drop o (joined xss))) m p in rw (place_behind 1 xss (o + m) (omega arith), e);
      inside = λ p.
          let h = leb-false (length (drop o (joined xss))) m p in
          let W = place_on 1 xss (o + m) (omega arith) in
          let a : 1 + W.i - 1 ≡ W.i = omega arith in
          rw (W.place, a) ((omega arith, omega (arith, W.string)), (omega arith, omega (arith, W.character)));
    }

module _ (xss : List (List ℕ)) (m : ℕ) where
  abbrev T : ℕ
  T = length (joined xss)

  round_offset : (n : ℕ) → offset xss (place_after xss m n) ≡ min (n * m) T
  unfolding place_after next_place before joined
  round_offset zero = rw zero-mul (omega arith)
  round_offset (suc n) =
      let e : offset xss (place_after xss m n) ≡ min (n * m) T = round_offset n in
      rw (place_offset xss (offset xss (place_after xss m n) + m), suc-mul) (omega arith)

  round_drop : (n : ℕ) → drop (offset xss (place_after xss m n)) (joined xss) ≡ drop (n * m) (joined xss)
  round_drop n =
      either T (n * m)
      (λ (h : T ≤ n * m).
      let e : offset xss (place_after xss m n) ≡ T = round_offset n ∙ omega arith in
      let f : T ≤ T = omega arith in
      rw (e, drop_of_length-le (joined xss) h, drop_of_length-le (joined xss) f))
      (λ (h : n * m < T). let e : offset xss (place_after xss m n) ≡ n * m = round_offset n ∙ omega arith in rw e)

  round_moved : (n : ℕ) → moved_after xss m n ≡ take (n * m) (joined xss)
  unfolding moved_after piece
  round_moved zero = rw zero-mul
  round_moved (suc n) = rw (round_moved n, round_drop n, suc-mul, take-add)

  round_left : (n : ℕ) → length (drop (offset xss (place_after xss m n)) (joined xss)) ≡ T - n * m
  round_left n = rw (round_drop n, length-drop)

  rounded : 1 ≤ m → RoundRule xss m
  unfolding completes
  rounded h =
      let c : ℕ = (T + (m - 1)) / m in
      let lo : c * m ≤ T + (m - 1) = div-mul-le_self (T + (m - 1)) m in
      let hi : T + (m - 1) < c * m + m = lt-div-mul-add h in
      let big : c * m ≤ rounds_for T m * m = mul-le-mul_right m (omega arith) in
      record {
        early = λ n k.
            let a : (n + 2) * m ≤ c * m = mul-le-mul_right m (omega arith) in
            let b : (n + 2) * m ≡ n * m + m + m = rw (two n, suc-mul, suc-mul) in
            lt-leb _ m (omega (arith, round_left n));
        done = λ n k.
            let a : rounds_for T m * m ≡ n * m + m = rw (← k, one n, suc-mul) in
            le-leb _ m (omega (arith, round_left n));
        whole = round_moved (rounds_for T m) ∙ take_all (rounds_for T m * m) (joined xss) (omega arith);
      }
    where
      two : (n : ℕ) → n + 2 ≡ suc (suc n)
      two n = omega arith

      one : (n : ℕ) → n + 1 ≡ suc n
      one n = omega arith

pub round_rule : RoundRules
round_rule xss m h = rounded xss m h
