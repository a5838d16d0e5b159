-- The first sure place of each example: from it on no continuation matters; before it there is one with which the
-- answer ends elsewhere. Assumes nothing.
use Prim.Native.Nat.{ℕ, zero, suc, ◌≤◌}
use mathlib.Core.Path.{◌≡◌, refl, sym, ap, ◌∙◌}
use mathlib.Core.Bool.{true, false, false≢true}
use mathlib.Core.List.{List, [], ◌∷◌, ◌++◌}
use native.Mathlib.Omega.{arith}
use lib.Dec.{eqb}
use lib.ListN.{take}
use borrow.Author.Tests.{eq-eqb}
use Rattle.strlib.specs.Pointer.{all, characters}
use Rattle.strlib.specs.Quoted.{bytes}
use Rattle.search.specs.Search.{Result, nothing, found, plain_search}
use Rattle.states.specs.Sure.{Sure}
use Rattle.states.specs.Examples.{single, longer, inner, null_last, null_first, Examples}

abbrev end_of : Result → ℕ
end_of nothing = 0
end_of (found j pos1 pos2) = pos2

not_sure : (ss : List (List ℕ)) (t z : List ℕ) → characters z ≡ true → eqb (end_of (plain_search ss (t ++ z))) (end_of (plain_search ss t)) ≡ false → Sure ss t → ⊥
unfolding Sure
not_sure ss t z k e d = false≢true (sym e ∙ eq-eqb (end_of (plain_search ss (t ++ z))) (end_of (plain_search ss t)) (ap end_of (d z k)))

single_least : (i : ℕ) → Sure single (take i (bytes "abx")) → 2 ≤ i
unfolding characters all
single_least zero d = absurd (not_sure single [] (bytes "ab") refl refl d)
single_least (suc zero) d = absurd (not_sure single (bytes "a") (bytes "b") refl refl d)
single_least (suc (suc i)) d = omega arith

single_never : (k : ℕ) → Sure single (take k (bytes "xa")) → ⊥
unfolding characters all
single_never zero d = not_sure single [] (bytes "ab") refl refl d
single_never (suc zero) d = not_sure single (bytes "x") (bytes "ab") refl refl d
single_never (suc (suc zero)) d = not_sure single (bytes "xa") (bytes "b") refl refl d
single_never (suc (suc (suc k))) d = not_sure single (bytes "xa") (bytes "b") refl refl d

longer_least : (i : ℕ) → Sure longer (take i (bytes "abcc")) → 2 ≤ i
unfolding characters all
longer_least zero d = absurd (not_sure longer [] (bytes "ab") refl refl d)
longer_least (suc zero) d = absurd (not_sure longer (bytes "a") (bytes "b") refl refl d)
longer_least (suc (suc i)) d = omega arith

inner_least : (i : ℕ) → Sure inner (take i (bytes "abcxyz")) → 4 ≤ i
unfolding characters all
inner_least zero d = absurd (not_sure inner [] (bytes "abcd") refl refl d)
inner_least (suc zero) d = absurd (not_sure inner (bytes "a") (bytes "bcd") refl refl d)
inner_least (suc (suc zero)) d = absurd (not_sure inner (bytes "ab") (bytes "cd") refl refl d)
inner_least (suc (suc (suc zero))) d = absurd (not_sure inner (bytes "abc") (bytes "d") refl refl d)
inner_least (suc (suc (suc (suc i)))) d = omega arith

null_last_least : (i : ℕ) → Sure null_last (take i (bytes "axy")) → 2 ≤ i
unfolding characters all
null_last_least zero d = absurd (not_sure null_last [] (bytes "ab") refl refl d)
null_last_least (suc zero) d = absurd (not_sure null_last (bytes "a") (bytes "b") refl refl d)
null_last_least (suc (suc i)) d = omega arith

null_sure : Sure null_first []
unfolding Sure
null_sure [] k = refl
null_sure (c ∷ z) k = refl

pub examples : Examples
unfolding Sure
examples =
    record {
      ends = record { inside = omega arith; sure = λ z k. refl; first = single_least };
      never = single_never;
      goes_on = record { inside = omega arith; sure = λ z k. refl; first = longer_least };
      breaks_off = record { inside = omega arith; sure = λ z k. refl; first = inner_least };
      null_after = record { inside = omega arith; sure = λ z k. refl; first = null_last_least };
      null_at_once = record { inside = omega arith; sure = null_sure; first = λ i d. omega arith };
    }
