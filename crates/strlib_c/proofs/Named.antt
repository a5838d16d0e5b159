-- A law that the documents name: an answer and what was lent are made flat together. Assumes nothing.
use mathlib.Core.Path.{◌≡◌}
use mathlib.Core.List.{List}
use Prim.Native.Nat.{ℕ}
use Rattle.flat.specs.Strings.{flat_with}

pub flat_with_lem : {A B : Type 0} (f : A → B) (r : B) (x : A) (h : r ≡ f x) (s : List ℕ) (y : A × List ℕ) → (x, s) ≡ y → (r, s) ≡ flat_with f y
flat_with_lem f r x h s y e = rw (← e, h)
