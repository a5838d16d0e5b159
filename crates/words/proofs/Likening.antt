-- Laws of texts that are alike: the first unequal pair, and equality. Assumes nothing.
use Rattle.std.proofs.Common.{◌≡◌, refl, Bool, not, ◌&&◌, List, [], ◌∷◌, ℕ, eqb, nat_eq, zip, ap, one-add, ◌∙◌}
use Rattle.std.specs.List.{position_or_len}
use lib.Pointwise.{pointwise}
use Rattle.strlib.proofs.Refusing.{bool_case}
use Rattle.words.specs.Alike.{common}
use Rattle.words.specs.Words.{same}

pub common_is : (a b : List ℕ) → position_or_len (λ p. not (eqb p.0 p.1)) (zip a b) ≡ common a b
unfolding common
common_is [] b = refl
common_is (x ∷ xs) [] = refl
common_is (x ∷ xs) (y ∷ ys) = bool_case (eqb x y) (λ e. rw (e, one-add, common_is xs ys)) (λ e. rw e)

pointwise_is : (a b : List ℕ) → pointwise nat_eq a b ≡ same a b
unfolding same
pointwise_is [] [] = refl
pointwise_is [] (y ∷ ys) = refl
pointwise_is (x ∷ xs) [] = refl
pointwise_is (x ∷ xs) (y ∷ ys) = ap (λ t. eqb x y && t) (pointwise_is xs ys)

pub same_is : (a b : List ℕ) (r : Bool) → r ≡ pointwise nat_eq a b → r ≡ same a b
same_is a b r e = e ∙ pointwise_is a b
