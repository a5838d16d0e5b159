-- Laws of what holds of each pointer of a list, over any test. Assumes nothing.
use Rattle.std.proofs.Common.{ℕ, zero, suc, ◌≡◌, refl, ◌<◌, Bool, true, List, [], ◌∷◌, length, take, drop, get_or, arith}
use Rattle.std.specs.List.{list_all}
use Rattle.strlib.proofs.Refusing.{and_both}
use Rattle.strlib.specs.Pointer.{all}

-- the library's own test of all elements is the same
pub all_list : {A : Type 0} (f : A → Bool) (l : List A) → list_all f l ≡ all f l
unfolding all
all_list f [] = refl
all_list f (x ∷ l) = rw (all_list f l)

-- one of those of which f holds
pub all_at : {A : Type 0} (f : A → Bool) (l : List A) (i : ℕ) (d : A) → all f l ≡ true → i < length l → f (get_or l i d) ≡ true
unfolding all
all_at f [] i d e h = absurd (omega arith)
all_at f (x ∷ l) zero d e h = (and_both (f x) (all f l) e).0
all_at f (x ∷ l) (suc i) d e h = all_at f l i d (and_both (f x) (all f l) e).1 (omega arith)

-- those of which f holds, the first of them, and those behind them
pub all_take : {A : Type 0} (f : A → Bool) (l : List A) (k : ℕ) → all f l ≡ true → all f (take k l) ≡ true
unfolding all
all_take f [] zero e = refl
all_take f [] (suc k) e = refl
all_take f (x ∷ l) zero e = refl
all_take f (x ∷ l) (suc k) e = let b = and_both (f x) (all f l) e in rw b.0 (all_take f l k b.1)

pub all_drop : {A : Type 0} (f : A → Bool) (l : List A) (k : ℕ) → all f l ≡ true → all f (drop k l) ≡ true
unfolding all
all_drop f [] zero e = refl
all_drop f [] (suc k) e = refl
all_drop f (x ∷ l) zero e = e
all_drop f (x ∷ l) (suc k) e = all_drop f l k (and_both (f x) (all f l) e).1
