-- Laws of the run's rule: each clause as an equation, and that a run stays among its states. Assumes nothing.
use Prim.Native.Nat.{ℕ, zero, suc, ◌+◌, ◌≤◌, ◌<◌}
use mathlib.Core.Path.{◌≡◌, refl}
use mathlib.Core.Bool.{Bool, true, false, ◌&&◌}
use mathlib.Core.List.{List, [], ◌∷◌}
use native.Mathlib.Omega.{arith}
use native.Mathlib.Numerals.{add-one}
use lib.Dec.{leb, ltb}
use lib.ListN.{length, get_or, drop, drop_of_length-le}
use lib.Seq.{drop-cons}
use borrow.Author.Tests.{ltb-true}
use Rattle.search.specs.Search.{Result}
use Rattle.table.specs.Run.{word_of, Walk, bad, rests, only_if, noted, enter, step, walk}

-- ---- at a state that does not stop

pub enter_pos : (ws : List ℕ) (q n : ℕ) (r : Result) → 0 < q → enter ws q n r ≡ noted q (word_of ws q 128) (word_of ws q 129) n r
unfolding enter
enter_pos ws zero n r h = absurd (omega arith)
enter_pos ws (suc q) n r h = refl

pub step_pos : (ws : List ℕ) (size q n : ℕ) (r : Result) (c : ℕ) → 0 < q
    → step ws size (rests q n r) c ≡ only_if (ltb (word_of ws q c) size) (enter ws (word_of ws q c) (suc n) r)
unfolding step
step_pos ws size zero n r c h = absurd (omega arith)
step_pos ws size (suc q) n r c h = refl

-- ---- at state 0, and at a text's end

pub enter_stop : (ws : List ℕ) (n : ℕ) (r : Result) → enter ws zero n r ≡ rests zero n r
unfolding enter
enter_stop ws n r = refl

pub walk_none : (ws : List ℕ) (size : ℕ) (w : Walk) → walk ws size [] w ≡ w
unfolding walk
walk_none ws size w = refl

-- ---- a refused run, and one that stopped, stay so

pub walk_bad : (ws : List ℕ) (size : ℕ) (h : List ℕ) → walk ws size h bad ≡ bad
unfolding walk step
walk_bad ws size [] = refl
walk_bad ws size (c ∷ h) = walk_bad ws size h

pub walk_stop : (ws : List ℕ) (size : ℕ) (h : List ℕ) (n : ℕ) (r : Result) → walk ws size h (rests zero n r) ≡ rests zero n r
unfolding walk step
walk_stop ws size [] n r = refl
walk_stop ws size (c ∷ h) n r = walk_stop ws size h n r

-- ---- a run rests in one of its states, with at most m characters read

abbrev pub RestsIn : ℕ → ℕ → Walk → Type 0
RestsIn size m bad = Unit {0}
RestsIn size m (rests q n r) = (q < size) × (n ≤ m)

in_only : (size m : ℕ) (b : Bool) (w : Walk) → (b ≡ true → RestsIn size m w) → RestsIn size m (only_if b w)
in_only size m true w h = h refl
in_only size m false w h = tt

in_noted : (size q f l n m : ℕ) (r : Result) → q < size → n ≤ m → RestsIn size m (noted q f l n r)
in_noted size q zero l n m r h k = (h, k)
in_noted size q (suc f) l n m r h k = in_only size m (leb (suc f) 32 && leb l n) _ (λ e. (h, k))

pub in_enter : (ws : List ℕ) (size q n m : ℕ) (r : Result) → q < size → n ≤ m → RestsIn size m (enter ws q n r)
unfolding enter
in_enter ws size zero n m r h k = (h, k)
in_enter ws size (suc q) n m r h k = in_noted size (suc q) (word_of ws (suc q) 128) (word_of ws (suc q) 129) n m r h k

pub in_step : (ws : List ℕ) (size m : ℕ) (w : Walk) (c : ℕ) → RestsIn size m w → RestsIn size (suc m) (step ws size w c)
unfolding step
in_step ws size m bad c h = tt
in_step ws size m (rests zero n r) c h = (h.0, omega arith)
in_step ws size m (rests (suc q) n r) c h =
    in_only size (suc m) (ltb (word_of ws (suc q) c) size) _
    (λ e. in_enter ws size (word_of ws (suc q) c) (suc n) (suc m) r (ltb-true _ _ e) (omega arith))

-- ---- a loop over an index: one turn, and the end

pub walk_turn : (ws : List ℕ) (size : ℕ) (h : List ℕ) (i : ℕ) (w : Walk) → i < length h
    → walk ws size (drop i h) w ≡ walk ws size (drop (i + 1) h) (step ws size w (get_or h i 0))
unfolding walk
walk_turn ws size h i w l = rw (add-one, drop-cons h i 0)

pub walk_end : (ws : List ℕ) (size : ℕ) (h : List ℕ) (i : ℕ) (w : Walk) → length h ≤ i → walk ws size (drop i h) w ≡ w
unfolding walk
walk_end ws size h i w l = rw (drop_of_length-le h l)
