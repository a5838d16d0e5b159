-- Laws of a run in pieces: a text in two parts is walked part by part, a state that was entered may be entered anew,
-- and what a run hands on is one of its states with a note that it can make, having read all unless it stopped. Assumes
-- nothing.
use Prim.Native.Nat.{ℕ, zero, suc, ◌+◌, ◌-◌, ◌≤◌}
use mathlib.Core.Path.{◌≡◌, refl}
use mathlib.Core.Bool.{Bool, true, false, ◌&&◌}
use mathlib.Core.List.{List, [], ◌∷◌, ◌++◌}
use native.Mathlib.Omega.{arith}
use lib.Dec.{leb, ltb}
use lib.ListN.{length}
use borrow.Author.Tests.{leb-true}
use Rattle.strlib.proofs.Refusing.{bool_case, and_both}
use Rattle.search.specs.Search.{Result, nothing, found}
use Rattle.table.specs.Run.{word_of, Walk, bad, rests, only_if, noted, enter, step, walk, run_over}
use Rattle.table.specs.Resume.{read_on}
use Rattle.table.proofs.Walking.{RestsIn, in_step}

-- ---- a text in two parts

pub walk_append : (ws : List ℕ) (size : ℕ) (a b : List ℕ) (w : Walk) → walk ws size (a ++ b) w ≡ walk ws size b (walk ws size a w)
unfolding walk
walk_append ws size [] b w = refl
walk_append ws size (c ∷ a) b w = walk_append ws size a b (step ws size w c)

pub run_is : (ws h : List ℕ) → run_over ws h ≡ read_on ws h 1 0 nothing
unfolding run_over
run_is ws h = refl

-- ---- to enter a state anew changes nothing

abbrev pub again : List ℕ → Walk → Walk
again ws bad = bad
again ws (rests q n r) = enter ws q n r

again_noted : (ws : List ℕ) (q f l n : ℕ) (r : Result) → word_of ws (suc q) 128 ≡ f → word_of ws (suc q) 129 ≡ l
    → again ws (noted (suc q) f l n r) ≡ noted (suc q) f l n r
unfolding enter
again_noted ws q zero l n r e d = rw e
again_noted ws q (suc k) l n r e d = bool_case (leb (suc k) 32 && leb l n) (λ p. rw p (rw (e, d, p))) (λ p. rw p)

pub again_enter : (ws : List ℕ) (q n : ℕ) (r : Result) → again ws (enter ws q n r) ≡ enter ws q n r
unfolding enter
again_enter ws zero n r = refl
again_enter ws (suc q) n r = again_noted ws q (word_of ws (suc q) 128) (word_of ws (suc q) 129) n r refl refl

again_only : (ws : List ℕ) (b : Bool) (w : Walk) → again ws w ≡ w → again ws (only_if b w) ≡ only_if b w
again_only ws true w e = e
again_only ws false w e = refl

again_step : (ws : List ℕ) (size : ℕ) (w : Walk) (c : ℕ) → again ws w ≡ w → again ws (step ws size w c) ≡ step ws size w c
unfolding step
again_step ws size bad c e = e
again_step ws size (rests zero n r) c e = e
again_step ws size (rests (suc q) n r) c e = again_only ws (ltb (word_of ws (suc q) c) size) _ (again_enter ws (word_of ws (suc q) c) (suc n) r)

pub again_walk : (ws : List ℕ) (size : ℕ) (h : List ℕ) (w : Walk) → again ws w ≡ w → again ws (walk ws size h w) ≡ walk ws size h w
unfolding walk
again_walk ws size [] w e = e
again_walk ws size (c ∷ h) w e = again_walk ws size h (step ws size w c) (again_step ws size w c e)

-- ---- a run rests in one of its states

pub in_walk : (ws : List ℕ) (size m : ℕ) (h : List ℕ) (w : Walk) → RestsIn size m w → RestsIn size (m + length h) (walk ws size h w)
unfolding walk
in_walk ws size m [] w k = let e : m + 0 ≡ m = omega arith in rw e k
in_walk ws size m (c ∷ h) w k =
    let e : m + suc (length h) ≡ suc m + length h = omega arith in
    rw e (in_walk ws size (suc m) h (step ws size w c) (in_step ws size m w c k))

-- ---- having read all, unless it stopped

abbrev pub ReadsAll : ℕ → Walk → Type 0
ReadsAll m bad = Unit {0}
ReadsAll m (rests q n r) = (q ≡ 0 → ⊥) → n ≡ m

all_only : (m : ℕ) (b : Bool) (w : Walk) → ReadsAll m w → ReadsAll m (only_if b w)
all_only m true w k = k
all_only m false w k = tt

all_noted : (q f l n m : ℕ) (r : Result) → ((q ≡ 0 → ⊥) → n ≡ m) → ReadsAll m (noted q f l n r)
all_noted q zero l n m r k = k
all_noted q (suc f) l n m r k = all_only m (leb (suc f) 32 && leb l n) _ k

pub all_enter : (ws : List ℕ) (q n m : ℕ) (r : Result) → ((q ≡ 0 → ⊥) → n ≡ m) → ReadsAll m (enter ws q n r)
unfolding enter
all_enter ws zero n m r k = k
all_enter ws (suc q) n m r k = all_noted (suc q) (word_of ws (suc q) 128) (word_of ws (suc q) 129) n m r k

all_step : (ws : List ℕ) (size m : ℕ) (w : Walk) (c : ℕ) → ReadsAll m w → ReadsAll (suc m) (step ws size w c)
unfolding step
all_step ws size m bad c k = tt
all_step ws size m (rests zero n r) c k = λ h. absurd (h refl)
all_step ws size m (rests (suc q) n r) c k =
    all_only (suc m) (ltb (word_of ws (suc q) c) size) _
    (all_enter ws (word_of ws (suc q) c) (suc n) (suc m) r (λ h. let e : n ≡ m = k (λ z. omega arith) in omega arith))

pub all_walk : (ws : List ℕ) (size m : ℕ) (h : List ℕ) (w : Walk) → ReadsAll m w → ReadsAll (m + length h) (walk ws size h w)
unfolding walk
all_walk ws size m [] w k = let e : m + 0 ≡ m = omega arith in rw e k
all_walk ws size m (c ∷ h) w k =
    let e : m + suc (length h) ≡ suc m + length h = omega arith in
    rw e (all_walk ws size (suc m) h (step ws size w c) (all_step ws size m w c k))

-- ---- with a note that it can make

-- string j from pos1 to pos2, with n characters read
pub record NoteFits (n j pos1 pos2 : ℕ) : Type 0 where
  pub some : 1 ≤ j
  pub few : j ≤ 32
  pub from : 1 ≤ pos1
  pub order : pos1 ≤ pos2
  pub to : pos2 ≤ suc n

abbrev pub NotedIn : ℕ → Result → Type 0
NotedIn n nothing = Unit {0}
NotedIn n (found j pos1 pos2) = NoteFits n j pos1 pos2

abbrev pub WellNoted : Walk → Type 0
WellNoted bad = Unit {0}
WellNoted (rests q n r) = NotedIn n r

well_only : (b : Bool) (w : Walk) → (b ≡ true → WellNoted w) → WellNoted (only_if b w)
well_only true w h = h refl
well_only false w h = tt

well_more : (n : ℕ) (r : Result) → NotedIn n r → NotedIn (suc n) r
well_more n nothing h = tt
well_more n (found j pos1 pos2) h = omega arith

well_noted : (q f l n : ℕ) (r : Result) → NotedIn n r → WellNoted (noted q f l n r)
well_noted q zero l n r k = k
well_noted q (suc f) l n r k = well_only (leb (suc f) 32 && leb l n) _ (λ e. fits (and_both (leb (suc f) 32) (leb l n) e))
  where
    fits : (leb (suc f) 32 ≡ true) × (leb l n ≡ true) → NoteFits n (suc f) (suc (n - l)) (suc n)
    fits (a, b) = omega (arith, leb-true (suc f) 32 a, leb-true l n b)

pub well_enter : (ws : List ℕ) (q n : ℕ) (r : Result) → NotedIn n r → WellNoted (enter ws q n r)
unfolding enter
well_enter ws zero n r k = k
well_enter ws (suc q) n r k = well_noted (suc q) (word_of ws (suc q) 128) (word_of ws (suc q) 129) n r k

well_step : (ws : List ℕ) (size : ℕ) (w : Walk) (c : ℕ) → WellNoted w → WellNoted (step ws size w c)
unfolding step
well_step ws size bad c h = tt
well_step ws size (rests zero n r) c h = h
well_step ws size (rests (suc q) n r) c h =
    well_only (ltb (word_of ws (suc q) c) size) _ (λ e. well_enter ws (word_of ws (suc q) c) (suc n) r (well_more n r h))

pub well_walk : (ws : List ℕ) (size : ℕ) (h : List ℕ) (w : Walk) → WellNoted w → WellNoted (walk ws size h w)
unfolding walk
well_walk ws size [] w k = k
well_walk ws size (c ∷ h) w k = well_walk ws size h (step ws size w c) (well_step ws size w c k)
