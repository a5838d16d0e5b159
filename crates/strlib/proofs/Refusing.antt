-- Laws of refusals: the checks made one behind the other find the first that fails, and an answer follows from the
-- number found. Assumes nothing.
use mathlib.Core.Path.{◌≡◌, refl, sym, ap, ◌∙◌}
use mathlib.Core.Bool.{Bool, true, false, cond, not, ◌&&◌, false≢true}
use mathlib.Core.List.{List, [], ◌∷◌, ◌++◌}
use Prim.Native.Nat.{ℕ, zero, suc, ◌≤◌, ◌<◌, zero-le}
use native.Mathlib.Omega.{arith}
use lib.Dec.{leb, ltb, eqb}
use borrow.Author.Rules.{rules}
use borrow.Author.Tests.{leb-true, ltb-true, eqb-false, not-true}
use Rattle.strlib.specs.Refusal.{refused, gives, first, also, outcome, after, ruled}

-- a case split that keeps the equation, usable inside a clause, so that its branches may make recursive calls
pub bool_case : {P : Type 0} (b : Bool) → (b ≡ true → P) → (b ≡ false → P) → P
bool_case true f g = f refl
bool_case false f g = g refl

pub and_both : (a b : Bool) → (a && b) ≡ true → (a ≡ true) × (b ≡ true)
and_both true b e = (refl, e)
and_both false b e = absurd (false≢true e)

-- no check has the number 0
abbrev pub numbered : List (ℕ × Bool) → Bool
numbered [] = true
numbered (c ∷ cs) = ltb 0 c.0 && numbered cs

-- ---- finding the number

pub also_found : (k n : ℕ) (ok : Bool) → (k ≡ 0 → ⊥) → k ≡ also k n ok
unfolding also
also_found zero n ok h = absurd (h refl)
also_found (suc k) n ok h = refl

pub also_true : (k n : ℕ) → k ≡ also k n true
unfolding also
also_true zero n = refl
also_true (suc k) n = refl

module _ (k n : ℕ) (ok : Bool) (z : k ≡ 0) where
  pub also_passed : ok ≡ true → 0 ≡ also k n ok
  unfolding also
  also_passed e = rw (z, e)

  pub also_failed : ok ≡ false → n ≡ also k n ok
  unfolding also
  also_failed e = rw (z, e)

-- a check whose test and whose number before it are known by other names
pub also_after : (r k m n : ℕ) (t ok : Bool) → r ≡ also k n t → t ≡ ok → k ≡ m → r ≡ also m n ok
also_after r k m n t ok e f g = e ∙ rw (f, g)

-- the checks one behind the other, after those that found k
abbrev pub in_turn : ℕ → List (ℕ × Bool) → ℕ
in_turn k [] = k
in_turn k (c ∷ cs) = in_turn (also k c.0 c.1) cs

turn_found : (k : ℕ) (cs : List (ℕ × Bool)) → in_turn (suc k) cs ≡ suc k
unfolding also
turn_found k [] = refl
turn_found k (c ∷ cs) = turn_found k cs

turn_first : (cs : List (ℕ × Bool)) → numbered cs ≡ true → in_turn 0 cs ≡ first cs
unfolding also
turn_first [] h = refl
turn_first (c ∷ cs) h =
    let b = and_both (ltb 0 c.0) (numbered cs) h in
    go c.0 c.1 b.0 (turn_first cs b.1)
  where
    go : (n : ℕ) (ok : Bool) → ltb 0 n ≡ true → in_turn 0 cs ≡ first cs → in_turn (cond ok 0 n) cs ≡ cond ok (first cs) n
    go n true l e = e
    go zero false l e = absurd (false≢true l)
    go (suc n) false l e = turn_found n cs

-- a call's number, from the checks it made in turn
pub first_is : (cs : List (ℕ × Bool)) → numbered cs ≡ true → (k : ℕ) → k ≡ in_turn 0 cs → k ≡ first cs
first_is cs h k e = e ∙ turn_first cs h

-- ---- what is known where the number is 0

abbrev pub Passed : List (ℕ × Bool) → Type 0
Passed [] = Unit
Passed (c ∷ cs) = (c.1 ≡ true) × Passed cs

pass_one : (n : ℕ) (ok : Bool) (r : ℕ) → 0 < n → cond ok r n ≡ 0 → (ok ≡ true) × (r ≡ 0)
pass_one n true r h e = (refl, e)
pass_one n false r h e = absurd (omega arith)

pub passed : (cs : List (ℕ × Bool)) → numbered cs ≡ true → first cs ≡ 0 → Passed cs
passed [] h e = tt
passed (c ∷ cs) h e =
    let b = and_both (ltb 0 c.0) (numbered cs) h in
    let p = pass_one c.0 c.1 (first cs) (ltb-true 0 c.0 b.0) e in
    (p.0, passed cs b.1 p.1)

-- ---- the number found is one of those listed

abbrev pub numbered_to : ℕ → List (ℕ × Bool) → Bool
numbered_to m [] = true
numbered_to m (c ∷ cs) = leb c.0 m && numbered_to m cs

pub first_under : (m : ℕ) (cs : List (ℕ × Bool)) → numbered_to m cs ≡ true → first cs ≤ m
first_under m [] h = zero-le
first_under m (c ∷ cs) h =
    let b = and_both (leb c.0 m) (numbered_to m cs) h in
    go c.1 (leb-true c.0 m b.0) (first_under m cs b.1)
  where
    go : (ok : Bool) → c.0 ≤ m → first cs ≤ m → cond ok (first cs) c.0 ≤ m
    go true x y = y
    go false x y = x

abbrev pub numbered_but : ℕ → List (ℕ × Bool) → Bool
numbered_but m [] = true
numbered_but m (c ∷ cs) = not (eqb c.0 m) && numbered_but m cs

pub first_other : (m : ℕ) (cs : List (ℕ × Bool)) → numbered_but m cs ≡ true → first cs ≡ m → m ≡ 0
first_other m [] h e = sym e
first_other m (c ∷ cs) h e =
    let b = and_both (not (eqb c.0 m)) (numbered_but m cs) h in
    go c.1 e (λ f. first_other m cs b.1 f) (eqb-false c.0 m (not-true (eqb c.0 m) b.0))
  where
    go : (ok : Bool) → cond ok (first cs) c.0 ≡ m → (first cs ≡ m → m ≡ 0) → (c.0 ≡ m → ⊥) → m ≡ 0
    go true f g d = g f
    go false f g d = absurd (d f)

-- ---- checks made in two stages: those behind count only where those before found nothing

pub first_before : (cs ds : List (ℕ × Bool)) (k : ℕ) → k ≡ first cs → (k ≡ 0 → ⊥) → k ≡ first (cs ++ ds)
first_before [] ds k e h = absurd (h e)
first_before (c ∷ cs) ds k e h = go c.1 (λ f. first_before cs ds k f h) e
  where
    go : (ok : Bool) → (k ≡ first cs → k ≡ first (cs ++ ds)) → k ≡ cond ok (first cs) c.0 → k ≡ cond ok (first (cs ++ ds)) c.0
    go true f g = f g
    go false f g = g

pub first_behind : (cs ds : List (ℕ × Bool)) → numbered cs ≡ true → first cs ≡ 0 → first (cs ++ ds) ≡ first ds
first_behind [] ds h e = refl
first_behind (c ∷ cs) ds h e =
    let b = and_both (ltb 0 c.0) (numbered cs) h in
    let p = pass_one c.0 c.1 (first cs) (ltb-true 0 c.0 b.0) e in
    rw p.0 (first_behind cs ds b.1 p.1)

-- ---- the answer, and what was lent

module _ (k m : ℕ) (e : k ≡ m) where
  pub outcome_no : {A : Type 0} (x : A) → (k ≡ 0 → ⊥) → refused k ≡ outcome m x
  unfolding outcome
  outcome_no x h = rw (← e) (go k h)
    where
      go : (n : ℕ) → (n ≡ 0 → ⊥) → refused n ≡ outcome n x
      go zero f = absurd (f refl)
      go (suc n) f = refl

  pub outcome_yes : {A : Type 0} (x y : A) → k ≡ 0 → x ≡ y → gives x ≡ outcome m y
  unfolding outcome
  outcome_yes x y h p = let z : m ≡ 0 = omega arith in rw z (ap gives p)

  pub after_no : (new old : List ℕ) → (k ≡ 0 → ⊥) → old ≡ after m new old
  unfolding after
  after_no new old h = rw (← e) (go k h)
    where
      go : (n : ℕ) → (n ≡ 0 → ⊥) → old ≡ after n new old
      go zero f = absurd (f refl)
      go (suc n) f = refl

  pub after_yes : (t new old : List ℕ) → k ≡ 0 → t ≡ new → t ≡ after m new old
  unfolding after
  after_yes t new old h p = let z : m ≡ 0 = omega arith in rw z p

  pub ruled_no : {A : Type 0} (y : A) (new old : List ℕ) → (k ≡ 0 → ⊥) → (refused k, old) ≡ ruled m y new old
  unfolding ruled
  ruled_no y new old h = rw (← (outcome_no y h), ← (after_no new old h))

  pub ruled_yes : {A : Type 0} (x y : A) (t new old : List ℕ) → k ≡ 0 → x ≡ y → t ≡ new → (gives x, t) ≡ ruled m y new old
  unfolding ruled
  ruled_yes x y t new old h p q = rw (← (outcome_yes x y h p), ← (after_yes t new old h q))

-- an answer that is no refusal
pub outcome_gave : {A : Type 0} (k : ℕ) (x y : A) → outcome k x ≡ gives y → (k ≡ 0) × (x ≡ y)
unfolding outcome
outcome_gave zero x y e = (refl, cc)
outcome_gave (suc k) x y e = let z : ◌≡◌ {A = ℕ} 0 1 = cc in absurd (omega arith)

-- a refusal does not depend on the value
pub outcome_refused : {A B : Type 0} (k : ℕ) (x : A) (y : B) (n : ℕ) → outcome k x ≡ refused n → refused n ≡ outcome k y
unfolding outcome
outcome_refused zero x y n e = let z : ◌≡◌ {A = ℕ} 0 1 = cc in absurd (omega arith)
outcome_refused (suc k) x y n e = let z : n ≡ suc k = cc in rw z

pub outcome_is : {A : Type 0} (k : ℕ) (x : A) (n : ℕ) → outcome k x ≡ refused n → k ≡ n
unfolding outcome
outcome_is zero x n e = let z : ◌≡◌ {A = ℕ} 0 1 = cc in absurd (omega arith)
outcome_is (suc k) x n e = cc

pub ruled_gave : {A : Type 0} (k : ℕ) (x y : A) (new old : List ℕ) → (ruled k x new old).0 ≡ gives y → (k ≡ 0) × ((x ≡ y) × ((ruled k x new old).1 ≡ new))
unfolding ruled after
ruled_gave k x y new old e = let g = outcome_gave k x y e in (g.0, (g.1, rw g.0))

pub ruleset check_laws = (rules, also_found, also_passed, also_failed)

pub ruleset also_laws = (rules, also_found, also_after)
