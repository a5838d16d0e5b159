-- Laws of what is read, case by case as the code tells them apart. Assumes nothing.
use Rattle.std.proofs.Common.{◌≡◌, refl, ℕ, ◌≤◌, ◌<◌, List, [], ◌∷◌, length, get_or, arith, rules}
use borrow.Author.Tests.{lt-ltb, le-ltb, eq-eqb, ne_eqb}
use Rattle.endings.specs.Ending.{named_by, source_of}
use Rattle.endings.specs.declared.Source.{Source}
use Rattle.endings.specs.declared.Source.TheVariants.{Input, File, Neither}

pub named_empty : (name : List ℕ) → length name < 1 → File ≡ named_by name
unfolding named_by
named_empty [] h = refl
named_empty (c ∷ cs) h = absurd (omega arith)

pub named_plain : (name : List ℕ) → (get_or name 0 0 ≡ 45 → ⊥) → File ≡ named_by name
unfolding named_by
named_plain [] d = refl
named_plain (c ∷ []) d = rw (ne_eqb c 45 d)
named_plain (c ∷ x ∷ xs) d = rw (ne_eqb c 45 d)

pub named_dash : (name : List ℕ) → get_or name 0 0 ≡ 45 → length name < 2 → Input ≡ named_by name
unfolding named_by
named_dash [] d h = absurd (omega arith)
named_dash (c ∷ []) d h = rw (eq-eqb c 45 d)
named_dash (c ∷ x ∷ xs) d h = absurd (omega arith)

pub named_more : (name : List ℕ) → get_or name 0 0 ≡ 45 → 2 ≤ length name → Neither ≡ named_by name
unfolding named_by
named_more [] d h = absurd (omega arith)
named_more (c ∷ []) d h = absurd (omega arith)
named_more (c ∷ x ∷ xs) d h = rw (eq-eqb c 45 d)

module _ (n : ℕ) (name : List ℕ) where
  pub none_given : n < 2 → Input ≡ source_of n name
  unfolding source_of
  none_given h = rw (lt-ltb n 2 h)

  module _ (f : 2 ≤ n) where
    pub too_many : 2 < n → Neither ≡ source_of n name
    unfolding source_of
    too_many h = rw (le-ltb n 2 f, lt-ltb 2 n h)

    pub one_given : n ≤ 2 → (s : Source) → s ≡ named_by name → s ≡ source_of n name
    unfolding source_of
    one_given g s e = rw (le-ltb n 2 f, le-ltb 2 n g) e

pub ruleset source_laws = (rules, none_given, too_many, one_given, named_empty, named_plain, named_dash, named_more)
