-- Laws of checks that calls share, and of a list of checks that begins with them. Assumes nothing.
use mathlib.Core.Path.{◌≡◌, refl, sym, ap, ◌∙◌}
use mathlib.Core.Bool.{Bool, true}
use mathlib.Core.List.{List, [], ◌∷◌, ◌++◌}
use Prim.Native.Nat.{ℕ, zero, suc, ◌≤◌}
use native.Mathlib.Omega.{arith}
use lib.ListN.{length}
use borrow.Author.Rules.{rules}
use Rattle.strlib.specs.Pointer.{store_fits, good_in, readable}
use Rattle.strlib.specs.Refusal.{first, also}
use Rattle.strlib.specs.Checks.{into_checks, into_refusal}
use Rattle.strlib.specs.declared.StrPtr.{StrPtr}
use Rattle.strlib.proofs.Refusing.{numbered, in_turn, first_is, passed, first_before, first_behind}
use Rattle.strlib.proofs.Pointing.{fits_is}

-- ---- a list of checks behind another

append_turn : (k : ℕ) (cs ds : List (ℕ × Bool)) → in_turn k (cs ++ ds) ≡ in_turn (in_turn k cs) ds
append_turn k [] ds = refl
append_turn k (c ∷ cs) ds = append_turn (also k c.0 c.1) cs ds

-- the number found by the first list is taken on by the checks of the second
pub first_on : (cs ds : List (ℕ × Bool)) → numbered cs ≡ true → numbered (cs ++ ds) ≡ true → (found k : ℕ) → found ≡ first cs → k ≡ in_turn found ds → k ≡ first (cs ++ ds)
first_on cs ds h h' found k e f = first_is (cs ++ ds) h' k (f ∙ ap (λ (n : ℕ). in_turn n ds) (e ∙ sym (first_is cs h (in_turn 0 cs) refl)) ∙ sym (append_turn 0 cs ds))

-- both lists pass where they pass together
pub first_both : (cs ds : List (ℕ × Bool)) → numbered cs ≡ true → first (cs ++ ds) ≡ 0 → (first cs ≡ 0) × (first ds ≡ 0)
first_both cs ds h e = go (first cs) refl
  where
    go : (k : ℕ) → first cs ≡ k → (first cs ≡ 0) × (first ds ≡ 0)
    go zero z = (z, sym (first_behind cs ds h z) ∙ e)
    go (suc k) z = absurd (omega (arith, first_before cs ds (suc k) (sym z) (λ n. omega arith)))

-- ---- a source's characters into a destination's room

pub into_checked : (s : List ℕ) (destination source : StrPtr) (found₁ : ℕ) → found₁ ≡ also 0 3 (store_fits s)
    → (found₂ : ℕ) → found₂ ≡ also found₁ 1 (good_in (length s) destination) → (found₃ : ℕ) → found₃ ≡ also found₂ 1 (good_in (length s) source)
    → (found₄ : ℕ) → found₄ ≡ also found₃ 2 (readable s source) → found₄ ≡ into_refusal s destination source
unfolding into_refusal
into_checked s destination source found₁ e₁ found₂ e₂ found₃ e₃ found₄ e₄ = first_is (into_checks s destination source) refl found₄ (rw (e₄, e₃, e₂, e₁))

-- what is known where they find nothing
pub record IntoPassed (s : List ℕ) (destination source : StrPtr) : Type 0 where
  pub small : length s ≤ 65536
  pub room : good_in (length s) destination ≡ true
  pub part : good_in (length s) source ≡ true
  pub plain : readable s source ≡ true

pub into_passed : (s : List ℕ) (destination source : StrPtr) → first (into_checks s destination source) ≡ 0 → IntoPassed s destination source
into_passed s destination source z =
    let ok = passed (into_checks s destination source) refl z in
    record { small = fits_is s ok.0; room = ok.1.0; part = ok.1.1.0; plain = ok.1.1.1.0 }

pub ruleset into_laws = (rules, into_checked)
