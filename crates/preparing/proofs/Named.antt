-- A law that the documents name: the checks of a list, made one behind the other. Assumes nothing.
use mathlib.Core.Path.{◌≡◌, refl}
use mathlib.Core.List.{List}
use Prim.Native.Nat.{ℕ}
use lib.Dec.{leb}
use lib.ListN.{length, take}
use Rattle.strlib.proofs.Refusing.{first_is}
use Rattle.strlib.specs.Pointer.{store_fits, good_in, all, readable}
use Rattle.strlib.specs.Refusal.{also}
use Rattle.strlib.specs.declared.StrPtr.{StrPtr}
use Rattle.preparing.specs.Inner.{source_refusal}
use Rattle.preparing.specs.Listed.{source_checks}

pub list_checked : (s : List ℕ) (list : List StrPtr) (count found₁ : ℕ) → found₁ ≡ also 0 3 (store_fits s)
    → (found₂ : ℕ) → found₂ ≡ also found₁ 3 (leb count 32) → (found₃ : ℕ) → found₃ ≡ also found₂ 1 (all (good_in (length s)) (take count list))
    → (found₄ : ℕ) → found₄ ≡ also found₃ 2 (all (readable s) (take count list)) → found₄ ≡ source_refusal s list count
unfolding source_refusal
list_checked s list count found₁ e₁ found₂ e₂ found₃ e₃ found₄ e₄ = first_is (source_checks s list count) refl found₄ (rw (e₄, e₃, e₂, e₁))
