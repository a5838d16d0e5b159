-- Laws that the documents name: what makes words a table's, and a run's checks, made one behind the other. Assumes
-- nothing.
use mathlib.Core.Path.{◌≡◌, refl}
use mathlib.Core.Bool.{true}
use mathlib.Core.List.{List}
use Prim.Native.Nat.{ℕ, ◌+◌, ◌*◌, ◌≤◌}
use lib.ListN.{length}
use borrow.Author.Tests.{le-leb}
use Rattle.strlib.proofs.Refusing.{first_is}
use Rattle.strlib.specs.Pointer.{store_fits, good_in, readable}
use Rattle.strlib.specs.Refusal.{also}
use Rattle.strlib.specs.declared.StrPtr.{StrPtr}
use Rattle.table.specs.Run.{size_of, is_sized, before_checks}
use Rattle.table.specs.Inner.{before_run}

pub is_sized_lem : (ws : List ℕ) → 2 ≤ size_of ws → size_of ws ≤ 242 → 1 + 130 * size_of ws ≤ length ws → is_sized ws ≡ true
unfolding is_sized
is_sized_lem ws a b c = rw (le-leb 2 (size_of ws) a, le-leb (size_of ws) 242 b, le-leb (1 + 130 * size_of ws) (length ws) c)

pub run_checked : (s : List ℕ) (host : StrPtr) (ws : List ℕ) (found₁ : ℕ) → found₁ ≡ also 0 3 (store_fits s)
    → (found₂ : ℕ) → found₂ ≡ also found₁ 1 (good_in (length s) host) → (found₃ : ℕ) → found₃ ≡ also found₂ 2 (readable s host)
    → (found₄ : ℕ) → found₄ ≡ also found₃ 10 (is_sized ws) → found₄ ≡ before_run s host ws
unfolding before_run
run_checked s host ws found₁ e₁ found₂ e₂ found₃ e₃ found₄ e₄ = first_is (before_checks s host ws) refl found₄ (rw (e₄, e₃, e₂, e₁))
