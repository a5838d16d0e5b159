-- Checks that copy, append and reverse_from begin with. Assumes nothing.
use Rattle.std.specs.Prelude.{ℕ, Bool, List, [], ◌∷◌, length}
use Rattle.strlib.specs.Pointer.{store_fits, good_in, readable}
use Rattle.strlib.specs.Refusal.{first}
use Rattle.strlib.specs.declared.StrPtr.{StrPtr}

-- those of a call that writes a source's characters into a destination's room, up to 2
abbrev pub into_checks : List ℕ → StrPtr → StrPtr → List (ℕ × Bool)
into_checks s destination source =
    (3, store_fits s) ∷ (1, good_in (length s) destination) ∷ (1, good_in (length s) source) ∷ (2, readable s source) ∷ []

-- the number that they find, 0 for none
unfoldable pub into_refusal : List ℕ → StrPtr → StrPtr → ℕ
into_refusal s destination source = first (into_checks s destination source)
