-- Reverse, in place or from a source: 01, "Copying", third paragraph. Assumes nothing.
use Rattle.std.specs.Prelude.{ℕ, ◌≡◌, Bool, true, List, [], ◌∷◌, ◌++◌, leb, length}
use Rattle.strlib.specs.Checks.{into_checks}
use Rattle.strlib.specs.Pointer.{sized, store_fits, good_in, text_of, readable, clear}
use Rattle.strlib.specs.Refusal.{Outcome, first, ruled, gives}
use Rattle.strlib.specs.Store.{put}
use Rattle.strlib.specs.declared.StrPtr.{StrPtr}
use Rattle.moving.specs.Moving.{reversed}

-- the checks of a reversal in place
abbrev pub reverse_checks : List ℕ → StrPtr → List (ℕ × Bool)
reverse_checks s string = (3, store_fits s) ∷ (1, good_in (length s) string) ∷ (2, readable s string) ∷ []

-- the number that they find, 0 for none
unfoldable pub reverse_refusal : List ℕ → StrPtr → ℕ
reverse_refusal s string = first (reverse_checks s string)

-- the string keeps its pointer, and its characters stand from the last to the first
unfoldable pub reverse_rule : List ℕ → StrPtr → Outcome StrPtr × List ℕ
reverse_rule s string = ruled (reverse_refusal s string) string (put s string.start (reversed (text_of s string))) s

-- the checks of a reversal from a source; a source over the destination's maximum gives 6
abbrev pub reverse_from_checks : List ℕ → StrPtr → StrPtr → List (ℕ × Bool)
reverse_from_checks s destination source =
    into_checks s destination source ++ ((5, clear destination source) ∷ (6, leb source.length destination.maximum) ∷ [])

-- the number that they find, 0 for none
unfoldable pub reverse_from_refusal : List ℕ → StrPtr → StrPtr → ℕ
reverse_from_refusal s destination source = first (reverse_from_checks s destination source)

-- the destination gets the source's characters from the last to the first, and its length; bytes past it stay
unfoldable pub reverse_from_rule : List ℕ → StrPtr → StrPtr → Outcome StrPtr × List ℕ
reverse_from_rule s destination source =
    let xs : List ℕ = reversed (text_of s source) in
    ruled (reverse_from_refusal s destination source) (sized destination (length xs)) (put s destination.start xs) s

-- a pointer that a reversal gives is good for the store
abbrev pub ReverseGood : Type 0
ReverseGood = (s : List ℕ) (string r : StrPtr) → (reverse_rule s string).0 ≡ gives r → good_in (length s) r ≡ true

abbrev pub ReverseFromGood : Type 0
ReverseFromGood = (s : List ℕ) (destination source r : StrPtr) → (reverse_from_rule s destination source).0 ≡ gives r → good_in (length s) r ≡ true
