-- What a translation is given, and what refuses it: 01, "The search table". Assumes nothing.
use Rattle.std.specs.Prelude.{ℕ, Bool, cond, ◌&&◌, List, [], ◌∷◌, ◌++◌, leb, length, take}
use Rattle.strlib.specs.Pointer.{store_fits, good_in, texts, all, readable}
use Rattle.strlib.specs.Refusal.{first}
use Rattle.strlib.specs.declared.StrPtr.{StrPtr}
use Rattle.states.specs.State.{total}

-- the characters of the strings of a list
abbrev pub listed : List ℕ → List StrPtr → ℕ → List (List ℕ)
listed s list count = texts s (take count list)

-- how many they are together, where store and count are within their limits; elsewhere 0
unfoldable pub total_of : List ℕ → List StrPtr → ℕ → ℕ
total_of s list count = cond (store_fits s && leb count 32) (total (listed s list count)) 0

-- the store and the count; the listed pointers; their characters
abbrev pub source_checks : List ℕ → List StrPtr → ℕ → List (ℕ × Bool)
source_checks s list count =
    (3, store_fits s) ∷ (3, leb count 32) ∷ (1, all (good_in (length s)) (take count list)) ∷ (2, all (readable s) (take count list)) ∷ []

-- at most 240 characters together, and at least 31,461 words
abbrev pub size_checks : List ℕ → List StrPtr → ℕ → ℕ → List (ℕ × Bool)
size_checks s list count words = (9, leb (total (listed s list count)) 240) ∷ (9, leb 31461 words) ∷ []

abbrev pub translate_checks : List ℕ → List StrPtr → ℕ → ℕ → List (ℕ × Bool)
translate_checks s list count words = source_checks s list count ++ size_checks s list count words

unfoldable pub translate_refusal : List ℕ → List StrPtr → ℕ → ℕ → ℕ
translate_refusal s list count words = first (translate_checks s list count words)
