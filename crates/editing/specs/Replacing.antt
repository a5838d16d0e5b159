-- Replace: 01, "Copying", third paragraph. Assumes nothing.
use Rattle.std.specs.Prelude.{ℕ, ◌+◌, ◌-◌, ◌≡◌, Bool, ◌&&◌, true, List, [], ◌∷◌, ◌++◌, leb, length, take, drop}
use Rattle.strlib.specs.Pointer.{sized, store_fits, good_in, text_of, readable, clear}
use Rattle.strlib.specs.Refusal.{Outcome, first, ruled, gives}
use Rattle.strlib.specs.Store.{put}
use Rattle.strlib.specs.declared.StrPtr.{StrPtr}

-- string 2 is a part of string 1, by place
unfoldable pub lies_in : StrPtr → StrPtr → Bool
lies_in string1 string2 =
    leb string1.start string2.start && leb (string2.start + string2.length) (string1.start + string1.length)

-- how long the result is
unfoldable pub new_length : StrPtr → StrPtr → StrPtr → ℕ
new_length string1 string2 string3 = string1.length - string2.length + string3.length

-- the characters of string 1 before string 2, those of string 3, and those of string 1 behind string 2
unfoldable pub replaced : List ℕ → StrPtr → StrPtr → StrPtr → List ℕ
replaced s string1 string2 string3 =
    let at : ℕ = string2.start - string1.start in
    take at (text_of s string1) ++ text_of s string3 ++ drop (at + string2.length) (text_of s string1)

-- the checks of a replacement
abbrev pub replace_checks : List ℕ → StrPtr → StrPtr → StrPtr → List (ℕ × Bool)
replace_checks s string1 string2 string3 =
    (3, store_fits s) ∷ (1, good_in (length s) string1) ∷ (1, good_in (length s) string2) ∷ (1, good_in (length s) string3)
    ∷ (2, readable s string1) ∷ (2, readable s string3) ∷ (4, lies_in string1 string2) ∷ (5, clear string1 string3)
    ∷ (6, leb (new_length string1 string2 string3) string1.maximum) ∷ []

-- the number that they find, 0 for none
unfoldable pub replace_refusal : List ℕ → StrPtr → StrPtr → StrPtr → ℕ
replace_refusal s string1 string2 string3 = first (replace_checks s string1 string2 string3)

-- string 1 gets its new characters and its new length; bytes past it stay
unfoldable pub replace_rule : List ℕ → StrPtr → StrPtr → StrPtr → Outcome StrPtr × List ℕ
replace_rule s string1 string2 string3 =
    let xs : List ℕ = replaced s string1 string2 string3 in
    ruled (replace_refusal s string1 string2 string3) (sized string1 (length xs)) (put s string1.start xs) s

-- a pointer that a replacement gives is good for the store
abbrev pub ReplaceGood : Type 0
ReplaceGood =
    (s : List ℕ) (string1 string2 string3 r : StrPtr) → (replace_rule s string1 string2 string3).0 ≡ gives r → good_in (length s) r ≡ true
