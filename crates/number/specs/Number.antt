-- The two calls: 01, "Numbers" and "Refusal numbers". Assumes nothing.
use Rattle.std.specs.Prelude.{ℕ, ◌≡◌, Bool, true, List, [], ◌∷◌, ◌++◌, leb, ℤ, length}
use Rattle.strlib.specs.Pointer.{sized, store_fits, good_in, text_of, readable}
use Rattle.strlib.specs.Refusal.{Outcome, gives, first, outcome, ruled}
use Rattle.strlib.specs.Store.{put}
use Rattle.strlib.specs.declared.StrPtr.{StrPtr}
use Rattle.number.specs.Limits.{is_base, in_range}
use Rattle.number.specs.Text.{is_number, number_of}
use Rattle.number.specs.Written.{written}

-- ---- reading

-- the checks of a reading, in their order: those before the question whether the text is a number, then those of the
-- text
abbrev pub before_text : List ℕ → StrPtr → ℕ → List (ℕ × Bool)
before_text s p base = (3, store_fits s) ∷ (3, is_base base) ∷ (1, good_in (length s) p) ∷ (2, readable s p) ∷ []

-- the checks of a text, given whether it is a number, and which: 7, then 8
abbrev pub of_value : Bool → ℤ → List (ℕ × Bool)
of_value formed z = (7, formed) ∷ (8, in_range z) ∷ []

abbrev pub of_text : ℕ → List ℕ → List (ℕ × Bool)
of_text base t = of_value (is_number base t) (number_of base t)

abbrev pub read_checks : List ℕ → StrPtr → ℕ → List (ℕ × Bool)
read_checks s p base = before_text s p base ++ of_text base (text_of s p)

-- its refusal, 0 for none
unfoldable pub read_refusal : List ℕ → StrPtr → ℕ → ℕ
read_refusal s p base = first (read_checks s p base)

-- its answer: the number that the string says
unfoldable pub read_rule : List ℕ → StrPtr → ℕ → Outcome ℤ
read_rule s p base = outcome (read_refusal s p base) (number_of base (text_of s p))

-- ---- writing

-- the checks of a writing, in their order: those that are made before its digits are counted, then that of the room.
-- The destination is not read, and 6 goes by its maximum
abbrev pub before_digits : List ℕ → StrPtr → ℤ → ℕ → List (ℕ × Bool)
before_digits s p z base = (3, store_fits s) ∷ (3, is_base base) ∷ (1, good_in (length s) p) ∷ (8, in_range z) ∷ []

abbrev pub of_room : StrPtr → ℤ → ℕ → List (ℕ × Bool)
of_room p z base = (6, leb (length (written base z)) p.maximum) ∷ []

abbrev pub write_checks : List ℕ → StrPtr → ℤ → ℕ → List (ℕ × Bool)
write_checks s p z base = before_digits s p z base ++ of_room p z base

-- its refusal, 0 for none
unfoldable pub write_refusal : List ℕ → StrPtr → ℤ → ℕ → ℕ
write_refusal s p z base = first (write_checks s p z base)

-- its answer, and the store afterwards: the text from the destination's start on, the length set, every byte past it as
-- it was
unfoldable pub write_rule : List ℕ → StrPtr → ℤ → ℕ → Outcome StrPtr × List ℕ
write_rule s p z base =
    ruled (write_refusal s p z base) (sized p (length (written base z))) (put s p.start (written base z)) s

-- a pointer that a writing gives is good for the store
abbrev pub WriteGood : Type 0
WriteGood = (s : List ℕ) (p : StrPtr) (z : ℤ) (base : ℕ) (q : StrPtr) → (write_rule s p z base).0 ≡ gives q → good_in (length s) q ≡ true
