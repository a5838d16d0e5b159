-- The calls on character sets: 01, "Character sets". Assumes nothing.
use Rattle.std.specs.Prelude.{ℕ, suc, Bool, true, false, cond, List, [], ◌∷◌, ◌++◌, length}
use Rattle.strlib.specs.Pointer.{store_fits, good_in, text_of, readable}
use Rattle.strlib.specs.Refusal.{Outcome, first, outcome, ruled, Sought, nowhere, at}
use Rattle.strlib.specs.declared.StrPtr.{StrPtr}
use Rattle.charset.specs.Sets.{block_fits, mask_fits, turned_all, turned_at, in_tables}
use Rattle.charset.specs.declared.CharAt.{CharAt}

-- ---- clear (false) and fill (true)

-- the block, then the mask
abbrev pub block_checks : List ℕ → ℕ → List (ℕ × Bool)
block_checks block mask = (3, block_fits block) ∷ (3, mask_fits mask) ∷ []

-- the number of the first that fails, 0 for none
unfoldable pub block_refusal : List ℕ → ℕ → ℕ
block_refusal block mask = first (block_checks block mask)

-- the answer, and the block: every word is turned
unfoldable pub tables_rule : Bool → List ℕ → ℕ → Outcome Unit × List ℕ
tables_rule on block mask = ruled (block_refusal block mask) tt (turned_all on mask block) block

-- ---- add (true) and remove (false) the characters of a string

-- the store, the block and the mask; the string's pointer; its characters
abbrev pub set_checks : List ℕ → StrPtr → List ℕ → ℕ → List (ℕ × Bool)
set_checks s string block mask =
    (3, store_fits s) ∷ block_checks block mask ++ ((1, good_in (length s) string) ∷ (2, readable s string) ∷ [])

-- the number of the first that fails, 0 for none
unfoldable pub set_refusal : List ℕ → StrPtr → List ℕ → ℕ → ℕ
set_refusal s string block mask = first (set_checks s string block mask)

-- the answer, and the block: the words of the string's characters are turned
unfoldable pub characters_rule : Bool → List ℕ → StrPtr → List ℕ → ℕ → Outcome Unit × List ℕ
characters_rule on s string block mask = ruled (set_refusal s string block mask) tt (turned_at on mask (text_of s string) block) block

-- ---- search for the first (false) or the last (true) host character in a masked table

-- of two answers the first that found something
unfoldable pub or_else : Sought CharAt → Sought CharAt → Sought CharAt
or_else nowhere b = b
or_else (at x) b = at x

-- of the answer at a character and that among the characters behind it: the first, or the last
unfoldable pub chosen : Bool → Sought CharAt → Sought CharAt → Sought CharAt
chosen false here behind = or_else here behind
chosen true here behind = or_else behind here

-- the answer at the character x at position p
unfoldable pub found_at : List ℕ → ℕ → ℕ → ℕ → Sought CharAt
found_at block mask p x = cond (in_tables block mask x) (at (record { position = p; code = x })) nowhere

-- the answer among characters of which the first is at position p
unfoldable pub found_from : Bool → List ℕ → ℕ → ℕ → List ℕ → Sought CharAt
found_from last block mask p [] = nowhere
found_from last block mask p (x ∷ xs) = chosen last (found_at block mask p x) (found_from last block mask (suc p) xs)

-- the same checks, of the host
unfoldable pub find_rule : Bool → List ℕ → StrPtr → List ℕ → ℕ → Outcome (Sought CharAt)
find_rule last s host block mask = outcome (set_refusal s host block mask) (found_from last block mask 1 (text_of s host))
