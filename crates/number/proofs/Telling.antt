-- A reading of what may be read goes by the text alone. Assumes nothing.
use mathlib.Core.Path.{◌≡◌}
use mathlib.Core.Bool.{true}
use mathlib.Core.List.{List}
use Prim.Native.Nat.{ℕ}
use lib.ListN.{length}
use Rattle.strlib.specs.Pointer.{store_fits, good_in, text_of, readable}
use Rattle.strlib.specs.Refusal.{first, outcome}
use Rattle.strlib.specs.declared.StrPtr.{StrPtr}
use Rattle.number.specs.Limits.{is_base}
use Rattle.number.specs.Text.{number_of}
use Rattle.number.specs.Number.{of_text, read_refusal, read_rule}

-- in base 10, of a good string of characters in a store that fits: what the text says, or 7 or 8
pub read_text : (s : List ℕ) (p : StrPtr) → store_fits s ≡ true → good_in (length s) p ≡ true → readable s p ≡ true
    → read_rule s p 10 ≡ outcome (first (of_text 10 (text_of s p))) (number_of 10 (text_of s p))
unfolding read_rule read_refusal is_base
read_text s p f g r = rw (f, g, r)
