-- What the functions inside the crate promise one another. Assumes nothing.
use Rattle.std.specs.Prelude.{ℕ, ◌+◌, ◌≤◌, ◌<◌, ◌≡◌, Bool, true, List, ℤ, length}
use Rattle.strlib.specs.Refusal.{Outcome, first, outcome}
use Rattle.strlib.specs.declared.StrPtr.{StrPtr}
use Rattle.number.specs.Limits.{is_base, in_range}
use Rattle.number.specs.Written.{digits, written}
use Rattle.number.specs.Number.{before_text, of_value, before_digits}

-- the refusal that the checks before a text find, 0 for none
unfoldable pub unreadable : List ℕ → StrPtr → ℕ → ℕ
unreadable s p base = first (before_text s p base)

-- what a text reads as: refusal 7 where it is no number, else 8 where its number is out of range
unfoldable pub reads : Bool → ℤ → Outcome ℤ
reads formed z = outcome (first (of_value formed z)) z

-- the refusal that the checks before the digits find, 0 for none
unfoldable pub unwritable : List ℕ → StrPtr → ℤ → ℕ → ℕ
unwritable s p z base = first (before_digits s p z base)

-- a number under 2^36, whose digits can be counted
pub record Countable (base n : ℕ) : Type 0 where
  pub based : is_base base ≡ true
  pub small : n < 68719476736

-- its digits, counted, have room at an index of a store of `size` bytes
pub record Room (base n count at size : ℕ) : Type 0 where
  pub able : Countable base n
  pub counted : count ≡ length (digits base n)
  pub room : at + count ≤ size

-- the same of a number's text
pub record TextRoom (base : ℕ) (z : ℤ) (count at size : ℕ) : Type 0 where
  pub based : is_base base ≡ true
  pub ranged : in_range z ≡ true
  pub counted : count ≡ length (written base z)
  pub room : at + count ≤ size
