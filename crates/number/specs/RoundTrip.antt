-- The round trip, and the fewest digits: demand 2 and 01, "Numbers", as claims on the definitions, each once over the
-- base. Assumes nothing.
use Rattle.std.specs.Prelude.{ℕ, ◌≤◌, ◌<◌, ◌≡◌, true, List, ◌∷◌, ℤ, length}
use Rattle.strlib.specs.Pointer.{sized, store_fits, good_in}
use Rattle.strlib.specs.Refusal.{gives}
use Rattle.strlib.specs.declared.StrPtr.{StrPtr}
use Rattle.number.specs.Limits.{is_base, in_range}
use Rattle.number.specs.Text.{is_number, number_of}
use Rattle.number.specs.Written.{digits, written}
use Rattle.number.specs.Number.{read_rule, write_rule}

-- every number of the range, written in a base, reads back as itself
pub record RoundTrip : Type 0 where
  -- on the texts
  pub texts : (base : ℕ) (z : ℤ) → is_base base ≡ true → in_range z ≡ true
      → (is_number base (written base z) ≡ true) × (number_of base (written base z) ≡ z)
  -- through the calls: written into a good destination with room enough, and read from the returned pointer in the
  -- store as it is then
  pub calls : (s : List ℕ) (p : StrPtr) (z : ℤ) (base : ℕ)
      → store_fits s ≡ true → is_base base ≡ true → good_in (length s) p ≡ true → in_range z ≡ true → length (written base z) ≤ p.maximum
      → ((write_rule s p z base).0 ≡ gives (sized p (length (written base z))))
      × (read_rule (write_rule s p z base).1 (sized p (length (written base z))) base ≡ gives z)
  -- whatever pointer a write returned, it reads as the number written
  pub returned : (s : List ℕ) (p : StrPtr) (z : ℤ) (base : ℕ) (q : StrPtr)
      → (write_rule s p z base).0 ≡ gives q → read_rule (write_rule s p z base).1 q base ≡ gives z
  -- 37 characters are room enough
  pub room : (base : ℕ) (z : ℤ) → length (written base z) ≤ 37

-- the digits written are the fewest
pub record Fewest : Type 0 where
  -- no digit 0 (48) in front, unless the number is 0
  pub leading : (base n : ℕ) (ds : List ℕ) → is_base base ≡ true → n < 68719476736 → digits base n ≡ 48 ∷ ds → n ≡ 0
  -- no text that reads as the number is shorter
  pub shortest : (base : ℕ) (cs : List ℕ) → is_base base ≡ true → is_number base cs ≡ true
      → length (written base (number_of base cs)) ≤ length cs
