-- What a text says: 01, "Numbers". Zero or more blanks, an optional minus, one or more digits of the base, nothing
-- more. Assumes nothing.
use Rattle.std.specs.Prelude.{ℕ, ◌+◌, ◌-◌, ◌*◌, Bool, false, cond, ◌&&◌, List, [], ◌∷◌, leb, ltb, eqb, ℤ, pos, neg_ℤ, length, drop}
use Rattle.strlib.specs.Pointer.{all}

-- what stands behind the blanks (32) in front
unfoldable pub unblanked : List ℕ → List ℕ
unblanked [] = []
unblanked (c ∷ cs) = cond (eqb c 32) (unblanked cs) (c ∷ cs)

-- whether a minus (45) stands in front
unfoldable pub minus : List ℕ → Bool
minus [] = false
minus (c ∷ cs) = eqb c 45

-- what stands behind an optional minus
unfoldable pub unsigned : List ℕ → List ℕ
unsigned cs = cond (minus cs) (drop 1 cs) cs

-- a digit of the base: 0 (48), 1, .. up to base − 1
unfoldable pub is_digit : ℕ → ℕ → Bool
is_digit base c = leb 48 c && ltb c (48 + base)

-- one or more digits, nothing more
unfoldable pub are_digits : ℕ → List ℕ → Bool
are_digits base cs = ltb 0 (length cs) && all (is_digit base) cs

-- blanks, an optional minus, digits: the whole text
unfoldable pub is_number : ℕ → List ℕ → Bool
is_number base cs = are_digits base (unsigned (unblanked cs))

-- the value of digits that stand behind digits of the value v
unfoldable pub value : ℕ → ℕ → List ℕ → ℕ
value base v [] = v
value base v (c ∷ cs) = value base (v * base + (c - 48)) cs

-- the number of this magnitude, negative behind a minus
unfoldable pub signed : Bool → ℕ → ℤ
signed negative n = cond negative (neg_ℤ (pos n)) (pos n)

-- the number that such a text says
unfoldable pub number_of : ℕ → List ℕ → ℤ
number_of base cs = signed (minus (unblanked cs)) (value base 0 (unsigned (unblanked cs)))
