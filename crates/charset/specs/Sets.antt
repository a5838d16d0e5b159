-- Character sets: 01, "Character sets". A block holds tables: bit b of a character's word says whether the character is
-- in table b, and a mask names the tables whose bits it has. Assumes nothing.
use Rattle.std.specs.Prelude.{ℕ, ◌-◌, ◌^◌, Bool, true, false, List, [], ◌∷◌, eqb, ltb, length, get_or, set}
use Rattle.std.specs.Int.Bits.{bit_and, bit_or}

-- a block is exactly 128 words, one a character
unfoldable pub block_fits : List ℕ → Bool
block_fits block = eqb (length block) 128

-- a mask is under 2^36
unfoldable pub mask_fits : ℕ → Bool
mask_fits mask = ltb mask (2 ^ 36)

-- what is done to a word of 64 bits: the masked bits are turned on, or off
unfoldable pub turned : Bool → ℕ → ℕ → ℕ
turned true mask w = bit_or w mask
turned false mask w = bit_and w (2 ^ 64 - 1 - mask)

-- it is done to every word
unfoldable pub turned_all : Bool → ℕ → List ℕ → List ℕ
turned_all on mask [] = []
turned_all on mask (w ∷ ws) = turned on mask w ∷ turned_all on mask ws

-- it is done to the word of each of the characters xs
unfoldable pub turned_at : Bool → ℕ → List ℕ → List ℕ → List ℕ
turned_at on mask [] block = block
turned_at on mask (x ∷ xs) block = turned_at on mask xs (set block x (turned on mask (get_or block x 0)))

-- a character is in a masked table
unfoldable pub in_tables : List ℕ → ℕ → ℕ → Bool
in_tables block mask x = ltb 0 (bit_and (get_or block x 0) mask)
