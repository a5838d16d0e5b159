-- String pointers and what they name in a store: 01, "What the library covers". Assumes nothing.
use Rattle.std.specs.Prelude.{ℕ, ◌+◌, min, max, Bool, true, ◌&&◌, List, [], ◌∷◌, ◌++◌, map, leb, length, take, drop}
use Rattle.strlib.specs.declared.StrPtr.{StrPtr}

-- every pointer of a rule is made by one of these three: from its start, length and maximum; in the same room with
-- another length; and as a part of a string, at a place of its own, where what a pointer may be marked with is handed
-- on
unfoldable pub pointer : ℕ → ℕ → ℕ → StrPtr
pointer a n m = record { start = a; length = n; maximum = m }

unfoldable pub sized : StrPtr → ℕ → StrPtr
sized p n = record { start = p.start; length = n; maximum = p.maximum }

abbrev pub part_at : StrPtr → ℕ → ℕ → ℕ → StrPtr
part_at p a n m = record { start = a; length = n; maximum = m }

-- the part that begins `skip` behind the string's start
unfoldable pub part_of : StrPtr → ℕ → ℕ → ℕ → StrPtr
part_of p skip n m = part_at p (p.start + skip) n m

-- a store is at most 65,536 bytes
unfoldable pub store_fits : List ℕ → Bool
store_fits s = leb (length s) 65536

-- the n bytes from index a on lie in a store of this size, a whole-number sum
abbrev pub within : ℕ → ℕ → ℕ → Bool
within size a n = leb (a + n) size

-- a pointer is good for a store of n bytes if length ≤ maximum and start + maximum ≤ n
unfoldable pub good_in : ℕ → StrPtr → Bool
good_in n p = leb p.length p.maximum && within n p.start p.maximum

-- the bytes that a pointer names in a store: those from its start on, as many as its length says
unfoldable pub text_of : List ℕ → StrPtr → List ℕ
text_of s p = take p.length (drop p.start s)

-- the characters of listed strings, string by string
unfoldable pub texts : List ℕ → List StrPtr → List (List ℕ)
texts s ps = map (text_of s) ps

-- texts one behind the other
unfoldable pub joined : List (List ℕ) → List ℕ
joined [] = []
joined (x ∷ xss) = x ++ joined xss

-- f holds of each element
unfoldable pub all : {A : Type 0} → (A → Bool) → List A → Bool
all f [] = true
all f (x ∷ xs) = f x && all f xs

-- a character is 0 to 127
unfoldable pub characters : List ℕ → Bool
characters xs = all (λ x. leb x 127) xs

-- a string that may be read, all of whose bytes are characters
unfoldable pub readable : List ℕ → StrPtr → Bool
readable s p = characters (text_of s p)

-- m bytes from a and n bytes from b share none
unfoldable pub apart : ℕ → ℕ → ℕ → ℕ → Bool
apart a m b n = leb (min (a + m) (b + n)) (max a b)

-- a source's characters share no byte with the destination's room, start to start + maximum
unfoldable pub clear : StrPtr → StrPtr → Bool
clear destination source = apart source.start source.length destination.start destination.maximum
