-- The four cuts: 01, "Cutting". Assumes nothing.
use Rattle.std.specs.Prelude.{ℕ, suc, ◌+◌, ◌-◌, ◌≡◌, Bool, true, cond, ◌&&◌, List, [], ◌∷◌, leb, eqb, length}
use Rattle.strlib.specs.Pointer.{sized, part_of, store_fits, good_in, text_of, all, readable}
use Rattle.strlib.specs.Refusal.{Outcome, first, outcome, gives}
use Rattle.strlib.specs.declared.StrPtr.{StrPtr}
use Rattle.cutting.specs.declared.Cut.{Cut}
use Rattle.cutting.specs.declared.Cut.TheVariants.{Relative, Counted, Between, Trimmed}

-- all are blanks, 32
unfoldable pub is_blank : List ℕ → Bool
is_blank xs = all (λ x. eqb x 32) xs

-- the length that is left once trailing blanks are dropped
unfoldable pub trimmed_length : List ℕ → ℕ
trimmed_length [] = 0
trimmed_length (x ∷ xs) = cond (is_blank (x ∷ xs)) 0 (suc (trimmed_length xs))

-- of a string of n characters: pos2 = 0 means n + 1
unfoldable pub second : ℕ → ℕ → ℕ
second n pos2 = cond (eqb pos2 0) (n + 1) pos2

-- 1 ≤ p ≤ maximum + 1 and n ≤ maximum − p + 1
unfoldable pub counted_in : ℕ → ℕ → ℕ → Bool
counted_in maximum p n = (leb 1 p && leb p (maximum + 1)) && leb n (maximum + 1 - p)

-- 1 ≤ pos1 ≤ pos2 ≤ n + 1
unfoldable pub between_in : ℕ → ℕ → ℕ → Bool
between_in n pos1 pos2 = (leb 1 pos1 && leb pos1 (second n pos2)) && leb (second n pos2) (n + 1)

-- the bounds of each cut, and the part that it gives
unfoldable pub in_bounds : StrPtr → Cut → Bool
in_bounds p (Relative a) = leb a p.length
in_bounds p (Counted at n) = counted_in p.maximum at n
in_bounds p (Between pos1 pos2) = between_in p.length pos1 pos2
in_bounds p Trimmed = true

unfoldable pub cut_of : List ℕ → StrPtr → Cut → StrPtr
cut_of s p (Relative a) = part_of p a (p.length - a) (p.maximum - a)
cut_of s p (Counted at n) = part_of p (at - 1) n (p.maximum + 1 - at)
cut_of s p (Between pos1 pos2) = part_of p (pos1 - 1) (second p.length pos2 - pos1) (p.length + 1 - pos1)
cut_of s p Trimmed = sized p (trimmed_length (text_of s p))

-- only trimming reads the string
unfoldable pub cut_reads : List ℕ → StrPtr → Cut → Bool
cut_reads s p (Relative a) = true
cut_reads s p (Counted at n) = true
cut_reads s p (Between pos1 pos2) = true
cut_reads s p Trimmed = readable s p

abbrev pub cut_checks : List ℕ → StrPtr → Cut → List (ℕ × Bool)
cut_checks s p c = (3, store_fits s) ∷ (1, good_in (length s) p) ∷ (2, cut_reads s p c) ∷ (4, in_bounds p c) ∷ []

unfoldable pub cut_refusal : List ℕ → StrPtr → Cut → ℕ
cut_refusal s p c = first (cut_checks s p c)

unfoldable pub cut_rule : List ℕ → StrPtr → Cut → Outcome StrPtr
cut_rule s p c = outcome (cut_refusal s p c) (cut_of s p c)

-- a pointer that a cut gives is good for the store that it was cut from
abbrev pub CutGood : Type 0
CutGood = (s : List ℕ) (p : StrPtr) (c : Cut) (q : StrPtr) → cut_rule s p c ≡ gives q → good_in (length s) q ≡ true
