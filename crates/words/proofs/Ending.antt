-- Laws of the ends that are sought from a place on. Assumes nothing.
use Rattle.std.proofs.Common.{◌≡◌, refl, sym, ◌≤◌, add-zero, Bool, cond, not, List, ℕ, ◌+◌, ◌-◌, Option, Some, None, unwrap_or, length, take, drop, eqb, ltb, arith, zero-add, one-add}
use Rattle.std.specs.List.{position_or_len}
use Rattle.std.proofs.lemmas.List.{drop_all}
use Rattle.std.proofs.lemmas.List.Recursion.{is_position_or_len}
use Rattle.std.proofs.lemmas.List.Sums.{prefix_len-le-length}
use borrow.Author.Tests.{ltb-false}
use lib.ListN.{length-drop}
use lib.Seq.{take_all}
use Rattle.strlib.proofs.Refusing.{bool_case}
use Rattle.words.specs.Ends.{up_to, blank_count, blanks_end, end_of}

-- ---- ends, as `position` finds them in what is left of the text

-- what it answers, or the end where it finds nothing
pub found_is : {X : Type 0} (test : X → Bool) (xs : List X) (n : ℕ) (r : Option ℕ) → n ≡ length xs
    → r ≡ cond (ltb (position_or_len test xs) (length xs)) (Some (position_or_len test xs)) None → unwrap_or r n ≡ position_or_len test xs
found_is test xs n r h e =
    bool_case (ltb (position_or_len test xs) (length xs))
    (λ l. rw (e, l))
    (λ l. rw (e, l) (omega (arith, ltb-false (position_or_len test xs) (length xs) l, prefix_len-le-length (λ x. not (test x)) xs)))

blank_place : (s : List ℕ) → blank_count s ≡ position_or_len (λ c. not (eqb c 32)) s
unfolding blank_count
blank_place s = is_position_or_len blank_count (λ c. not (eqb c 32)) refl (λ c cs. bool_case (eqb c 32) (λ e. rw (e, one-add)) (λ e. rw e)) s

byte_place : (b : ℕ) (s : List ℕ) → length (up_to b s) ≡ position_or_len (λ c. eqb c b) s
unfolding up_to
byte_place b s = is_position_or_len (λ t. length (up_to b t)) (λ c. eqb c b) refl (λ c cs. bool_case (eqb c b) (λ e. rw e) (λ e. rw (e, one-add))) s

module _ (s : List ℕ) (at n : ℕ) where
  pub blanks_at : n ≡ position_or_len (λ c. not (eqb c 32)) (drop at s) → at + n ≡ blanks_end s at
  unfolding blanks_end
  blanks_at e = rw (e, blank_place (drop at s))

  pub byte_at : (b : ℕ) → n ≡ position_or_len (λ c. eqb c b) (drop at s) → at + n ≡ end_of b s at
  unfolding end_of
  byte_at b e = rw (e, byte_place b (drop at s))

-- at the text's end, and past it
module _ (s : List ℕ) (at : ℕ) where
  pub blanks_past : length s ≤ at → at ≡ blanks_end s at
  unfolding blanks_end blank_count
  blanks_past h = rw (drop_all at s h) (sym (add-zero at))

  pub byte_past : (b : ℕ) → length s ≤ at → at ≡ end_of b s at
  unfolding end_of up_to
  byte_past b h = rw (drop_all at s h) (sym (add-zero at))

-- a slice from a place on to its end
pub rest_is : (s : List ℕ) (i : ℕ) → take (length s - i) (drop i s) ≡ drop i s
rest_is s i = take_all (length s - i) (drop i s) (simp length-drop (omega arith))

-- the blanks in front of a whole text
pub blanks_front : (s : List ℕ) → blanks_end s 0 ≡ blank_count s
unfolding blanks_end
blanks_front s = zero-add (blank_count s)
