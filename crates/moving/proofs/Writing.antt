-- Laws of bytes written over a place of the same size, whatever they are: blanks, or those that stood there reversed.
-- Assumes nothing.
use Rattle.std.proofs.Common.{◌≡◌, ℕ, ◌+◌, ◌-◌, ◌<◌, ◌≤◌, Bool, true, false, List, length, take, drop, sym, refl, ◌∙◌, arith, length-drop, length-take, take_all, rules}
use Rattle.std.proofs.lemmas.Slice.{put_mid-paste}
use borrow.Author.Tests.{lt-leb}
use borrow.Rule.Slice.PartMut.{put_mid}
use Rattle.strlib.proofs.Pointing.{within_so, is_within}
use Rattle.strlib.specs.Pointer.{within}
use Rattle.strlib.specs.Store.{put}
use Rattle.moving.specs.Moving.{overwritten}

pub part_length : (s : List ℕ) (at n : ℕ) → at + n ≤ length s → length (take n (drop at s)) ≡ n
part_length s at n h = rw (length-take, length-drop) (omega arith)

-- the part of a store from `at` on that is as long as ys, which a slice method makes ys
pub part_is : (s xs ys : List ℕ) (at n : ℕ) → xs ≡ ys → length ys ≡ n → put_mid at (at + n - at) s xs ≡ put s at ys
unfolding put
part_is s xs ys at n e h =
    let j : length ys ≡ at + n - at = omega arith in
    put_mid-paste at (at + n - at) s xs ys (length ys) e j refl ∙ rw (take_all (length ys) ys (omega arith))

module _ (s : List ℕ) (at n : ℕ) (ys : List ℕ) where
  -- within the store it is what `put` writes
  pub written_in : at + n ≤ length s → overwritten s at n ys ≡ put s at ys
  written_in h = rw (is_within (length s) at n h)

  pub written_out : length s < at + n → overwritten s at n ys ≡ s
  written_out h = rw (lt-leb (at + n) (length s) h)

  module _ (b : Bool) (e : b ≡ within (length s) at n) where
    pub written_none : b ≡ false → s ≡ overwritten s at n ys
    written_none f = rw (← e, f)

    pub written_yes : (t : List ℕ) → t ≡ put s at ys → b ≡ true → t ≡ overwritten s at n ys
    written_yes t p f = p ∙ sym (written_in (within_so (length s) at n b e f))

pub ruleset write_laws = (rules, within_so, part_is, written_none, written_yes)
