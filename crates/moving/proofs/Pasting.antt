-- Laws of bytes written into a store. Assumes nothing.
use Rattle.std.proofs.Common.{◌≡◌, ℕ, ◌+◌, ◌<◌, ◌≤◌, Bool, true, false, cond, List, length, get_or, set, sym, refl, add-one, arith, take_all, rules}
use lib.Seq.{paste, paste-zero, paste-suc}
use Rattle.strlib.proofs.Pointing.{within_so}
use Rattle.strlib.specs.Pointer.{within}
use Rattle.strlib.specs.Store.{put}
use Rattle.strlib.proofs.Storing.{put_length}
use Rattle.moving.specs.Moving.{pasted}
use Rattle.moving.proofs.Writing.{written_in}

module _ (s xs : List ℕ) (at : ℕ) where
  pub paste_start : s ≡ paste s at xs 0
  paste_start = paste-zero s at xs

  module _ (t : List ℕ) (i : ℕ) (e : t ≡ paste s at xs i) where
    pub paste_step : i < length xs → at + length xs ≤ length s → set t (at + i) (get_or xs i 0) ≡ paste s at xs (i + 1)
    paste_step h k = rw (e, add-one) (paste-suc s at xs i 0 (omega arith) h)

    pub paste_end : i ≤ length xs → length xs ≤ i → t ≡ put s at xs
    unfolding put
    paste_end h k = let j : i ≡ length xs = omega arith in rw (e, j, take_all (length xs) xs (omega arith))

module _ (s : List ℕ) (at : ℕ) (xs : List ℕ) where
  -- within the store it is what `put` writes
  pub pasted_in : at + length xs ≤ length s → pasted s at xs ≡ put s at xs
  unfolding pasted
  pasted_in = written_in s at (length xs) xs

  -- the store keeps its size
  pub pasted_length : length (pasted s at xs) ≡ length s
  unfolding pasted
  pasted_length = go (within (length s) at (length xs)) refl
    where
      go : (b : Bool) → within (length s) at (length xs) ≡ b → length (cond b (put s at xs) s) ≡ length s
      go true e = put_length s at xs (within_so (length s) at (length xs) true (sym e) refl)
      go false e = refl

pub ruleset paste_laws = (rules, paste_start, paste_step, paste_end)
