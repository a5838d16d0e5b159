-- Laws of blanks. Assumes nothing.
use Rattle.std.proofs.Common.{◌≡◌, ℕ, ◌+◌, ◌-◌, ◌<◌, ◌≤◌, List, length, take, drop, replicate, ◌∙◌, arith}
use Rattle.strlib.specs.Store.{put}
use Rattle.moving.specs.Moving.{blanked}
use Rattle.moving.proofs.Writing.{part_length, written_in, written_out}

-- what `fill` makes of a part of the store
pub filled : (s xs : List ℕ) (at n : ℕ) → (((y : ℕ) → y ≡ 32 → y ≡ 32) → xs ≡ replicate (length (take (at + n - at) (drop at s))) 32) → at + n ≤ length s → xs ≡ replicate n 32
filled s xs at n e h = let j : at + n - at ≡ n = omega arith in e (λ y q. q) ∙ rw (j, part_length s at n h)

module _ (s : List ℕ) (at n : ℕ) where
  pub blanked_in : at + n ≤ length s → blanked s at n ≡ put s at (replicate n 32)
  unfolding blanked
  blanked_in = written_in s at n (replicate n 32)

  pub blanked_out : length s < at + n → blanked s at n ≡ s
  unfolding blanked
  blanked_out = written_out s at n (replicate n 32)
