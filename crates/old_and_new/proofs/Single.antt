-- Laws of the old loops: a turn is a step of one byte. Assumes nothing.
use mathlib.Core.Path.{◌≡◌, ◌∙◌}
use mathlib.Core.Bool.{Bool, true}
use mathlib.Core.Logic.{inl}
use mathlib.Core.List.{List}
use Prim.Native.Nat.{ℕ, ◌+◌, ◌-◌, ◌≤◌, ◌<◌}
use native.Mathlib.Nat.{add-zero, sub-zero}
use native.Mathlib.Omega.{arith}
use lib.ListN.{length, take, drop, get_or, set}
use lib.Seq.{drop-cons}
use borrow.Author.Rules.{rules}
use Rattle.strlib.specs.Pointer.{within}
use Rattle.strlib.specs.Store.{put}
use Rattle.strlib.proofs.Pointing.{within_so}
use Rattle.strlib.proofs.Storing.{set_put}
use Rattle.moving.specs.Moving.{moved}
use Rattle.moving.proofs.Moving.{down, down_none, down_step, up, up_none, up_step, moved_from, moved_to, moved_done}

one : (t : List ℕ) (from to : ℕ) → from < length t → to < length t → set t to (get_or t from 0) ≡ put t to (take 1 (drop from t))
one t from to h k = rw (drop-cons t from 0 h) (set_put t to (get_or t from 0) k)

module _ (s t : List ℕ) (from to n i : ℕ) (l : length t ≡ length s) where
  pub down_one : t ≡ down s from to i → from + n ≤ length s → to ≤ from → i < n → set t (to + i) (get_or t (from + i) 0) ≡ down s from to (i + 1)
  down_one e hf ht h =
      down_step s t from to n i e hf (omega arith) (inl ht) (set t (to + i) (get_or t (from + i) 0)) 1 (one t (from + i) (to + i) (omega arith) (omega arith)) (omega arith) (omega arith)

  pub up_one : t ≡ up s from to n i → to + n ≤ length s → from ≤ to → 0 < i → i ≤ n → set t (to + (i - 1)) (get_or t (from + (i - 1)) 0) ≡ up s from to n (i - 1)
  up_one e ht hf h k =
      up_step s t from to n i e ht hf (set t (to + (i - 1)) (get_or t (from + (i - 1)) 0)) 1 (one t (from + (i - 1)) (to + (i - 1)) (omega arith) (omega arith)) (omega arith) k

module _ (s t : List ℕ) (from to n i : ℕ) where
  pub down_all : t ≡ down s from to i → n ≤ i → i ≤ n → t ≡ put s to (take n (drop from s))
  unfolding down
  down_all e h k = let j : i ≡ n = omega arith in e ∙ rw j

  pub up_all : t ≡ up s from to n i → i ≤ 0 → t ≡ put s to (take n (drop from s))
  unfolding up
  up_all e h = let z : i ≡ 0 = omega arith in e ∙ rw (z, add-zero to, add-zero from, sub-zero)

-- ---- the leaf of before, which asked for the direction first

module _ (s t : List ℕ) (from to n : ℕ) (b : Bool) (p : t ≡ put s to (take n (drop from s))) where
  pub moved_down : b ≡ within (length s) from n → b ≡ true → to ≤ from → t ≡ moved s from to n
  moved_down e f h =
      let k : from + n ≤ length s = within_so (length s) from n b e f in
      moved_done s t from to n p k (omega arith)

  pub moved_up : b ≡ within (length s) to n → b ≡ true → from < to → t ≡ moved s from to n
  moved_up e f h =
      let k : to + n ≤ length s = within_so (length s) to n b e f in
      moved_done s t from to n p (omega arith) k

pub ruleset single_laws = (rules, down_none, down_one, down_all, up_none, up_one, up_all, within_so, moved_from, moved_to, moved_down, moved_up)
