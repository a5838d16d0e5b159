-- What functions inside the crate ask of their callers and give. Assumes nothing.
use Rattle.std.specs.Prelude.{ℕ, ◌+◌, ◌-◌, ◌≤◌, min, ◌≡◌, true, List, length}
use Rattle.strlib.specs.Pointer.{good_in, clear, all}
use Rattle.strlib.specs.declared.StrPtr.{StrPtr}
use Rattle.moving.specs.Moving.{moved}
use Rattle.joining.specs.Resuming.{length_at}

-- a source whose characters from index q on are the next, behind the n that the destination holds
pub record Next (size : ℕ) (destination : StrPtr) (n : ℕ) (source : StrPtr) (q : ℕ) : Type 0 where
  pub small : size ≤ 65536
  pub room : good_in size destination ≡ true
  pub part : good_in size source ≡ true
  pub fits : n ≤ destination.maximum
  pub character : q ≤ source.length

-- as many of them are moved as fit
unfoldable pub moved_next : List ℕ → StrPtr → ℕ → StrPtr → ℕ → ℕ × List ℕ
moved_next s destination n source q =
    let m : ℕ = min (source.length - q) (destination.maximum - n) in (m, moved s (source.start + q) (destination.start + n) m)

-- strings that lie outside the destination's room, and a place in them, as indices
pub record Resumable (s : List ℕ) (destination : StrPtr) (ps : List StrPtr) (index skip : ℕ) : Type 0 where
  pub small : length s ≤ 65536
  pub few : length ps ≤ 32
  pub room : good_in (length s) destination ≡ true
  pub parts : all (good_in (length s)) ps ≡ true
  pub apart : all (clear destination) ps ≡ true
  pub start : index ≤ length ps
  pub within : skip ≤ length_at ps index
