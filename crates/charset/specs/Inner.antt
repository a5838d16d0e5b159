-- What the functions inside the crate ask of one another. Assumes nothing.
use Rattle.std.specs.Prelude.{ℕ, ◌≡◌, true, List, length}
use Rattle.strlib.specs.Pointer.{characters}

-- each of the bytes owns a word of the block
pub record Ready (text block : List ℕ) : Type 0 where
  pub words : length block ≡ 128
  pub codes : characters text ≡ true
