-- A run that goes on: what the crate promises those above it, for any words, any bytes and any place. Assumes nothing.
use Rattle.std.specs.Prelude.{ℕ, ◌+◌, Bool, ◌&&◌, List, leb, ltb, length}
use Rattle.strlib.specs.Pointer.{characters}
use Rattle.search.specs.Search.{Result}
use Rattle.table.specs.Run.{size_of, is_sized, Walk, only_if, enter, walk}

-- a run may go on over the text h in state q with n characters read: the words are a table that has the state, the
-- bytes are characters, and no more are read than a store has
unfoldable pub can_resume : List ℕ → List ℕ → ℕ → ℕ → Bool
can_resume ws h q n = is_sized ws && (ltb q (size_of ws) && (characters h && leb (n + length h) 65536))

-- the state is entered, and the text is read
abbrev pub read_on : List ℕ → List ℕ → ℕ → ℕ → Result → Walk
read_on ws h q n r = walk ws (size_of ws) h (enter ws q n r)

unfoldable pub resumed : List ℕ → List ℕ → ℕ → ℕ → Result → Walk
resumed ws h q n r = only_if (can_resume ws h q n) (read_on ws h q n r)
