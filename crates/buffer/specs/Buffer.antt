-- A text that grows in a lent buffer. Assumes nothing.
use Rattle.std.specs.Prelude.{ℕ, ◌+◌, ◌-◌, min, cond, List, [], ℤ, length, take}
use Rattle.number.specs.Limits.{in_range}
use Rattle.number.specs.Written.{written}
use Rattle.strlib.specs.Store.{put}

-- a text put behind the first n bytes of a buffer, cut where the buffer ends: how many bytes are there then, and the
-- buffer afterwards, in which every other byte is as it was
unfoldable pub grown : List ℕ → ℕ → List ℕ → ℕ × List ℕ
grown b n text = (min (n + length text) (length b), put b n (take (length b - n) text))

-- the text of a number, in decimal; none of a number outside the range
unfoldable pub value_text : ℤ → List ℕ
value_text z = cond (in_range z) (written 10 z) []
