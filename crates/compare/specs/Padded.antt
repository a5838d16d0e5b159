-- The padded order of two texts: 01, "Comparing", padded style without a translation. Assumes nothing.
use Rattle.std.specs.Prelude.{ℕ, ◌-◌, ◌≤◌, ◌<◌, ◌≡◌, List, ◌++◌, pos, get_or, replicate}
use Rattle.compare.specs.Compare.{decision}

-- 0 less, 1 equal, 2 greater
unfoldable pub padded_order : List ℕ → List ℕ → ℕ
padded_order xs ys = (decision xs ys 0 (pos 0)).order

-- in plain words each text goes on with blanks for ever, and two are equal where they are so at every place
abbrev pub Equal : List ℕ → List ℕ → Type 0
Equal xs ys = (i : ℕ) → get_or xs i 32 ≡ get_or ys i 32

-- and one is less where it is so at a place before which they are equal
pub record Less (xs ys : List ℕ) : Type 0 where
  pub place : ℕ
  pub same : (i : ℕ) → i < place → get_or xs i 32 ≡ get_or ys i 32
  pub less : get_or xs place 32 < get_or ys place 32

pub record PaddedOrder : Type 0 where
  -- which of the three it is
  pub three : (xs ys : List ℕ) → padded_order xs ys ≤ 2
  pub is_less : (xs ys : List ℕ) → padded_order xs ys ≡ 0 → Less xs ys
  pub less_is : (xs ys : List ℕ) → Less xs ys → padded_order xs ys ≡ 0
  pub is_equal : (xs ys : List ℕ) → padded_order xs ys ≡ 1 → Equal xs ys
  pub equal_is : (xs ys : List ℕ) → Equal xs ys → padded_order xs ys ≡ 1
  -- the texts exchanged
  pub turned : (xs ys : List ℕ) → padded_order ys xs ≡ 2 - padded_order xs ys
  -- equality is an equivalence, and equal texts stand for one another on either side
  pub itself : (xs : List ℕ) → padded_order xs xs ≡ 1
  pub equal_turned : (xs ys : List ℕ) → padded_order xs ys ≡ 1 → padded_order ys xs ≡ 1
  pub equal_equal : (xs ys zs : List ℕ) → padded_order xs ys ≡ 1 → padded_order ys zs ≡ 1 → padded_order xs zs ≡ 1
  pub left : (xs xs' ys : List ℕ) → padded_order xs xs' ≡ 1 → padded_order xs ys ≡ padded_order xs' ys
  pub right : (xs ys ys' : List ℕ) → padded_order ys ys' ≡ 1 → padded_order xs ys ≡ padded_order xs ys'
  -- the order is transitive
  pub less_less : (xs ys zs : List ℕ) → padded_order xs ys ≡ 0 → padded_order ys zs ≡ 0 → padded_order xs zs ≡ 0
  -- blanks behind a text do not count
  pub blanks : (xs : List ℕ) (n : ℕ) → padded_order (xs ++ replicate n 32) xs ≡ 1
