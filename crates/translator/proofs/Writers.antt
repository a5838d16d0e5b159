-- What a number tells of a listed string, and where a string goes on past a text. Assumes nothing.
use Rattle.std.proofs.Common.{ℕ, ◌+◌, ◌≤◌, ◌<◌, ◌≡◌, ◌∙◌, true, false, ◌&&◌, List, [], length, get_or, set, leb, rules}
use mathlib.Core.Bool.{and-false}
use borrow.Author.Tests.{le-leb, lt-leb}
use Rattle.search.specs.Search.{is_prefix}
use Rattle.states.proofs.Writing.{put_short, put_not, put_set}
use Rattle.states.specs.Fill.{Put}
use Rattle.translator.specs.Common.{Tells, TellsAll}

-- what a listed string's number tells of whether u begins with it
module _ (ss : List (List ℕ)) (ns u : List ℕ) (t : TellsAll ns u ss) (k : ℕ) (h : k < length ss) (x : List ℕ) (e : x ≡ get_or ss k []) where
  ends : is_prefix (get_or ss k []) u ≡ (leb (length x) (length u) && leb (length x) (get_or ns k 0))
  ends = rw e (t.tells k h).ends

  pub told_here : length x ≤ length u → length x ≤ get_or ns k 0 → is_prefix (get_or ss k []) u ≡ true
  told_here a b = ends ∙ rw (le-leb (length x) (length u) a, le-leb (length x) (get_or ns k 0) b)

  pub told_long : length u < length x → is_prefix (get_or ss k []) u ≡ false
  told_long a = ends ∙ rw (lt-leb (length x) (length u) a)

  pub told_apart : get_or ns k 0 < length x → is_prefix (get_or ss k []) u ≡ false
  told_apart b = ends ∙ rw (lt-leb (length x) (get_or ns k 0) b, and-false)

-- a string goes on past u where the two are alike in all of u
module _ (ws : List ℕ) (base v n : ℕ) (u x : List ℕ) (t : Tells n u x) where
  pub put_apart : n < length u → Put ws ws base v u x
  put_apart h = put_not ws base v u x (t.begins ∙ lt-leb (length u) n h)

  pub put_on : (d : ℕ) → length u ≤ n → length u < length x → d ≡ get_or x (length u) 0 → d < 128 → base + 128 ≤ length ws → Put ws (set ws (base + d) v) base v u x
  put_on d h = put_set ws base v u x d (t.begins ∙ le-leb (length u) n h)

pub ruleset put_laws = (rules, put_short, put_apart, put_on)
