-- What holds of the pointers that a search gives, 01, "Searching": each is good for the store, and together they are
-- the host's characters. Assumes nothing.
use Rattle.std.specs.Prelude.{ℕ, ◌≡◌, true, List, ◌++◌, length, take}
use Rattle.strlib.specs.Pointer.{good_in, text_of, texts}
use Rattle.strlib.specs.Refusal.{gives, at}
use Rattle.strlib.specs.declared.StrPtr.{StrPtr}
use Rattle.search.specs.Occurrence.{string_of}
use Rattle.search.specs.Rule.{search_rule, match_after_rule, before_match_rule}
use Rattle.search.specs.declared.Match.{Match}
use Rattle.search.specs.declared.Split.{Split}

-- before, match and after, of which the match has the characters of string j
pub record Parts (s : List ℕ) (host : StrPtr) (string : ℕ → List ℕ) (m : Match) : Type 0 where
  pub before : good_in (length s) m.before ≡ true
  pub matched : good_in (length s) m.matched ≡ true
  pub after : good_in (length s) m.after ≡ true
  pub match : text_of s m.matched ≡ string m.number
  pub whole : text_of s m.before ++ text_of s m.matched ++ text_of s m.after ≡ text_of s host

-- the host cut in two
pub record Halves (s : List ℕ) (host : StrPtr) (m : Split) : Type 0 where
  pub front : good_in (length s) m.front ≡ true
  pub back : good_in (length s) m.back ≡ true
  pub whole : text_of s m.front ++ text_of s m.back ≡ text_of s host

-- what the three calls find, of any store, host and list
pub record FoundWhole (s : List ℕ) (host : StrPtr) (list : List StrPtr) (count : ℕ) : Type 0 where
  pub parts : (m : Match) → search_rule s host list count ≡ gives (at m) → Parts s host (string_of (texts s (take count list))) m
  pub match_after : (m : Split) → match_after_rule s host list count ≡ gives (at m) → Halves s host m
  pub before_match : (m : Split) → before_match_rule s host list count ≡ gives (at m) → Halves s host m

abbrev pub FindsWhole : Type 0
FindsWhole = (s : List ℕ) (host : StrPtr) (list : List StrPtr) (count : ℕ) → FoundWhole s host list count
