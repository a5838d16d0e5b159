-- Laws of finding: the listed strings are tried one by one, and where p characters were passed, what is left to search
-- is the rest of the host. Assumes nothing.
use Rattle.std.proofs.Common.{ℕ, zero, suc, ◌+◌, ◌-◌, ◌≤◌, ◌<◌, ◌≡◌, refl, sym, ◌∙◌, Bool, true, false, cond, List, [], ◌∷◌, length, take, drop, get_or, length-drop, leb, zero-add, arith}
use Rattle.std.proofs.lemmas.List.{drop-drop, take_rest}
use borrow.Author.Tests.{le-leb, lt-leb}
use Rattle.strlib.proofs.Pointing.{leb_same}
use Rattle.strlib.proofs.Texts.{listed_text, texts_long}
use Rattle.strlib.specs.Pointer.{text_of, texts}
use Rattle.strlib.specs.Refusal.{nowhere, at}
use Rattle.strlib.specs.declared.StrPtr.{StrPtr}
use Rattle.search.specs.Search.{is_prefix, closed, length_of, Result, nothing, found, onward, plain_search}
use Rattle.search.specs.Rule.{given}

-- ---- the strings tried one by one

pub none_closed : (ss : List (List ℕ)) (w : List ℕ) → ((k : ℕ) → k < length ss → is_prefix (get_or ss k []) w ≡ false) → closed ss w ≡ 0
none_closed [] w f = refl
none_closed (s ∷ ss) w f = rw (f 0 (omega arith), none_closed ss w (λ k h. f (suc k) (omega arith)))

pub first_closed : (ss : List (List ℕ)) (w : List ℕ) (k : ℕ) → k < length ss → is_prefix (get_or ss k []) w ≡ true → ((i : ℕ) → i < k → is_prefix (get_or ss i []) w ≡ false) → closed ss w ≡ suc k
first_closed [] w k h e f = absurd (omega arith)
first_closed (s ∷ ss) w zero h e f = rw e
first_closed (s ∷ ss) w (suc k) h e f = rw (f 0 (omega arith), first_closed ss w k (omega arith) e (λ i l. f (suc i) (omega arith)))

-- ---- the positions passed

-- a result in a host with p characters more in front
abbrev pub moved : ℕ → Result → Result
moved p nothing = nothing
moved p (found j pos1 pos2) = found j (p + pos1) (p + pos2)

moved_none : (r : Result) → r ≡ moved 0 r
moved_none nothing = refl
moved_none (found j pos1 pos2) = rw (zero-add pos1, zero-add pos2)

moved_onward : (p : ℕ) (r : Result) → moved p (onward r) ≡ moved (p + 1) r
moved_onward p nothing = refl
moved_onward p (found j pos1 pos2) =
    let a : p + suc pos1 ≡ p + 1 + pos1 = omega arith in
    let b : p + suc pos2 ≡ p + 1 + pos2 = omega arith in
    rw (a, b)

-- no string stands at one of the first p positions: the search is that among the characters left, and finds nothing
-- past the last position
unfoldable pub Passed : List (List ℕ) → List ℕ → ℕ → Type 0
Passed ss h p = plain_search ss h ≡ cond (leb p (length h)) (moved p (plain_search ss (drop p h))) nothing

module _ (ss : List (List ℕ)) (p : ℕ) where
  search_on : (w : List ℕ) → closed ss w ≡ 0 → moved p (plain_search ss w) ≡ cond (leb 1 (length w)) (moved (p + 1) (plain_search ss (drop 1 w))) nothing
  search_on [] e = rw e
  search_on (x ∷ w) e = rw (e, le-leb 1 (length (x ∷ w)) (omega arith)) (moved_onward p (plain_search ss w))

  search_here : (w : List ℕ) (k : ℕ) → closed ss w ≡ suc k → moved p (plain_search ss w) ≡ found (suc k) (p + 1) (p + suc (length_of ss (suc k)))
  search_here [] k e = rw e
  search_here (x ∷ w) k e = rw e

module _ (ss : List (List ℕ)) (h : List ℕ) where
  pub passed_none : Passed ss h 0
  unfolding Passed
  passed_none = rw (le-leb 0 (length h) (omega arith)) (moved_none (plain_search ss h))

  module _ {A : Type 0} (f : ℕ → ℕ → ℕ → A) (p : ℕ) (o : Passed ss h p) where
    pub passed_all : length h < p → nowhere ≡ given f (plain_search ss h)
    unfolding Passed given
    passed_all m = let e : plain_search ss h ≡ nothing = o ∙ rw (lt-leb p (length h) m) in rw e

  module _ (p : ℕ) (o : Passed ss h p) (m : p ≤ length h) where
    here : plain_search ss h ≡ moved p (plain_search ss (drop p h))
    unfolding Passed
    here = o ∙ rw (le-leb p (length h) m)

    pub passed_more : ((k : ℕ) → k < length ss → is_prefix (get_or ss k []) (take (length h - p) (drop p h)) ≡ false) → Passed ss h (p + 1)
    unfolding Passed
    passed_more f =
        let e : closed ss (drop p h) ≡ 0 = rw take_rest at (none_closed ss (take (length h - p) (drop p h)) f) in
        let g : leb 1 (length (drop p h)) ≡ leb (p + 1) (length h) = rw length-drop (leb_same 1 (length h - p) (p + 1) (length h) (λ z. omega arith) (λ z. omega arith)) in
        here ∙ search_on ss p (drop p h) e ∙ rw (g, drop-drop)

    pub passed_hit : (k : ℕ) → closed ss (drop p h) ≡ suc k → plain_search ss h ≡ found (suc k) (p + 1) (p + suc (length_of ss (suc k)))
    passed_hit k e = here ∙ search_here ss p (drop p h) k e

-- a listed string, whose characters are x, is tried where p characters were passed
module _ (s : List ℕ) (ps : List StrPtr) (h : List ℕ) (p k : ℕ) (i : k < length ps) (l : List StrPtr) (el : l ≡ ps) (d : StrPtr) (x : List ℕ) (q : x ≡ text_of s (get_or l k d))
    (b : Bool) (e : b ≡ is_prefix x (take (length h - p) (drop p h))) where
  stands : x ≡ get_or (texts s ps) k []
  stands = q ∙ rw el (sym (listed_text s ps k d i))

  pub tried_is : is_prefix (get_or (texts s ps) k []) (take (length h - p) (drop p h)) ≡ b
  tried_is = rw (← stands) (sym e)

  pub find_hit : {A : Type 0} (f : ℕ → ℕ → ℕ → A) → Passed (texts s ps) h p → p ≤ length h → b ≡ true
      → ((j : ℕ) → j < k → is_prefix (get_or (texts s ps) j []) (take (length h - p) (drop p h)) ≡ false)
      → at (f (k + 1) (p + 1) (p + length x + 1)) ≡ given f (plain_search (texts s ps) h)
  unfolding given
  find_hit f o m t before =
      let n : closed (texts s ps) (drop p h) ≡ suc k
      = rw take_rest at (first_closed (texts s ps) (take (length h - p) (drop p h)) k (omega (arith, texts_long s ps)) (tried_is ∙ t) before) in
      let j : k + 1 ≡ suc k = omega arith in
      let y : p + length x + 1 ≡ p + suc (length x) = omega arith in
      rw (passed_hit (texts s ps) h p o m k n, ← stands, j, y)
