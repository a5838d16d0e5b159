-- Laws of the answers: the checks made in turn give the refusal, and what was found gives the answer. Assumes nothing.
use Prim.Native.Nat.{ℕ, ◌+◌, ◌-◌, ◌≤◌}
use mathlib.Core.Path.{◌≡◌, refl, sym, ap, ◌∙◌}
use mathlib.Core.Bool.{true}
use mathlib.Core.List.{List}
use native.Mathlib.Omega.{arith}
use lib.Dec.{leb}
use lib.ListN.{length, take, drop, length-take, length-drop}
use Rattle.std.specs.Prelude.{Option, Some, None, Result}
use Rattle.strlib.specs.declared.refusal.Refusal.{Refusal}
use Rattle.std.specs.Option.{option_map}
use Rattle.strlib.proofs.Pointing.{fits_is, good_is, text_length}
use Rattle.strlib.proofs.Refusing.{passed, outcome_yes, outcome_gave, outcome_refused}
use Rattle.strlib.specs.Pointer.{part_of, store_fits, good_in, text_of, texts, all, readable}
use Rattle.strlib.specs.Refusal.{refused, gives, outcome, sought_of, sought_answered, refusal_number}
use Rattle.strlib.specs.declared.StrPtr.{StrPtr}
use Rattle.search.specs.Search.{nothing, found, plain_search}
use Rattle.search.specs.Search.{Result as SoughtResult}
use Rattle.search.specs.Occurrence.{occurs_at, string_of, Earliest}
use Rattle.search.specs.Inner.{spot, Within}
use Rattle.search.specs.Rule.{search_checks, search_refusal, sought, parts_of, split_of, given, search_by}
use Rattle.search.specs.declared.find.Spot.{Spot}
use Rattle.search.proofs.Meaning.{search_law}
use Rattle.std.specs.Result.{IsErrAnd}
use Rattle.strlib.proofs.Answering.{err_is}

module _ (s : List ℕ) (host : StrPtr) (l : List StrPtr) (c : ℕ) where
  -- the checks by their names, where all are passed
  pub record SearchPassed : Type 0 where
    pub fits : store_fits s ≡ true
    pub count : leb c 32 ≡ true
    pub host_good : good_in (length s) host ≡ true
    pub list_good : all (good_in (length s)) (take c l) ≡ true
    pub host_read : readable s host ≡ true
    pub list_read : all (readable s) (take c l) ≡ true

  pub search_passed : search_refusal s host l c ≡ 0 → SearchPassed
  unfolding search_refusal
  search_passed e =
      let ok = passed (search_checks s host l c) refl e in
      record {
        fits = ok.0;
        count = ok.1.0;
        host_good = ok.1.1.0;
        list_good = ok.1.1.1.0;
        host_read = ok.1.1.1.1.0;
        list_read = ok.1.1.1.1.1.0;
      }

-- ---- the positions found lie in the host

-- by the search's law: the match ends inside the host
pub found_bounds : (ss : List (List ℕ)) (h : List ℕ) (j pos1 pos2 : ℕ) → plain_search ss h ≡ found j pos1 pos2 → (1 ≤ pos1) × ((pos1 ≤ pos2) × (pos2 ≤ length h + 1))
found_bounds ss h j pos1 pos2 e =
    let a : Earliest ss h j pos1 pos2 = (search_law ss h).found_is j pos1 pos2 e in
    let o : occurs_at h pos1 (string_of ss j) = a.occurs.occurs in
    let n : length (take (length (string_of ss j)) (drop (pos1 - 1) h)) ≡ length (string_of ss j) = ap length o.stands in
    let b : length (string_of ss j) ≤ length h - (pos1 - 1) = omega (arith, simp (length-take, length-drop) at n) in
    (o.from, (omega (arith, a.ends), omega (arith, a.ends, o.from, o.to)))

module _ (host : StrPtr) (pos1 pos2 : ℕ) (w : Within host pos1 pos2) where
  pub within_first : Within host pos1 pos1
  within_first = record { from = w.from; order = omega arith; to = omega arith; room = w.room; end = w.end }

  pub within_last : Within host pos2 pos2
  within_last = record { from = omega arith; order = omega arith; to = w.to; room = w.room; end = w.end }

-- ---- the pointers of a match

pub parts_is : (host : StrPtr) (j pos1 pos2 : ℕ) (before matched after : StrPtr) → before ≡ part_of host 0 (pos1 - 1) (pos1 - 1)
    → matched ≡ part_of host (pos1 - 1) (pos2 - pos1) (pos2 - pos1) → after ≡ part_of host (pos2 - 1) (host.length + 1 - pos2) (host.maximum + 1 - pos2)
    → record { number = j; before = before; matched = matched; after = after } ≡ parts_of host j pos1 pos2
unfolding parts_of
parts_is host j pos1 pos2 before matched after e f g = rw (e, f, g)

pub split_is : (host : StrPtr) (j p : ℕ) (front back : StrPtr) → front ≡ part_of host 0 (p - 1) (p - 1)
    → back ≡ part_of host (p - 1) (host.length + 1 - p) (host.maximum + 1 - p) → record { number = j; front = front; back = back } ≡ split_of host j p
unfolding split_of
split_is host j p front back e f = rw (e, f)

-- ---- where nothing is refused

module _ (s : List ℕ) (host : StrPtr) (l : List StrPtr) (c : ℕ) where
  pub within : (j pos1 pos2 : ℕ) → outcome (search_refusal s host l c) (sought s host (take c l)) ≡ gives (found j pos1 pos2) → Within host pos1 pos2
  unfolding sought
  within j pos1 pos2 e =
      let g = outcome_gave (search_refusal s host l c) (sought s host (take c l)) (found j pos1 pos2) e in
      let ok : SearchPassed s host l c = search_passed s host l c g.0 in
      let b = found_bounds (texts s (take c l)) (text_of s host) j pos1 pos2 g.1 in
      let n : length (text_of s host) ≡ host.length = text_length s host ok.host_good in
      let r = good_is (length s) host ok.host_good in
      let m : length s ≤ 65536 = fits_is s ok.fits in
      record { from = b.0; order = b.1.0; to = omega arith; room = r.0; end = omega arith }

-- ---- the answer of a call

-- a refusal goes out as it came
module _ {A : Type 0} (r : Result (Option A) Refusal) (e : Refusal) (p : IsErrAnd r (λ x. x ≡ e)) where
  left : sought_answered r ≡ refused (refusal_number e)
  left = rw (err_is r e p)

  pub found_left : (f : ℕ → ℕ → ℕ → A) (s : List ℕ) (host : StrPtr) (l : List StrPtr) (c : ℕ) → refused (refusal_number e) ≡ search_by spot s host l c
      → sought_answered r ≡ search_by f s host l c
  unfolding search_by
  found_left f s host l c h = left ∙ outcome_refused (search_refusal s host l c) _ _ (refusal_number e) (sym h)

-- what is given of the place found
module _ (s : List ℕ) (host : StrPtr) (l : List StrPtr) (c : ℕ) (o : Option Spot) (e : gives (sought_of o) ≡ search_by spot s host l c) where
  checked : (search_refusal s host l c ≡ 0) × (given spot (sought s host (take c l)) ≡ sought_of o)
  unfolding search_by
  checked = outcome_gave _ _ _ (sym e)

  pub found_within : (p : Spot) → o ≡ Some p → Within host p.pos1 p.pos2
  unfolding given
  found_within p q = go (sought s host (take c l)) refl checked.1
    where
      go : (r : SoughtResult) → sought s host (take c l) ≡ r → given spot r ≡ sought_of o → Within host p.pos1 p.pos2
      go nothing z g = absurd (cc)
      go (found j pos1 pos2) z g = let h : spot j pos1 pos2 ≡ p = cc in rw (← h) (within s host l c j pos1 pos2 (sym (outcome_yes 0 _ (sym checked.0) _ _ refl (sym z))))

  pub found_given : {A : Type 0} (f : ℕ → ℕ → ℕ → A) → gives (sought_of (option_map (λ p. f p.number p.pos1 p.pos2) o)) ≡ search_by f s host l c
  unfolding search_by given
  found_given f = outcome_yes 0 _ (sym checked.0) _ _ refl (go (sought s host (take c l)) o checked.1)
    where
      go : (r : SoughtResult) (o : Option Spot) → given spot r ≡ sought_of o → sought_of (option_map (λ p. f p.number p.pos1 p.pos2) o) ≡ given f r
      go nothing None g = refl
      go nothing (Some p) g = absurd (cc)
      go (found j pos1 pos2) None g = absurd (cc)
      go (found j pos1 pos2) (Some p) g = let h : spot j pos1 pos2 ≡ p = cc in rw (← h)
