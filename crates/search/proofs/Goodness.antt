-- The pointers that a search gives: parts of a good host that end no later are good, and parts that lie one behind the
-- other are one part. Assumes nothing.
use Prim.Native.Nat.{ℕ, ◌+◌, ◌-◌, ◌≤◌}
use mathlib.Core.Path.{◌≡◌, refl, sym, ap, ◌∙◌}
use mathlib.Core.Bool.{true}
use mathlib.Core.List.{List, ◌++◌}
use native.Mathlib.Nat.{add-zero}
use native.Mathlib.Omega.{arith}
use lib.ListN.{length, take, drop}
use lib.Seq.{take-add, drop-drop, take-take}
use Rattle.strlib.proofs.Pointing.{good_part}
use Rattle.strlib.proofs.Refusing.{outcome_gave, outcome_yes}
use Rattle.strlib.proofs.Storing.{drop_take}
use Rattle.strlib.specs.Pointer.{part_of, good_in, text_of, texts}
use Rattle.strlib.specs.Refusal.{gives, outcome, at}
use Rattle.strlib.specs.declared.StrPtr.{StrPtr}
use Rattle.search.specs.Search.{Result, nothing, found}
use Rattle.search.specs.Occurrence.{string_of, Earliest}
use Rattle.search.specs.Inner.{Within}
use Rattle.search.specs.Rule.{search_refusal, sought, parts_of, split_of, given, search_by, search_rule, match_after_rule, before_match_rule}
use Rattle.search.specs.Whole.{Parts, Halves, FindsWhole}
use Rattle.search.specs.declared.Match.{Match}
use Rattle.search.specs.declared.Split.{Split}
use Rattle.search.proofs.Meaning.{search_law}
use Rattle.search.proofs.Answering.{search_passed, within, within_first, within_last}

-- ---- parts of a string

-- the characters of a part that lies in the string
part_text : (s : List ℕ) (p : StrPtr) (skip n m : ℕ) → skip + n ≤ p.length → text_of s (part_of p skip n m) ≡ take n (drop skip (text_of s p))
unfolding text_of part_of
part_text s p skip n m h = rw (drop_take skip p.length (drop p.start s), take-take n (p.length - skip) (drop skip (drop p.start s)) (omega arith), drop-drop)

-- two parts, one behind the other
parts_join : (s : List ℕ) (p : StrPtr) (a b n m x y z : ℕ) → b ≡ a + n → text_of s (part_of p a n x) ++ text_of s (part_of p b m y) ≡ text_of s (part_of p a (n + m) z)
unfolding text_of part_of
parts_join s p a b n m x y z e =
    let q : p.start + b ≡ p.start + a + n = omega arith in
    rw (q, ← (drop-drop n (p.start + a) s)) (sym (take-add n m (drop (p.start + a) s)))

-- the whole string as a part
part_whole : (s : List ℕ) (p : StrPtr) (n z : ℕ) → n ≡ p.length → text_of s (part_of p 0 n z) ≡ text_of s p
unfolding text_of part_of
part_whole s p n z e = rw (e, add-zero)

-- ---- the parts of a match

halves : (s : List ℕ) (host : StrPtr) (j p : ℕ) → good_in (length s) host ≡ true → Within host p p → Halves s host (split_of host j p)
unfolding split_of
halves s host j p g w =
    record {
      front = good_part (length s) host 0 (p - 1) (p - 1) g (omega arith) (omega arith);
      back = good_part (length s) host (p - 1) (host.length + 1 - p) (host.maximum + 1 - p) g (omega arith) (omega arith);
      whole =
          parts_join s host 0 (p - 1) (p - 1) (host.length + 1 - p) (p - 1) (host.maximum + 1 - p) 0 (omega arith)
          ∙ part_whole s host (p - 1 + (host.length + 1 - p)) 0 (omega arith);
    }

module _ (s : List ℕ) (host : StrPtr) (l : List StrPtr) (c : ℕ) where
  abbrev strings : List (List ℕ)
  strings = texts s (take c l)

  -- string j was found from pos1 to pos2
  abbrev FoundAt : ℕ → ℕ → ℕ → Type 0
  FoundAt j pos1 pos2 = outcome (search_refusal s host l c) (sought s host (take c l)) ≡ gives (found j pos1 pos2)

  module _ {j pos1 pos2 : ℕ} (e : FoundAt j pos1 pos2) where
    host_good : good_in (length s) host ≡ true
    host_good = (search_passed s host l c (outcome_gave _ _ _ e).0).host_good

    -- the match's characters, by the search's law
    match_text : text_of s (part_of host (pos1 - 1) (pos2 - pos1) (pos2 - pos1)) ≡ string_of strings j
    unfolding sought
    match_text =
        let w : Within host pos1 pos2 = within s host l c j pos1 pos2 e in
        let a : Earliest strings (text_of s host) j pos1 pos2 = (search_law strings (text_of s host)).found_is j pos1 pos2 (outcome_gave _ _ _ e).1 in
        let n : pos2 - pos1 ≡ length (string_of strings j) = omega (arith, a.ends) in
        part_text s host (pos1 - 1) (pos2 - pos1) (pos2 - pos1) (omega arith) ∙ rw n a.occurs.occurs.stands

    parts : Parts s host (string_of strings) (parts_of host j pos1 pos2)
    unfolding parts_of
    parts =
        let w : Within host pos1 pos2 = within s host l c j pos1 pos2 e in
        let n : ℕ = pos1 - 1 in
        let m : ℕ = pos2 - pos1 in
        let r : ℕ = host.length + 1 - pos2 in
        let x : ℕ = host.maximum + 1 - pos2 in
        record {
          before = good_part (length s) host 0 n n host_good (omega arith) (omega arith);
          matched = good_part (length s) host n m m host_good (omega arith) (omega arith);
          after = good_part (length s) host (pos2 - 1) r x host_good (omega arith) (omega arith);
          match = match_text;
          whole =
              ap (λ (t : List ℕ). t ++ text_of s (part_of host (pos2 - 1) r x)) (parts_join s host 0 n n m n m 0 (omega arith))
              ∙ parts_join s host 0 (pos2 - 1) (n + m) r 0 x 0 (omega arith)
              ∙ part_whole s host (n + m + r) 0 (omega arith);
        }

    first_half : Halves s host (split_of host j pos1)
    first_half = halves s host j pos1 host_good (within_first host pos1 pos2 (within s host l c j pos1 pos2 e))

    last_half : Halves s host (split_of host j pos2)
    last_half = halves s host j pos2 host_good (within_last host pos1 pos2 (within s host l c j pos1 pos2 e))

  -- ---- the answers of the calls

  -- what holds of all that is given of a match holds of an answer
  by_found : {A : Type 0} (P : A → Type 0) (f : ℕ → ℕ → ℕ → A) → ((j pos1 pos2 : ℕ) → FoundAt j pos1 pos2 → P (f j pos1 pos2)) → (m : A) → search_by f s host l c ≡ gives (at m) → P m
  unfolding search_by given
  by_found {A} P f h m e = let g = outcome_gave _ _ _ e in go (sought s host (take c l)) refl g.0 g.1
    where
      go : (r : Result) → sought s host (take c l) ≡ r → search_refusal s host l c ≡ 0 → given f r ≡ at m → P m
      go nothing q k z = let y : ◌≡◌ {A = ℕ} 0 1 = cc in absurd (omega arith)
      go (found j pos1 pos2) q k z = let y : f j pos1 pos2 ≡ m = cc in rw y at (h j pos1 pos2 (sym (outcome_yes 0 _ (sym k) _ _ refl (sym q))))

  search_parts : (m : Match) → search_rule s host l c ≡ gives (at m) → Parts s host (string_of strings) m
  unfolding search_rule
  search_parts = by_found (Parts s host (string_of strings)) (parts_of host) (λ j pos1 pos2 e. parts e)

  match_after_halves : (m : Split) → match_after_rule s host l c ≡ gives (at m) → Halves s host m
  unfolding match_after_rule
  match_after_halves = by_found (Halves s host) (λ j pos1 pos2. split_of host j pos1) (λ j pos1 pos2 e. first_half e)

  before_match_halves : (m : Split) → before_match_rule s host l c ≡ gives (at m) → Halves s host m
  unfolding before_match_rule
  before_match_halves = by_found (Halves s host) (λ j pos1 pos2. split_of host j pos2) (λ j pos1 pos2 e. last_half e)

pub finds_whole : FindsWhole
finds_whole s host l c =
    record { parts = search_parts s host l c; match_after = match_after_halves s host l c; before_match = before_match_halves s host l c }
