-- Laws of the strings of a list, and of counting their characters. Assumes nothing.
use mathlib.Core.Path.{◌≡◌, refl, sym, ap, ◌∙◌}
use mathlib.Core.Bool.{and-false}
use mathlib.Core.List.{List}
use Prim.Native.Nat.{ℕ, zero, suc, ◌+◌, ◌-◌, ◌≤◌, ◌<◌}
use native.Mathlib.Omega.{arith}
use mathlib.Core.Logic.{◌⊎◌, ⊎_elim}
use Rattle.std.proofs.lemmas.List.{drop_all, drop_more, take_all}
use borrow.Author.Rules.{rules}
use borrow.Author.Tests.{le-leb, lt-leb}
use lib.ListN.{length, take, drop, get_or, length-take, length-drop}
use Rattle.strlib.proofs.Texts.{listed_text}
use Rattle.strlib.specs.Pointer.{store_fits, text_of, texts}
use Rattle.strlib.specs.declared.StrPtr.{StrPtr}
use Rattle.search.specs.Search.{length_of}
use Rattle.states.specs.State.{total}
use Rattle.preparing.specs.Listed.{listed, total_of}

text_le : (s : List ℕ) (p : StrPtr) → length (text_of s p) ≤ length s
unfolding text_of
text_le s p = simp (length-take, length-drop) (omega arith)

-- ---- the characters together

module _ (s : List ℕ) (list : List StrPtr) (n : ℕ) where
  pub total_is : length s ≤ 65536 → n ≤ 32 → total_of s list n ≡ total (listed s list n)
  unfolding total_of store_fits
  total_is room few = rw (le-leb (length s) 65536 room, le-leb n 32 few)

module _ (s : List ℕ) (ps : List StrPtr) where
  pub total_over : (65536 < length s) ⊎ ((length s ≤ 65536) × (32 < length ps)) → 0 ≡ total_of s ps (length ps)
  unfolding total_of store_fits
  total_over h = ⊎_elim (λ a. rw (lt-leb (length s) 65536 a)) (λ b. rw (le-leb (length s) 65536 b.0, lt-leb (length ps) 32 b.1)) h

  pub total_all : length s ≤ 65536 → length ps ≤ 32 → total_of s ps (length ps) ≡ total (texts s ps)
  total_all room few =
      let p : texts s (take (length ps) ps) ≡ texts s ps = rw (take_all (length ps) ps (omega arith)) in
      total_is s ps (length ps) room few ∙ rw p

  -- `sum` are those of the first i strings
  module _ (i sum : ℕ) (e : sum + total (texts s (drop i ps)) ≡ total (texts s ps)) where
    pub total_done : length ps ≤ i → length s ≤ 65536 → length ps ≤ 32 → sum ≡ total_of s ps (length ps)
    unfolding texts
    total_done h room few =
        let z : total (texts s (drop i ps)) ≡ 0 = rw (drop_all i ps h) in
        let q : sum ≡ total (texts s ps) = omega arith in
        q ∙ sym (total_all room few)

    pub total_step : (d : StrPtr) (x : List ℕ) → i < length ps → x ≡ text_of s (get_or ps i d) → (sum + length x) + total (texts s (drop (i + 1) ps)) ≡ total (texts s ps)
    unfolding texts
    total_step d x h q =
        let r : length x ≡ length (text_of s (get_or ps i d)) = ap length q in
        let t : sum + (length (text_of s (get_or ps i d)) + total (texts s (drop (i + 1) ps))) ≡ total (texts s ps) = rw (drop_more ps i d h) at e in
        omega arith

-- ---- a list as it is passed

module _ (s : List ℕ) (list : List StrPtr) (count : ℕ) where
  pub listed_past : 32 < count → 0 ≡ total_of s list count
  unfolding total_of
  listed_past h = rw (lt-leb count 32 h, and-false)

  pub listed_same : (ps : List StrPtr) (r : ℕ) → count ≤ 32 → ps ≡ take count list → r ≡ total_of s ps (length ps) → r ≡ total_of s list count
  unfolding total_of
  listed_same ps r h e q =
      let few : length (take count list) ≤ 32 = simp length-take (omega (arith, h)) in
      let p : take (length (take count list)) (take count list) ≡ take count list = take_all (length (take count list)) (take count list) (omega arith) in
      q ∙ rw e (rw (le-leb (length (take count list)) 32 few, le-leb count 32 h, p))

pub ruleset listed_laws = (rules, listed_past, listed_same)

pub text_small : (s : List ℕ) (p : StrPtr) (x : List ℕ) → length s ≤ 65536 → x ≡ text_of s p → length x ≤ 65536
text_small s p x room q = omega (arith, text_le s p, ap length q)

-- ---- the length of a string by its number

pub length_some : (s : List ℕ) (ps : List StrPtr) (j : ℕ) (x : List ℕ) (d : StrPtr) → (j ≡ 0 → ⊥) → j ≤ length ps → x ≡ text_of s (get_or ps (j - 1) d) → length x ≡ length_of (texts s ps) j
length_some s ps zero x d z h e = absurd (z refl)
length_some s ps (suc k) x d z h e =
    let y : suc k - 1 ≡ k = omega arith in
    let g : x ≡ text_of s (get_or ps k d) = e ∙ ap (λ (i : ℕ). text_of s (get_or ps i d)) y in
    ap length (g ∙ sym (listed_text s ps k d (omega arith)))
