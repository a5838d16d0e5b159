-- Laws of replace: what stands behind string 2 moves first, then string 3 is put in front of it; the two writes are one
-- `put` behind the characters that stay. Assumes nothing.
use mathlib.Core.Path.{◌≡◌, refl, sym, ◌∙◌}
use mathlib.Core.Bool.{true}
use mathlib.Core.List.{List, ◌++◌, append_assoc}
use Prim.Native.Nat.{ℕ, ◌+◌, ◌-◌, ◌≤◌}
use native.Mathlib.Omega.{arith}
use lib.Dec.{leb}
use lib.ListN.{length, take, drop, length-take, length-drop, length-append}
use lib.Seq.{drop-drop, take-take}
use mir.Syntax.{w64}
use mir.Val.{Fits}
use borrow.Author.Rules.{rules}
use borrow.Author.Tests.{leb-true}
use Rattle.strlib.specs.Pointer.{sized, good_in, text_of, clear}
use Rattle.strlib.specs.Refusal.{gives}
use Rattle.strlib.specs.Store.{put}
use Rattle.strlib.specs.declared.StrPtr.{StrPtr}
use Rattle.strlib.proofs.Pointing.{fits_is, good_is, text_length}
use Rattle.strlib.proofs.Answering.{ruled_right}
use Rattle.strlib.proofs.Refusing.{and_both, passed}
use Rattle.strlib.proofs.Storing.{drop_take, put_length, put_kept, put_before}
use Rattle.moving.specs.Moving.{moved}
use Rattle.moving.proofs.Moving.{moved_in}
use Rattle.moving.proofs.Keeping.{text_kept}
use Rattle.editing.specs.Replacing.{lies_in, new_length, replaced, replace_checks, replace_refusal, replace_rule}

-- ---- the checks

module _ (string1 string2 : StrPtr) where
  part_is : lies_in string1 string2 ≡ true → (string1.start ≤ string2.start) × (string2.start + string2.length ≤ string1.start + string1.length)
  unfolding lies_in
  part_is e =
      let b = and_both (leb string1.start string2.start) (leb (string2.start + string2.length) (string1.start + string1.length)) e in
      (leb-true _ _ b.0, leb-true _ _ b.1)

module _ (s : List ℕ) (string1 string2 string3 : StrPtr) where
  -- what is known where they find nothing
  pub record ReplacePassed : Type 0 where
    pub small : length s ≤ 65536
    pub room : good_in (length s) string1 ≡ true
    pub old : good_in (length s) string2 ≡ true
    pub source : good_in (length s) string3 ≡ true
    pub part : lies_in string1 string2 ≡ true
    pub apart : clear string1 string3 ≡ true
    pub fits : new_length string1 string2 string3 ≤ string1.maximum

  pub replace_passed : replace_refusal s string1 string2 string3 ≡ 0 → ReplacePassed
  unfolding replace_refusal
  replace_passed z =
      let ok = passed (replace_checks s string1 string2 string3) refl z in
      record {
        small = fits_is s ok.0;
        room = ok.1.0;
        old = ok.1.1.0;
        source = ok.1.1.1.0;
        part = ok.1.1.1.1.1.1.0;
        apart = ok.1.1.1.1.1.1.1.0;
        fits = leb-true _ _ ok.1.1.1.1.1.1.1.1.0;
      }

-- ---- the call

module _ (s : List ℕ) (string1 string2 string3 : StrPtr) (e : ◌≡◌ {A = ℕ} 0 (replace_refusal s string1 string2 string3)) where
  ok : ReplacePassed s string1 string2 string3
  ok = replace_passed s string1 string2 string3 (sym e)

  good1 : (string1.length ≤ string1.maximum) × (string1.start + string1.maximum ≤ length s)
  good1 = good_is (length s) string1 ok.room

  good2 : (string2.length ≤ string2.maximum) × (string2.start + string2.maximum ≤ length s)
  good2 = good_is (length s) string2 ok.old

  good3 : (string3.length ≤ string3.maximum) × (string3.start + string3.maximum ≤ length s)
  good3 = good_is (length s) string3 ok.source

  inside : (string1.start ≤ string2.start) × (string2.start + string2.length ≤ string1.start + string1.length)
  inside = part_is string1 string2 ok.part

  fits : string1.length - string2.length + string3.length ≤ string1.maximum
  unfolding new_length
  fits = ok.fits

  pub replace_end : Fits w64 (string2.start + string2.length)
  replace_end = omega (arith, good2, ok.small)

  pub replace_sum : Fits w64 (string1.start + string1.length)
  replace_sum = omega (arith, good1, ok.small)

  pub replace_tail : string2.start + string2.length ≤ string1.start + string1.length
  replace_tail = inside.1

  pub replace_to : Fits w64 (string2.start + string3.length)
  replace_to = omega (arith, good2, good3, ok.small)

  pub replace_kept : string2.length ≤ string1.length
  replace_kept = omega (arith, inside)

  pub replace_size : Fits w64 (string1.length - string2.length + string3.length)
  replace_size = omega (arith, fits, good1, ok.small)

  -- what stands behind string 2 in string 1, and how much
  abbrev far : ℕ
  far = string1.start + string1.length - (string2.start + string2.length)

  abbrev tail : List ℕ
  tail = take far (drop (string2.start + string2.length) s)

  abbrev new : List ℕ
  new = text_of s string3

  tail_long : length tail ≡ far
  tail_long = rw (length-take, length-drop) (omega (arith, good1))

  new_long : length new ≡ string3.length
  new_long = text_length s string3 ok.source

  -- the rule's characters, as they stand in the store
  made : replaced s string1 string2 string3 ≡ take (string2.start - string1.start) (drop string1.start s) ++ (new ++ tail)
  unfolding replaced text_of
  made =
      let at : ℕ = string2.start - string1.start in
      let a : string1.start + (at + string2.length) ≡ string2.start + string2.length = omega (arith, inside) in
      let b : string1.length - (at + string2.length) ≡ far = omega (arith, inside) in
      rw (
        take-take at string1.length (drop string1.start s) (omega (arith, inside)),
        drop_take (at + string2.length) string1.length (drop string1.start s),
        drop-drop,
        a,
        b,
        append_assoc,
      )

  made_long : length (replaced s string1 string2 string3) ≡ string1.length - string2.length + string3.length
  made_long = rw (made, length-append, length-append, tail_long, new_long, length-take, length-drop) (omega (arith, good1, inside))

  pub replace_fits : length (replaced s string1 string2 string3) ≤ string1.maximum
  replace_fits = omega (arith, made_long, fits)

  module _ (t t' : List ℕ) (p : t ≡ moved s (string2.start + string2.length) (string2.start + string3.length) far)
      (q : t' ≡ moved t string3.start string2.start string3.length) where
    first_move : t ≡ put s (string2.start + string3.length) tail
    first_move =
        p ∙ moved_in s (string2.start + string2.length) (string2.start + string3.length) far (omega (arith, good1, inside)) (omega (arith, good1, fits, inside))

    same_long : length t ≡ length s
    same_long = rw first_move (put_length s (string2.start + string3.length) tail (omega (arith, tail_long, good1, fits, inside)))

    -- the moved tail leaves string 3 as it was
    source : text_of t string3 ≡ new
    source =
        rw first_move
        (text_kept s string1 string3 (string2.start + string3.length) tail ok.room ok.apart (omega (arith, inside)) (omega (arith, tail_long, fits, inside)))

    second_move : t' ≡ put t string2.start new
    unfolding text_of
    second_move =
        q ∙ moved_in t string3.start string2.start string3.length (omega (arith, same_long, good3)) (omega (arith, same_long, good1, fits, inside)) ∙ rw source

    pub replace_done : (to : StrPtr) → to ≡ sized string1 (string1.length - string2.length + string3.length) → (gives to, t') ≡ replace_rule s string1 string2 string3
    unfolding replace_rule
    replace_done to r =
        let at : ℕ = string2.start - string1.start in
        let a : string1.start + at ≡ string2.start = omega (arith, inside) in
        let b : put (put s (string2.start + length new) tail) string2.start new ≡ put s string2.start (new ++ tail) =
        put_before s string2.start new tail (omega (arith, new_long, tail_long, good1, fits, inside)) in
        let c : put s (string1.start + at) (new ++ tail) ≡ put s string1.start (take at (drop string1.start s) ++ (new ++ tail)) =
        put_kept s string1.start at (new ++ tail) (omega (arith, good1, inside)) in
        ruled_right (replace_refusal s string1 string2 string3) to _ e (r ∙ rw made_long) t' _ s
        (second_move ∙ rw (first_move, made) ((rw new_long at b) ∙ (rw a at c)))

pub ruleset replace_laws = (rules, replace_end, replace_sum, replace_tail, replace_to, replace_kept, replace_size, replace_done)
