-- Laws of read-only cuts: a slice is cut as the string that it is whole. Assumes nothing.
use mathlib.Core.Path.{◌≡◌, refl, sym, ap, ◌∙◌}
use mathlib.Core.Bool.{Bool, true, false, cond}
use mathlib.Core.List.{List}
use Prim.Native.Nat.{ℕ, ◌+◌, ◌-◌, ◌≤◌, ◌<◌, ◌*◌, ◌^◌}
use native.Mathlib.Nat.{zero-add}
use native.Mathlib.Omega.{arith}
use lib.ListN.{length}
use lib.Seq.{take-length}
use denote.Ref.{Bor}
use borrow.Author.Rules.{rules}
use borrow.Author.Tests.{le-leb}
use Rattle.strlib.proofs.Pointing.{good_is, is_good, text_length}
use Rattle.strlib.specs.Pointer.{pointer, sized, part_of, good_in, text_of}
use Rattle.strlib.specs.declared.StrPtr.{StrPtr}
use Rattle.cutting.proofs.Bounding.{trimmed_none, trimmed_some}
use Rattle.cutting.proofs.Goodness.{part_good}
use Rattle.cutting.specs.Cutting.{is_blank, trimmed_length, counted_in, in_bounds, cut_of}
use Rattle.cutting.specs.Inner.{Cuttable}
use Rattle.cutting.specs.Part.{IsPart, whole, slice_cut, shown, label_place}
use Rattle.cutting.specs.declared.Cut.{Cut}
use Rattle.cutting.specs.declared.Cut.TheVariants.{Counted, Trimmed}
use Rattle.cutting.specs.declared.parts.DeskLabel.{DeskLabel}
use Rattle.cutting.specs.declared.parts.DeskLabel.TheVariants.{Production, House}

whole_good : (xs : List ℕ) → good_in (length xs) (whole xs) ≡ true
unfolding whole pointer
whole_good xs = is_good (length xs) (whole xs) (omega arith) (omega arith)

none_good : (xs : List ℕ) → good_in (length xs) (pointer 0 0 0) ≡ true
unfolding pointer
none_good xs = is_good (length xs) (pointer 0 0 0) (omega arith) (omega arith)

module _ (xs : List ℕ) (c : Cut) (w : StrPtr) (e : w ≡ pointer 0 (length xs) (length xs)) (b : Bool) (f : b ≡ in_bounds w c) where
  is_whole : w ≡ whole xs
  unfolding whole
  is_whole = e

  pub slice_ready : length xs * 1 < 2 ^ 63 → b ≡ true → Cuttable w c
  unfolding pointer
  slice_ready h t =
      record {
        room = rw e (omega arith);
        end = rw e (omega arith);
        bounds = sym f ∙ t;
      }

  pub slice_cut_lem : (q : StrPtr) → b ≡ true → q ≡ cut_of xs w c → q ≡ slice_cut xs c
  unfolding slice_cut
  slice_cut_lem q t h = rw (← is_whole, ← f, t) h

  pub slice_none : (q : StrPtr) → b ≡ false → q ≡ pointer 0 0 0 → q ≡ slice_cut xs c
  unfolding slice_cut
  slice_none q t h = rw (← is_whole, ← f, t) h

slice_good : (xs : List ℕ) (c : Cut) → good_in (length xs) (slice_cut xs c) ≡ true
unfolding slice_cut
slice_good xs c = go (in_bounds (whole xs) c) refl
  where
    go : (b : Bool) → in_bounds (whole xs) c ≡ b → good_in (length xs) (cond b (cut_of xs (whole xs) c) (pointer 0 0 0)) ≡ true
    go true e = part_good xs (whole xs) c (whole_good xs) e
    go false e = none_good xs

pub slice_within : (xs : List ℕ) (c : Cut) (q : StrPtr) → q ≡ slice_cut xs c → q.start + q.length ≤ length xs
slice_within xs c q h = let g : good_in (length xs) q ≡ true = rw h (slice_good xs c) in omega (arith, good_is (length xs) q g)

pub part_is : (r s : Bor (List ℕ)) (p q : StrPtr) → IsPart r s p → p ≡ q → IsPart r s q
part_is r s p q h e = rw e at h

pub ruleset slice_laws = (rules, slice_ready, slice_cut_lem, slice_none, slice_within, part_is)

-- ---- the desk label

whole_text : (xs : List ℕ) → text_of xs (whole xs) ≡ xs
unfolding text_of whole pointer
whole_text xs = take-length xs

pub trim_length : (xs : List ℕ) → length (text_of xs (slice_cut xs Trimmed)) ≡ trimmed_length xs
unfolding slice_cut in_bounds cut_of sized
trim_length xs = text_length xs (cut_of xs (whole xs) Trimmed) (part_good xs (whole xs) Trimmed (whole_good xs) refl) ∙ ap trimmed_length (whole_text xs)

-- the length of a trimmed part
pub part_trimmed : (q s : Bor (List ℕ)) → IsPart q s (slice_cut s.now Trimmed) → length q.now ≡ trimmed_length s.now
part_trimmed q s p = ap length p.bytes ∙ trim_length s.now

-- a trimmed place's own length
place_trimmed : (xs : List ℕ) → (slice_cut xs Trimmed).length ≡ trimmed_length xs
unfolding slice_cut in_bounds cut_of sized
place_trimmed xs = ap trimmed_length (whole_text xs)

-- it tells whether the production name is blank
module _ (production house : List ℕ) (p : StrPtr) (e : p ≡ slice_cut production Trimmed) where
  left : p.length ≡ trimmed_length production
  left = ap (λ (q : StrPtr). q.length) e ∙ place_trimmed production

  pub place_house : (q : StrPtr) → p.length ≡ 0 → q ≡ slice_cut house Trimmed → House q ≡ label_place production house
  unfolding label_place
  place_house q z h = rw (trimmed_none production (sym left ∙ z), h)

  pub place_production : (p.length ≡ 0 → ⊥) → Production p ≡ label_place production house
  unfolding label_place
  place_production z = rw (trimmed_some production (λ (n : trimmed_length production ≡ 0). z (left ∙ n)), e)

-- the part at the label's place
module _ (production house : Bor (List ℕ)) (l : DeskLabel) (e : l ≡ label_place production.now house.now) (p : StrPtr) where
  in_house : l ≡ House p → (is_blank production.now ≡ true) × (p ≡ slice_cut house.now Trimmed)
  unfolding label_place
  in_house h = go (is_blank production.now) (sym h ∙ e)
    where
      go : (b : Bool) → House p ≡ cond b (House (slice_cut house.now Trimmed)) (Production (slice_cut production.now Trimmed)) → (b ≡ true) × (p ≡ slice_cut house.now Trimmed)
      go true f = (refl, cc)
      go false f = cc

  in_production : l ≡ Production p → (is_blank production.now ≡ false) × (p ≡ slice_cut production.now Trimmed)
  unfolding label_place
  in_production h = go (is_blank production.now) (sym h ∙ e)
    where
      go : (b : Bool) → Production p ≡ cond b (House (slice_cut house.now Trimmed)) (Production (slice_cut production.now Trimmed)) → (b ≡ false) × (p ≡ slice_cut production.now Trimmed)
      go true f = cc
      go false f = (refl, cc)

  pub house_within : l ≡ House p → p.start + p.length ≤ length house.now
  house_within h = slice_within house.now Trimmed p (in_house h).1

  pub production_within : l ≡ Production p → p.start + p.length ≤ length production.now
  production_within h = slice_within production.now Trimmed p (in_production h).1

  pub label_house : l ≡ House p → (r : Bor (List ℕ)) → IsPart r house p → IsPart r (shown production house) (slice_cut (shown production house).now Trimmed)
  unfolding shown
  label_house h r i = rw ((in_house h).0, ← (in_house h).1) i

  pub label_production : l ≡ Production p → (r : Bor (List ℕ)) → IsPart r production p → IsPart r (shown production house) (slice_cut (shown production house).now Trimmed)
  unfolding shown
  label_production h r i = rw ((in_production h).0, ← (in_production h).1) i

pub ruleset label_laws = (rules, place_house, place_production, house_within, label_house, production_within, label_production)

-- ---- a counted cut by its index

-- from position place + 1 on, in bounds, it is the part from index place on
pub part_counted : (r s : Bor (List ℕ)) (place n : ℕ) → place + n ≤ length s.now → IsPart r s (slice_cut s.now (Counted (place + 1) n))
    → IsPart r s (pointer place n n)
unfolding slice_cut in_bounds counted_in cut_of part_of whole pointer text_of
part_counted r s place n h i =
    let a : place + 1 ≤ length s.now + 1 = omega arith in
    let b : n ≤ length s.now + 1 - (place + 1) = omega arith in
    let o : 1 ≤ place + 1 = omega arith in
    let z : place + 1 - 1 ≡ place = omega arith in
    let j = rw (le-leb 1 (place + 1) o, le-leb (place + 1) (length s.now + 1) a, le-leb n (length s.now + 1 - (place + 1)) b, z) at i in
    record { block = j.block; place = j.place ∙ rw zero-add; bytes = j.bytes ∙ rw zero-add }
