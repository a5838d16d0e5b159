-- Laws of join and of the checkpointed join: where no check fails, the loop's promise is the rule. Assumes nothing.
use mathlib.Core.Path.{◌≡◌, refl, sym, ap, ◌∙◌}
use mathlib.Core.Bool.{Bool, true}
use mathlib.Core.List.{List, [], ◌∷◌}
use Prim.Native.Nat.{ℕ, ◌+◌, ◌-◌, ◌≤◌}
use native.Mathlib.Omega.{arith}
use lib.Dec.{leb}
use lib.ListN.{length, take, length-take}
use borrow.Author.Tests.{leb-true}
use Rattle.strlib.specs.Pointer.{sized, store_fits, good_in, texts, readable, clear, all, joined}
use Rattle.strlib.specs.Refusal.{gives, first}
use Rattle.strlib.specs.Store.{put}
use Rattle.strlib.specs.declared.StrPtr.{StrPtr}
use Rattle.strlib.proofs.Checking.{first_both}
use Rattle.strlib.proofs.Pointing.{fits_is}
use Rattle.strlib.proofs.Answering.{ruled_right}
use Rattle.strlib.proofs.Refusing.{passed}
use Rattle.copying.specs.Copying.{finished}
use Rattle.copying.specs.declared.Wrote.{Wrote}
use Rattle.copying.proofs.Padding.{bounded}
use Rattle.joining.specs.Joining.{listed_checks, join_refusal, join_rule}
use Rattle.joining.specs.Resuming.{length_at, place_in, before, piece, completes, round_of, round_from, join_from_refusal, join_from_rule}
use Rattle.joining.specs.Inner.{Resumable}
use Rattle.joining.specs.declared.Place.{Place}
use Rattle.joining.specs.declared.Round.{Round}
use Rattle.joining.proofs.Placing.{place_is}

-- ---- the checks

module _ (s : List ℕ) (destination : StrPtr) (list : List StrPtr) (count : ℕ) where
  -- what is known where they find nothing
  pub record ListedPassed : Type 0 where
    pub fits : store_fits s ≡ true
    pub few : leb count 32 ≡ true
    pub room : good_in (length s) destination ≡ true
    pub parts : all (good_in (length s)) (take count list) ≡ true
    pub plain : all (readable s) (take count list) ≡ true

  pub record JoinPassed : Type 0 where
    pub listed : ListedPassed
    pub apart : all (clear destination) (take count list) ≡ true

  pub record FromPassed (from : Place) : Type 0 where
    pub join : JoinPassed
    pub place : place_in list count from ≡ true

  listed_passed : first (listed_checks s destination list count) ≡ 0 → ListedPassed
  listed_passed z =
      let ok = passed (listed_checks s destination list count) refl z in
      record { fits = ok.0; few = ok.1.0; room = ok.1.1.0; parts = ok.1.1.1.0; plain = ok.1.1.1.1.0 }

  pub join_passed : join_refusal s destination list count ≡ 0 → JoinPassed
  unfolding join_refusal
  join_passed z =
      let own : List (ℕ × Bool) = (5, all (clear destination) (take count list)) ∷ [] in
      let b = first_both (listed_checks s destination list count) own refl z in
      record { listed = listed_passed b.0; apart = (passed own refl b.1).0 }

  pub from_passed : (from : Place) → join_from_refusal s destination list count from ≡ 0 → FromPassed from
  unfolding join_from_refusal
  from_passed from z =
      let own : List (ℕ × Bool) = (4, place_in list count from) ∷ (5, all (clear destination) (take count list)) ∷ [] in
      let b = first_both (listed_checks s destination list count) own refl z in
      let ok = passed own refl b.1 in
      record { join = record { listed = listed_passed b.0; apart = ok.1.0 }; place = ok.0 }

  -- what the loop asks of both, of the listed strings
  resumable : JoinPassed → (ps : List StrPtr) → ps ≡ take count list → (index skip : ℕ) → index ≤ length ps → skip ≤ length_at ps index → Resumable s destination ps index skip
  resumable ok ps p index skip h k =
      record {
        small = fits_is s ok.listed.fits;
        few = rw (p, length-take) (omega (arith, leb-true count 32 ok.listed.few));
        room = ok.listed.room;
        parts = rw p ok.listed.parts;
        apart = rw p ok.apart;
        start = h;
        within = k;
      }

-- ---- join

module _ (s : List ℕ) (destination : StrPtr) (list : List StrPtr) (count : ℕ) (e : ◌≡◌ {A = ℕ} 0 (join_refusal s destination list count)) (ps : List StrPtr) (p : ps ≡ take count list) where
  ok : JoinPassed s destination list count
  ok = join_passed s destination list count (sym e)

  pub join_resumes : Resumable s destination ps 0 0
  join_resumes = resumable s destination list count ok ps p 0 0 (omega arith) (omega arith)

  abbrev all_texts : List (List ℕ)
  all_texts = texts s (take count list)

  module _ (r : Round) (t : List ℕ) (f : (r, t) ≡ round_from s destination ps 0 0) where
    over : (r, t) ≡ round_from s destination (take count list) 0 0
    over = rw p at f

    size : r.to.length ≡ length (take destination.maximum (joined all_texts))
    unfolding round_from round_of sized piece before joined
    size = ap (λ (x : Round × List ℕ). x.0.to.length) over

    pub join_done : (pad : Bool) (w : Wrote) (t' : List ℕ) → (w, t') ≡ finished t destination r.to.length pad r.completed
        → (gives w, t') ≡ join_rule s destination list count pad
    unfolding join_rule round_from round_of piece before joined completes
    join_done pad w t' g =
        let b : t ≡ put s destination.start (take destination.maximum (joined all_texts)) = ap (λ (x : Round × List ℕ). x.1) over in
        bounded (join_refusal s destination list count) s destination (joined all_texts) pad r.completed r.to.length w t' e
        ok.listed.room size (ap (λ (x : Round × List ℕ). x.0.completed) over) (g ∙ rw b)

-- ---- the checkpointed join

module _ (s : List ℕ) (destination : StrPtr) (list : List StrPtr) (count : ℕ) (from : Place) (e : ◌≡◌ {A = ℕ} 0 (join_from_refusal s destination list count from)) where
  ok_from : FromPassed s destination list count from
  ok_from = from_passed s destination list count from (sym e)

  at_place : ((1 ≤ from.string) × (from.string ≤ count + 1)) × ((1 ≤ from.character) × (from.character ≤ length_at (take count list) (from.string - 1) + 1))
  at_place = place_is list count from ok_from.place

  pub from_string : 1 ≤ from.string
  from_string = at_place.0.0

  pub from_character : 1 ≤ from.character
  from_character = at_place.1.0

  module _ (ps : List StrPtr) (p : ps ≡ take count list) where
    pub from_long : length list ≡ 32 → length ps ≡ count
    from_long w = rw (p, length-take) (omega (arith, leb-true count 32 ok_from.join.listed.few))

    pub from_resumes : length list ≡ 32 → Resumable s destination ps (from.string - 1) (from.character - 1)
    from_resumes w =
        let l = from_long w in
        resumable s destination list count ok_from.join ps p (from.string - 1) (from.character - 1) (omega (arith, at_place)) (rw p (omega (arith, at_place)))

    pub from_done : (r : Round) (t : List ℕ) → (r, t) ≡ round_from s destination ps (from.string - 1) (from.character - 1)
        → (gives r, t) ≡ join_from_rule s destination list count from
    unfolding join_from_rule
    from_done r t f =
        let g : (r, t) ≡ round_from s destination (take count list) (from.string - 1) (from.character - 1) = rw p at f in
        ruled_right (join_from_refusal s destination list count from) r _ e (ap (λ (x : Round × List ℕ). x.0) g) t _ s (ap (λ (x : Round × List ℕ). x.1) g)
