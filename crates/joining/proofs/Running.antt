-- Calling again on the store that the call before left: where the first call is not refused no later one is, since the
-- listed strings stay as they were and each place that a call gives is one that a call takes. So these calls are a
-- chain, and the round rule holds of them. Assumes nothing.
use mathlib.Core.Path.{◌≡◌, refl, sym, ◌∙◌, ap}
use mathlib.Core.Bool.{Bool, true, false}
use mathlib.Core.List.{List}
use Prim.Native.Nat.{ℕ, zero, suc, ◌+◌, ◌-◌, ◌≤◌}
use native.Mathlib.Omega.{arith}
use lib.ListN.{length, take, length-take}
use borrow.Author.Tests.{leb-true}
use Rattle.strlib.specs.Pointer.{store_fits, good_in, readable, all, texts, sized}
use Rattle.strlib.specs.Refusal.{gives, outcome, after, ruled, Outcome}
use Rattle.strlib.specs.Store.{put}
use Rattle.strlib.specs.declared.StrPtr.{StrPtr}
use Rattle.strlib.proofs.Pointing.{good_is}
use Rattle.strlib.proofs.Storing.{put_length}
use Rattle.joining.specs.Resuming.{place_in, offset, piece, completes, next_place, round_of, round_from, join_from_refusal, join_from_rule}
use Rattle.joining.specs.RoundRule.{first_place, place_after, resumes_at, Chain, round_after, store_after, AgainRule, AgainRules}
use Rattle.joining.specs.declared.Place.{Place}
use Rattle.joining.specs.declared.Round.{Round}
use Rattle.strlib.proofs.Texts.{texts_long, texts_readable}
use Rattle.joining.proofs.Texts.{texts_at, texts_kept}
use Rattle.joining.proofs.Placing.{is_place}
use Rattle.joining.proofs.Joining.{FromPassed, from_passed}
use Rattle.joining.proofs.Rounding.{place_rule}
use Rattle.joining.proofs.Chaining.{call_passed, chain_rule}
use Rattle.joining.proofs.Answered.{any_length}

module _ (s : List ℕ) (destination : StrPtr) (list : List StrPtr) (count : ℕ) (L : length list ≡ 32) (e : join_from_refusal s destination list count first_place ≡ 0) where
  abbrev ps : List StrPtr
  ps = take count list

  abbrev xss : List (List ℕ)
  xss = texts s (take count list)

  abbrev m : ℕ
  m = destination.maximum

  abbrev at : ℕ → ℕ
  at n = offset xss (place_after xss m n)

  ok : FromPassed s destination list count first_place
  ok = from_passed s destination list count first_place e

  many : length xss ≡ count
  many = rw (texts_long s ps, length-take) (omega (arith, leb-true count 32 ok.join.listed.few))

  -- each place that a call gives is one that a call takes
  pub next_in : (o : ℕ) → place_in list count (next_place xss m o) ≡ true
  next_in o = go (completes xss m o) refl
    where
      go : (b : Bool) → completes xss m o ≡ b → place_in list count (next_place xss m o) ≡ true
      go true c =
          rw ((place_rule xss m o).behind c)
          (is_place list count (record { string = length xss + 1; character = 1 }) (omega arith) (omega (arith, many)) (omega arith) (omega arith))
      go false c =
          let I = (place_rule xss m o).inside c in
          let l = texts_at s ps ((next_place xss m o).string - 1) ok.join.listed.parts in
          is_place list count (next_place xss m o) I.0.0 (omega (arith, I.0, many)) I.1.0 (omega (arith, I.1, l))

  place_after_in : (n : ℕ) → place_in list count (place_after xss m n) ≡ true
  unfolding place_after
  place_after_in zero = ok.place
  place_after_in (suc n) = next_in (at n)

  -- a store of the same length with the same listed characters is refused as little
  allowed : (t : List ℕ) (p : Place) → length t ≡ length s → texts t ps ≡ xss → place_in list count p ≡ true → join_from_refusal t destination list count p ≡ 0
  unfolding join_from_refusal store_fits
  allowed t p l x q =
      let a : all (readable t) ps ≡ true = texts_readable t ps ∙ rw x (sym (texts_readable s ps) ∙ ok.join.listed.plain) in
      rw (l, ok.join.listed.fits, ok.join.listed.few, ok.join.listed.room, ok.join.listed.parts, a, q, ok.join.apart)

  piece_short : (n : ℕ) → length (piece xss m (at n)) ≤ m
  unfolding piece
  piece_short n = rw length-take (omega arith)

  stored : (t : List ℕ) (n : ℕ) → texts t ps ≡ xss → join_from_refusal t destination list count (place_after xss m n) ≡ 0
      → (join_from_rule t destination list count (place_after xss m n)).1 ≡ put t destination.start (piece xss m (at n))
  unfolding join_from_rule round_from ruled after
  stored t n x z = rw (z, x)

  -- the store after n calls
  kept : (n : ℕ) → (length (store_after s destination list count n) ≡ length s) × (texts (store_after s destination list count n) ps ≡ xss)
  unfolding store_after
  kept zero = (refl, refl)
  kept (suc n) =
      let t : List ℕ = store_after s destination list count n in
      let k = kept n in
      let z : join_from_refusal t destination list count (place_after xss m n) ≡ 0 = allowed t (place_after xss m n) k.0 k.1 (place_after_in n) in
      let p : (join_from_rule t destination list count (place_after xss m n)).1 ≡ put t destination.start (piece xss m (at n)) = stored t n k.1 z in
      let g : good_in (length t) destination ≡ true = rw k.0 ok.join.listed.room in (
        rw p (put_length t destination.start (piece xss m (at n)) (omega (arith, good_is (length t) destination g, piece_short n)) ∙ k.0),
        rw p (texts_kept t destination ps (piece xss m (at n)) g ok.join.apart (piece_short n) ∙ k.1),
      )

  place_same : (n : ℕ) → resumes_at (round_after xss destination) n ≡ place_after xss m n
  unfolding place_after round_of
  place_same zero = refl
  place_same (suc n) = refl

  called : (n : ℕ) → (join_from_rule (store_after s destination list count n) destination list count (place_after xss m n)).0 ≡ gives (round_after xss destination n)
  unfolding join_from_rule round_from ruled outcome
  called n =
      let k = kept n in
      rw (allowed (store_after s destination list count n) (place_after xss m n) k.0 k.1 (place_after_in n), k.1)

  run_chain : Chain (store_after s destination list count) (λ _. destination) list count m (round_after xss destination)
  unfolding store_after
  run_chain = record { room = λ n u. refl; same = λ n u. (kept n).1; call = λ n u. rw (place_same n) (called n) }

  -- whatever length the pointer has
  again : (n k : ℕ) → k ≤ m
      → join_from_rule (store_after s destination list count n) (sized destination k) list count (place_after xss m n)
      ≡ (gives (round_after xss destination n), store_after s destination list count (suc n))
  unfolding store_after
  again n k h =
      let t : List ℕ = store_after s destination list count n in
      any_length t destination list count (place_after xss m n) k (omega (arith, good_is (length s) destination ok.join.listed.room)) h
      ∙ ap (λ (a : Outcome Round). (a, (join_from_rule t destination list count (place_after xss m n)).1)) (called n)

  run : 1 ≤ m → AgainRule s destination list count
  run h = record { given = again; rule = chain_rule (store_after s destination list count) (λ _. destination) list count m (round_after xss destination) h run_chain }

pub run_rule : AgainRules
run_rule s destination list count r L h e = run s destination list count L (call_passed s destination list count first_place r e) h
