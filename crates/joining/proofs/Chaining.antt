-- The round rule of a chain of calls: each call's answer is the round of the definitions that starts at the same place,
-- by induction on the number of calls. Assumes nothing.
use mathlib.Core.Path.{◌≡◌, refl, sym, ap, ◌∙◌}
use mathlib.Core.Bool.{true, false}
use mathlib.Core.List.{List}
use Prim.Native.Nat.{ℕ, zero, suc, ◌≤◌, ◌<◌}
use native.Mathlib.Omega.{arith}
use lib.ListN.{length, take}
use Rattle.strlib.specs.Pointer.{sized, good_in, text_of, texts, joined}
use Rattle.strlib.specs.Refusal.{gives}
use Rattle.strlib.specs.Store.{put}
use Rattle.strlib.specs.declared.StrPtr.{StrPtr}
use Rattle.strlib.proofs.Pointing.{either, good_is}
use Rattle.strlib.proofs.Refusing.{ruled_gave}
use Rattle.strlib.proofs.Storing.{part_put}
use Rattle.joining.specs.Resuming.{offset, piece, completes, round_of, round_from, join_from_refusal, join_from_rule}
use Rattle.joining.specs.RoundRule.{place_after, moved_after, rounds_for, resumes_at, Unfinished, Chain, held_after, ChainRule, ChainRules}
use Rattle.joining.specs.declared.Place.{Place}
use Rattle.joining.specs.declared.Round.{Round}
use Rattle.joining.proofs.Joining.{from_passed}
use Rattle.joining.proofs.Rounding.{round_rule}

-- a call that is not refused
module _ (s : List ℕ) (destination : StrPtr) (list : List StrPtr) (count : ℕ) (from : Place) (r : Round) (e : (join_from_rule s destination list count from).0 ≡ gives r) where
  abbrev xss : List (List ℕ)
  xss = texts s (take count list)

  abbrev o : ℕ
  o = offset xss from

  given : (join_from_refusal s destination list count from ≡ 0)
      × ((round_of xss destination o ≡ r) × ((join_from_rule s destination list count from).1 ≡ put s destination.start (piece xss destination.maximum o)))
  unfolding join_from_rule round_from
  given = ruled_gave (join_from_refusal s destination list count from) (round_of xss destination o) r (put s destination.start (piece xss destination.maximum o)) s e

  pub call_passed : join_from_refusal s destination list count from ≡ 0
  call_passed = given.0

  pub call_store : (join_from_rule s destination list count from).1 ≡ put s destination.start (piece xss destination.maximum o)
  call_store = given.1.1

  pub call_good : good_in (length s) destination ≡ true
  call_good = (from_passed s destination list count from given.0).join.listed.room

  pub call_round : r ≡ round_of xss destination o
  call_round = sym given.1.0

  -- the destination holds the round's characters
  pub call_held : text_of (join_from_rule s destination list count from).1 r.to ≡ piece xss destination.maximum o
  unfolding text_of round_of sized
  call_held =
      rw (call_round, given.1.1)
      (part_put s destination.start (piece xss destination.maximum o) (omega (arith, good_is (length s) destination call_good)))

module _ (stores : ℕ → List ℕ) (destinations : ℕ → StrPtr) (list : List StrPtr) (count m : ℕ) (rounds : ℕ → Round) (h : 1 ≤ m) (C : Chain stores destinations list count m rounds) where
  abbrev all_texts : List (List ℕ)
  all_texts = texts (stores 0) (take count list)

  abbrev last : ℕ
  last = rounds_for (length (joined all_texts)) m

  abbrev start : ℕ → ℕ
  start n = offset all_texts (place_after all_texts m n)

  -- a round that is called is the definitions' round from the same place on
  module _ (n : ℕ) (u : Unfinished rounds n) (p : resumes_at rounds n ≡ place_after all_texts m n) where
    chain_round : rounds n ≡ round_of (texts (stores n) (take count list)) (destinations n) (offset (texts (stores n) (take count list)) (resumes_at rounds n))
    chain_round = call_round (stores n) (destinations n) list count (resumes_at rounds n) (rounds n) (C.call n u)

    chain_next : (rounds n).next ≡ place_after all_texts m (suc n)
    unfolding place_after round_of
    chain_next = ap (λ (r : Round). r.next) chain_round ∙ rw (C.same n u, C.room n u, p)

    chain_completed : (rounds n).completed ≡ completes all_texts m (start n)
    unfolding round_of
    chain_completed = ap (λ (r : Round). r.completed) chain_round ∙ rw (C.same n u, C.room n u, p)

    chain_held : text_of (join_from_rule (stores n) (destinations n) list count (resumes_at rounds n)).1 (rounds n).to ≡ piece all_texts m (start n)
    chain_held = call_held (stores n) (destinations n) list count (resumes_at rounds n) (rounds n) (C.call n u) ∙ rw (C.same n u, C.room n u, p)

  -- every round up to the last is called
  called : (n : ℕ) → n < last → Unfinished rounds n × (resumes_at rounds n ≡ place_after all_texts m n)
  unfolding place_after
  called zero l = (λ k i. absurd (omega arith), refl)
  called (suc n) l =
      let c = called n (omega arith) in
      let e : (rounds n).completed ≡ false = chain_completed n c.0 c.1 ∙ (round_rule all_texts m h).early n (omega arith) in
      (λ k i. either n k (λ (j : n ≤ k). let z : k ≡ n = omega arith in rw z e) (λ (j : k < n). c.0 k j), chain_next n c.0 c.1)

  held : (n : ℕ) → n ≤ last → held_after stores destinations list count rounds n ≡ moved_after all_texts m n
  unfolding held_after moved_after
  held zero l = refl
  held (suc n) l = let c = called n (omega arith) in rw (held n (omega arith), chain_held n c.0 c.1)

  chained : ChainRule stores destinations list count m rounds
  chained =
      let R = round_rule all_texts m h in
      record {
        early = λ n k. let c = called n (omega arith) in chain_completed n c.0 c.1 ∙ R.early n k;
        done = λ n k. let c = called n (omega arith) in chain_completed n c.0 c.1 ∙ R.done n k;
        whole = held last (omega arith) ∙ R.whole;
      }

pub chain_rule : ChainRules
chain_rule stores destinations list count m rounds h C = chained stores destinations list count m rounds h C
