-- The place rule of a call's answer, and a call with the maximum 0: from the rule on the definitions. Assumes nothing.
use mathlib.Core.Path.{◌≡◌, ap, ◌∙◌}
use mathlib.Core.List.{List}
use Prim.Native.Nat.{ℕ, ◌+◌, ◌-◌, ◌<◌}
use native.Mathlib.Nat.{add-zero}
use native.Mathlib.Omega.{arith}
use lib.ListN.{length, take, drop, length-take, length-drop}
use borrow.Author.Tests.{leb-true, le-leb, lt-leb}
use Rattle.strlib.proofs.Refusing.{bool_case}
use Rattle.strlib.proofs.Storing.{put_none}
use Rattle.strlib.proofs.Texts.{texts_long}
use Rattle.strlib.specs.Pointer.{sized, good_in, clear, texts, joined}
use Rattle.strlib.specs.Refusal.{gives}
use Rattle.strlib.specs.declared.StrPtr.{StrPtr}
use Rattle.joining.specs.Resuming.{offset, piece, completes, next_place, round_of, round_from, join_from_refusal, join_from_rule}
use Rattle.joining.specs.RoundRule.{PlaceRule, PlaceRules, Unmoved, NothingMoves, AnyLength}
use Rattle.joining.specs.declared.Place.{Place}
use Rattle.joining.specs.declared.Round.{Round}
use Rattle.joining.proofs.Chaining.{call_passed, call_store, call_round}
use Rattle.joining.proofs.Joining.{from_passed}
use Rattle.joining.proofs.Placing.{place_offset}
use Rattle.joining.proofs.Rounding.{place_rule}
use Rattle.joining.proofs.Texts.{texts_at}

module _ (s : List ℕ) (destination : StrPtr) (list : List StrPtr) (count : ℕ) (from : Place) where
  abbrev xss : List (List ℕ)
  xss = texts s (take count list)

  abbrev m : ℕ
  m = destination.maximum

  abbrev o : ℕ
  o = offset xss from

  -- the definitions' round from there
  abbrev round : Round
  round = round_of xss destination o

  next_of : length list ≡ 32 → (r : Round) → (join_from_rule s destination list count from).0 ≡ gives r → PlaceRule list count round
  unfolding round_of
  next_of size r e =
      let ok = from_passed s destination list count from (call_passed s destination list count from r e) in
      let many : length xss ≡ count = rw (texts_long s (take count list), length-take) (omega (arith, leb-true count 32 ok.join.listed.few)) in
      let R = place_rule xss m o in
      let l = texts_at s (take count list) ((next_place xss m o).string - 1) ok.join.listed.parts in
      record {
        behind = λ c. R.behind c ∙ rw many;
        is_behind = λ n.
            bool_case (completes xss m o) (λ c. c)
            (λ c. let I = R.inside c in let z : (next_place xss m o).string ≡ count + 1 = ap (λ (p : Place). p.string) n in absurd (omega (arith, I.0)));
        inside = λ c. let I = R.inside c in ((I.0.0, omega (arith, I.0)), (I.1.0, omega (arith, I.1)));
      }

  unmoved : m ≡ 0 → o < length (joined xss) → (r : Round) → (join_from_rule s destination list count from).0 ≡ gives r → Unmoved s destination list count from round
  unfolding round_of piece next_place completes
  unmoved z left r e =
      let long : length (drop o (joined xss)) ≡ length (joined xss) - o = length-drop o (joined xss) in
      record {
        uncompleted = lt-leb (length (drop o (joined xss))) m (omega arith);
        stays = call_store s destination list count from r e ∙ rw (z, put_none);
        to = rw z;
        next = rw (z, add-zero) (place_offset xss o ∙ omega arith);
      }

pub place_rules : PlaceRules
place_rules s destination list count from r size e =
    rw (call_round s destination list count from r e) (next_of s destination list count from size r e)

pub nothing_moves : NothingMoves
unfolding round_of
nothing_moves s destination list count from r z left e =
    rw (call_round s destination list count from r e) (unmoved s destination list count from z left r e)

pub any_length : AnyLength
unfolding join_from_rule join_from_refusal good_in clear sized round_from round_of
any_length s destination list count from n h k = rw (le-leb n destination.maximum k, le-leb destination.length destination.maximum h)
