-- The text of a number is what `number` writes into 12 bytes, which are room enough, so that only the range is left to
-- refuse. Assumes nothing.
use Rattle.std.proofs.Common.{Result, Ok, Err}
use mathlib.Core.Path.{◌≡◌, refl, sym, ap, ◌∙◌}
use mathlib.Core.Bool.{true, false}
use mathlib.Core.List.{List, []}
use Prim.Native.Nat.{ℕ, ◌≤◌}
use native.Mathlib.Omega.{arith}
use borrow.Author.Rules.{rules}
use borrow.Author.Tests.{le-leb}
use lib.IntN.{ℤ, nat_abs}
use lib.ListN.{length}
use Rattle.strlib.proofs.Pointing.{is_good}
use Rattle.strlib.proofs.Refusing.{bool_case}
use Rattle.strlib.specs.Pointer.{pointer, store_fits, sized, text_of}
use Rattle.strlib.specs.Refusal.{Outcome, refused, gives, refusal_number, answered}
use Rattle.strlib.specs.declared.StrPtr.{StrPtr}
use Rattle.strlib.specs.declared.refusal.Refusal.{Refusal}
use Rattle.number.proofs.Counting.{digits_under}
use Rattle.number.proofs.Ranging.{range_mag, abs_mag}
use Rattle.number.proofs.Writing.{written_under}
use Rattle.number.proofs.RoundTrip.{round_trip, write_gave}
use Rattle.number.specs.Limits.{is_base, in_range}
use Rattle.number.specs.Written.{written}
use Rattle.number.specs.Number.{write_rule}
use Rattle.buffer.specs.Buffer.{grown, value_text}

-- a number of the range has at most 11 digits, and a sign
value_room : (z : ℤ) → in_range z ≡ true → length (written 10 z) ≤ 12
value_room z h = written_under 10 z 11 (digits_under 10 10 (nat_abs z) (omega arith) (omega (arith, abs_mag z, range_mag z h)))

-- so that each is written
room_gives : (s : List ℕ) (z : ℤ) → length s ≡ 12 → in_range z ≡ true → (write_rule s (pointer 0 0 12) z 10).0 ≡ gives (sized (pointer 0 0 12) (length (written 10 z)))
unfolding store_fits pointer is_base
room_gives s z l h =
    let p : StrPtr = pointer 0 0 12 in
    (round_trip.calls s p z 10 (le-leb (length s) 65536 (omega arith)) refl (is_good (length s) p (omega arith) (omega arith)) h (value_room z h)).0

module _ (b : List ℕ) (n : ℕ) (b' : List ℕ) (r : ℕ) (s s' : List ℕ) (p : StrPtr) (z z' : ℤ) (a : Result StrPtr Refusal)
    (ez : z' ≡ z) (w : (answered a, s') ≡ write_rule s p z' 10) where
  answer : answered a ≡ (write_rule s p z 10).0
  answer = rw (← ez) (ap (λ (x : Outcome StrPtr × List ℕ). x.0) w)

  store : s' ≡ (write_rule s p z 10).1
  store = rw (← ez) (ap (λ (x : Outcome StrPtr × List ℕ). x.1) w)

  pub value_given : (q : StrPtr) (x : List ℕ) → a ≡ Ok q → x ≡ text_of s' q → (r, b') ≡ grown b n x → (r, b') ≡ grown b n (value_text z)
  unfolding value_text
  value_given q x e f g =
      let o = write_gave s p z 10 q (sym answer ∙ ap answered e) in
      let t : x ≡ written 10 z = f ∙ ap (λ (y : List ℕ). text_of y q) store ∙ o.1 in
      rw (o.0, ← t) g

  pub value_none : (k : Refusal) → a ≡ Err k → length s ≡ 12 → p ≡ pointer 0 0 12 → (r, b') ≡ grown b n [] → (r, b') ≡ grown b n (value_text z)
  unfolding value_text
  value_none k e l ep g =
      bool_case (in_range z)
      (λ (h : in_range z ≡ true).
      let c : refused (refusal_number k) ≡ gives (sized (pointer 0 0 12) (length (written 10 z))) =
      sym (ap answered e) ∙ answer ∙ ap (λ (y : StrPtr). (write_rule s y z 10).0) ep ∙ room_gives s z l h in
      absurd (no_refusal (refusal_number k) _ c))
      (λ (h : in_range z ≡ false). rw h g)
    where
      no_refusal : (j : ℕ) (y : StrPtr) → ◌≡◌ {A = Outcome StrPtr} (refused j) (gives y) → ⊥
      no_refusal j y x = let t : ◌≡◌ {A = ℕ} 0 1 = cc in omega arith

pub ruleset value_laws = (rules, value_given, value_none)
