-- The round trip: the text written is put at the destination's start, so that the returned pointer names it, and it
-- reads as the number. Assumes nothing.
use mathlib.Core.Path.{◌≡◌}
use mathlib.Core.Bool.{true}
use mathlib.Core.List.{List}
use Prim.Native.Nat.{ℕ, suc, ◌+◌, ◌≤◌}
use native.Mathlib.Omega.{arith}
use lib.IntN.{ℤ, pos, negsuc, nat_abs}
use lib.ListN.{length}
use borrow.Author.Tests.{le-leb}
use Rattle.strlib.proofs.Refusing.{ruled_gave}
use Rattle.strlib.proofs.Pointing.{good_is, good_sized}
use Rattle.strlib.proofs.Storing.{put_length, part_put}
use Rattle.strlib.specs.Pointer.{sized, store_fits, good_in, text_of, characters, readable, all}
use Rattle.strlib.specs.Refusal.{gives, outcome, ruled}
use Rattle.strlib.specs.Store.{put}
use Rattle.strlib.specs.declared.StrPtr.{StrPtr}
use Rattle.number.proofs.Ranging.{range_mag}
use Rattle.number.proofs.Counting.{digits_few}
use Rattle.number.proofs.Writing.{written_under}
use Rattle.number.proofs.Calling.{WritePassed, write_passed}
use Rattle.number.proofs.ReadBack.{digits_say, plain_number, minus_number, are_characters}
use Rattle.number.specs.Limits.{is_base, in_range}
use Rattle.number.specs.Text.{is_number, number_of}
use Rattle.number.specs.Written.{digits, sign, written}
use Rattle.number.specs.Number.{read_refusal, read_rule, write_refusal, write_rule}
use Rattle.number.specs.RoundTrip.{RoundTrip}

-- ---- texts

texts : (base : ℕ) (z : ℤ) → is_base base ≡ true → in_range z ≡ true
    → (is_number base (written base z) ≡ true) × (number_of base (written base z) ≡ z)
unfolding written sign
texts base (pos n) g r = plain_number base (digits base n) n (digits_say base g n (omega (arith, range_mag (pos n) r)))
texts base (negsuc n) g r = minus_number base (digits base (suc n)) (suc n) (digits_say base g (suc n) (omega (arith, range_mag (negsuc n) r)))

text_characters : (base : ℕ) (z : ℤ) → is_base base ≡ true → in_range z ≡ true → characters (written base z) ≡ true
unfolding written sign characters all
text_characters base (pos n) g r = are_characters base (digits base n) n (digits_say base g n (omega (arith, range_mag (pos n) r))) g
text_characters base (negsuc n) g r =
    are_characters base (digits base (suc n)) (suc n) (digits_say base g (suc n) (omega (arith, range_mag (negsuc n) r))) g

room : (base : ℕ) (z : ℤ) → length (written base z) ≤ 37
room base z = written_under base z 36 (digits_few base (nat_abs z))

-- ---- calls

module _ (s : List ℕ) (p : StrPtr) (z : ℤ) (base : ℕ) (ok : WritePassed s p z base) where
  fits : p.start + length (written base z) ≤ length s
  fits =
      let g = good_is (length s) p ok.before.good in
      omega (arith, ok.room)

  same : length (put s p.start (written base z)) ≡ length s
  same = put_length s p.start (written base z) fits

  named : text_of (put s p.start (written base z)) (sized p (length (written base z))) ≡ written base z
  unfolding text_of sized
  named = part_put s p.start (written base z) (omega (arith, fits))

  good : good_in (length (put s p.start (written base z))) (sized p (length (written base z))) ≡ true
  good = rw same (good_sized (length s) p (length (written base z)) ok.before.good ok.room)

  read_back : read_rule (put s p.start (written base z)) (sized p (length (written base z))) base ≡ gives z
  unfolding read_rule read_refusal store_fits readable outcome
  read_back =
      let w = ok.before in
      let t = texts base z w.based w.ranged in
      rw (good, named, same, w.fits, w.based, text_characters base z w.based w.ranged, t.0, t.1, w.ranged)

returned : (s : List ℕ) (p : StrPtr) (z : ℤ) (base : ℕ) (q : StrPtr) → (write_rule s p z base).0 ≡ gives q → read_rule (write_rule s p z base).1 q base ≡ gives z
unfolding write_rule
returned s p z base q e =
    let g = ruled_gave (write_refusal s p z base) (sized p (length (written base z))) q (put s p.start (written base z)) s e in
    rw (g.1.1, ← g.1.0) (read_back s p z base (write_passed s p z base g.0))

-- whatever pointer a write returned, the number is in the range and the pointer names its text
pub write_gave : (s : List ℕ) (p : StrPtr) (z : ℤ) (base : ℕ) (q : StrPtr) → (write_rule s p z base).0 ≡ gives q
    → (in_range z ≡ true) × (text_of (write_rule s p z base).1 q ≡ written base z)
unfolding write_rule
write_gave s p z base q e =
    let g = ruled_gave (write_refusal s p z base) (sized p (length (written base z))) q (put s p.start (written base z)) s e in
    let ok : WritePassed s p z base = write_passed s p z base g.0 in
    (ok.before.ranged, rw (g.1.1, ← g.1.0) (named s p z base ok))

calls : (s : List ℕ) (p : StrPtr) (z : ℤ) (base : ℕ)
    → store_fits s ≡ true → is_base base ≡ true → good_in (length s) p ≡ true → in_range z ≡ true → length (written base z) ≤ p.maximum
    → ((write_rule s p z base).0 ≡ gives (sized p (length (written base z))))
    × (read_rule (write_rule s p z base).1 (sized p (length (written base z))) base ≡ gives z)
unfolding write_rule write_refusal ruled outcome
calls s p z base f g o r m =
    let w : (write_rule s p z base).0 ≡ gives (sized p (length (written base z))) = rw (f, g, o, r, le-leb (length (written base z)) p.maximum m) in
    (w, returned s p z base (sized p (length (written base z))) w)

pub round_trip : RoundTrip
round_trip = record { texts = texts; calls = calls; returned = returned; room = room }
