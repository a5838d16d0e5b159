-- Laws of writing a text: the digits put so far and those of the quotient make up the whole. Assumes nothing.
use mathlib.Core.Path.{◌≡◌, refl, sym, subst, ◌∙◌}
use mathlib.Core.Bool.{true, false, cond}
use mathlib.Core.List.{List, [], ◌∷◌, ◌++◌}
use Prim.Native.Nat.{ℕ, zero, suc, ◌+◌, ◌-◌, ◌/◌, ◌%◌, ◌≤◌, ◌<◌}
use native.Mathlib.Nat.{mod-lt, mod-eq_of_lt, div-le_self}
use native.Mathlib.Omega.{arith}
use lib.IntN.{ℤ, pos, negsuc, nat_abs}
use lib.ListN.{length, set, length-append, length-set}
use lib.Signed.{lt_z}
use mir.Syntax.{w64}
use mir.Val.{Fits}
use borrow.Author.Rules.{rules}
use borrow.Author.Tests.{le-ltb}
use Rattle.strlib.proofs.Storing.{set_put, put_put, put_before, put_none}
use Rattle.strlib.proofs.Pointing.{either}
use Rattle.strlib.specs.Store.{put}
use Rattle.number.proofs.Ranging.{base_is, range_mag, abs_mag}
use Rattle.number.proofs.Counting.{digits_some, digits_few, digits_one, digits_more, base_some}
use Rattle.number.specs.Limits.{is_base, in_range}
use Rattle.number.specs.Written.{digits, sign, written}
use Rattle.number.specs.Inner.{Countable, Room, TextRoom}

-- ---- digits, from the last to the first: m is the quotient so far, of which j digits are left to put

abbrev pub left : (base j m : ℕ) → List ℕ
left base zero m = []
left base (suc j) m = digits base m

pub left_all : (base n count : ℕ) → count ≡ length (digits base n) → left base count n ≡ digits base n
left_all base n zero e = absurd (omega (arith, e, digits_some base n))
left_all base n (suc k) e = refl

-- the last of them is the remainder, and those before it are left of the quotient
module _ (base : ℕ) (g : is_base base ≡ true) (m : ℕ) (h : m < 68719476736) where
  left_more : (j : ℕ) → length (digits base m) ≡ suc j → digits base m ≡ left base j (m / base) ++ ((48 + m % base) ∷ [])
  left_more zero e =
      either base m
      (λ (l : base ≤ m). absurd (omega (arith, digits_some base (m / base), (rw (digits_more base g m l h, length-append) at e))))
      (λ (l : m < base). digits_one base m l ∙ rw (mod-eq_of_lt l))
  left_more (suc j) e =
      either base m
      (λ (l : base ≤ m). digits_more base g m l h)
      (λ (l : m < base). absurd (omega (arith, (rw (digits_one base m l) at e))))

  left_count : (j : ℕ) → length (digits base m) ≡ suc j → length (left base j (m / base)) ≡ j
  left_count j e = let c : length (left base j (m / base)) + 1 ≡ suc j = (rw (left_more j e, length-append) at e) in omega arith

pub record Putting (s : List ℕ) (base n at : ℕ) (t : List ℕ) (m j : ℕ) : Type 0 where
  pub small : m < 68719476736
  pub same : length t ≡ length s
  pub room : at + j ≤ length s
  pub counted : length (left base j m) ≡ j
  pub stored : put t at (left base j m) ≡ put s at (digits base n)

module _ (s : List ℕ) (base n count at : ℕ) (k : Room base n count at (length s)) where
  pub divisor_some : 0 < base
  divisor_some = base_some base n k.able

  pub rest_small : (m : ℕ) → m % base < 10
  rest_small m = let b = base_is base k.able.based in omega (arith, mod-lt m {m = base} (omega arith))

  pub put_start : Putting s base n at s n count
  put_start =
      record {
        small = k.able.small;
        same = refl;
        room = k.room;
        counted = rw (left_all base n count k.counted) (sym k.counted);
        stored = rw (left_all base n count k.counted);
      }

  module _ (t : List ℕ) (m j : ℕ) (p : Putting s base n at t m j) where
    pub place_in : 0 < j → at + (j - 1) < length t
    place_in h = omega (arith, p.same, p.room)

    step : (i d : ℕ) → Putting s base n at t m (suc i) → d ≡ 48 + m % base → Putting s base n at (set t (at + i) d) (m / base) i
    step i d q e =
        let f = left_more base k.able.based m q.small i q.counted in
        let c = left_count base k.able.based m q.small i q.counted in
        let r : List ℕ = left base i (m / base) in
        let z : at + i < length t = omega (arith, q.same, q.room) in
        let b : put (put t (at + i) ((48 + m % base) ∷ [])) at r ≡ put t at (r ++ ((48 + m % base) ∷ [])) =
        rw c at (put_before t at r ((48 + m % base) ∷ []) (omega (arith, c, z))) in
        record {
          small = omega (arith, q.small, div-le_self m base);
          same = simp length-set q.same;
          room = omega (arith, q.room);
          counted = c;
          stored = rw (e, set_put t (at + i) (48 + m % base) z) (b ∙ (rw f at q.stored));
        }

    pub put_step : 0 < j → (d : ℕ) → d ≡ 48 + m % base → Putting s base n at (set t (at + (j - 1)) d) (m / base) (j - 1)
    put_step h d e =
        let z : j ≡ suc (j - 1) = omega (arith, h) in
        step (j - 1) d (subst (λ (i : ℕ). Putting s base n at t m i) z p) e

    pub put_end : j ≤ 0 → t ≡ put s at (digits base n)
    put_end h =
        let z : j ≡ 0 = omega (arith, h) in
        sym (put_none t at) ∙ (subst (λ (i : ℕ). Putting s base n at t m i) z p).stored

pub ruleset put_laws = (rules, divisor_some, rest_small, put_start, place_in, put_step, put_end)

-- ---- the text

-- a minus by the machine's test
pub sign_is : (z : ℤ) → sign z ≡ cond (lt_z z (pos 0)) (45 ∷ []) []
unfolding sign
sign_is (pos n) = rw (le-ltb n 0 (omega arith))
sign_is (negsuc n) = refl

-- a text is no longer than its digits and a sign
pub written_under : (base : ℕ) (z : ℤ) (n : ℕ) → length (digits base (nat_abs z)) ≤ n → length (written base z) ≤ suc n
unfolding written sign
written_under base (pos m) n h = omega arith
written_under base (negsuc m) n h = omega arith

-- z is what the machine reads back from the bits of z'

module _ (base m count : ℕ) (z z' : ℤ) (ez : z ≡ z') (em : m ≡ nat_abs z) where
  negative_is : lt_z z (pos 0) ≡ true → written base z' ≡ (45 ∷ []) ++ digits base m
  unfolding written
  negative_is t = rw (← ez, sign_is z, t, ← em)

  plain_is : lt_z z (pos 0) ≡ false → written base z' ≡ digits base m
  unfolding written
  plain_is t = rw (← ez, sign_is z, t, ← em)

  pub text_countable : is_base base ≡ true → in_range z' ≡ true → Countable base m
  text_countable g r =
      record { based = g; small = rw (em, ez) (omega (arith, abs_mag z', range_mag z' r)) }

  pub length_fits : count ≡ length (digits base m) → Fits w64 (count + 1)
  length_fits e = record { fits = omega (arith, digits_few base m) }

  pub length_negative : count ≡ length (digits base m) → lt_z z (pos 0) ≡ true → count + 1 ≡ length (written base z')
  length_negative e t = rw (negative_is t) (omega arith)

  pub length_plain : count ≡ length (digits base m) → lt_z z (pos 0) ≡ false → count ≡ length (written base z')
  length_plain e t = rw (plain_is t) e

  module _ (at size : ℕ) (k : TextRoom base z' count at size) where
    able : Countable base m
    able = text_countable k.based k.ranged

    pub room_negative : (size' : ℕ) → size' ≡ size → lt_z z (pos 0) ≡ true → Room base m (count - 1) (at + 1) size'
    room_negative size' es t =
        let c : count ≡ suc (length (digits base m)) = k.counted ∙ rw (negative_is t) in
        record { able = able; counted = omega arith; room = omega (arith, k.room) }

    pub room_plain : lt_z z (pos 0) ≡ false → Room base m count at size
    room_plain t = record { able = able; counted = k.counted ∙ rw (plain_is t); room = k.room }

  module _ (s t : List ℕ) (at : ℕ) (k : TextRoom base z' count at (length s)) where
    pub put_negative : lt_z z (pos 0) ≡ true → t ≡ put (set s at 45) (at + 1) (digits base m) → t ≡ put s at (written base z')
    put_negative n e =
        let c : count ≡ suc (length (digits base m)) = k.counted ∙ rw (negative_is n) in
        let h : at < length s = omega (arith, k.room) in
        e ∙ rw (set_put s at 45 h, negative_is n) (put_put s at (45 ∷ []) (omega arith) (digits base m))

    pub put_plain : lt_z z (pos 0) ≡ false → t ≡ put s at (digits base m) → t ≡ put s at (written base z')
    put_plain n e = e ∙ rw (plain_is n)

pub text_some : (base : ℕ) (z : ℤ) (count at size : ℕ) → TextRoom base z count at size → 1 ≤ count
unfolding written
text_some base z count at size k =
    let c : count ≡ length (sign z) + length (digits base (nat_abs z)) = k.counted ∙ length-append (sign z) (digits base (nat_abs z)) in
    omega (arith, digits_some base (nat_abs z))

pub text_front : (base : ℕ) (z : ℤ) (count at size : ℕ) → TextRoom base z count at size → at < size
text_front base z count at size k = omega (arith, k.room, text_some base z count at size k)

pub ruleset text_laws =
    (rules, text_countable, length_fits, length_negative, length_plain, room_negative, room_plain, put_negative, put_plain, text_some, text_front)
