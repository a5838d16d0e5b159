-- The digits of a number read back as the number: by induction on how many there are, the last one being the remainder.
-- Assumes nothing.
use mathlib.Core.Path.{◌≡◌, refl, ◌∙◌}
use mathlib.Core.Bool.{true, false, and-true}
use mathlib.Core.List.{List, [], ◌∷◌, ◌++◌}
use Prim.Native.Nat.{ℕ, zero, suc, ◌+◌, ◌-◌, ◌*◌, ◌/◌, ◌%◌, ◌^◌, ◌≤◌, ◌<◌}
use native.Mathlib.Nat.{div-add-mod', mod-lt}
use native.Mathlib.Omega.{arith}
use lib.Dec.{leb}
use lib.IntN.{pos, neg_ℤ}
use lib.ListN.{length, length-append}
use borrow.Author.Tests.{lt-ltb, le-leb, ne_eqb}
use Rattle.strlib.proofs.Refusing.{and_both}
use Rattle.strlib.proofs.Pointing.{either}
use Rattle.strlib.specs.Pointer.{all, characters}
use Rattle.number.proofs.Ranging.{base_is}
use Rattle.number.proofs.Reading.{digit_is}
use Rattle.number.proofs.Counting.{one_in, more_in, quotient_less}
use Rattle.number.specs.Limits.{is_base}
use Rattle.number.specs.Text.{unblanked, minus, unsigned, is_digit, are_digits, is_number, value, signed, number_of}
use Rattle.number.specs.Written.{digits_in, digits}

module _ (base : ℕ) where
  -- ds are digits, and their value is n
  pub record Say (ds : List ℕ) (n : ℕ) : Type 0 where
    pub worth : value base 0 ds ≡ n
    pub digital : all (is_digit base) ds ≡ true
    pub some : 0 < length ds

  value_last : (v : ℕ) (ds : List ℕ) (x : ℕ) → value base v (ds ++ (x ∷ [])) ≡ value base v ds * base + (x - 48)
  unfolding value
  value_last v [] x = refl
  value_last v (c ∷ cs) x = value_last (v * base + (c - 48)) cs x

  all_last : (ds : List ℕ) (x : ℕ) → all (is_digit base) ds ≡ true → is_digit base x ≡ true → all (is_digit base) (ds ++ (x ∷ [])) ≡ true
  unfolding all
  all_last [] x a d = and-true (is_digit base x) ∙ d
  all_last (c ∷ cs) x a d = let b = and_both (is_digit base c) (all (is_digit base) cs) a in rw b.0 (all_last cs x b.1 d)

  is_digit_lem : (n : ℕ) → n < base → is_digit base (48 + n) ≡ true
  unfolding is_digit
  is_digit_lem n h = rw (le-leb 48 (48 + n) (omega arith), lt-ltb (48 + n) (48 + base) (omega arith))

  say_one : (k n : ℕ) → n < base → Say (digits_in (suc k) base n) n
  unfolding value all
  say_one k n l =
      rw (one_in base k n l) (record { worth = omega arith; digital = and-true (is_digit base (48 + n)) ∙ is_digit_lem n l; some = omega arith })

  module _ (g : is_base base ≡ true) where
    say_more : (k n : ℕ) → base ≤ n → Say (digits_in k base (n / base)) (n / base) → Say (digits_in (suc k) base n) n
    say_more k n l r =
        let b = base_is base g in
        let m : n % base < base = mod-lt n (omega arith) in
        rw (more_in base k n l)
        (record {
          worth = value_last 0 (digits_in k base (n / base)) (48 + n % base) ∙ rw r.worth (omega (arith, div-add-mod' n base));
          digital = all_last (digits_in k base (n / base)) (48 + n % base) r.digital (is_digit_lem (n % base) m);
          some = rw length-append (omega arith);
        })

    say_in : (k n : ℕ) → n < 2 ^ suc k → Say (digits_in (suc k) base n) n
    say_in zero n h = say_one 0 n (omega (arith, base_is base g))
    say_in (suc k) n h =
        let r = say_in k (n / base) (quotient_less base g (suc k) n h) in
        either base n (λ (l : base ≤ n). say_more (suc k) n l r) (λ (l : n < base). say_one (suc k) n l)

    pub digits_say : (n : ℕ) → n < 68719476736 → Say (digits base n) n
    unfolding digits
    digits_say n h = say_in 35 n h

  -- digits with no sign, and behind a minus
  module _ (ds : List ℕ) (n : ℕ) (r : Say ds n) where
    are_digits_lem : are_digits base ds ≡ true
    unfolding are_digits
    are_digits_lem = rw (lt-ltb 0 (length ds) r.some, r.digital)

    plain_text : (unblanked ds ≡ ds) × (minus ds ≡ false)
    unfolding all unblanked minus
    plain_text = go ds r.digital r.some
      where
        go : (cs : List ℕ) → all (is_digit base) cs ≡ true → 0 < length cs → (unblanked cs ≡ cs) × (minus cs ≡ false)
        go [] a h = absurd (omega arith)
        go (c ∷ cs) a h =
            let d = digit_is base c (and_both (is_digit base c) (all (is_digit base) cs) a).0 in
            (rw (ne_eqb c 32 (omega arith)), ne_eqb c 45 (omega arith))

    pub plain_number : (is_number base ds ≡ true) × (number_of base ds ≡ pos n)
    unfolding is_number number_of unsigned signed
    plain_number = (rw (plain_text.0, plain_text.1) are_digits_lem, rw (plain_text.0, plain_text.1, r.worth))

    pub minus_number : (is_number base (45 ∷ ds) ≡ true) × (number_of base (45 ∷ ds) ≡ neg_ℤ (pos n))
    unfolding is_number number_of unblanked minus unsigned signed
    minus_number = (are_digits_lem, rw r.worth)

    pub are_characters : is_base base ≡ true → characters ds ≡ true
    unfolding characters all
    are_characters g = go ds r.digital
      where
        go : (cs : List ℕ) → all (is_digit base) cs ≡ true → all (λ x. leb x 127) cs ≡ true
        go [] a = refl
        go (c ∷ cs) a =
            let b = and_both (is_digit base c) (all (is_digit base) cs) a in
            let d = digit_is base c b.0 in
            let e = base_is base g in
            rw (le-leb c 127 (omega arith)) (go cs b.1)
