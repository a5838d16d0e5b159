-- Laws of reading a text: what is left of it at any turn of a loop reads as the whole does. Assumes nothing.
use Rattle.std.proofs.Common.{◌≡◌, refl, sym, ◌∙◌, Bool, true, false, cond, ◌&&◌, List, [], ◌∷◌, ℕ, suc, ◌+◌, ◌-◌, ◌*◌, ◌≤◌, ◌<◌, min, ℤ, length, take, drop, get_or, arith, nat_eq, eqb, ltb, Option, Some, None, MatchOption, unwrap_or, Result, mul-le-mul, add-one}
use Rattle.std.specs.List.{starts_with}
use Rattle.std.specs.Result.{IsErrAnd}
use Rattle.std.proofs.lemmas.Bool.{eqb-true, eqb-false}
use mathlib.Core.Bool.{and-true}
use lib.Dec.{leb}
use lib.ListN.{drop_of_length-le}
use lib.Pointwise.{pointwise}
use lib.Seq.{drop-cons}
use denote.Ref.{Bor}
use mir.Syntax.{w64}
use mir.Val.{Fits}
use borrow.Author.Rules.{rules}
use borrow.Author.Tests.{leb-true, ltb-true, le-leb, lt-leb}
use Rattle.strlib.proofs.Refusing.{bool_case, and_both}
use Rattle.strlib.proofs.Answering.{refusal_some, outcome_left, outcome_right}
use Rattle.strlib.proofs.Pointing.{leb_same}
use Rattle.strlib.specs.Pointer.{all}
use Rattle.strlib.specs.Refusal.{Outcome, gives, refusal_number, answered}
use Rattle.strlib.specs.declared.refusal.Refusal.{Refusal}
use Rattle.words.proofs.Ending.{rest_is, blanks_front}
use Rattle.words.proofs.Wording.{blanks_le}
use Rattle.words.specs.Ends.{blank_count, blanks_end}
use Rattle.number.proofs.Ranging.{base_is}
use Rattle.strlib.proofs.Answering.{cond_passed}
use Rattle.number.proofs.Holding.{held_reads}
use Rattle.number.specs.Limits.{is_base, in_range}
use Rattle.number.specs.Text.{unblanked, minus, unsigned, is_digit, are_digits, is_number, value, signed, number_of}
use Rattle.number.specs.Inner.{reads}

-- ---- blanks and the minus

behind_blanks : (s : List ℕ) → drop (blank_count s) s ≡ unblanked s
unfolding unblanked blank_count
behind_blanks [] = refl
behind_blanks (c ∷ cs) = bool_case (eqb c 32) (λ e. rw e (behind_blanks cs)) (λ e. rw e)

module _ (s : List ℕ) (n : ℕ) (e : n ≡ blanks_end s 0) where
  pub blanks_in : n ≤ length s
  blanks_in = omega (arith, e ∙ blanks_front s, blanks_le s)

  pub blanks_behind : take (length s - n) (drop n s) ≡ unblanked s
  blanks_behind = rest_is s n ∙ rw (e, blanks_front s) (behind_blanks s)

eqb_turned : (a b : ℕ) → eqb a b ≡ eqb b a
eqb_turned a b = bool_case (eqb a b) (λ e. rw (eqb-true a b e)) (λ e. bool_case (eqb b a) (λ f. absurd (eqb-false a b e (sym (eqb-true b a f)))) (λ f. e ∙ sym f))

-- a text's first character beside a minus, as `starts_with` and as `strip_prefix` put it
front_is : (s : List ℕ) → pointwise nat_eq (take 1 s) (45 ∷ []) ≡ minus s
unfolding minus
front_is [] = refl
front_is (c ∷ cs) = simp and-true

pub minus_is : (s : List ℕ) → starts_with nat_eq s (45 ∷ []) ≡ minus s
unfolding minus
minus_is [] = refl
minus_is (c ∷ cs) = simp and-true (eqb_turned 45 c)

pub unsigned_is : (s : List ℕ) (r : Option (Bor (List ℕ))) (t : Bor (List ℕ)) (P : Bor (List ℕ) → Type 0) → t.now ≡ s
    → MatchOption r (pointwise nat_eq (take 1 s) (45 ∷ []) ≡ false) (λ x. (pointwise nat_eq (take 1 s) (45 ∷ []) ≡ true) × (x.now ≡ drop 1 s) × P x)
    → (unwrap_or r t).now ≡ unsigned s
unfolding unsigned
unsigned_is s None t P e m = rw (← front_is s, m) e
unsigned_is s (Some x) t P e m = rw (← front_is s, m.0) m.1

pub ruleset blank_laws = (rules, blanks_in, blanks_behind)

-- ---- one digit

pub digit_low : (base c : ℕ) → c < 48 → leb 48 c ≡ is_digit base c
unfolding is_digit
digit_low base c h = simp (lt-leb 48 c h)

pub digit_high : (base c : ℕ) → 48 ≤ c → ltb (c - 48) base ≡ is_digit base c
unfolding is_digit
digit_high base c h = simp (le-leb 48 c h) (leb_same (suc (c - 48)) base (suc c) (48 + base) (λ k. omega arith) (λ k. omega arith))

module _ (base c : ℕ) (d : is_digit base c ≡ true) where
  pub digit_is : (48 ≤ c) × (c < 48 + base)
  unfolding is_digit
  digit_is = let b = and_both (leb 48 c) (ltb c (48 + base)) d in (leb-true 48 c b.0, ltb-true c (48 + base) b.1)

  pub digit_least : 48 ≤ c
  digit_least = digit_is.0

  module _ (v : ℕ) (e : is_base base ≡ true) (h : v ≤ 68719476736) where
    pub product_fits : Fits w64 (v * base)
    product_fits = record { fits = omega (arith, mul-le-mul h (base_is base e).1) }

    pub next_fits : Fits w64 (v * base + (c - 48))
    next_fits = record { fits = omega (arith, mul-le-mul h (base_is base e).1, digit_is, base_is base e) }

pub ruleset digit_laws = (rules, digit_low, digit_high, digit_least, product_fits, next_fits)

-- ---- digit by digit

-- a check that leaves with 7 refuses a text of which it tests a part
unformed : (r : Result ℤ Refusal) (f : Refusal) → IsErrAnd r (λ x. x ≡ f) → (a b : Bool) (z : ℤ) → refusal_number f ≡ cond a 0 7 → answered r ≡ reads (a && b) z
unfolding reads
unformed r f p true b z h = absurd (refusal_some f h)
unformed r f p false b z h = outcome_left r f p 7 h z

-- z is what the machine reads back from the bits of z'
module _ (z z' : ℤ) (b : Bool) (ez : z ≡ z') (e : b ≡ in_range z) where
  pub range_given : ◌≡◌ {A = ℕ} 0 (cond b 0 8) → gives z ≡ reads true z'
  unfolding reads
  range_given h = outcome_right (cond (in_range z') 0 8) z z' (h ∙ rw (e, ez)) ez

  pub range_refused : (r : Result ℤ Refusal) (f : Refusal) → IsErrAnd r (λ x. x ≡ f) → refusal_number f ≡ cond b 0 8 → answered r ≡ reads true z'
  unfolding reads
  range_refused r f p h = outcome_left r f p (cond (in_range z') 0 8) (h ∙ rw (e, ez)) z'

module _ (neg : Bool) (base : ℕ) (s : List ℕ) where
  pub digits_none : (r : Result ℤ Refusal) (f : Refusal) → IsErrAnd r (λ x. x ≡ f) → refusal_number f ≡ cond (ltb 0 (length s)) 0 7
      → answered r ≡ reads (are_digits base s) (signed neg (value base 0 s))
  unfolding are_digits
  digits_none r f p h = unformed r f p (ltb 0 (length s)) (all (is_digit base) s) (signed neg (value base 0 s)) h

  pub digits_start : ◌≡◌ {A = ℕ} 0 (cond (ltb 0 (length s)) 0 7) → reads (all (is_digit base) s) (signed neg (value base 0 s)) ≡ reads (are_digits base s) (signed neg (value base 0 s))
  unfolding are_digits
  digits_start h = rw (cond_passed (ltb 0 (length s)) 6 h)

  module _ (v i : ℕ) (r : Outcome ℤ) (e : reads (all (is_digit base) (drop i s)) (signed neg (value base v (drop i s))) ≡ r) where
    pub digits_step : (w : ℕ) (b : Bool) → is_base base ≡ true → i < length s → b ≡ is_digit base (get_or s i 0) → b ≡ true
        → w ≡ min (v * base + (get_or s i 0 - 48)) 68719476736
        → reads (all (is_digit base) (drop (i + 1) s)) (signed neg (value base w (drop (i + 1) s))) ≡ r
    unfolding all value
    digits_step w b g h d t n =
        rw (add-one, n) (held_reads (all (is_digit base) (drop (suc i) s)) neg base (v * base + (get_or s i 0 - 48)) (drop (suc i) s) (omega (arith, base_is base g)))
        ∙ (rw (drop-cons s i 0 h, ← d, t) at e)

    pub digits_stop : (a : Result ℤ Refusal) (f : Refusal) → IsErrAnd a (λ x. x ≡ f) → (b : Bool) → i < length s → b ≡ is_digit base (get_or s i 0)
        → refusal_number f ≡ cond b 0 7 → answered a ≡ r
    unfolding all
    digits_stop a f p b h d n =
        unformed a f p (is_digit base (get_or s i 0)) (all (is_digit base) (drop (suc i) s)) (signed neg (value base v (get_or s i 0 ∷ drop (suc i) s))) (n ∙ rw d)
        ∙ (rw (drop-cons s i 0 h) at e)

    pub digits_end : (z z' : ℤ) (a : Outcome ℤ) → length s ≤ i → z ≡ signed neg v → z' ≡ z → a ≡ reads true z' → a ≡ r
    unfolding all value
    digits_end z z' a h ez ez' ea = ea ∙ rw (ez', ez) (rw (drop_of_length-le s h) at e)

pub ruleset digits_laws = (rules, range_given, range_refused, digits_none, digits_start, digits_step, digits_stop, digits_end)

-- ---- the text

pub text_reads : (base : ℕ) (s t ds : List ℕ) (b : Bool) (a : Outcome ℤ) → t ≡ unblanked s → b ≡ minus t → ds ≡ unsigned t
    → a ≡ reads (are_digits base ds) (signed b (value base 0 ds)) → a ≡ reads (is_number base s) (number_of base s)
unfolding is_number number_of
text_reads base s t ds b a et eb ed h = h ∙ rw (ed, eb, et)

pub ruleset text_laws = (rules, text_reads)
