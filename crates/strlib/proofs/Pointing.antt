-- Laws of one pointer: the tests of the code are those of the definitions. Assumes nothing.
use mathlib.Core.Path.{◌≡◌, refl, sym, ◌∙◌}
use mathlib.Core.Bool.{Bool, true, false, ◌&&◌, and-true, and-false, and_assoc}
use mathlib.Core.List.{List}
use Prim.Native.Nat.{ℕ, suc, ◌+◌, ◌-◌, ◌≤◌, ◌<◌, min, max}
use native.Mathlib.Nat.{sub_self}
use native.Mathlib.Numerals.{add-one}
use native.Mathlib.Omega.{arith}
use lib.Dec.{leb}
use lib.ListN.{length, get_or, take, drop, length-take, length-drop, drop_of_length-le}
use lib.Seq.{drop-cons, take_all, take-nil}
use borrow.Author.Rules.{rules}
use borrow.Author.Tests.{leb-true, leb-false, le-leb, lt-leb}
use Rattle.strlib.proofs.Refusing.{and_both}
use Rattle.strlib.specs.Pointer.{pointer, store_fits, within, good_in, sized, part_of, text_of, all, characters, readable, apart}
use Rattle.strlib.specs.Refusal.{also}
use Rattle.strlib.specs.declared.StrPtr.{StrPtr}

-- two tests that hold together are equal
pub leb_same : (a b c d : ℕ) → (a ≤ b → c ≤ d) → (b < a → d < c) → leb a b ≡ leb c d
leb_same a b c d f g = go (leb a b) refl
  where
    go : (t : Bool) → leb a b ≡ t → leb a b ≡ leb c d
    go true e = e ∙ sym (le-leb c d (f (leb-true a b e)))
    go false e = e ∙ sym (lt-leb c d (g (leb-false a b e)))

-- either order of two numbers
pub either : {X : Type 0} (m n : ℕ) → (m ≤ n → X) → (n < m → X) → X
either {X} m n f g = go (leb m n) refl
  where
    go : (b : Bool) → leb m n ≡ b → X
    go true e = f (leb-true m n e)
    go false e = g (leb-false m n e)

-- ---- the store

pub fits_is : (s : List ℕ) → store_fits s ≡ true → length s ≤ 65536
unfolding store_fits
fits_is s e = leb-true (length s) 65536 e

-- ---- bytes within a store

module _ (size a n : ℕ) where
  pub within_over : size < n → false ≡ within size a n
  within_over h = sym (lt-leb (a + n) size (omega arith))

  pub within_last : n ≤ size → leb a (size - n) ≡ within size a n
  within_last h = leb_same a (size - n) (a + n) size (λ z. omega arith) (λ z. omega arith)

  pub within_is : within size a n ≡ true → a + n ≤ size
  within_is e = leb-true (a + n) size e

  pub within_so : (b : Bool) → b ≡ within size a n → b ≡ true → a + n ≤ size
  within_so b e f = within_is (sym e ∙ f)

  pub is_within : a + n ≤ size → within size a n ≡ true
  is_within h = le-leb (a + n) size h

-- ---- good pointers

pub good_is : (n : ℕ) (p : StrPtr) → good_in n p ≡ true → (p.length ≤ p.maximum) × (p.start + p.maximum ≤ n)
unfolding good_in
good_is n p e = let b = and_both (leb p.length p.maximum) (within n p.start p.maximum) e in (leb-true _ _ b.0, within_is _ _ _ b.1)

pub is_good : (n : ℕ) (p : StrPtr) → p.length ≤ p.maximum → p.start + p.maximum ≤ n → good_in n p ≡ true
unfolding good_in
is_good n p h k = rw (le-leb _ _ h, is_within n p.start p.maximum k)

-- the same room with another length
pub good_sized : (n : ℕ) (p : StrPtr) (l : ℕ) → good_in n p ≡ true → l ≤ p.maximum → good_in n (sized p l) ≡ true
unfolding sized
good_sized n p l e h = is_good n (sized p l) h (good_is n p e).1

-- a part whose room ends no later
pub good_part : (n : ℕ) (p : StrPtr) (skip l m : ℕ) → good_in n p ≡ true → l ≤ m → skip + m ≤ p.maximum → good_in n (part_of p skip l m) ≡ true
unfolding part_of
good_part n p skip l m e h k = is_good n (part_of p skip l m) h (omega (arith, (good_is n p e).1))

pub text_length : (s : List ℕ) (p : StrPtr) → good_in (length s) p ≡ true → length (text_of s p) ≡ p.length
unfolding text_of
text_length s p e = simp (length-take, length-drop) (omega (arith, good_is (length s) p e))

-- a string at the store's front
pub text_front : (s : List ℕ) (n m : ℕ) → text_of s (pointer 0 n m) ≡ take n s
unfolding text_of pointer
text_front s n m = refl

module _ (n : ℕ) (p : StrPtr) where
  pub good_short : p.maximum < p.length → false ≡ good_in n p
  unfolding good_in
  good_short h = simp (lt-leb _ _ h)

  pub good_rest : (b : Bool) → p.length ≤ p.maximum → b ≡ within n p.start p.maximum → b ≡ good_in n p
  unfolding good_in
  good_rest b h e = e ∙ sym (rw (le-leb _ _ h))

-- ---- bytes that share nothing

module _ (a m b n : ℕ) where
  pub apart_none_a : b < a → m ≡ 0 → true ≡ apart a m b n
  unfolding apart
  apart_none_a h k = sym (le-leb (min (a + m) (b + n)) (max a b) (omega arith))

  pub apart_behind : b < a → (m ≡ 0 → ⊥) → leb n (a - b) ≡ apart a m b n
  unfolding apart
  apart_behind h k = leb_same n (a - b) (min (a + m) (b + n)) (max a b) (λ z. omega arith) (λ z. omega arith)

  pub apart_none_b : a ≤ b → n ≡ 0 → true ≡ apart a m b n
  unfolding apart
  apart_none_b h k = sym (le-leb (min (a + m) (b + n)) (max a b) (omega arith))

  pub apart_before : a ≤ b → (n ≡ 0 → ⊥) → leb m (b - a) ≡ apart a m b n
  unfolding apart
  apart_before h k = leb_same m (b - a) (min (a + m) (b + n)) (max a b) (λ z. omega arith) (λ z. omega arith)

-- ---- the characters of a string

leb_max : (a b n : ℕ) → leb (max a b) n ≡ (leb a n && leb b n)
leb_max a b n =
    either b n (λ h. leb_same (max a b) n a n (λ z. omega arith) (λ z. omega arith) ∙ sym (rw (le-leb b n h, and-true)))
    (λ h. lt-leb (max a b) n (omega arith) ∙ sym (rw (lt-leb b n h, and-false)))

-- bytes of which the greatest is g, and then xs, are all characters
unfoldable pub characters_with : ℕ → List ℕ → Bool
characters_with g xs = leb g 127 && characters xs

pub characters_start : (s : List ℕ) → characters s ≡ characters_with 0 (drop 0 s)
unfolding characters_with
characters_start s = refl

module _ (s : List ℕ) (i g : ℕ) (e : characters s ≡ characters_with g (drop i s)) where
  pub characters_step : i < length s → (m : ℕ) → m ≡ max g (get_or s i 0) → characters s ≡ characters_with m (drop (i + 1) s)
  unfolding characters_with characters all
  characters_step h m d = e ∙ rw (add-one, drop-cons s i 0 h, d, leb_max g (get_or s i 0) 127) (sym (and_assoc (leb g 127) (leb (get_or s i 0) 127) (characters (drop (suc i) s))))

  pub characters_end : length s ≤ i → leb g 127 ≡ characters s
  unfolding characters_with characters all
  characters_end k = sym (e ∙ rw (drop_of_length-le s k, and-true))

module _ (s : List ℕ) (p : StrPtr) where
  pub text_past : length s < p.start → take (length s - length s) (drop (length s) s) ≡ text_of s p
  unfolding text_of
  text_past h = let k : length s ≤ p.start = omega arith in rw (sub_self, drop_of_length-le s k, take-nil)

  pub text_over : length s - p.start < p.length → take (length s - p.start) (drop p.start s) ≡ text_of s p
  unfolding text_of
  text_over h =
      take_all (length s - p.start) (drop p.start s) (simp length-drop (omega arith))
      ∙ sym (take_all p.length (drop p.start s) (simp length-drop (omega arith)))

  pub text_in : take (p.start + p.length - p.start) (drop p.start s) ≡ text_of s p
  unfolding text_of
  text_in = let e : p.start + p.length - p.start ≡ p.length = omega arith in rw e

-- the characters of a string, read
pub readable_is : (s : List ℕ) (p : StrPtr) (t : List ℕ) (b : Bool) → b ≡ characters t → t ≡ text_of s p → b ≡ readable s p
unfolding readable
readable_is s p t b e f = e ∙ rw f

pub also_readable : (s : List ℕ) (p : StrPtr) (t : List ℕ) (r k : ℕ) → r ≡ also k 2 (characters t) → t ≡ text_of s p → r ≡ also k 2 (readable s p)
unfolding readable
also_readable s p t r k e f = e ∙ rw f

pub ruleset within_laws = (rules, within_over, within_last)

pub ruleset good_laws = (rules, good_short, good_rest)

pub ruleset readable_laws = (rules, readable_is, also_readable)

pub ruleset apart_laws = (rules, apart_none_a, apart_behind, apart_none_b, apart_before)

pub ruleset text_laws = (rules, text_past, text_over, text_in, characters_start, characters_step, characters_end)
