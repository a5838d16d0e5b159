-- What the writers do to each bit: the digits of `bit_or`, `bit_and` and of a complement follow digit by digit, and the
-- blocks word by word. Assumes nothing.
use Prim.Native.Nat.{ℕ, zero, suc, ◌-◌, ◌*◌, ◌/◌, ◌%◌, ◌^◌, ◌≤◌, ◌<◌, min, max}
use mathlib.Core.Path.{◌≡◌, refl, sym, ap, ◌∙◌}
use mathlib.Core.Bool.{Bool, true, false, cond, ◌||◌, true≢false, false≢true}
use mathlib.Core.List.{List, [], ◌∷◌}
use native.Mathlib.Nat.{pow-suc}
use native.Mathlib.Omega.{arith}
use lib.Arith.{bin_ind}
use lib.Bits.{bit_and, bit_or, and_step, or_step}
use lib.Dec.{eqb, ltb}
use lib.ListN.{length, get_or, set, length-set}
use lib.Seq.{lt-length-set, get_or-set_same, get_or-set_other}
use borrow.Author.Tests.{eqb-true, eqb-false, eq-eqb, ltb-true, ltb-false}
use Rattle.strlib.proofs.Pointing.{either}
use Rattle.strlib.proofs.Refusing.{bool_case, ruled_gave}
use Rattle.strlib.specs.Pointer.{text_of}
use Rattle.strlib.specs.Refusal.{gives}
use Rattle.strlib.specs.declared.StrPtr.{StrPtr}
use Rattle.charset.specs.Bits.{bit, among, Turns, TurnsBits, TabledBits}
use Rattle.charset.specs.Rule.{block_refusal, tables_rule, set_refusal, characters_rule}
use Rattle.charset.specs.Sets.{mask_fits, turned, turned_all, turned_at, in_tables}
use Rattle.charset.proofs.Answering.{block_passed, set_passed}

-- ---- digits

bit_or_lem : (b w m : ℕ) → bit b (bit_or w m) ≡ max (bit b w) (bit b m)
bit_or_lem zero w m = omega (arith, or_step w m)
bit_or_lem (suc b) w m =
    let e : bit_or w m / 2 ≡ bit_or (w / 2) (m / 2) = omega (arith, or_step w m) in
    rw e (bit_or_lem b (w / 2) (m / 2))

bit_and_lem : (b w m : ℕ) → bit b (bit_and w m) ≡ min (bit b w) (bit b m)
bit_and_lem zero w m = omega (arith, and_step w m)
bit_and_lem (suc b) w m =
    let e : bit_and w m / 2 ≡ bit_and (w / 2) (m / 2) = omega (arith, and_step w m) in
    rw e (bit_and_lem b (w / 2) (m / 2))

bit_not : (b n m : ℕ) → b < n → m < 2 ^ n → bit b (2 ^ n - 1 - m) ≡ 1 - bit b m
bit_not b zero m h k = absurd (omega arith)
bit_not zero (suc n) m h k = let p : 2 ^ suc n ≡ 2 ^ n * 2 = pow-suc 2 n in omega arith
bit_not (suc b) (suc n) m h k =
    let p : 2 ^ suc n ≡ 2 ^ n * 2 = pow-suc 2 n in
    let e : (2 ^ suc n - 1 - m) / 2 ≡ 2 ^ n - 1 - m / 2 = omega arith in
    rw e (bit_not b n (m / 2) (omega arith) (omega arith))

bit_small : (b n m : ℕ) → n ≤ b → m < 2 ^ n → bit b m ≡ 0
bit_small zero zero m h k = omega arith
bit_small zero (suc n) m h k = absurd (omega arith)
bit_small (suc b) zero m h k = bit_small b zero (m / 2) (omega arith) (omega arith)
bit_small (suc b) (suc n) m h k = let p : 2 ^ suc n ≡ 2 ^ n * 2 = pow-suc 2 n in bit_small b n (m / 2) (omega arith) (omega arith)

bit_le : (b m : ℕ) → bit b m ≤ 1
bit_le zero m = omega arith
bit_le (suc b) m = bit_le b (m / 2)

-- a number over 0 has a bit that is 1
some_bit : (n : ℕ) → 0 < n → (b : ℕ) × (bit b n ≡ 1)
some_bit =
    bin_ind (λ (n : ℕ). 0 < n → (b : ℕ) × (bit b n ≡ 1)) (λ h. absurd (omega arith))
    (λ n ih h. bool_case (eqb (n % 2) 1)
    (λ e. (0, eqb-true (n % 2) 1 e))
    (λ e. let d : n % 2 ≡ 1 → ⊥ = eqb-false (n % 2) 1 e in let r = ih (half n d h) in (suc r.0, r.1)))
  where
    half : (n : ℕ) → (n % 2 ≡ 1 → ⊥) → 0 < n → 0 < n / 2
    half n d h = omega arith

-- ---- two tests of which one holds

neither_left : (x c : ℕ) (b : Bool) → (eqb x c || b) ≡ false → x ≡ c → ⊥
neither_left x c b e q = true≢false (sym (ap (λ (a : Bool). a || b) (eq-eqb x c q)) ∙ e)

neither_right : (a b : Bool) → (a || b) ≡ false → b ≡ false
neither_right true b e = absurd (true≢false e)
neither_right false b e = e

only_left : (a b : Bool) → (a || b) ≡ true → b ≡ false → a ≡ true
only_left true b e f = refl
only_left false b e f = absurd (true≢false (sym e ∙ f))

-- ---- a word

module _ (on : Bool) (mask : ℕ) (small : mask < 2 ^ 64) where
  word_masked : (w b : ℕ) → b < 64 → bit b mask ≡ 1 → bit b (turned on mask w) ≡ cond on 1 0
  unfolding turned
  word_masked w b h e = go on
    where
      go : (o : Bool) → bit b (turned o mask w) ≡ cond o 1 0
      go true = bit_or_lem b w mask ∙ omega (arith, bit_le b w)
      go false = bit_and_lem b w (2 ^ 64 - 1 - mask) ∙ omega (arith, bit_not b 64 mask h small)

  word_unmasked : (w b : ℕ) → b < 64 → bit b mask ≡ 0 → bit b (turned on mask w) ≡ bit b w
  unfolding turned
  word_unmasked w b h e = go on
    where
      go : (o : Bool) → bit b (turned o mask w) ≡ bit b w
      go true = bit_or_lem b w mask ∙ omega arith
      go false = bit_and_lem b w (2 ^ 64 - 1 - mask) ∙ omega (arith, bit_not b 64 mask h small, bit_le b w)

  -- ---- a block

  set_unmasked : (block : List ℕ) (x c b : ℕ) → b < 64 → bit b mask ≡ 0 → bit b (get_or (set block x (turned on mask (get_or block x 0))) c 0) ≡ bit b (get_or block c 0)
  set_unmasked [] x c b h e = refl
  set_unmasked (w ∷ ws) zero zero b h e = word_unmasked w b h e
  set_unmasked (w ∷ ws) zero (suc c) b h e = refl
  set_unmasked (w ∷ ws) (suc x) zero b h e = refl
  set_unmasked (w ∷ ws) (suc x) (suc c) b h e = set_unmasked ws x c b h e

  all_length : (block : List ℕ) → length (turned_all on mask block) ≡ length block
  unfolding turned_all
  all_length [] = refl
  all_length (w ∷ ws) = ap suc (all_length ws)

  all_masked : (block : List ℕ) (c b : ℕ) → c < length block → b < 64 → bit b mask ≡ 1 → bit b (get_or (turned_all on mask block) c 0) ≡ cond on 1 0
  unfolding turned_all
  all_masked [] c b l h e = absurd (omega arith)
  all_masked (w ∷ ws) zero b l h e = word_masked w b h e
  all_masked (w ∷ ws) (suc c) b l h e = all_masked ws c b (omega arith) h e

  all_unmasked : (block : List ℕ) (c b : ℕ) → b < 64 → bit b mask ≡ 0 → bit b (get_or (turned_all on mask block) c 0) ≡ bit b (get_or block c 0)
  unfolding turned_all
  all_unmasked [] c b h e = refl
  all_unmasked (w ∷ ws) zero b h e = word_unmasked w b h e
  all_unmasked (w ∷ ws) (suc c) b h e = all_unmasked ws c b h e

  at_length : (xs block : List ℕ) → length (turned_at on mask xs block) ≡ length block
  unfolding turned_at
  at_length [] block = refl
  at_length (x ∷ xs) block = at_length xs (set block x (turned on mask (get_or block x 0))) ∙ length-set block x (turned on mask (get_or block x 0))

  at_unmasked : (xs block : List ℕ) (c b : ℕ) → b < 64 → bit b mask ≡ 0 → bit b (get_or (turned_at on mask xs block) c 0) ≡ bit b (get_or block c 0)
  unfolding turned_at
  at_unmasked [] block c b h e = refl
  at_unmasked (x ∷ xs) block c b h e =
      at_unmasked xs (set block x (turned on mask (get_or block x 0))) c b h e ∙ set_unmasked block x c b h e

  at_others : (xs block : List ℕ) (c : ℕ) → among xs c ≡ false → get_or (turned_at on mask xs block) c 0 ≡ get_or block c 0
  unfolding turned_at among
  at_others [] block c e = refl
  at_others (x ∷ xs) block c e =
      let n : c ≡ x → ⊥ = λ q. neither_left x c (among xs c) e (sym q) in
      at_others xs (set block x (turned on mask (get_or block x 0))) c (neither_right (eqb x c) (among xs c) e)
      ∙ get_or-set_other block x c (turned on mask (get_or block x 0)) 0 n

  at_masked : (xs block : List ℕ) (c b : ℕ) → c < length block → among xs c ≡ true → b < 64 → bit b mask ≡ 1 → bit b (get_or (turned_at on mask xs block) c 0) ≡ cond on 1 0
  unfolding turned_at among
  at_masked [] block c b l m h e = absurd (false≢true m)
  at_masked (x ∷ xs) block c b l m h e =
      let v : ℕ = turned on mask (get_or block x 0) in
      bool_case (among xs c)
      (λ (a : among xs c ≡ true). at_masked xs (set block x v) c b (lt-length-set block x v l) a h e)
      (λ (a : among xs c ≡ false).
      let q : x ≡ c = eqb-true x c (only_left (eqb x c) (among xs c) m a) in
      ap (bit b) (at_others xs (set block x v) c a ∙ rw (← q) (get_or-set_same block x v 0 (omega arith))) ∙ word_masked (get_or block x 0) b h e)

-- ---- the calls

-- a mask under 2^36 has none of the bits from 36 on
high_bits : (mask b : ℕ) → mask_fits mask ≡ true → 36 ≤ b → bit b mask ≡ 0
unfolding mask_fits
high_bits mask b e h = bit_small b 36 mask h (ltb-true mask (2 ^ 36) e)

mask_small : (mask : ℕ) → mask_fits mask ≡ true → mask < 2 ^ 64
unfolding mask_fits
mask_small mask e = omega (arith, ltb-true mask (2 ^ 36) e)

tables_turn : (on : Bool) (block : List ℕ) (mask : ℕ) → (tables_rule on block mask).0 ≡ gives tt → Turns on mask (λ c. true) block (tables_rule on block mask).1
unfolding tables_rule
tables_turn on block mask e =
    let g = ruled_gave (block_refusal block mask) tt tt (turned_all on mask block) block e in
    let m : mask_fits mask ≡ true = (block_passed block mask g.0).tables in
    let s : mask < 2 ^ 64 = mask_small mask m in
    rw g.1.1
    (record {
      size = all_length on mask s block;
      masked = λ c b l y h q. all_masked on mask s block c b l h q;
      unmasked = λ c b h q. all_unmasked on mask s block c b h q;
      high = λ c b k h. all_unmasked on mask s block c b h (high_bits mask b m k);
      others = λ c y. absurd (true≢false y);
    })

characters_turn : (on : Bool) (s : List ℕ) (p : StrPtr) (block : List ℕ) (mask : ℕ) → (characters_rule on s p block mask).0 ≡ gives tt
    → Turns on mask (among (text_of s p)) block (characters_rule on s p block mask).1
unfolding characters_rule
characters_turn on s p block mask e =
    let xs : List ℕ = text_of s p in
    let g = ruled_gave (set_refusal s p block mask) tt tt (turned_at on mask xs block) block e in
    let m : mask_fits mask ≡ true = (set_passed s p block mask g.0).tables in
    let k : mask < 2 ^ 64 = mask_small mask m in
    rw g.1.1
    (record {
      size = at_length on mask k xs block;
      masked = λ c b l y h q. at_masked on mask k xs block c b l y h q;
      unmasked = λ c b h q. at_unmasked on mask k xs block c b h q;
      high = λ c b j h. at_unmasked on mask k xs block c b h (high_bits mask b m j);
      others = λ c y. at_others on mask k xs block c y;
    })

-- ---- the test of the search

pub tabled_bits : TabledBits
unfolding in_tables mask_fits
tabled_bits block mask x fits =
    let w : ℕ = get_or block x 0 in
    record {
      is_tabled = λ e.
          let r = some_bit (bit_and w mask) (ltb-true 0 (bit_and w mask) e) in
          let a : min (bit r.0 w) (bit r.0 mask) ≡ 1 = sym (bit_and_lem r.0 w mask) ∙ r.1 in
          let m : bit r.0 mask ≡ 1 = omega (arith, bit_le r.0 mask, bit_le r.0 w) in
          record {
            table = r.0;
            small = either 36 r.0
                (λ (h : 36 ≤ r.0). absurd (omega (arith, bit_small r.0 36 mask h (ltb-true mask (2 ^ 36) fits))))
                (λ (h : r.0 < 36). h);
            named = m;
            has = omega (arith, bit_le r.0 w);
          };
      tabled_is = λ t.
          let a : bit t.table (bit_and w mask) ≡ 1 = bit_and_lem t.table w mask ∙ omega (arith, t.named, t.has) in
          bool_case (ltb 0 (bit_and w mask)) (λ e. e)
          (λ e.
          let z : bit_and w mask ≡ 0 = omega (arith, ltb-false 0 (bit_and w mask) e) in
          absurd (omega (arith, rw z at a, bit_small t.table 0 0 (omega arith) (omega arith))));
    }

pub turns_bits : TurnsBits
turns_bits on s p block mask = record { tables = tables_turn on block mask; characters = characters_turn on s p block mask }
