-- Laws of a text beside blanks, and of the longer text's tail. Assumes nothing.
use mathlib.Core.Path.{◌≡◌, refl, sym, ◌∙◌}
use mathlib.Core.Bool.{true}
use mathlib.Core.List.{List, []}
use Prim.Native.Nat.{ℕ, zero, suc, ◌+◌, ◌-◌, ◌*◌, ◌^◌, ◌≤◌, ◌<◌, max}
use native.Mathlib.Nat.{le_refl}
use native.Mathlib.Omega.{arith}
use lib.IntN.{ℤ, pos}
use lib.ListN.{length, get_or}
use mir.Syntax.{w64}
use mir.Val.{Fits}
use borrow.Author.Rules.{rules}
use Rattle.strlib.proofs.Texts.{character_at}
use Rattle.strlib.specs.Pointer.{characters}
use Rattle.compare.specs.Order.{order_z}
use Rattle.compare.specs.Compare.{translates, order_at, unequal_from}
use Rattle.compare.specs.Inner.{Paired, Ended}
use Rattle.compare.proofs.Extending.{extent, unequal_turned}
use Rattle.compare.proofs.Ordering.{order_plain, equal_plain, plain_equal}
use Rattle.compare.proofs.Pairing.{FirstFrom, first_from, first_of, cut, cut_length, cut_at, unequal_is, padded_in, padded_past}

-- beside a text that has ended, the empty one included
past_end : (xs ys : List ℕ) (t : ℤ) (j : ℕ) → length ys ≤ j → order_at xs ys t j ≡ order_z (pos (get_or xs j 32)) (pos 32)
past_end xs ys t j h = extent.past xs ys t j (omega arith) ∙ rw (sym (padded_past ys j 32 h))

module _ (z : List ℕ) (i : ℕ) where
  pub blanks_none : length z ≤ i → i ≡ unequal_from z [] (pos 0) i (length z - i)
  unfolding unequal_from
  blanks_none h = let k : length z - i ≡ 0 = omega arith in rw k

  pub blanks_no : i < length z → (get_or z i 0 ≡ 32 → ⊥) → i ≡ unequal_from z [] (pos 0) i (length z - i)
  blanks_no h e =
      unequal_is z [] (pos 0) i (length z - i) i
      (record {
        from = omega arith;
        within = omega arith;
        equal = λ j k l. omega arith;
        unequal = λ k o. e (padded_in z i h ∙ equal_plain (get_or z i 32) 32 (sym (past_end z [] (pos 0) i (omega arith)) ∙ o));
      })

  -- the text beside itself, one place on: behind a blank, each that is equal to the one before it is a blank
  module _ (h : i < length z) (b : get_or z i 0 ≡ 32) (n u : ℕ) (e : n ≡ length z - (i + 1)) (f : u ≡ unequal_from (cut z (i + 1) (length z)) (cut z i (length z)) (pos 0) 0 n) where
    whole_blanks : FirstFrom (cut z (i + 1) (length z)) (cut z i (length z)) (pos 0) 0 n u
    whole_blanks = rw (← f) at (first_of (cut z (i + 1) (length z)) (cut z i (length z)) (pos 0) n)

    beside : (k : ℕ) → k < n → order_at (cut z (i + 1) (length z)) (cut z i (length z)) (pos 0) k ≡ order_z (pos (get_or z (i + 1 + k) 32)) (pos (get_or z (i + k) 32))
    beside k l =
        extent.inside (cut z (i + 1) (length z)) (cut z i (length z)) (pos 0) k (omega (arith, cut_length z (i + 1) (length z) (le_refl (length z)))) (omega (arith, cut_length z i (length z) (le_refl (length z))))
        ∙ rw (cut_at z (i + 1) (length z) k 32 (omega arith), cut_at z i (length z) k 32 (omega arith)) (sym (order_plain (get_or z (i + 1 + k) 32) (get_or z (i + k) 32)))

    all_blanks : (k : ℕ) → k ≤ u → get_or z (i + k) 32 ≡ 32
    all_blanks zero l = let s : i + 0 ≡ i = omega arith in rw s (sym (padded_in z i h) ∙ b)
    all_blanks (suc k) l =
        let m : k < n = omega (arith, whole_blanks.within) in
        let s : i + suc k ≡ i + 1 + k = omega arith in
        rw s (equal_plain _ _ (sym (beside k m) ∙ whole_blanks.equal k (omega arith) (omega arith)) ∙ all_blanks k (omega arith))

    pub blanks_on : i + 1 + u ≡ unequal_from z [] (pos 0) i (length z - i)
    blanks_on =
        unequal_is z [] (pos 0) i (length z - i) (i + 1 + u)
        (record {
          from = omega arith;
          within = omega (arith, whole_blanks.within);
          equal = λ j k l.
              let s : i + (j - i) ≡ j = omega arith in
              past_end z [] (pos 0) j (omega arith) ∙ plain_equal (get_or z j 32) 32 (rw s at (all_blanks (j - i) (omega arith)));
          unequal = λ k o.
              let m : u < n = omega arith in
              whole_blanks.unequal m
              (beside u m ∙ plain_equal _ _ (equal_plain (get_or z (i + 1 + u) 32) 32 (sym (past_end z [] (pos 0) (i + 1 + u) (omega arith)) ∙ o) ∙ sym (all_blanks u (omega arith))));
        })

-- an index found in what is left of a text, counted from its front, is a number that the machine has
pub index_fits : (z xs ys : List ℕ) (t : ℤ) (i n u : ℕ) → i < length z → n ≡ length z - (i + 1) → u ≡ unequal_from xs ys t 0 n → length z * 1 < 2 ^ 63 → Fits w64 (i + 1 + u)
index_fits z xs ys t i n u h e f l = omega (arith, (first_of xs ys t n).within)

pub zero_translates : translates (pos 0) ≡ true
unfolding translates
zero_translates = refl

pub rests_paired : (z : List ℕ) (i n : ℕ) → characters z ≡ true → i < length z → n ≡ length z - (i + 1) → Paired (cut z (i + 1) (length z)) (cut z i (length z)) n
rests_paired z i n c h e =
    record {
      within_1 = omega (arith, cut_length z (i + 1) (length z) (le_refl (length z)));
      within_2 = omega (arith, cut_length z i (length z) (le_refl (length z)));
      character_1 = λ j l. rw (cut_at z (i + 1) (length z) j 0 (omega arith)) (character_at z (i + 1 + j) c (omega arith));
      character_2 = λ j l. rw (cut_at z i (length z) j 0 (omega arith)) (character_at z (i + j) c (omega arith));
    }

-- ---- the longer text's tail

module _ (xs ys : List ℕ) (n : ℕ) (p : Ended xs ys n) where
  -- past the shorter one's end no translation counts
  pub past_any : (t s : ℤ) (j : ℕ) → n ≤ j → order_at xs ys t j ≡ order_at xs ys s j
  past_any t s j h = extent.past xs ys t j (omega (arith, p.shorter)) ∙ sym (extent.past xs ys s j (omega (arith, p.shorter)))

beside_blanks : (xs ys : List ℕ) (n k : ℕ) → length ys ≤ n → unequal_from xs [] (pos 0) n k ≡ unequal_from xs ys (pos 0) n k
beside_blanks xs ys n k h =
    let f = first_from xs [] (pos 0) n k in
    unequal_is xs ys (pos 0) n k (unequal_from xs [] (pos 0) n k)
    (record {
      from = f.from;
      within = f.within;
      equal = λ j l m. same j l ∙ f.equal j l m;
      unequal = λ l o. f.unequal l (sym (same (unequal_from xs [] (pos 0) n k) f.from) ∙ o);
    })
  where
    same : (j : ℕ) → n ≤ j → order_at xs ys (pos 0) j ≡ order_at xs [] (pos 0) j
    same j l = past_end xs ys (pos 0) j (omega arith) ∙ sym (past_end xs [] (pos 0) j (omega arith))

module _ (xs ys : List ℕ) (n r : ℕ) (p : Ended xs ys n) where
  pub tail_first : n < length xs → r ≡ unequal_from xs [] (pos 0) n (length xs - n) → r ≡ unequal_from xs ys (pos 0) n (max (length xs) (length ys) - n)
  tail_first h e =
      let k : length ys ≤ n = omega (arith, p.shorter) in
      let m : max (length xs) (length ys) ≡ length xs = omega (arith, p.shorter) in
      rw m (e ∙ beside_blanks xs ys n (length xs - n) k)

  pub tail_second : length xs ≤ n → r ≡ unequal_from ys [] (pos 0) n (length ys - n) → r ≡ unequal_from xs ys (pos 0) n (max (length xs) (length ys) - n)
  tail_second h e =
      let m : max (length xs) (length ys) ≡ length ys = omega (arith, p.shorter) in
      rw m (e ∙ beside_blanks ys xs n (length ys - n) h ∙ unequal_turned xs ys (pos 0) n (length ys - n))

pub ruleset tailing_laws = (rules, blanks_none, blanks_on, index_fits, zero_translates, rests_paired, tail_first, tail_second)
