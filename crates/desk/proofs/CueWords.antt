-- Laws of the words of a cue line: the loop puts them into a list one by one, and tested in their places they show the
-- first that is wrong. Assumes nothing.
use mathlib.Core.Path.{◌≡◌, refl, sym, ap, ◌∙◌}
use mathlib.Core.Bool.{Bool, true, false, cond}
use mathlib.Core.List.{List, [], ◌∷◌, ◌++◌, append_assoc, append-nil}
use Prim.Native.Nat.{ℕ, suc, ◌+◌, ◌-◌, ◌≤◌, ◌<◌}
use native.Mathlib.Numerals.{add-one}
use native.Mathlib.Omega.{arith}
use borrow.Author.Rules.{rules}
use borrow.Author.Tests.{ltb-true, ltb-false, le-leb, lt-leb, eq-eqb, ne_eqb}
use lib.Dec.{leb, eqb, ltb}
use lib.ListN.{length, get_or, set, take, length-set}
use lib.Seq.{take_all, take-suc-set}
use Rattle.std.proofs.Common.{Result, Ok, Err}
use Rattle.std.specs.Result.{IsErrAnd}
use Rattle.strlib.proofs.Answering.{err_is, refusal_some, fails_first, next}
use Rattle.strlib.proofs.Pointing.{text_length}
use Rattle.strlib.specs.Pointer.{pointer, text_of}
use Rattle.strlib.specs.Quoted.{bytes}
use Rattle.strlib.specs.Refusal.{refusal_number}
use Rattle.strlib.specs.declared.StrPtr.{StrPtr}
use Rattle.words.proofs.Wording.{first_words_none, first_words_more, word_no, word_some, words_good}
use Rattle.words.specs.Words.{words, same, pointer_of, next_word, first_words}
use Rattle.words.specs.declared.Piece.{Piece}
use Rattle.desk.specs.CueInner.{fault_found, formless}
use Rattle.desk.specs.declared.cue.CueFault.{CueFault}

-- ---- the loop

-- k words are in the list, and the others stand from a place on
pub record Listed (s : List ℕ) (l : List StrPtr) (at k : ℕ) : Type 0 where
  pub size : length l ≡ 8
  pub within : k ≤ 8
  pub all : take k l ++ first_words (8 - k) s at ≡ first_words 8 s 0

pub listed_none : (s : List ℕ) (l : List StrPtr) → length l ≡ 8 → Listed s l 0 0
listed_none s l e = record { size = e; within = omega arith; all = refl }

module _ (s : List ℕ) (l : List StrPtr) (at k : ℕ) (e : Listed s l at k) where
  pub listed_more : (w : Piece) (p : StrPtr) → w ≡ next_word s at → p ≡ pointer_of w → k < 8 → Listed s (set l k p) w.next (k + 1)
  listed_more w p ew ep h =
      let j : 8 - k ≡ suc (8 - (k + 1)) = omega arith in
      let q : take k l ++ (pointer_of (next_word s at) ∷ first_words (8 - (k + 1)) s (next_word s at).next) ≡ first_words 8 s 0 =
      ap (λ (ws : List StrPtr). take k l ++ ws) (sym (ap (λ (n : ℕ). first_words n s at) j ∙ first_words_more (8 - (k + 1)) s at)) ∙ e.all
      in
      record {
        size = length-set l k p ∙ e.size;
        within = omega arith;
        all =
            rw (add-one k, take-suc-set l k p (omega (arith, e.size)), append_assoc, ep, ew, ← (add-one k)) q;
      }

  pub listed_all : 8 ≤ k → l ≡ first_words 8 s 0
  listed_all h =
      let z : 8 - k ≡ 0 = omega arith in
      let q : take k l ++ first_words (8 - k) s at ≡ take k l ++ [] = ap (λ (n : ℕ). take k l ++ first_words n s at) z ∙ rw (first_words_none s at) in
      sym (take_all k l (omega (arith, e.size))) ∙ sym (append-nil (take k l)) ∙ sym q ∙ e.all

pub ruleset listed_laws = (rules, listed_none, listed_more, listed_all)

-- ---- the form

module _ (s : List ℕ) where
  -- the words of a text are not empty: word k is there exactly if the text has more than k
  pub word_there : (k : ℕ) → k < 8 → leb 1 (length (get_or (words s) k [])) ≡ ltb k (length (words s))
  word_there k h =
      let d : StrPtr = pointer 0 0 0 in
      let p : StrPtr = get_or (first_words 8 s 0) k d in
      ap (leb 1) (ap length (sym (word_no 8 s 0 k d h)) ∙ text_length s p (words_good 8 s 0 k d (omega arith) h)) ∙ word_some 8 s 0 k d h

  module _ (l : List StrPtr) (e : l ≡ first_words 8 s 0) where
    text_is : (k : ℕ) → k < 8 → (d : StrPtr) → text_of s (get_or l k d) ≡ get_or (words s) k []
    text_is k h d = rw e (word_no 8 s 0 k d h)

    pub there_is : (k : ℕ) → k < 8 → (d : StrPtr) → leb 1 (get_or l k d).length ≡ leb 1 (length (get_or (words s) k []))
    there_is k h d = rw e (word_some 8 s 0 k d h) ∙ sym (word_there k h)

    -- no eighth word
    pub none_is : (d : StrPtr) → eqb (get_or l 7 d).length 0 ≡ leb (length (words s)) 7
    none_is d = go (get_or l 7 d).length (ltb 7 (length (words s))) refl (rw e (word_some 8 s 0 7 d (omega arith)))
      where
        go : (n : ℕ) (t : Bool) → ltb 7 (length (words s)) ≡ t → ltb 0 n ≡ ltb 7 (length (words s)) → eqb n 0 ≡ leb (length (words s)) 7
        go n true p q =
            let u : 0 < n = ltb-true 0 n (q ∙ p) in
            ne_eqb n 0 (λ z. omega arith) ∙ sym (lt-leb (length (words s)) 7 (ltb-true 7 (length (words s)) p))
        go n false p q =
            let u : n ≤ 0 = ltb-false 0 n (q ∙ p) in
            eq-eqb n 0 (omega arith) ∙ sym (le-leb (length (words s)) 7 (ltb-false 7 (length (words s)) p))

    -- the code's tests are the rule's
    pub fixed_is : (k : ℕ) → k < 8 → (d : StrPtr) (y : List ℕ) (t : Bool) → t ≡ same (text_of s (get_or l k d)) y → t ≡ same (get_or (words s) k []) y
    fixed_is k h d y t q = q ∙ rw (text_is k h d)

-- a fault's number and word
abbrev fault : CueFault → ℕ × ℕ
fault f = (refusal_number f.refusal, f.word)

pub word_stop : {A : Type 0} (r : Result A CueFault) (f : CueFault) → IsErrAnd r (λ x. x ≡ f) → (k : ℕ × ℕ) → fault f ≡ k → fault_found r ≡ k
word_stop r f p k h = rw (err_is r f p) h

-- one test, and those behind it
pub word_here : (f : CueFault) (t b : Bool) (n k : ℕ) → fault f ≡ cond t (0, 0) (11, suc n) → t ≡ b → fault f ≡ formless (cond b k (suc n))
word_here f true b n k e q = absurd (refusal_some f.refusal (ap (λ (x : ℕ × ℕ). x.0) e))
word_here f false b n k e q = e ∙ ap formless (fails_first (suc n) (suc n) b k (λ z. omega arith) (rw (← q) refl))

pub word_next : (t b : Bool) (n k : ℕ) (x : ℕ × ℕ) → ◌≡◌ {A = ℕ × ℕ} (0, 0) (cond t (0, 0) (11, suc n)) → t ≡ b → x ≡ formless k → x ≡ formless (cond b k (suc n))
word_next true b n k x e q r = r ∙ ap formless (next b n k k (rw (← q) refl) refl)
word_next false b n k x e q r = let z : ◌≡◌ {A = ℕ} 0 11 = ap (λ (x : ℕ × ℕ). x.0) e in absurd (omega arith)

-- the last test
pub word_last : (r : Result Unit CueFault) (t b : Bool) (n : ℕ) → fault_found r ≡ cond t (0, 0) (11, suc n) → t ≡ b → fault_found r ≡ formless (cond b 0 (suc n))
word_last r true b n e q = rw (← q) e
word_last r false b n e q = rw (← q) e

pub word_same : (s : List ℕ) (p : StrPtr) (t y : List ℕ) (b : Bool) → t ≡ text_of s p → b ≡ same t y → b ≡ same (text_of s p) y
word_same s p t y b e f = rw (← e) f

pub ruleset word_laws = (rules, word_same)

pub ruleset form_laws = (rules, word_stop, word_here, word_next, word_last, fixed_is, there_is, none_is)
