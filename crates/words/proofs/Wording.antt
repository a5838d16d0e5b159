-- Laws of words: behind the blanks from a place on stands the first word left, and behind it the other words. Assumes
-- nothing.
use mathlib.Core.Path.{◌≡◌, refl, sym, ap, ◌∙◌}
use mathlib.Core.Bool.{Bool, true, false, cond}
use mathlib.Core.List.{List, [], ◌∷◌}
use Prim.Native.Nat.{ℕ, zero, suc, ◌+◌, ◌-◌, ◌≤◌, ◌<◌}
use native.Mathlib.Omega.{arith}
use borrow.Author.Tests.{ltb-true, ltb-false, lt-ltb, le-ltb}
use lib.Dec.{ltb, eqb}
use lib.ListN.{length, get_or, take, drop, length-drop}
use lib.Seq.{drop-drop}
use Rattle.strlib.proofs.Pointing.{is_good}
use Rattle.strlib.specs.Pointer.{pointer, good_in, text_of}
use Rattle.words.specs.Ends.{up_to, blank_count, blanks_end, end_of}
use Rattle.words.specs.Words.{words_in, words, pointer_of, next_word, first_words, NamesWords}
use Rattle.strlib.specs.declared.StrPtr.{StrPtr}
use Rattle.words.specs.declared.Piece.{Piece}

-- ---- what is before a byte

pub up_to_take : (b : ℕ) (s : List ℕ) → take (length (up_to b s)) s ≡ up_to b s
unfolding up_to
up_to_take b [] = refl
up_to_take b (c ∷ cs) = go (up_to_take b cs) (eqb c b)
  where
    go : take (length (up_to b cs)) cs ≡ up_to b cs → (t : Bool) → take (length (cond t [] (c ∷ up_to b cs))) (c ∷ cs) ≡ cond t [] (c ∷ up_to b cs)
    go r true = refl
    go r false = ap (λ (l : List ℕ). c ∷ l) r

pub up_to_le : (b : ℕ) (s : List ℕ) → length (up_to b s) ≤ length s
unfolding up_to
up_to_le b [] = omega arith
up_to_le b (c ∷ cs) = go (up_to_le b cs) (eqb c b)
  where
    go : length (up_to b cs) ≤ length cs → (t : Bool) → length (cond t [] (c ∷ up_to b cs)) ≤ length (c ∷ cs)
    go r true = omega arith
    go r false = omega arith

pub blanks_le : (s : List ℕ) → blank_count s ≤ length s
unfolding blank_count
blanks_le [] = omega arith
blanks_le (c ∷ cs) = go (blanks_le cs) (eqb c 32)
  where
    go : blank_count cs ≤ length cs → (t : Bool) → cond t (suc (blank_count cs)) 0 ≤ length (c ∷ cs)
    go r true = omega arith
    go r false = omega arith

-- ---- the words of a text, one by one

words_skip : (s : List ℕ) → words s ≡ words (drop (blank_count s) s)
unfolding words_in blank_count
words_skip [] = refl
words_skip (c ∷ cs) = go (words_skip cs) (eqb c 32) refl
  where
    go : words cs ≡ words (drop (blank_count cs) cs) → (t : Bool) → eqb c 32 ≡ t
        → words (c ∷ cs) ≡ words (drop (cond t (suc (blank_count cs)) 0) (c ∷ cs))
    go r true e = rw e r
    go r false e = refl

words_past : (s : List ℕ) → words_in true s ≡ words (drop (length (up_to 32 s)) s)
unfolding words_in up_to
words_past [] = refl
words_past (c ∷ cs) = go (words_past cs) (eqb c 32) refl
  where
    go : words_in true cs ≡ words (drop (length (up_to 32 cs)) cs) → (t : Bool) → eqb c 32 ≡ t
        → words_in true (c ∷ cs) ≡ words (drop (length (cond t [] (c ∷ up_to 32 cs))) (c ∷ cs))
    go r true e = rw e
    go r false e = rw e r

-- a text without blanks in front begins with its first word, if it has any
abbrev first_of : List ℕ → List (List ℕ)
first_of t = cond (ltb 0 (length (up_to 32 t))) (up_to 32 t ∷ words (drop (length (up_to 32 t)) t)) []

words_next : (s : List ℕ) → words s ≡ first_of (drop (blank_count s) s)
unfolding words_in blank_count up_to
words_next [] = refl
words_next (c ∷ cs) = go (words_next cs) (eqb c 32) refl
  where
    go : words cs ≡ first_of (drop (blank_count cs) cs) → (t : Bool) → eqb c 32 ≡ t
        → words (c ∷ cs) ≡ first_of (drop (cond t (suc (blank_count cs)) 0) (c ∷ cs))
    go r true e = rw e r
    go r false e = rw (e, lt-ltb 0 (suc (length (up_to 32 cs))) (omega arith)) (ap (λ (l : List (List ℕ)). (c ∷ up_to 32 cs) ∷ l) (words_past cs))

pub word_found : (s : List ℕ) (at from to : ℕ) → from ≡ blanks_end s at → to ≡ end_of 32 s from → record { from = from; to = to; next = to } ≡ next_word s at
unfolding next_word
word_found s at from to e f = rw (f, e)

module _ (s : List ℕ) (at : ℕ) where
  abbrev w : Piece
  w = next_word s at

  abbrev size : ℕ
  size = length (up_to 32 (drop w.from s))

  from_is : drop w.from s ≡ drop (blank_count (drop at s)) (drop at s)
  unfolding next_word blanks_end
  from_is = sym (drop-drop (blank_count (drop at s)) at s)

  to_is : w.to ≡ w.from + size
  unfolding next_word end_of
  to_is = refl

  pub size_is : (pointer_of w).length ≡ size
  unfolding pointer_of pointer
  size_is = omega (arith, to_is)

  next_is : drop w.next s ≡ drop size (drop w.from s)
  unfolding next_word end_of
  next_is = sym (drop-drop size w.from s)

  text_is : text_of s (pointer_of w) ≡ up_to 32 (drop w.from s)
  unfolding text_of pointer_of pointer
  text_is = let l : w.to - w.from ≡ size = omega (arith, to_is) in rw l (up_to_take 32 (drop w.from s))

  -- the words from a place on are the next word, if it isn't empty, and those from its end on
  pub word_at : words (drop at s) ≡ cond (ltb 0 (pointer_of w).length) (text_of s (pointer_of w) ∷ words (drop w.next s)) []
  word_at = rw (text_is, size_is, next_is, from_is) (words_next (drop at s))

  -- behind an empty piece there is none
  pub word_none : ltb 0 (pointer_of w).length ≡ false → words (drop w.next s) ≡ []
  word_none e =
      let a : words (drop at s) ≡ [] = word_at ∙ rw e in
      let l : size ≡ 0 = omega (arith, ltb-false 0 (pointer_of w).length e, size_is) in
      rw (next_is, l, from_is) (sym (words_skip (drop at s)) ∙ a)

  pub word_text_none : ltb 0 (pointer_of w).length ≡ false → text_of s (pointer_of w) ≡ []
  unfolding text_of
  word_text_none e = let l : (pointer_of w).length ≡ 0 = omega (arith, ltb-false 0 (pointer_of w).length e) in rw l

  -- a word from a place in the text on lies in the text
  pub word_in : at ≤ length s → w.next ≤ length s
  unfolding next_word blanks_end end_of
  word_in h =
      let b : blank_count (drop at s) ≤ length (drop at s) = blanks_le (drop at s) in
      let c : length (drop at s) ≡ length s - at = length-drop at s in
      let f = w.from in
      let u : length (up_to 32 (drop f s)) ≤ length (drop f s) = up_to_le 32 (drop f s) in
      let d : length (drop f s) ≡ length s - f = length-drop f s in
      omega arith

  word_room : w.next ≤ length s → w.from + (w.to - w.from) ≤ length s
  unfolding next_word end_of
  word_room n = omega arith

  pub word_good : at ≤ length s → good_in (length s) (pointer_of w) ≡ true
  unfolding pointer_of pointer
  word_good h = is_good (length s) (pointer_of w) (omega arith) (word_room (word_in h))

-- ---- the words by their number, from 0

abbrev word : ℕ → List ℕ → ℕ → ℕ → StrPtr → StrPtr
word n s at k d = get_or (first_words n s at) k d

-- the first words are the next word and the first of those behind it
pub first_words_none : (s : List ℕ) (at : ℕ) → first_words 0 s at ≡ []
unfolding first_words
first_words_none s at = refl

pub first_words_more : (n : ℕ) (s : List ℕ) (at : ℕ) → first_words (suc n) s at ≡ pointer_of (next_word s at) ∷ first_words n s (next_word s at).next
unfolding first_words
first_words_more n s at = refl

-- word k, which is empty on both sides where there is none
pub word_no : (n : ℕ) (s : List ℕ) (at k : ℕ) (d : StrPtr) → k < n → text_of s (word n s at k d) ≡ get_or (words (drop at s)) k []
unfolding first_words
word_no zero s at k d h = absurd (omega arith)
word_no (suc n) s at zero d h = rw (word_at s at) (go (ltb 0 (pointer_of (next_word s at)).length) refl)
  where
    go : (t : Bool) → ltb 0 (pointer_of (next_word s at)).length ≡ t
        → text_of s (pointer_of (next_word s at)) ≡ get_or (cond t (text_of s (pointer_of (next_word s at)) ∷ words (drop (next_word s at).next s)) []) 0 []
    go true e = refl
    go false e = word_text_none s at e
word_no (suc n) s at (suc k) d h =
    word_no n s (next_word s at).next k d (omega arith) ∙ rw (word_at s at) (go (ltb 0 (pointer_of (next_word s at)).length) refl)
  where
    go : (t : Bool) → ltb 0 (pointer_of (next_word s at)).length ≡ t
        → get_or (words (drop (next_word s at).next s)) k [] ≡ get_or (cond t (text_of s (pointer_of (next_word s at)) ∷ words (drop (next_word s at).next s)) []) (suc k) []
    go true e = refl
    go false e = rw (word_none s at e)

ltb_suc : (m n : ℕ) → ltb m n ≡ ltb (suc m) (suc n)
ltb_suc m n = go (ltb m n) refl
  where
    go : (t : Bool) → ltb m n ≡ t → ltb m n ≡ ltb (suc m) (suc n)
    go true e = e ∙ sym (lt-ltb (suc m) (suc n) (omega (arith, ltb-true m n e)))
    go false e = e ∙ sym (le-ltb (suc m) (suc n) (omega (arith, ltb-false m n e)))

-- there is a word k exactly if the string isn't empty
pub word_some : (n : ℕ) (s : List ℕ) (at k : ℕ) (d : StrPtr) → k < n → ltb 0 (word n s at k d).length ≡ ltb k (length (words (drop at s)))
unfolding first_words
word_some zero s at k d h = absurd (omega arith)
word_some (suc n) s at zero d h = rw (word_at s at) (go (ltb 0 (pointer_of (next_word s at)).length) refl)
  where
    go : (t : Bool) → ltb 0 (pointer_of (next_word s at)).length ≡ t
        → ltb 0 (pointer_of (next_word s at)).length ≡ ltb 0 (length (cond t (text_of s (pointer_of (next_word s at)) ∷ words (drop (next_word s at).next s)) []))
    go true e = e ∙ sym (lt-ltb 0 (suc (length (words (drop (next_word s at).next s)))) (omega arith))
    go false e = e
word_some (suc n) s at (suc k) d h =
    word_some n s (next_word s at).next k d (omega arith) ∙ rw (word_at s at) (go (ltb 0 (pointer_of (next_word s at)).length) refl)
  where
    go : (t : Bool) → ltb 0 (pointer_of (next_word s at)).length ≡ t
        → ltb k (length (words (drop (next_word s at).next s)))
        ≡ ltb (suc k) (length (cond t (text_of s (pointer_of (next_word s at)) ∷ words (drop (next_word s at).next s)) []))
    go true e = ltb_suc k (length (words (drop (next_word s at).next s)))
    go false e = rw (word_none s at e) (le-ltb k 0 (omega arith) ∙ sym (le-ltb (suc k) 0 (omega arith)))

pub words_good : (n : ℕ) (s : List ℕ) (at k : ℕ) (d : StrPtr) → at ≤ length s → k < n → good_in (length s) (word n s at k d) ≡ true
unfolding first_words
words_good zero s at k d l h = absurd (omega arith)
words_good (suc n) s at zero d l h = word_good s at l
words_good (suc n) s at (suc k) d l h = words_good n s (next_word s at).next k d (word_in s at l) (omega arith)

pub names_words : NamesWords
names_words n s k d h = record { good = words_good n s 0 k d (omega arith) h; text = word_no n s 0 k d h; some = word_some n s 0 k d h }
