-- Worked examples as one claim on the definitions: the manual's 3.2 and 5.2, then the cases that 01 settles.
-- Assumes nothing.
use Rattle.std.specs.Prelude.{ℕ, ◌≡◌, refl, Bool, true, false, List, [], ◌∷◌, ◌++◌, replicate}
use Rattle.strlib.specs.Pointer.{pointer, sized, store_fits, good_in, text_of, texts, characters, readable, apart, clear, all, joined}
use Rattle.strlib.specs.Quoted.{bytes}
use Rattle.strlib.specs.Refusal.{Outcome, refused, gives, outcome, after, ruled}
use Rattle.strlib.specs.Store.{put}
use Rattle.strlib.specs.declared.StrPtr.{StrPtr}
use Rattle.copying.specs.Copying.{gap, laid, wrote, bounded_copy}
use Rattle.copying.specs.Examples.{to, varying, letters}
use Rattle.joining.specs.Joining.{join_refusal, join_rule}
use Rattle.joining.specs.Resuming.{length_at, place_in, before, place_at, piece, completes, next_place, round_of, round_from, join_from_refusal, join_from_rule}
use Rattle.joining.specs.declared.Place.{Place}
use Rattle.joining.specs.declared.Round.{Round}

-- a resume place
abbrev pub place : ℕ → ℕ → Place
place k p = record { string = k; character = p }

-- the answer of a checkpointed join
abbrev pub round : StrPtr → Bool → Place → Outcome Round
round p completed next = gives (record { to = p; completed = completed; next = next })

-- the manual's strings of 5.2, cmbstr, in the store, in front of what is given
abbrev pub halves : List ℕ → List ℕ
halves room = bytes "first halfsecond half" ++ room

-- those of 5.2, chkstr
abbrev pub four : List ℕ → List ℕ
four room = bytes "1122 3344 5566 7788 " ++ room

-- and their pointers
abbrev pub strings : List StrPtr
strings = pointer 0 5 5 ∷ pointer 5 5 5 ∷ pointer 10 5 5 ∷ pointer 15 5 5 ∷ []

-- abc, the null string, de
abbrev pub three : List StrPtr
three = pointer 0 3 3 ∷ pointer 2 0 1 ∷ pointer 3 2 2 ∷ []

-- the claim: each rule on given bytes and pointers
pub record Examples : Type 0 where
  -- 3.2, catstr: with ' abc ' and 'more '
  pub joins : join_rule (varying (bytes ".........................................")) (pointer 41 0 41) (pointer 0 31 31 ∷ pointer 31 5 5 ∷ pointer 36 5 5 ∷ []) 3 false
      ≡ (to (pointer 41 41 41) true, varying (bytes "a data-varying string a d-p one abc more "))
  -- 3.2, alnstr: padded to 50
  pub aligned : join_rule (varying (replicate 50 46)) (pointer 41 50 50) (pointer 0 31 31 ∷ []) 1 true
      ≡ (to (pointer 41 50 50) true, varying (bytes "a data-varying string a d-p one                   "))
  -- 5.2, cmbstr: padded to the old length 40
  pub half : join_rule (halves (replicate 40 46)) (pointer 21 40 40) (pointer 0 10 10 ∷ pointer 10 11 11 ∷ []) 2 true
      ≡ (to (pointer 21 40 40) true, halves (bytes "first halfsecond half                   "))
  -- 5.2, chkstr: three rounds of at most seven characters
  pub one : join_from_rule (four (bytes "........")) (pointer 20 0 7) strings 4 (place 1 1) ≡ (round (pointer 20 7 7) false (place 2 3), four (bytes "1122 33."))
  pub two : join_from_rule (four (bytes "1122 33.")) (pointer 20 7 7) strings 4 (place 2 3) ≡ (round (pointer 20 7 7) false (place 3 5), four (bytes "44 5566."))
  pub last : join_from_rule (four (bytes "44 5566.")) (pointer 20 7 7) strings 4 (place 3 5) ≡ (round (pointer 20 6 7) true (place 5 1), four (bytes " 7788 6."))
  -- nothing joined
  pub none : join_rule (letters (bytes ".....")) (pointer 5 2 5) three 0 true ≡ (to (pointer 5 2 5) true, letters (bytes "  ..."))
  -- 4 goes before 5
  pub four_first : join_from_rule (letters (bytes ".....")) (pointer 0 0 5) three 3 (place 4 2) ≡ (refused 4, letters (bytes "....."))
  -- the end of a string is carried on to a character that exists, with the maximum 0 too; behind the last string
  -- nothing is left
  pub carried : join_from_rule (letters (bytes ".....")) (pointer 5 0 3) three 3 (place 1 1) ≡ (round (pointer 5 3 3) false (place 3 1), letters (bytes "abc.."))
  pub nothing : join_from_rule (letters (bytes ".....")) (pointer 5 0 0) three 3 (place 1 4) ≡ (round (pointer 5 0 0) false (place 3 1), letters (bytes "....."))
  pub empty : join_from_rule (letters (bytes ".....")) (pointer 5 0 0) three 3 (place 4 1) ≡ (round (pointer 5 0 0) true (place 4 1), letters (bytes "....."))

-- it holds, by computing both sides
pub examples : Examples
unfolding pointer sized store_fits good_in text_of characters readable apart clear all outcome after ruled put texts joined gap laid wrote bounded_copy join_refusal join_rule length_at place_in before place_at piece completes next_place round_of round_from join_from_refusal join_from_rule
examples =
    record {
      joins = refl;
      aligned = refl;
      half = refl;
      one = refl;
      two = refl;
      last = refl;
      none = refl;
      four_first = refl;
      carried = refl;
      nothing = refl;
      empty = refl;
    }
