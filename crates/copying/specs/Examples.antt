-- Worked examples as one claim on the definitions: the manual's 3.2 and 5.2, then the cases that 01 settles.
-- Assumes nothing.
use Rattle.std.specs.Prelude.{ℕ, ◌≡◌, refl, Bool, true, false, List, ◌++◌}
use Rattle.strlib.specs.Pointer.{pointer, sized, store_fits, good_in, text_of, characters, readable, apart, clear, all}
use Rattle.strlib.specs.Quoted.{bytes}
use Rattle.strlib.specs.Refusal.{Outcome, refused, gives, outcome, after, ruled}
use Rattle.strlib.specs.Store.{put}
use Rattle.strlib.specs.declared.StrPtr.{StrPtr}
use Rattle.copying.specs.Copying.{gap, laid, wrote, bounded_copy, copy_refusal, copy_rule, append_rule}
use Rattle.copying.specs.declared.Wrote.{Wrote}

-- the answer of a bounded copy
abbrev pub to : StrPtr → Bool → Outcome Wrote
to p completed = gives (record { to = p; completed = completed })

-- the manual's strings of 3.2 in the store, in front of what is given
abbrev pub varying : List ℕ → List ℕ
varying room = bytes "a data-varying string a d-p one abc more " ++ room

-- five letters
abbrev pub letters : List ℕ → List ℕ
letters room = bytes "abcde" ++ room

-- the claim: each rule on given bytes and pointers
pub record Examples : Type 0 where
  -- 3.2, appstr: 'a d-p one' behind 'a data-varying string '
  pub appended : append_rule (varying (bytes "a data-varying string .........")) (pointer 41 22 31) (pointer 22 9 9)
      ≡ (to (pointer 41 31 31) true, varying (bytes "a data-varying string a d-p one"))
  -- 5.2, cmbstr: appended one by one
  pub more : append_rule (bytes "startmore1.....more2") (pointer 0 10 15) (pointer 15 5 5) ≡ (to (pointer 0 15 15) true, bytes "startmore1more2more2")
  -- cut at the maximum: the byte past it stays
  pub cut : copy_rule (letters (bytes ".....")) (pointer 5 1 4) (pointer 0 5 5) false ≡ (to (pointer 5 4 4) false, letters (bytes "abcd."))
  pub cut_behind : append_rule (letters (bytes ".....")) (pointer 5 2 4) (pointer 0 3 3) ≡ (to (pointer 5 4 4) false, letters (bytes "..ab."))
  -- shorter than the old length, without and with padding
  pub short : copy_rule (letters (bytes ".....")) (pointer 5 3 5) (pointer 0 1 1) false ≡ (to (pointer 5 1 5) true, letters (bytes "a...."))
  pub padded : copy_rule (letters (bytes ".....")) (pointer 5 3 5) (pointer 0 1 1) true ≡ (to (pointer 5 3 5) true, letters (bytes "a  .."))
  -- a source in the unused end of the room gives 5, one directly before the room does not; 1 goes before 5
  pub shared : copy_rule (letters (bytes ".....")) (pointer 4 0 5) (pointer 8 1 1) false ≡ (refused 5, letters (bytes "....."))
  pub beside : copy_rule (letters (bytes ".....")) (pointer 5 0 2) (pointer 0 5 5) false ≡ (to (pointer 5 2 2) false, letters (bytes "ab..."))
  pub one_first : copy_rule (letters (bytes ".....")) (pointer 5 0 6) (pointer 8 1 1) false ≡ (refused 1, letters (bytes "....."))

-- it holds, by computing both sides
pub examples : Examples
unfolding pointer sized store_fits good_in text_of characters readable apart clear all outcome after ruled put gap laid wrote bounded_copy copy_refusal copy_rule append_rule
examples =
    record {
      appended = refl;
      more = refl;
      cut = refl;
      cut_behind = refl;
      short = refl;
      padded = refl;
      shared = refl;
      beside = refl;
      one_first = refl;
    }
