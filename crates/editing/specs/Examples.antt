-- Worked examples as one claim on the definitions: the manual's 3.5, then the cases that 01 settles. Assumes nothing.
use Rattle.std.specs.Prelude.{ℕ, ◌≡◌, refl, List, ◌++◌}
use Rattle.strlib.specs.Pointer.{pointer, sized, store_fits, good_in, text_of, characters, readable, apart, clear, all}
use Rattle.strlib.specs.Quoted.{bytes}
use Rattle.strlib.specs.Refusal.{refused, gives, outcome, after, ruled}
use Rattle.strlib.specs.Store.{put}
use Rattle.moving.specs.Moving.{reversed}
use Rattle.editing.specs.Replacing.{lies_in, new_length, replaced, replace_refusal, replace_rule}
use Rattle.editing.specs.Reversing.{reverse_refusal, reverse_rule, reverse_from_refusal, reverse_from_rule}

-- the room of a string of twenty characters, 25 bytes, and 'abc  ' behind it
abbrev pub twenty : List ℕ → List ℕ
twenty room = room ++ bytes "abc  "

-- the claim: each rule on given bytes and pointers
pub record Examples : Type 0 where
  -- 3.5, revstr: '1234' from the source, and in place
  pub from : reverse_from_rule (bytes "1234abcdefg") (pointer 4 7 7) (pointer 0 4 4) ≡ (gives (pointer 4 4 7), bytes "12344321efg")
  pub turned : reverse_rule (bytes "12344321efg") (pointer 0 4 4) ≡ (gives (pointer 0 4 4), bytes "43214321efg")
  -- 3.5, repstr: 'abc  ' put in before character 2, with the maximum 20 and 25; 'abc' alone
  pub full : replace_rule (twenty (bytes "ABCDEFGHIJKLMNOPQRST.....")) (pointer 0 20 20) (pointer 1 0 19) (pointer 25 5 5)
      ≡ (refused 6, twenty (bytes "ABCDEFGHIJKLMNOPQRST....."))
  pub five : replace_rule (twenty (bytes "ABCDEFGHIJKLMNOPQRST.....")) (pointer 0 20 25) (pointer 1 0 19) (pointer 25 5 5)
      ≡ (gives (pointer 0 25 25), twenty (bytes "Aabc  BCDEFGHIJKLMNOPQRST"))
  pub alone : replace_rule (twenty (bytes "ABCDEFGHIJKLMNOPQRST.....")) (pointer 0 20 25) (pointer 1 0 19) (pointer 25 3 5)
      ≡ (gives (pointer 0 23 25), twenty (bytes "AabcBCDEFGHIJKLMNOPQRST.."))
  -- 3.5, repstr: the second and third characters of '4321' removed; the bytes past the new length are as at entry
  pub removed : replace_rule (bytes "4321") (pointer 0 4 4) (pointer 1 2 3) (pointer 4 0 0) ≡ (gives (pointer 0 2 4), bytes "4121")
  -- by place: the same characters elsewhere are no part
  pub elsewhere : replace_rule (bytes "1234523bc") (pointer 0 5 5) (pointer 5 2 2) (pointer 7 2 2) ≡ (refused 4, bytes "1234523bc")
  -- put in at the end; in the unused room behind it is no part
  pub behind : replace_rule (bytes "4321..ab") (pointer 0 4 6) (pointer 4 0 0) (pointer 6 2 2) ≡ (gives (pointer 0 6 6), bytes "4321abab")
  pub unused : replace_rule (bytes "4321..ab") (pointer 0 4 6) (pointer 5 0 0) (pointer 6 2 2) ≡ (refused 4, bytes "4321..ab")
  -- string 3 in string 1's room gives 5
  pub shared : replace_rule (bytes "4321..ab") (pointer 0 4 6) (pointer 1 2 2) (pointer 5 1 1) ≡ (refused 5, bytes "4321..ab")
  -- a source over the maximum gives 6, the destination as its own source 5
  pub over : reverse_from_rule (bytes "4321..ab") (pointer 4 0 1) (pointer 6 2 2) ≡ (refused 6, bytes "4321..ab")
  pub itself : reverse_from_rule (bytes "4321..ab") (pointer 0 4 4) (pointer 0 4 4) ≡ (refused 5, bytes "4321..ab")

-- it holds, by computing both sides
pub examples : Examples
unfolding pointer sized store_fits good_in text_of characters readable apart clear all outcome after ruled put reversed lies_in new_length replaced replace_refusal replace_rule reverse_refusal reverse_rule reverse_from_refusal reverse_from_rule
examples =
    record {
      from = refl;
      turned = refl;
      full = refl;
      five = refl;
      alone = refl;
      removed = refl;
      elsewhere = refl;
      behind = refl;
      unused = refl;
      shared = refl;
      over = refl;
      itself = refl;
    }
