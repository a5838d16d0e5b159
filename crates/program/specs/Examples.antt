-- 01's three lines and the text that the program writes for them, as one claim on the definitions. Assumes nothing.
use Rattle.std.specs.Prelude.{◌≡◌, refl, List, [], ◌∷◌, ◌++◌, ℕ, ◌+◌, negsuc}
use Rattle.number.specs.Limits.{in_range}
use Rattle.number.specs.Text.{unblanked, minus, unsigned, is_digit, are_digits, is_number, value, signed, number_of}
use Rattle.number.specs.Written.{digits_in, digits, sign, written}
use Rattle.strlib.specs.Pointer.{store_fits, all, characters}
use Rattle.strlib.specs.Quoted.{bytes}
use Rattle.strlib.specs.Refusal.{Outcome, refused, gives, outcome}
use Rattle.words.specs.Ends.{up_to}
use Rattle.words.specs.Lines.{lines_in, lines}
use Rattle.words.specs.Words.{words_in, same}
use Rattle.desk.specs.Cue.{wrong_word, formed, is_size, is_index, is_gain, cue_refusal, cue_of, cue_rule}
use Rattle.desk.specs.declared.cue.Cue.{Cue}
use Rattle.answers.specs.Text.{end, heading, ok_text, cue_text, answer_text, total_text}
use Rattle.answers.specs.Pieces.{counted, good_of, answers_text, goods, totals, ended}
use Rattle.program.specs.Program.{program_text, open_text}

abbrev pub line1 : List ℕ
line1 = bytes "MIC 7 TO LSP 31 GAIN -120"

abbrev pub line2 : List ℕ
line2 = bytes "MIC 65 TO LSP 1 GAIN 0"

abbrev pub line3 : List ℕ
line3 = bytes "MIC 7 TO LSP"

abbrev pub cue1 : Outcome Cue
cue1 = gives (record { microphone = 7; loudspeaker = 31; gain = negsuc 119 })

pub record Examples : Type 0 where
  -- with and without an end of the last line
  pub three_lines : program_text (line1 ++ end ++ line2 ++ end ++ line3 ++ end)
      ≡ bytes "cue answers" ++ end ++ bytes "1 ok 7 31 -120" ++ end ++ bytes "2 refused 12" ++ end ++ bytes "3 refused 11" ++ end
      ++ bytes "total 3 ok 1 refused 2" ++ end
  pub last_unended : program_text (line1 ++ end ++ line2 ++ end ++ line3) ≡ program_text (line1 ++ end ++ line2 ++ end ++ line3 ++ end)
  -- no line at all, and one empty line
  pub nothing : program_text [] ≡ bytes "cue answers" ++ end ++ bytes "total 0 ok 0 refused 0" ++ end
  pub one_empty : program_text end ≡ bytes "cue answers" ++ end ++ bytes "1 refused 11" ++ end ++ bytes "total 1 ok 0 refused 1" ++ end
  -- a read that fails within a gain: the cut line is not answered, and there is no total
  pub cut_short : open_text (line3 ++ end ++ bytes "MIC 7 TO LSP 31 GAIN -12") ≡ bytes "cue answers" ++ end ++ bytes "1 refused 11" ++ end

cue_one : cue_rule line1 64 128 ≡ cue1
unfolding
    store_fits all characters outcome up_to words_in same in_range unblanked minus unsigned is_digit are_digits is_number value signed number_of wrong_word formed is_size is_index
    is_gain cue_refusal cue_of cue_rule
cue_one = refl

cue_two : cue_rule line2 64 128 ≡ refused 12
unfolding
    store_fits all characters outcome up_to words_in same in_range unblanked minus unsigned is_digit are_digits is_number value signed number_of wrong_word formed is_size is_index
    is_gain cue_refusal cue_of cue_rule
cue_two = refl

cue_three : cue_rule line3 64 128 ≡ refused 11
unfolding
    store_fits all characters outcome up_to words_in same in_range unblanked minus unsigned is_digit are_digits is_number value signed number_of wrong_word formed is_size is_index
    is_gain cue_refusal cue_of cue_rule
cue_three = refl

cue_empty : cue_rule [] 64 128 ≡ refused 11
unfolding store_fits all characters outcome words_in same wrong_word formed is_size cue_refusal cue_rule
cue_empty = refl

lines_ended : lines (line1 ++ end ++ line2 ++ end ++ line3 ++ end) ≡ line1 ∷ line2 ∷ line3 ∷ []
unfolding lines_in up_to
lines_ended = refl

lines_unended : lines (line1 ++ end ++ line2 ++ end ++ line3) ≡ line1 ∷ line2 ∷ line3 ∷ []
unfolding lines_in up_to
lines_unended = refl

-- the answers are put together only once each line has its answer: computed in one go this takes too many steps
three : (a b c : Outcome Cue) → cue_rule line1 64 128 ≡ a → cue_rule line2 64 128 ≡ b → cue_rule line3 64 128 ≡ c
    → program_text (line1 ++ end ++ line2 ++ end ++ line3 ++ end)
    ≡ heading ++ (answer_text (counted 1) a ++ (answer_text (counted 2) b ++ (answer_text (counted 3) c ++ [])) ++ totals 3 (good_of a + (good_of b + (good_of c + 0))))
unfolding program_text answers_text goods
three a b c ea eb ec = rw (lines_ended, ea, eb, ec)

unended : program_text (line1 ++ end ++ line2 ++ end ++ line3) ≡ program_text (line1 ++ end ++ line2 ++ end ++ line3 ++ end)
unfolding program_text
unended = rw (lines_ended, lines_unended)

lines_one : lines end ≡ [] ∷ []
unfolding lines_in up_to
lines_one = refl

one : (a : Outcome Cue) → cue_rule [] 64 128 ≡ a → program_text end ≡ heading ++ (answer_text (counted 1) a ++ [] ++ totals 1 (good_of a + 0))
unfolding program_text answers_text goods
one a e = rw (lines_one, e)

ended_cut : ended [] (line3 ++ end ++ bytes "MIC 7 TO LSP 31 GAIN -12") ≡ line3 ∷ []
unfolding ended
ended_cut = refl

cut : (a : Outcome Cue) → cue_rule line3 64 128 ≡ a → open_text (line3 ++ end ++ bytes "MIC 7 TO LSP 31 GAIN -12") ≡ heading ++ (answer_text (counted 1) a ++ [])
unfolding open_text answers_text
cut a e = rw (ended_cut, e)

pub examples : Examples
unfolding digits digits_in sign written ok_text cue_text answer_text total_text good_of counted heading totals program_text answers_text goods lines_in
examples =
    record { three_lines = three cue1 (refused 12) (refused 11) cue_one cue_two cue_three; last_unended = unended; nothing = refl; one_empty = one (refused 11) cue_empty; cut_short = cut (refused 11) cue_three }
