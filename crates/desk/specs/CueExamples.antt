-- 01's three cue lines and three more, as one claim on the definitions; the others are run by the Rust tests. Assumes
-- nothing.
use Rattle.std.specs.Prelude.{ℕ, ◌≡◌, refl, List, [], ◌∷◌, ◌++◌, ℤ, negsuc}
use Rattle.number.specs.Limits.{in_range}
use Rattle.number.specs.Text.{unblanked, minus, unsigned, is_digit, are_digits, is_number, value, signed, number_of}
use Rattle.strlib.specs.Pointer.{store_fits, all, characters}
use Rattle.strlib.specs.Quoted.{bytes}
use Rattle.strlib.specs.Refusal.{Outcome, refused, gives, outcome}
use Rattle.words.specs.Ends.{up_to}
use Rattle.words.specs.Words.{words_in, same}
use Rattle.desk.specs.declared.cue.Cue.{Cue}
use Rattle.desk.specs.Cue.{wrong_word, formed, is_size, is_index, is_gain, cue_refusal, cue_of, cue_rule, cue_word, cue_word_rule}

-- the program's matrix: the answer, and the word that comes with it
abbrev pub answer_to : List ℕ → Outcome Cue × ℕ
answer_to line = cue_word_rule line 64 128

abbrev pub cue : ℕ → ℕ → ℤ → Outcome Cue × ℕ
cue n m g = (gives (record { microphone = n; loudspeaker = m; gain = g }), 0)

-- 80 characters with the right words
abbrev pub full : List ℕ
full = bytes "   MIC       0000000000007  TO     LSP    00000000000000031    GAIN         -120"

pub record Examples : Type 0 where
  -- 01's three lines
  pub ok : answer_to (bytes "MIC 7 TO LSP 31 GAIN -120") ≡ cue 7 31 (negsuc 119)
  pub outside : answer_to (bytes "MIC 65 TO LSP 1 GAIN 0") ≡ (refused 12, 0)
  pub short : answer_to (bytes "MIC 7 TO LSP") ≡ (refused 11, 5)
  -- by place: word 2 is there, and word 3 should be TO
  pub by_place : answer_to (bytes "MIC TO LSP 3 GAIN 0") ≡ (refused 11, 3)
  -- the first wrong word before an eighth
  pub not_eight : answer_to (bytes "MIC 7 TO LSP 31 gain 0 0") ≡ (refused 11, 6)
  -- 81 characters: no word, though the words are right
  pub too_long : answer_to (full ++ (32 ∷ [])) ≡ (refused 11, 0)

pub examples : Examples
unfolding
    store_fits all characters outcome up_to words_in same in_range unblanked minus unsigned is_digit are_digits is_number value signed number_of wrong_word formed
    is_size is_index is_gain cue_refusal cue_of cue_rule cue_word
examples =
    record {
      ok = refl;
      outside = refl;
      short = refl;
      by_place = refl;
      not_eight = refl;
      too_long = refl;
    }
