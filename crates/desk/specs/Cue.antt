-- Cue lines: 01, "Cue lines and labels", and the word that comes with 11: 02, W2. `MIC n TO LSP m GAIN g` is seven
-- words; the line is its own store. Assumes nothing.
use Rattle.std.specs.Prelude.{ℕ, ◌-◌, ◌≤◌, ◌≡◌, Bool, true, cond, ◌&&◌, List, [], ◌∷◌, ◌++◌, eqb, leb, ℤ, pos, negsuc, nat_abs, length, get_or, Result, Ok, Err}
use Rattle.std.specs.Int.Signed.{le_z}
use Rattle.number.specs.Number.{of_text}
use Rattle.number.specs.Text.{number_of}
use Rattle.strlib.specs.Pointer.{store_fits, characters}
use Rattle.strlib.specs.Quoted.{bytes}
use Rattle.strlib.specs.Refusal.{Outcome, refused, gives, first, outcome, refusal_number}
use Rattle.words.specs.Words.{words, same}
use Rattle.desk.specs.declared.cue.Cue.{Cue}
use Rattle.desk.specs.declared.cue.CueFault.{CueFault}

-- the paper's value for each case of the answer
abbrev pub cue_answered : Result Cue CueFault → Outcome Cue
cue_answered (Ok c) = gives c
cue_answered (Err f) = refused (refusal_number f.refusal)

-- the word number that comes with it
abbrev pub word_of : Result Cue CueFault → ℕ
word_of (Ok c) = 0
word_of (Err f) = f.word

-- word k of a line, counted from 1; the empty text where there is none
abbrev pub word : List ℕ → ℕ → List ℕ
word line k = get_or (words line) (k - 1) []

-- the words by their numbers, each with what has to hold: a fixed word is itself, a number's word is there, and there
-- is no eighth
abbrev pub formed_checks : List ℕ → List (ℕ × Bool)
formed_checks line =
    (1, same (word line 1) (bytes "MIC"))
    ∷ (2, leb 1 (length (word line 2)))
    ∷ (3, same (word line 3) (bytes "TO"))
    ∷ (4, same (word line 4) (bytes "LSP"))
    ∷ (5, leb 1 (length (word line 5)))
    ∷ (6, same (word line 6) (bytes "GAIN"))
    ∷ (7, leb 1 (length (word line 7)))
    ∷ (8, leb (length (words line)) 7)
    ∷ []

-- the first wrong or missing fixed word or missing number, else 8 if there is an eighth word; 0 for none
unfoldable pub wrong_word : List ℕ → ℕ
wrong_word line = first (formed_checks line)

-- seven words, the fixed ones in their places
unfoldable pub formed : List ℕ → Bool
formed line = eqb (wrong_word line) 0

-- the three numbers, in base 10
abbrev pub mic_word : List ℕ → List ℕ
mic_word line = word line 2

abbrev pub lsp_word : List ℕ → List ℕ
lsp_word line = word line 5

abbrev pub gain_word : List ℕ → List ℕ
gain_word line = word line 7

-- a matrix size is 1 to the most
unfoldable pub is_size : ℕ → ℕ → Bool
is_size most n = leb 1 n && leb n most

-- a microphone or loudspeaker of the matrix is 1 to its size
unfoldable pub is_index : ℕ → ℤ → Bool
is_index size z = le_z (pos 1) z && le_z z (pos size)

-- a gain is −960 to 120 tenths of a decibel (`negsuc n` is −(n + 1))
unfoldable pub is_gain : ℤ → Bool
is_gain z = le_z (negsuc 959) z && le_z z (pos 120)

-- the checks of a cue line, in their order: 3 and 2 as in every call, and 11 of a line that is too long
abbrev pub line_checks : List ℕ → ℕ → ℕ → List (ℕ × Bool)
line_checks line mics lsps =
    (3, store_fits line) ∷ (3, is_size 64 mics) ∷ (3, is_size 128 lsps) ∷ (2, characters line) ∷ (11, leb (length line) 80) ∷ []

-- 12 of the numbers against the matrix
abbrev pub matrix_checks : ℕ → ℕ → ℤ → ℤ → ℤ → List (ℕ × Bool)
matrix_checks mics lsps n m g = (12, is_index mics n) ∷ (12, is_index lsps m) ∷ (12, is_gain g) ∷ []

-- 7 or 8 of the numbers from left to right, then the matrix
abbrev pub number_checks : ℕ → ℕ → List ℕ → List ℕ → List ℕ → List (ℕ × Bool)
number_checks mics lsps a b c = of_text 10 a ++ (of_text 10 b ++ (of_text 10 c ++ matrix_checks mics lsps (number_of 10 a) (number_of 10 b) (number_of 10 c)))

-- 11 of the words, then the numbers
abbrev pub word_checks : List ℕ → ℕ → ℕ → List (ℕ × Bool)
word_checks line mics lsps = (11, formed line) ∷ number_checks mics lsps (mic_word line) (lsp_word line) (gain_word line)

abbrev pub cue_checks : List ℕ → ℕ → ℕ → List (ℕ × Bool)
cue_checks line mics lsps = line_checks line mics lsps ++ word_checks line mics lsps

-- its refusal, 0 for none
unfoldable pub cue_refusal : List ℕ → ℕ → ℕ → ℕ
cue_refusal line mics lsps = first (cue_checks line mics lsps)

-- the cue of three numbers
unfoldable pub cue_of : ℤ → ℤ → ℤ → Cue
cue_of n m g = record { microphone = nat_abs n; loudspeaker = nat_abs m; gain = g }

-- its answer
unfoldable pub cue_rule : List ℕ → ℕ → ℕ → Outcome Cue
cue_rule line mics lsps =
    outcome (cue_refusal line mics lsps) (cue_of (number_of 10 (mic_word line)) (number_of 10 (lsp_word line)) (number_of 10 (gain_word line)))

-- the word that comes with it: with 11, 0 for a line over 80 characters, else what is wrong in its form; with every
-- other number and with a cue, 0
unfoldable pub cue_word : List ℕ → ℕ → ℕ → ℕ
cue_word line mics lsps = cond (eqb (cue_refusal line mics lsps) 11) (cond (leb (length line) 80) (wrong_word line) 0) 0

-- the answer with its word
abbrev pub cue_word_rule : List ℕ → ℕ → ℕ → Outcome Cue × ℕ
cue_word_rule line mics lsps = (cue_rule line mics lsps, cue_word line mics lsps)

-- a cue that is given lies in the matrix, and its gain in the range
pub record Reaches (mics lsps : ℕ) (c : Cue) : Type 0 where
  pub mic : (1 ≤ c.microphone) × (c.microphone ≤ mics)
  pub lsp : (1 ≤ c.loudspeaker) × (c.loudspeaker ≤ lsps)
  pub gain : is_gain c.gain ≡ true

abbrev pub CueGiven : Type 0
CueGiven = (line : List ℕ) (mics lsps : ℕ) (c : Cue) → cue_rule line mics lsps ≡ gives c → Reaches mics lsps c
