-- When a cue line's refusal comes with a word, and that the form is tested as before: 02, W2. Assumes nothing.
use Rattle.std.specs.Prelude.{ℕ, ◌≤◌, ◌<◌, ◌≡◌, Bool, ◌&&◌, List, eqb, length}
use Rattle.strlib.specs.Quoted.{bytes}
use Rattle.words.specs.Words.{words, same}
use Rattle.desk.specs.Cue.{word, wrong_word, formed, cue_refusal, cue_word}

-- the form as 01's rule had it before 02
unfoldable pub formed_before : List ℕ → Bool
formed_before line =
    eqb (length (words line)) 7
    && ((same (word line 1) (bytes "MIC") && same (word line 3) (bytes "TO")) && (same (word line 4) (bytes "LSP") && same (word line 6) (bytes "GAIN")))

abbrev pub FormedSame : Type 0
FormedSame = (line : List ℕ) → formed line ≡ formed_before line

-- 11 comes with the word at which the form is wrong, 1 to 8, or the line is over 80 characters; nothing else comes with
-- a word
pub record WordedIn (line : List ℕ) (mics lsps : ℕ) : Type 0 where
  pub short : cue_refusal line mics lsps ≡ 11 → length line ≤ 80 → cue_word line mics lsps ≡ wrong_word line
  pub range : cue_refusal line mics lsps ≡ 11 → length line ≤ 80 → (1 ≤ cue_word line mics lsps) × (cue_word line mics lsps ≤ 8)
  pub long : 80 < length line → cue_word line mics lsps ≡ 0
  pub other : (cue_refusal line mics lsps ≡ 11 → ⊥) → cue_word line mics lsps ≡ 0

abbrev pub Worded : Type 0
Worded = (line : List ℕ) (mics lsps : ℕ) → WordedIn line mics lsps
