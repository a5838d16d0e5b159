-- Words and lines of small texts, as one claim on the definitions. Assumes nothing.
use Rattle.std.specs.Prelude.{◌≡◌, refl, [], ◌∷◌, ◌++◌}
use Rattle.strlib.specs.Quoted.{bytes}
use Rattle.words.specs.Ends.{up_to}
use Rattle.words.specs.Words.{words_in, words}
use Rattle.words.specs.Lines.{lines_in, lines}

pub record Examples : Type 0 where
  pub outer_blanks : words (bytes "  MIC 7   TO ") ≡ bytes "MIC" ∷ bytes "7" ∷ bytes "TO" ∷ []
  pub blanks_alone : words (bytes "   ") ≡ []
  -- a tab (9) is no blank
  pub tab : words (bytes "MIC" ++ (9 ∷ []) ++ bytes "7") ≡ (bytes "MIC" ++ (9 ∷ []) ++ bytes "7") ∷ []
  pub no_line : lines [] ≡ []
  -- an ended line counts though it is empty, a last unended line if it isn't
  pub empty_line : lines (10 ∷ []) ≡ [] ∷ []
  pub last_ended : lines (bytes "a" ++ (10 ∷ 10 ∷ []) ++ bytes "b" ++ (10 ∷ [])) ≡ bytes "a" ∷ [] ∷ bytes "b" ∷ []
  pub last_unended : lines (bytes "a" ++ (10 ∷ 10 ∷ []) ++ bytes "b") ≡ bytes "a" ∷ [] ∷ bytes "b" ∷ []

pub examples : Examples
unfolding up_to words_in lines_in
examples =
    record {
      outer_blanks = refl;
      blanks_alone = refl;
      tab = refl;
      no_line = refl;
      empty_line = refl;
      last_ended = refl;
      last_unended = refl;
    }
