-- What the cue program reads and says, computed from the definitions. Assumes nothing.
use Rattle.std.specs.Prelude.{◌≡◌, refl, List, [], ◌∷◌, ◌++◌, map, ℕ}
use Rattle.strlib.specs.Quoted.{bytes}
use Rattle.endings.specs.Ending.{named_by, source_of}
use Rattle.complaints.specs.Complaint.{shown, source_text, failure_text, usage_text, complaint_text}
use Rattle.endings.specs.declared.Ending.TheVariants.{Complete, Misused, Unopened, Unread, Unwritten}
use Rattle.endings.specs.declared.Source.TheVariants.{Input, File, Neither}

abbrev pub program : List ℕ
program = bytes "cue_answers"

pub record Examples : Type 0 where
  pub none : source_of 1 [] ≡ Input
  pub dash : source_of 2 (bytes "-") ≡ Input
  pub option : source_of 2 (bytes "-x") ≡ Neither
  pub file : source_of 2 (bytes "cues.txt") ≡ File
  pub two : source_of 3 (bytes "cues.txt") ≡ Neither
  pub usage : complaint_text program Neither (bytes "-x") Misused ≡ bytes "usage: cue_answers [FILE]" ++ (10 ∷ [])
  pub input_unread : complaint_text program Input [] Unread ≡ bytes "cue_answers: incomplete: standard input could not be read" ++ (10 ∷ [])
  pub output_unwritten : complaint_text program Input [] Unwritten ≡ bytes "cue_answers: incomplete: standard output could not be written" ++ (10 ∷ [])
  pub file_unopened : complaint_text program File (bytes "cues.txt") Unopened ≡ bytes "cue_answers: incomplete: 'cues.txt' could not be opened" ++ (10 ∷ [])
  pub nothing : complaint_text program File (bytes "cues.txt") Complete ≡ []
  pub line_end : map shown (97 ∷ 10 ∷ 127 ∷ 255 ∷ []) ≡ 97 ∷ 63 ∷ 63 ∷ 255 ∷ []

pub examples : Examples
unfolding named_by source_of shown source_text failure_text usage_text complaint_text
examples =
    record {
      none = refl;
      dash = refl;
      option = refl;
      file = refl;
      two = refl;
      usage = refl;
      input_unread = refl;
      output_unwritten = refl;
      file_unopened = refl;
      nothing = refl;
      line_end = refl;
    }
