use Rattle.desk.proofs.CueWords.{Listed}
use Rattle.desk.proofs.cue.first_words.Given as goal

abbrev pub invariant-loop-place : goal.invariant-loop-place
invariant-loop-place l = Listed l.line l.place-items l.at l.place-index
