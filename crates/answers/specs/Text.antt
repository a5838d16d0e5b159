-- What the program writes: 01, "Cue lines and labels". Numbers are written in decimal, with the fewest digits. Assumes
-- nothing.
use Rattle.std.specs.Prelude.{ℕ, List, [], ◌∷◌, ◌++◌}
use Rattle.number.specs.Written.{digits, written}
use Rattle.strlib.specs.Quoted.{bytes}
use Rattle.strlib.specs.Refusal.{Outcome, refused, gives}
use Rattle.desk.specs.declared.cue.Cue.{Cue}

-- the end of a line
abbrev pub end : List ℕ
end = 10 ∷ []

unfoldable pub heading : List ℕ
heading = bytes "cue answers" ++ end

-- ` ok 7 31 -120`
unfoldable pub ok_text : Cue → List ℕ
ok_text c = (bytes " ok " ++ digits 10 c.microphone) ++ (bytes " " ++ digits 10 c.loudspeaker) ++ bytes " " ++ written 10 c.gain

-- the same, or ` refused 12`
unfoldable pub cue_text : Outcome Cue → List ℕ
cue_text (gives c) = ok_text c
cue_text (refused k) = bytes " refused " ++ digits 10 k

-- `1 ok 7 31 -120`, or `2 refused 12`
unfoldable pub answer_text : ℕ → Outcome Cue → List ℕ
answer_text number a = digits 10 number ++ cue_text a ++ end

-- `total 3 ok 1 refused 2`
unfoldable pub total_text : ℕ → ℕ → ℕ → List ℕ
total_text n good others = (bytes "total " ++ digits 10 n) ++ (bytes " ok " ++ digits 10 good) ++ (bytes " refused " ++ digits 10 others) ++ end
