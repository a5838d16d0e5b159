-- A translation's answer, made a number and read again, is the answer. Assumes nothing.
use Rattle.std.proofs.Common.{ℕ, zero, suc, ◌≡◌, refl, List}
use Rattle.strlib.specs.Refusal.{Outcome, outcome}
use Rattle.strlib.specs.declared.StrPtr.{StrPtr}
use Rattle.translator.specs.Translate.{Translated}
use Rattle.flat.specs.Values.{flat_done, done}

said : (k : ℕ) → done (flat_done (outcome k tt)) ≡ outcome k tt
unfolding outcome
said zero = refl
said (suc k) = refl

pub translate_is : (r : ℕ) (a : Outcome (Unit {0})) (s : List ℕ) (list : List StrPtr) (count : ℕ) (old new : List ℕ) → r ≡ flat_done a
    → Translated s list count old a new → Translated s list count old (done r) new
translate_is r a s list count old new h t =
    record { answered = rw (h, t.answered) (said _); words = t.words }
