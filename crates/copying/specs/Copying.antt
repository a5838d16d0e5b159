-- Copy and append: 01, "Copying", first paragraph. Assumes nothing.
use Rattle.std.specs.Prelude.{ℕ, ◌+◌, ◌-◌, ◌≡◌, Bool, true, false, cond, List, [], ◌∷◌, ◌++◌, leb, length, take, replicate}
use Rattle.strlib.specs.Checks.{into_checks}
use Rattle.strlib.specs.Pointer.{sized, good_in, text_of, clear}
use Rattle.strlib.specs.Refusal.{Outcome, gives, first, ruled}
use Rattle.strlib.specs.Store.{put}
use Rattle.strlib.specs.declared.StrPtr.{StrPtr}
use Rattle.moving.specs.Moving.{blanked}
use Rattle.copying.specs.declared.Wrote.{Wrote}

-- ---- what is written

-- how many blanks fill a result of n characters to the old length
unfoldable pub gap : Bool → ℕ → ℕ → ℕ
gap pad old n = cond pad (old - n) 0

-- what the destination then holds: the characters xs cut at its maximum and, with padding, blanks up to its old length
unfoldable pub laid : StrPtr → List ℕ → Bool → List ℕ
laid destination xs pad =
    let cut : List ℕ = take destination.maximum xs in cut ++ replicate (gap pad destination.length (length cut)) 32

-- the answer: the destination with its new length, and completed exactly if nothing was cut
unfoldable pub wrote : StrPtr → List ℕ → Bool → Wrote
wrote destination xs pad =
    record { to = sized destination (length (laid destination xs pad)); completed = leb (length xs) destination.maximum }

-- a bounded copy of the characters xs, where the checks found the number k: the answer, and the store, in which every
-- byte past the new length stays
unfoldable pub bounded_copy : ℕ → List ℕ → StrPtr → List ℕ → Bool → Outcome Wrote × List ℕ
bounded_copy k s destination xs pad =
    ruled k (wrote destination xs pad) (put s destination.start (laid destination xs pad)) s

-- how a bounded copy ends that wrote n characters at the front of the destination's room: blanks fill the gap behind
-- them, where it lies in the store, and the new length counts them
unfoldable pub finished : List ℕ → StrPtr → ℕ → Bool → Bool → Wrote × List ℕ
finished s destination n pad completed =
    let g : ℕ = gap pad destination.length n in
    (record { to = sized destination (n + g); completed = completed }, blanked s (destination.start + n) g)

-- ---- the calls

-- the checks of a copy and of an append
abbrev pub copy_checks : List ℕ → StrPtr → StrPtr → List (ℕ × Bool)
copy_checks s destination source = into_checks s destination source ++ ((5, clear destination source) ∷ [])

-- the number that they find, 0 for none
unfoldable pub copy_refusal : List ℕ → StrPtr → StrPtr → ℕ
copy_refusal s destination source = first (copy_checks s destination source)

-- a copy writes the source's characters
unfoldable pub copy_rule : List ℕ → StrPtr → StrPtr → Bool → Outcome Wrote × List ℕ
copy_rule s destination source pad = bounded_copy (copy_refusal s destination source) s destination (text_of s source) pad

-- an append writes the destination's own characters, then the source's
unfoldable pub append_rule : List ℕ → StrPtr → StrPtr → Outcome Wrote × List ℕ
append_rule s destination source =
    bounded_copy (copy_refusal s destination source) s destination (text_of s destination ++ text_of s source) false

-- a pointer that a copy or an append gives is good for the store
abbrev pub CopyGood : Type 0
CopyGood =
    (s : List ℕ) (destination source : StrPtr) (pad : Bool) (r : Wrote)
    → (copy_rule s destination source pad).0 ≡ gives r
    → good_in (length s) r.to ≡ true

abbrev pub AppendGood : Type 0
AppendGood = (s : List ℕ) (destination source : StrPtr) (r : Wrote) → (append_rule s destination source).0 ≡ gives r → good_in (length s) r.to ≡ true

-- a padded append would be an append: what is written is never shorter than the destination was
abbrev pub PaddedAppend : Type 0
PaddedAppend =
    (s : List ℕ) (destination source : StrPtr)
    → bounded_copy (copy_refusal s destination source) s destination (text_of s destination ++ text_of s source) true ≡ append_rule s destination source
