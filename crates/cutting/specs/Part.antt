-- Read-only cuts of plain slices, and the desk label: 01, "Cutting". Assumes nothing.
use Rattle.std.specs.Prelude.{ℕ, ◌+◌, ◌≡◌, Bool, cond, List, length}
use Rattle.std.specs.Borrow.{Bor}
use Rattle.strlib.specs.Pointer.{pointer, text_of}
use Rattle.strlib.specs.declared.StrPtr.{StrPtr}
use Rattle.cutting.specs.Cutting.{is_blank, in_bounds, cut_of}
use Rattle.cutting.specs.declared.Cut.{Cut}
use Rattle.cutting.specs.declared.Cut.TheVariants.{Trimmed}
use Rattle.cutting.specs.declared.parts.DeskLabel.{DeskLabel}
use Rattle.cutting.specs.declared.parts.DeskLabel.TheVariants.{Production, House}

-- r is the part of s itself that p names: the same memory from p's start on, and p's characters
pub record IsPart (r s : Bor (List ℕ)) (p : StrPtr) : Type 0 where
  pub block : r.ref_ptr.0 ≡ s.ref_ptr.0
  pub place : r.ref_ptr.1 ≡ s.ref_ptr.1 + p.start
  pub bytes : r.now ≡ text_of s.now p

-- a slice as a string: its length is length and maximum
unfoldable pub whole : List ℕ → StrPtr
whole xs = pointer 0 (length xs) (length xs)

-- the part of a slice; positions out of bounds give the empty part at the front
unfoldable pub slice_cut : List ℕ → Cut → StrPtr
slice_cut xs c = cond (in_bounds (whole xs) c) (cut_of xs (whole xs) c) (pointer 0 0 0)

-- the desk shows the production name, or the house name where the production name is all blanks or empty
abbrev pub shows_house : List ℕ → Bool
shows_house production = is_blank production

-- the name that it shows
unfoldable pub shown : Bor (List ℕ) → Bor (List ℕ) → Bor (List ℕ)
shown production house = cond (shows_house production.now) house production

-- where its label lies: in the house name or in the production name, and where in it
unfoldable pub label_place : List ℕ → List ℕ → DeskLabel
label_place production house = cond (shows_house production) (House (slice_cut house Trimmed)) (Production (slice_cut production Trimmed))
