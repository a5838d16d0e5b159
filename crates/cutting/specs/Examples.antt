-- Worked cuts, as one claim on the definitions. Assumes nothing.
use Rattle.std.specs.Prelude.{ℕ, ◌≡◌, refl, List, [], ◌∷◌, ◌++◌}
use Rattle.strlib.specs.Quoted.{bytes}
use Rattle.strlib.specs.Pointer.{pointer, sized, part_of, store_fits, good_in, text_of, all, characters, readable}
use Rattle.strlib.specs.Refusal.{refused, gives, outcome}
use Rattle.strlib.specs.declared.StrPtr.{StrPtr}
use Rattle.cutting.specs.Cutting.{is_blank, trimmed_length, second, counted_in, between_in, in_bounds, cut_of, cut_reads, cut_refusal, cut_rule}
use Rattle.cutting.specs.Part.{whole, slice_cut}
use Rattle.cutting.specs.declared.Cut.TheVariants.{Relative, Counted, Between, Trimmed}

-- a label, then a byte that is no character
abbrev pub store : List ℕ
store = bytes "LSP 31  " ++ (200 ∷ [])

-- its eight characters, in a room of nine
abbrev pub label : StrPtr
label = pointer 0 8 9

pub record Examples : Type 0 where
  pub relative : cut_rule store label (Relative 4) ≡ gives (pointer 4 4 5)
  -- an offset of the whole length is the empty string at the end; one more is refused
  pub at_end : cut_rule store label (Relative 8) ≡ gives (pointer 8 0 1)
  pub past_end : cut_rule store label (Relative 9) ≡ refused 4
  -- the loudspeaker's number, and not one character more
  pub counted : cut_rule store label (Counted 5 2) ≡ gives (pointer 4 2 5)
  -- a count may reach past the length, up to the maximum
  pub to_maximum : cut_rule store label (Counted 1 9) ≡ gives (pointer 0 9 9)
  pub over_maximum : cut_rule store label (Counted 1 10) ≡ refused 4
  -- the maximum of a part between positions ends with the length
  pub between : cut_rule store label (Between 5 7) ≡ gives (pointer 4 2 4)
  pub between_open : cut_rule store label (Between 5 0) ≡ gives (pointer 4 4 4)
  pub trims : cut_rule store label Trimmed ≡ gives (pointer 0 6 9)
  -- trimming reads the string
  pub trim_reads : cut_rule store (pointer 0 9 9) Trimmed ≡ refused 2
  -- a sum of 2^64 is no good pointer, though its remainder would be
  pub no_wrap : cut_rule store (pointer 18446744073709551615 1 1) (Relative 0) ≡ refused 1
  -- of a slice, bad positions give the empty part at the front
  pub slice_bad : slice_cut store (Counted 9 2) ≡ pointer 0 0 0

pub examples : Examples
unfolding
    pointer sized part_of store_fits good_in text_of all characters readable outcome is_blank trimmed_length second counted_in between_in in_bounds cut_of cut_reads cut_refusal
    cut_rule whole slice_cut
examples =
    record {
      relative = refl;
      at_end = refl;
      past_end = refl;
      counted = refl;
      to_maximum = refl;
      over_maximum = refl;
      between = refl;
      between_open = refl;
      trims = refl;
      trim_reads = refl;
      no_wrap = refl;
      slice_bad = refl;
    }
