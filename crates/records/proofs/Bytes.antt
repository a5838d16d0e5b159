-- A record's bytes say what was written: the kind, the number, and the name filled with blanks. Assumes nothing.
use mathlib.Core.Path.{◌≡◌, refl}
use mathlib.Core.List.{List}
use Prim.Native.Nat.{ℕ, ◌%◌, ◌≤◌, ◌<◌}
use native.Mathlib.Nat.{div-add-mod'}
use native.Mathlib.Omega.{arith}
use lib.ListN.{length}
use lib.Seq.{take_all}
use Rattle.records.proofs.Limits.{padded_length}
use Rattle.records.specs.Record.{width_of, record_size, kind_of, number_in, name_in, padded, label_bytes, fitted_bytes}

module _ (kind number : ℕ) (name : List ℕ) where
  pub label_kind : kind_of (label_bytes kind number name) ≡ kind
  unfolding kind_of label_bytes
  label_kind = refl

  pub label_number : number_in (label_bytes kind number name) ≡ number
  unfolding number_in label_bytes
  label_number = div-add-mod' number 256

  module _ (short : length name ≤ width_of kind) where
    pub label_length : length (label_bytes kind number name) ≡ record_size kind
    unfolding label_bytes record_size
    label_length = omega (arith, padded_length (width_of kind) name short)

    pub label_name : name_in (label_bytes kind number name) ≡ padded (width_of kind) name
    unfolding name_in kind_of label_bytes
    label_name = take_all (width_of kind) (padded (width_of kind) name) (omega (arith, padded_length (width_of kind) name short))

    -- what fits is written as it is
    pub fitted_is : kind < 256 → number < 65536 → fitted_bytes kind number name ≡ label_bytes kind number name
    unfolding fitted_bytes
    fitted_is one two =
        let k : kind % 256 ≡ kind = omega arith in
        let n : number % 65536 ≡ number = omega arith in
        rw (k, n, take_all (width_of kind) name short)
