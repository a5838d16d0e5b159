-- Laws of a record that is written: blanks, over them the head and the name. Assumes nothing.
use mathlib.Core.Path.{◌≡◌, ap, ◌∙◌}
use mathlib.Core.List.{List}
use Prim.Native.Nat.{ℕ, zero, suc, ◌-◌, ◌/◌, ◌%◌, ◌≤◌}
use native.Mathlib.Nat.{sub-zero}
use native.Mathlib.Omega.{arith}
use lib.ListN.{length, set, take, drop, replicate, length-take}
use lib.Seq.{drop-drop}
use borrow.Author.Rules.{rules}
use Rattle.strlib.proofs.Pointing.{text_front}
use Rattle.strlib.specs.Pointer.{pointer, text_of}
use Rattle.strlib.specs.Store.{put}
use Rattle.strlib.specs.declared.StrPtr.{StrPtr}
use Rattle.moving.proofs.Pasting.{pasted_in}
use Rattle.moving.specs.Moving.{pasted}
use Rattle.records.specs.Record.{head_size, width_of, padded, label_bytes, fitted_bytes}

fewer : (n m : ℕ) → drop {A = ℕ} n (replicate m 32) ≡ replicate (m - n) 32
fewer zero m = rw sub-zero
fewer (suc n) zero = let z : 0 - suc n ≡ 0 = omega arith in rw z
fewer (suc n) (suc m) = let z : suc m - suc n ≡ m - n = omega arith in rw z (fewer n m)

module _ (kind number : ℕ) (name : List ℕ) where
  abbrev headed : List ℕ
  headed = set (set (set (replicate 19 32) 0 (kind % 256)) 1 (number / 256 % 256)) 2 (number % 256)

  module _ (w : ℕ) (p : StrPtr) (x y : List ℕ) (ew : w ≡ width_of (kind % 256)) (ep : p ≡ pointer 0 w w) (ex : x ≡ text_of name p) (ey : y ≡ pasted headed head_size x) where
    fitting : x ≡ take (width_of (kind % 256)) name
    fitting = ex ∙ rw (ep, ew) (text_front name (width_of (kind % 256)) (width_of (kind % 256)))

    short : length x ≤ 16
    unfolding width_of
    short = omega (arith, ap length fitting, length-take 16 name)

    bytes_are : y ≡ fitted_bytes kind number name
    unfolding fitted_bytes label_bytes padded width_of put
    bytes_are =
        let h : number % 65536 / 256 ≡ number / 256 % 256 = omega arith in
        let l : number % 65536 % 256 ≡ number % 256 = omega arith in
        ey ∙ pasted_in headed head_size x (omega (arith, short))
        ∙ rw (← (drop-drop (length x) head_size headed), fewer (length x) 16, h, l, ← fitting)

    pub record_put : (b b' : List ℕ) (at : ℕ) → b' ≡ pasted b at y → b' ≡ pasted b at (fitted_bytes kind number name)
    record_put b b' at e = e ∙ rw bytes_are

pub ruleset build_laws = (rules, record_put)
