-- A record that is whole is read from its own bytes alone: what follows them plays no part. Assumes nothing.
use mathlib.Core.Path.{◌≡◌, refl, sym, ap, ◌∙◌}
use mathlib.Core.Bool.{Bool, true, false, cond}
use mathlib.Core.List.{List, [], ◌∷◌, ◌++◌}
use Prim.Native.Nat.{ℕ, zero, suc, ◌≤◌, ◌<◌}
use native.Mathlib.Omega.{arith}
use lib.ListN.{length, get_or, take, drop, length-append, length-drop, take-append-drop, get_or-append}
use lib.Seq.{take-append-le, drop-append-le, length-take-le}
use borrow.Author.Tests.{leb-true, le-leb}
use Rattle.strlib.proofs.Refusing.{passed, first_before, first_behind}
use Rattle.records.proofs.Sizes.{size_least, size_width}
use Rattle.records.specs.Record.{head_size, width_of, record_size, is_kind, is_number_of, is_name, kind_of, number_in, name_in, is_fresh}
use Rattle.records.specs.Record.{body_checks, body_refusal, behind_refusal}

-- the record at the front of `rest` is not refused by itself
pub record Body (rest : List ℕ) : Type 0 where
  pub kind : is_kind (kind_of rest) ≡ true
  pub whole : record_size (kind_of rest) ≤ length rest
  pub number : is_number_of (kind_of rest) (number_in rest) ≡ true
  pub name : is_name (name_in rest) ≡ true

pub body_passes : (rest : List ℕ) → body_refusal rest ≡ 0 → Body rest
unfolding body_refusal
body_passes rest e =
    let p = passed (body_checks rest) refl e in
    record { kind = p.0; whole = leb-true (record_size (kind_of rest)) (length rest) p.1.0; number = p.1.1.0; name = p.1.1.1.0 }

pub body_unrefused : (rest : List ℕ) → Body rest → body_refusal rest ≡ 0
unfolding body_refusal
body_unrefused rest p = rw (p.kind, le-leb (record_size (kind_of rest)) (length rest) p.whole, p.number, p.name)

-- and not behind `met`
pub record Passes (met rest : List ℕ) : Type 0 where
  pub body : Body rest
  pub fresh : is_fresh met (kind_of rest) (number_in rest) ≡ true

module _ (met rest : List ℕ) where
  -- what it is refused with by itself stands before all else
  pub behind_body : (k : ℕ) → k ≡ body_refusal rest → (k ≡ 0 → ⊥) → k ≡ behind_refusal met rest
  unfolding body_refusal behind_refusal
  behind_body k e h = first_before (body_checks rest) ((14, is_fresh met (kind_of rest) (number_in rest)) ∷ []) k e h

  pub behind_fresh : body_refusal rest ≡ 0 → behind_refusal met rest ≡ cond (is_fresh met (kind_of rest) (number_in rest)) 0 14
  unfolding body_refusal behind_refusal
  behind_fresh e = first_behind (body_checks rest) ((14, is_fresh met (kind_of rest) (number_in rest)) ∷ []) refl e

  pub passes : behind_refusal met rest ≡ 0 → Passes met rest
  passes e =
      let z : body_refusal rest ≡ 0 = none (body_refusal rest) refl in
      record { body = body_passes rest z; fresh = go (is_fresh met (kind_of rest) (number_in rest)) (sym (behind_fresh z) ∙ e) }
    where
      none : (k : ℕ) → body_refusal rest ≡ k → k ≡ 0
      none zero q = refl
      none (suc k) q = behind_body (suc k) (sym q) (λ (z : suc k ≡ 0). omega arith) ∙ e

      go : (b : Bool) → ◌≡◌ {A = ℕ} (cond b 0 14) 0 → b ≡ true
      go true f = refl
      go false f = absurd (omega arith)

  pub unrefused : Passes met rest → behind_refusal met rest ≡ 0
  unrefused p = behind_fresh (body_unrefused rest p.body) ∙ rw p.fresh

module _ (x y : List ℕ) (h : record_size (kind_of x) ≤ length x) where
  byte_front : (i : ℕ) → i < 19 → get_or (x ++ y) i 0 ≡ get_or x i 0
  byte_front i k = get_or-append x y 0 i (omega (arith, size_least (kind_of x)))

  pub kind_front : kind_of (x ++ y) ≡ kind_of x
  unfolding kind_of
  kind_front = byte_front 0 (omega arith)

  pub number_front : number_in (x ++ y) ≡ number_in x
  unfolding number_in
  number_front = rw (byte_front 1 (omega arith), byte_front 2 (omega arith))

  pub name_front : name_in (x ++ y) ≡ name_in x
  unfolding name_in
  name_front =
      let a : head_size ≤ length x = omega (arith, size_least (kind_of x)) in
      let b : width_of (kind_of x) ≤ length (drop head_size x) = rw length-drop (omega (arith, size_width (kind_of x))) in
      rw (kind_front, drop-append-le head_size x y a, take-append-le (width_of (kind_of x)) (drop head_size x) y b)

  pub name_length : length (name_in x) ≡ width_of (kind_of x)
  unfolding name_in
  name_length =
      let b : width_of (kind_of x) ≤ length (drop head_size x) = rw length-drop (omega (arith, size_width (kind_of x))) in
      length-take-le (width_of (kind_of x)) (drop head_size x) b

  pub refusal_front : (met : List ℕ) → behind_refusal met (x ++ y) ≡ behind_refusal met x
  unfolding behind_refusal
  refusal_front met =
      let a : record_size (kind_of x) ≤ length (x ++ y) = rw length-append (omega arith) in
      rw (kind_front, number_front, name_front, le-leb (record_size (kind_of x)) (length (x ++ y)) a, le-leb (record_size (kind_of x)) (length x) h)

pub kind_take : (n : ℕ) (l : List ℕ) → 0 < n → kind_of (take n l) ≡ kind_of l
unfolding kind_of
kind_take zero l h = absurd (omega arith)
kind_take (suc n) [] h = refl
kind_take (suc n) (x ∷ l) h = refl

-- the bytes of the record at the front, and nothing behind
module _ (rest : List ℕ) where
  abbrev pub record_bytes : List ℕ
  record_bytes = take (record_size (kind_of rest)) rest

  pub bytes_kind : kind_of record_bytes ≡ kind_of rest
  bytes_kind = kind_take (record_size (kind_of rest)) rest (omega (arith, size_least (kind_of rest)))

  module _ (h : record_size (kind_of rest) ≤ length rest) where
    pub bytes_length : length record_bytes ≡ record_size (kind_of record_bytes)
    bytes_length = rw bytes_kind (length-take-le (record_size (kind_of rest)) rest h)

    bytes_whole : record_size (kind_of record_bytes) ≤ length record_bytes
    bytes_whole = omega (arith, bytes_length)

    split : record_bytes ++ drop (record_size (kind_of rest)) rest ≡ rest
    split = take-append-drop (record_size (kind_of rest)) rest

    pub bytes_refusal : (met : List ℕ) → behind_refusal met record_bytes ≡ behind_refusal met rest
    bytes_refusal met = sym (refusal_front record_bytes (drop (record_size (kind_of rest)) rest) bytes_whole met) ∙ ap (behind_refusal met) split
