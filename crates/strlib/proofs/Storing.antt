-- Laws of what is written into a store. Assumes nothing.
use mathlib.Core.Path.{◌≡◌, refl, sym, ap, ◌∙◌}
use mathlib.Core.List.{List, [], ◌∷◌, ◌++◌, append_assoc, append-nil}
use Prim.Native.Nat.{ℕ, zero, suc, ◌+◌, ◌-◌, ◌≤◌, ◌<◌, min}
use native.Mathlib.Nat.{add-zero, sub-zero}
use native.Mathlib.Numerals.{add-one}
use native.Mathlib.Omega.{arith}
use lib.ListN.{length, take, drop, get_or, set, length-take, length-drop, length-append, take-append-drop}
use lib.Seq.{take_at, drop_at, drop-drop, take-take, take_all, take-append-le, drop-append-le, take-append-add, take-suc, take-nil, set_split, take-add}
use Rattle.strlib.proofs.Pointing.{either}
use Rattle.strlib.specs.Store.{put}

-- ---- lists

pub take_min : (m n : ℕ) (l : List ℕ) → take m (take n l) ≡ take (min n m) l
take_min m n l =
    either m n
    (λ (h : m ≤ n). let e : min n m ≡ m = omega arith in rw (take-take m n l h, e))
    (λ (h : n < m). let e : min n m ≡ n = omega arith in rw (take_all m (take n l) (simp length-take (omega arith)), e))

pub take_append : (m : ℕ) (xs ys : List ℕ) → take m (xs ++ ys) ≡ take m xs ++ take (m - length xs) ys
take_append m xs ys =
    either m (length xs)
    (λ (h : m ≤ length xs). let z : m - length xs ≡ 0 = omega arith in rw (take-append-le m xs ys h, z, append-nil))
    (λ (h : length xs < m).
    let j : length xs + (m - length xs) ≡ m = omega arith in
    ap (λ (k : ℕ). take k (xs ++ ys)) (sym j) ∙ take-append-add xs ys (m - length xs) ∙ ap (λ (l : List ℕ). l ++ take (m - length xs) ys) (sym (take_all m xs (omega arith))))

pub drop_take : (q n : ℕ) (l : List ℕ) → drop q (take n l) ≡ take (n - q) (drop q l)
drop_take zero n l = rw sub-zero
drop_take (suc q) zero l = let z : 0 - suc q ≡ 0 = omega arith in rw z
drop_take (suc q) (suc n) [] = rw take-nil
drop_take (suc q) (suc n) (x ∷ l) = let e : suc n - suc q ≡ n - q = omega arith in rw e (drop_take q n l)

-- ---- put

pub put_none : (s : List ℕ) (at : ℕ) → put s at [] ≡ s
unfolding put
put_none s at = rw (append-nil, add-zero, take-append-drop)

pub put_length : (s : List ℕ) (at : ℕ) (xs : List ℕ) → at + length xs ≤ length s → length (put s at xs) ≡ length s
unfolding put
put_length s at xs h = rw (length-append, length-append, length-take, length-drop) (omega arith)

-- what stands up to the end of what was put
pub put_head : (s : List ℕ) (at : ℕ) (xs : List ℕ) (m : ℕ) → length (take at s ++ xs) ≡ m → take m (put s at xs) ≡ take at s ++ xs
unfolding put
put_head s at xs m e = take_at (take at s ++ xs) (drop (at + length xs) s) m e

-- one byte stored is one byte put
pub set_put : (s : List ℕ) (at v : ℕ) → at < length s → set s at v ≡ put s at (v ∷ [])
unfolding put
set_put s at v h = let e : at + 1 ≡ suc at = omega arith in rw (set_split s at v h, append_assoc, e)

module _ (s : List ℕ) (at : ℕ) (xs : List ℕ) (h : at ≤ length s) where
  head : length (take at s ++ xs) ≡ at + length xs
  head = rw (length-append, length-take) (omega arith)

  -- more is put behind
  pub put_put : (zs : List ℕ) → put (put s at xs) (at + length xs) zs ≡ put s at (xs ++ zs)
  unfolding put
  put_put zs =
      let p : List ℕ = take at s ++ xs in
      let q : List ℕ = drop (at + length xs) s in
      let d : drop (at + length xs + length zs) (p ++ q) ≡ drop (at + length xs + length zs) s =
      sym (drop-drop (length zs) (at + length xs) (p ++ q)) ∙ ap (λ (l : List ℕ). drop (length zs) l) (drop_at p q (at + length xs) head) ∙ drop-drop (length zs) (at + length xs) s in
      let e : at + length (xs ++ zs) ≡ at + length xs + length zs = rw length-append (omega arith) in
      rw (take_at p q (at + length xs) head, d, e, append_assoc (take at s) xs zs)

  -- a part that lies before or behind what was put
  pub part_before : (a m : ℕ) → a + m ≤ at → take m (drop a (put s at xs)) ≡ take m (drop a s)
  unfolding put
  part_before a m k =
      let l : length (take at s) ≡ at = rw length-take (omega arith) in
      let n : m ≤ length (drop a (take at s)) = rw length-drop (omega arith) in
      let go : (ys : List ℕ) → take m (drop a (take at s ++ ys)) ≡ take m (drop a (take at s)) =
      λ ys. rw (drop-append-le a (take at s) ys (omega arith), take-append-le m (drop a (take at s)) ys n) in
      ap (λ (z : List ℕ). take m (drop a z)) (append_assoc (take at s) xs (drop (at + length xs) s))
      ∙ go (xs ++ drop (at + length xs) s)
      ∙ sym (go (drop at s))
      ∙ ap (λ (z : List ℕ). take m (drop a z)) (take-append-drop at s)

  pub drop_put : (a : ℕ) → at + length xs ≤ a → drop a (put s at xs) ≡ drop a s
  unfolding put
  drop_put a k =
      let p : List ℕ = take at s ++ xs in
      let q : List ℕ = drop (at + length xs) s in
      let j : at + length xs + (a - (at + length xs)) ≡ a = omega arith in
      ap (λ (i : ℕ). drop i (p ++ q)) (sym j)
      ∙ sym (drop-drop (a - (at + length xs)) (at + length xs) (p ++ q))
      ∙ ap (drop (a - (at + length xs))) (drop_at p q (at + length xs) head)
      ∙ drop-drop (a - (at + length xs)) (at + length xs) s
      ∙ ap (λ (i : ℕ). drop i s) j

  pub part_after : (a m : ℕ) → at + length xs ≤ a → take m (drop a (put s at xs)) ≡ take m (drop a s)
  part_after a m k = rw (drop_put a k)

  -- what was put, read back
  pub part_put : take (length xs) (drop at (put s at xs)) ≡ xs
  unfolding put
  part_put =
      let p : List ℕ = take at s in
      let q : List ℕ = drop (at + length xs) s in
      let e : length p ≡ at = rw length-take (omega arith) in
      rw (append_assoc p xs q, drop_at p (xs ++ q) at e, take_at xs q (length xs) refl)

  -- put anew over what was put
  pub put_over : (zs : List ℕ) → length xs ≤ length zs → put (put s at xs) at zs ≡ put s at zs
  unfolding put
  put_over zs k =
      let p : List ℕ = take at s in
      let q : List ℕ = drop (at + length xs) s in
      let e : length p ≡ at = rw length-take (omega arith) in
      let d : drop (at + length zs) (put s at xs) ≡ drop (at + length zs) s = drop_put (at + length zs) (omega arith) in
      rw (d) (rw (append_assoc p xs q, take_at p (xs ++ q) at e))

-- a byte stored behind what was put
pub put_more : (s : List ℕ) (at : ℕ) (xs : List ℕ) (v : ℕ) → at + length xs < length s → set (put s at xs) (at + length xs) v ≡ put s at (xs ++ (v ∷ []))
put_more s at xs v h =
    let l : length (put s at xs) ≡ length s = put_length s at xs (omega arith) in
    set_put (put s at xs) (at + length xs) v (omega arith) ∙ put_put s at xs (omega arith) (v ∷ [])

-- a byte stored in front of what was put
pub put_front : (s : List ℕ) (at : ℕ) (xs : List ℕ) (v : ℕ) → at + 1 + length xs ≤ length s → set (put s (at + 1) xs) at v ≡ put s at (v ∷ xs)
unfolding put
put_front s at xs v h =
    let t : List ℕ = put s (at + 1) xs in
    let l : length t ≡ length s = put_length s (at + 1) xs h in
    let a : take at t ≡ take at s = part_before s (at + 1) xs (omega arith) 0 at (omega arith) in
    let e : take (at + 1) s ≡ take at s ++ (get_or s at 0 ∷ []) = rw add-one (take-suc s at 0 (omega arith)) in
    let hd : length (take (at + 1) s) ≡ suc at = rw length-take (omega arith) in
    let q : List ℕ = drop (at + 1 + length xs) s in
    let d : drop (suc at) t ≡ xs ++ q = rw (append_assoc (take (at + 1) s) xs q) (drop_at (take (at + 1) s) (xs ++ q) (suc at) hd) in
    let n : at + suc (length xs) ≡ at + 1 + length xs = omega arith in
    set_split t at v (omega arith) ∙ rw (a, d, n, append_assoc)

-- what stands there already, put again
pub put_same : (s : List ℕ) (at n : ℕ) → at + n ≤ length s → put s at (take n (drop at s)) ≡ s
unfolding put
put_same s at n h =
    let l : length (take n (drop at s)) ≡ n = rw (length-take, length-drop) (omega arith) in
    rw (l, ← (take-add at n s), take-append-drop)

pub put_kept : (s : List ℕ) (at n : ℕ) (ys : List ℕ) → at + n ≤ length s → put s (at + n) ys ≡ put s at (take n (drop at s) ++ ys)
put_kept s at n ys h =
    let c : List ℕ = take n (drop at s) in
    let l : length c ≡ n = rw (length-take, length-drop) (omega arith) in
    let e : put (put s at c) (at + length c) ys ≡ put s at (c ++ ys) = put_put s at c (omega arith) ys in
    rw (l, put_same s at n h) at e

-- more is put in front
pub put_before : (s : List ℕ) (at : ℕ) (xs ys : List ℕ) → at + length xs + length ys ≤ length s → put (put s (at + length xs) ys) at xs ≡ put s at (xs ++ ys)
unfolding put
put_before s at xs ys h =
    let t : List ℕ = put s (at + length xs) ys in
    let a : take at t ≡ take at s = part_before s (at + length xs) ys (omega arith) 0 at (omega arith) in
    let p : List ℕ = take (at + length xs) s in
    let q : List ℕ = drop (at + length xs + length ys) s in
    let l : length p ≡ at + length xs = rw length-take (omega arith) in
    let d : drop (at + length xs) t ≡ ys ++ q = rw (append_assoc p ys q) (drop_at p (ys ++ q) (at + length xs) l) in
    let e : at + length (xs ++ ys) ≡ at + length xs + length ys = rw length-append (omega arith) in
    rw (a, d, e) (simp append_assoc)
