-- Laws of a text that grows in a buffer, and of text behind text. Assumes nothing.
use mathlib.Core.Path.{◌≡◌, refl, ap, ◌∙◌}
use mathlib.Core.List.{List, [], ◌∷◌, ◌++◌, append-nil}
use Prim.Native.Nat.{ℕ, zero, suc, ◌+◌, ◌-◌, ◌≤◌, ◌<◌, min}
use native.Mathlib.Omega.{arith}
use borrow.Rule.Slice.PartMut.{put_mid}
use lib.ListN.{length, take, length-take, length-append}
use lib.Seq.{take_all, take-nil}
use Rattle.strlib.proofs.Pointing.{either}
use Rattle.strlib.proofs.Storing.{put_none, put_length, put_head, put_put, take_min, take_append}
use Rattle.strlib.specs.Store.{put}
use Rattle.moving.proofs.Writing.{part_is}
use Rattle.buffer.specs.Buffer.{grown}

-- ---- what has room of a text is written behind the first bytes

module _ (b t y : List ℕ) (n at k : ℕ) (ea : at ≡ min n (length b)) (ek : k ≡ min (length t) (length b - at)) where
  fitting : take k t ≡ take (length b - at) t
  fitting = rw (ek, ← (take_min (length b - at) (length t) t), take_all (length t) t (omega arith))

  pub grow_put : y ≡ take k t → (at + length (take k t), put_mid at (at + length (take k t) - at) b y) ≡ grown b n t
  unfolding grown
  grow_put e =
      let x : List ℕ = take k t in
      let l : length x ≡ min k (length t) = length-take k t in
      let c : at + length x ≡ min (n + length t) (length b) = omega arith in
      let p : put_mid at (at + length x - at) b y ≡ put b at x = part_is b y x at (length x) e refl in
      let q : put b at x ≡ put b n (take (length b - n) t) =
      either n (length b)
      (λ (h : n ≤ length b). let a : at ≡ n = omega arith in rw (fitting, a))
      (λ (h : length b < n).
      let z : length b - n ≡ 0 = omega arith in
      let w : length b - at ≡ 0 = omega arith in
      rw (fitting, w, z, put_none b at, put_none b n)) in
      rw (p, q, c)

-- ---- what follows from the equation

-- what is cut off anyway may be cut off before
pub take_twice : (l : ℕ) (x u : List ℕ) → take l (take l x ++ u) ≡ take l (x ++ u)
take_twice zero x u = refl
take_twice (suc l) [] u = refl
take_twice (suc l) (a ∷ x) u = ap (λ (r : List ℕ). a ∷ r) (take_twice l x u)

module _ (b : List ℕ) (n : ℕ) (b' : List ℕ) (r : ℕ) (t : List ℕ) (g : (r, b') ≡ grown b n t) where
  pub grown_count : r ≡ min (n + length t) (length b)
  unfolding grown
  grown_count = ap (λ (z : ℕ × List ℕ). z.0) g

  grown_put : b' ≡ put b n (take (length b - n) t)
  unfolding grown
  grown_put = ap (λ (z : ℕ × List ℕ). z.1) g

  pub grown_size : length b' ≡ length b
  grown_size =
      either n (length b)
      (λ (h : n ≤ length b). rw grown_put (put_length b n (take (length b - n) t) (rw length-take (omega arith))))
      (λ (h : length b < n). let z : length b - n ≡ 0 = omega arith in rw (grown_put, z, put_none b n))

  pub grown_inside : r ≤ length b'
  grown_inside = omega (arith, grown_count, grown_size)

  -- the bytes that are there then
  pub grown_bytes : take r b' ≡ take (length b) (take n b ++ t)
  grown_bytes =
      either n (length b)
      (λ (h : n ≤ length b).
      let y : List ℕ = take (length b - n) t in
      let ln : length (take n b) ≡ n = rw length-take (omega arith) in
      let ly : length (take n b ++ y) ≡ r = rw length-append (rw (ln, length-take (length b - n) t) (omega (arith, grown_count))) in
      let m : take (length b) (take n b) ≡ take n b = take_all (length b) (take n b) (omega arith) in
      let there : take r (put b n y) ≡ take n b ++ y = put_head b n y r ly in
      let cut : take (length b) (take n b ++ t) ≡ take n b ++ y = rw (take_append (length b) (take n b) t, m, ln) in
      rw (grown_put, there, cut))
      (λ (h : length b < n).
      let z : length b - n ≡ 0 = omega arith in
      let q : length b ≡ r = omega (arith, grown_count) in
      let w : length b - length b ≡ 0 = omega arith in
      let cut : take (length b) (take n b ++ t) ≡ b =
      rw (take_all n b (omega arith), take_append (length b) b t, take_all (length b) b (omega arith), w, append-nil b) in
      rw (grown_put, z, put_none b n, cut) (take_all r b (omega arith)))

module _ (b : List ℕ) (n r : ℕ) (t : List ℕ) (l : ℕ) (el : l ≡ length b) (er : r ≡ min (n + length t) (length b)) (k : n ≤ length b) where
  room_left : length t ≤ length b - n → l - r ≡ length b - n - length t
  room_left x = let y : r ≡ n + length t = omega arith in omega arith

  room_none : length b - n < length t → (l - r ≡ 0) × (length b - n - length t ≡ 0)
  room_none x = let y : r ≡ length b = omega arith in (omega arith, omega arith)

-- text behind text
pub grow_more : (b : List ℕ) (n : ℕ) (b' : List ℕ) (r : ℕ) (b'' : List ℕ) (q : ℕ) (t u : List ℕ)
    → (r, b') ≡ grown b n t → (q, b'') ≡ grown b' r u → (q, b'') ≡ grown b n (t ++ u)
unfolding grown
grow_more b n b' r b'' q t u g h =
    let er : r ≡ min (n + length t) (length b) = grown_count b n b' r t g in
    let eb : b' ≡ put b n (take (length b - n) t) = grown_put b n b' r t g in
    let es : length b' ≡ length b = grown_size b n b' r t g in
    let c : min (r + length u) (length b') ≡ min (n + length (t ++ u)) (length b) = rw length-append (omega arith) in
    let p : put b' r (take (length b' - r) u) ≡ put b n (take (length b - n) (t ++ u)) =
    either n (length b)
    (λ (k : n ≤ length b).
    let y : List ℕ = take (length b - n) t in
    let ly : length y ≡ min (length b - n) (length t) = length-take (length b - n) t in
    let f : r ≡ n + length y = omega arith in
    let i : take (length b' - r) u ≡ take (length b - n - length t) u =
    either (length t) (length b - n)
    (λ (x : length t ≤ length b - n). rw (room_left b n r t (length b') es er k x))
    (λ (x : length b - n < length t). let j = room_none b n r t (length b') es er k x in rw (j.0, j.1)) in
    rw (i, eb, f, put_put b n y k (take (length b - n - length t) u), take_append (length b - n) t u))
    (λ (k : length b < n).
    let z : length b - n ≡ 0 = omega arith in
    let z' : length b' - r ≡ 0 = omega arith in
    rw (z', z, eb) (rw z (rw (put_none b n, put_none b r)))) in
    h ∙ rw (c, p)

pub grow_is : (b : List ℕ) (n : ℕ) (b' : List ℕ) (r : ℕ) (t u : List ℕ) → t ≡ u → (r, b') ≡ grown b n t → (r, b') ≡ grown b n u
grow_is b n b' r t u e g = rw e at g

-- nothing put
pub grown_none : (b : List ℕ) (n : ℕ) → n ≤ length b → (n, b) ≡ grown b n []
unfolding grown
grown_none b n h =
    let c : n ≡ min (n + 0) (length b) = omega arith in
    rw (← c, take-nil, put_none b n)

-- a text that has room stands there whole
pub grown_whole : (b b' : List ℕ) (r : ℕ) (t : List ℕ) → (r, b') ≡ grown b 0 t → length t ≤ length b → take r b' ≡ t
grown_whole b b' r t g h = grown_bytes b 0 b' r t g ∙ take_all (length b) t h
