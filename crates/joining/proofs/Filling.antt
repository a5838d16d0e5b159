-- Laws of the loop that fills the destination. Its state says what is left: the joined characters behind those written
-- are those of the strings from index i on, but for q characters. A turn moves the next of them, whose source no write
-- has changed, and then either the string is used up or the maximum is reached. Assumes nothing.
use mathlib.Core.Path.{◌≡◌, refl, sym, ap, ◌∙◌}
use mathlib.Core.Bool.{true, false}
use mathlib.Core.List.{List, [], ◌∷◌, ◌++◌}
use Prim.Native.Nat.{ℕ, ◌+◌, ◌-◌, ◌≤◌, ◌<◌, min}
use native.Mathlib.Nat.{sub-zero}
use native.Mathlib.Omega.{arith}
use lib.Dec.{leb, ltb}
use lib.ListN.{length, take, drop, get_or, length-take, length-drop, length-append, drop_of_length-le}
use native.Mathlib.Numerals.{add-one}
use lib.Seq.{drop-cons, drop-drop, take_all, take-add, take-take, take-append-le, drop-append-le, drop_at, get_or-take}
use mir.Syntax.{w64}
use mir.Val.{Fits}
use borrow.Author.Rules.{rules}
use borrow.Author.Tests.{le-leb, lt-leb, lt-ltb, le-ltb}
use Rattle.std.proofs.lemmas.List.{get_or-drop}
use Rattle.strlib.specs.Pointer.{sized, good_in, text_of, texts, clear, joined}
use Rattle.strlib.specs.Store.{put}
use Rattle.strlib.specs.declared.StrPtr.{StrPtr}
use Rattle.strlib.proofs.Pointing.{good_is, text_length}
use Rattle.strlib.proofs.Listing.{all_at}
use Rattle.strlib.proofs.Storing.{drop_take, put_none, put_put, put_length}
use Rattle.moving.specs.Moving.{moved}
use Rattle.moving.proofs.Moving.{moved_in}
use Rattle.moving.proofs.Keeping.{text_kept}
use Rattle.joining.specs.Resuming.{length_at, before, place_at, piece, completes, next_place, round_of, round_from}
use Rattle.joining.specs.Inner.{Next, moved_next, Resumable}
use Rattle.joining.specs.declared.Round.{Round}
use Rattle.strlib.proofs.Texts.{texts_long, texts_drop}
use Rattle.joining.proofs.Texts.{joined_drop, before_add, length_at_is}
use Rattle.joining.proofs.Placing.{place_skip}

-- ---- moving the next characters of a source

module _ (s : List ℕ) (destination : StrPtr) (n : ℕ) (source : StrPtr) (q : ℕ) (N : Next (length s) destination n source q) where
  pub next_from : Fits w64 (source.start + q)
  next_from = omega (arith, good_is (length s) source N.part)

  pub next_to : Fits w64 (destination.start + n)
  next_to = omega (arith, good_is (length s) destination N.room)

  module _ (m : ℕ) (e : m ≡ min (source.length - q) (destination.maximum - n)) where
    pub next_size : n + m ≤ 65536
    next_size = omega (arith, good_is (length s) destination N.room, N.fits)

    pub next_place_lem : q + m ≤ 65536
    next_place_lem = omega (arith, good_is (length s) source N.part, N.character)

    pub next_done : (t : List ℕ) → t ≡ moved s (source.start + q) (destination.start + n) m → (m, t) ≡ moved_next s destination n source q
    unfolding moved_next
    next_done t f = rw (f, e)

pub ruleset next_laws = (rules, next_from, next_to, next_size, next_place_lem, next_done)

-- ---- the loop

-- a part of a string, by its place in the store
part_text : (s : List ℕ) (p : StrPtr) (q m : ℕ) → q + m ≤ p.length → take m (drop (p.start + q) s) ≡ take m (drop q (text_of s p))
unfolding text_of
part_text s p q m h = sym (rw (drop_take, take-take m (p.length - q) (drop q (drop p.start s)) (omega arith), drop-drop))

-- n characters are written, and what is left starts behind q characters of the string of index i
pub record Filling (s t : List ℕ) (destination : StrPtr) (ps : List StrPtr) (index skip n i q : ℕ) : Type 0 where
  pub given : Resumable s destination ps index skip
  pub string : i ≤ length ps
  pub character : q ≤ length_at ps i
  pub long : length t ≡ length s
  pub size : n ≤ destination.maximum
  pub few : n ≤ length (drop (before (texts s ps) index skip) (joined (texts s ps)))
  pub bytes : t ≡ put s destination.start (take n (drop (before (texts s ps) index skip) (joined (texts s ps))))
  pub left : drop n (drop (before (texts s ps) index skip) (joined (texts s ps))) ≡ drop q (joined (drop i (texts s ps)))
  pub next : place_at 1 (texts s ps) (before (texts s ps) index skip + destination.maximum)
      ≡ place_at (i + 1) (drop i (texts s ps)) (q + (destination.maximum - n))

pub fill_none : (s : List ℕ) (destination : StrPtr) (ps : List StrPtr) (index skip : ℕ) → Resumable s destination ps index skip
    → Filling s s destination ps index skip 0 index skip
fill_none s destination ps index skip R =
    let xss : List (List ℕ) = texts s ps in
    let l : index ≤ length xss = rw (texts_long s ps) R.start in
    let b : 1 + index ≡ index + 1 = omega arith in
    record {
      given = R;
      string = R.start;
      character = R.within;
      long = refl;
      size = omega arith;
      few = omega arith;
      bytes = sym (put_none s destination.start);
      left = joined_drop xss index skip;
      next = rw (before_add xss index skip destination.maximum, place_skip 1 xss index (skip + destination.maximum) l, b, sub-zero);
    }

module _ (s t : List ℕ) (destination : StrPtr) (ps : List StrPtr) (index skip n i q : ℕ) (F : Filling s t destination ps index skip n i q) where
  abbrev xss : List (List ℕ)
  xss = texts s ps

  -- what the call is to write, if it fits
  abbrev what : List ℕ
  what = drop (before xss index skip) (joined xss)

  abbrev behind : List ℕ
  behind = joined (drop i xss)

  room : (destination.length ≤ destination.maximum) × (destination.start + destination.maximum ≤ length s)
  room = good_is (length s) destination F.given.room

  rest_long : length what - n ≡ length behind - q
  rest_long = sym (length-drop n what) ∙ ap length F.left ∙ length-drop q behind

  -- no string is left
  pub fill_end : length ps ≤ i → (r : Round) → r ≡ record { to = sized destination n; completed = true; next = record { string = length ps + 1; character = 1 } }
      → (r, t) ≡ round_from s destination ps index skip
  unfolding round_from round_of piece completes next_place place_at joined texts
  fill_end h r f =
      let e : i ≡ length ps = omega (arith, F.string) in
      let d : drop i xss ≡ [] = rw (texts_drop s ps i, drop_of_length-le ps h) refl in
      let z : length behind ≡ 0 = rw d in
      let a : length what ≡ n = omega (arith, rest_long, F.few) in
      let w : take destination.maximum what ≡ take n what = rw (take_all destination.maximum what (omega (arith, F.size)), take_all n what (omega arith)) in
      let l : length (take n what) ≡ n = rw length-take (omega arith) in
      let p : place_at 1 xss (before xss index skip + destination.maximum) ≡ record { string = length ps + 1; character = 1 } = F.next ∙ rw (d, e) in
      let c : leb (length what) destination.maximum ≡ true = le-leb (length what) destination.maximum (omega (arith, F.size)) in
      rw (f, F.bytes, w, l, p, c)

  -- inside the string of index i
  module _ (x d : StrPtr) (h : i < length ps) (is : x ≡ get_or ps i d) where
    x_length : length_at ps i ≡ x.length
    x_length = length_at_is ps i d h ∙ rw (← is)

    fill_sub : q ≤ x.length
    fill_sub = omega (arith, x_length, F.character)

    x_good : good_in (length s) x ≡ true
    x_good = rw (← is) at (all_at (good_in (length s)) ps i d F.given.parts h)

    part : (x.length ≤ x.maximum) × (x.start + x.maximum ≤ length s)
    part = good_is (length s) x x_good

    x_clear : clear destination x ≡ true
    x_clear = rw (← is) at (all_at (clear destination) ps i d F.given.apart h)

    text : length (text_of s x) ≡ x.length
    text = text_length s x x_good

    cons : drop i xss ≡ text_of s x ∷ drop (i + 1) xss
    unfolding texts
    cons = rw (texts_drop s ps i, texts_drop s ps (i + 1), add-one, drop-cons ps i d h, ← is)

    behind_long : x.length ≤ length behind
    unfolding joined
    behind_long = rw (cons, length-append, text) (omega arith)

    -- what moving its next characters asks
    pub fill_next : Next (length t) destination n x q
    fill_next = record { small = omega (arith, F.given.small, F.long); room = rw F.long F.given.room; part = rw F.long x_good; fits = F.size; character = fill_sub }

    -- the string is used up
    used_up : x.length ≤ q → Filling s t destination ps index skip n (i + 1) 0
    unfolding place_at joined
    used_up g =
        let e : q ≡ x.length = omega (arith, fill_sub) in
        let c : drop x.length (text_of s x ++ joined (drop (i + 1) xss)) ≡ joined (drop (i + 1) xss) = drop_at (text_of s x) (joined (drop (i + 1) xss)) x.length text in
        let b : ltb (q + (destination.maximum - n)) (length (text_of s x)) ≡ false = le-ltb (q + (destination.maximum - n)) (length (text_of s x)) (omega (arith, text)) in
        let f : q + (destination.maximum - n) - length (text_of s x) ≡ 0 + (destination.maximum - n) = omega (arith, text) in
        record {
          given = F.given;
          string = omega arith;
          character = omega arith;
          long = F.long;
          size = F.size;
          few = F.few;
          bytes = F.bytes;
          left = F.left ∙ rw (cons, e) c;
          next = F.next ∙ rw (cons, b, f);
        }

    module _ (m : ℕ) (t' : List ℕ) (e : (m, t') ≡ moved_next t destination n x q) where
      em : m ≡ min (x.length - q) (destination.maximum - n)
      unfolding moved_next
      em = ap (λ (z : ℕ × List ℕ). z.0) e

      et : t' ≡ moved t (x.start + q) (destination.start + n) m
      unfolding moved_next
      et = ap (λ (z : ℕ × List ℕ). z.1) e ∙ rw (← em)

      -- what is moved is the next of what is left: no write has changed the source
      taken : take m (drop (x.start + q) t) ≡ take m (drop n what)
      unfolding joined
      taken =
          let v : List ℕ = take n what in
          let l : length v ≡ n = rw length-take (omega (arith, F.few)) in
          let kept : text_of t x ≡ text_of s x = rw F.bytes (text_kept s destination x destination.start v F.given.room x_clear (omega arith) (omega (arith, F.size))) in
          let b : m ≤ length (drop q (text_of s x)) = rw (length-drop, text) (omega (arith, em)) in
          part_text t x q m (omega (arith, em, fill_sub))
          ∙ rw kept
          (sym (ap (take m) F.left
          ∙ rw (cons, drop-append-le q (text_of s x) (joined (drop (i + 1) xss)) (omega (arith, text, fill_sub)), take-append-le m (drop q (text_of s x)) (joined (drop (i + 1) xss)) b)))

      -- m characters are moved
      fill_more : Filling s t' destination ps index skip (n + m) i (q + m)
      fill_more =
          let v : List ℕ = take n what in
          let l : length v ≡ n = rw length-take (omega (arith, F.few)) in
          let p : t' ≡ put t (destination.start + n) (take m (drop (x.start + q) t)) =
          et ∙ moved_in t (x.start + q) (destination.start + n) m (omega (arith, em, F.long, part, fill_sub)) (omega (arith, em, F.long, F.size, room)) in
          let k : length (take m (drop (x.start + q) t)) ≡ m = rw (length-take, length-drop) (omega (arith, em, F.long, part, fill_sub)) in
          let g : length t' ≡ length t = rw p (put_length t (destination.start + n) (take m (drop (x.start + q) t)) (omega (arith, em, F.long, F.size, room))) in
          let pp : put (put s destination.start v) (destination.start + length v) (take m (drop n what)) ≡ put s destination.start (v ++ take m (drop n what)) =
          put_put s destination.start v (omega (arith, room)) (take m (drop n what)) in
          let f : q + m + (destination.maximum - (n + m)) ≡ q + (destination.maximum - n) = omega (arith, em, F.size) in
          record {
            given = F.given;
            string = F.string;
            character = omega (arith, x_length, em, fill_sub);
            long = g ∙ F.long;
            size = omega (arith, em, F.size);
            few = omega (arith, em, F.few, rest_long, behind_long, fill_sub);
            bytes = p ∙ rw (taken, F.bytes, take-add n m what) (rw l at pp);
            left = sym (drop-drop m n what) ∙ ap (drop m) F.left ∙ drop-drop m q behind;
            next = F.next ∙ rw f;
          }

-- a turn: m characters are moved, and then the string is used up or the maximum is reached
module _ (s t t' : List ℕ) (destination : StrPtr) (ps : List StrPtr) (index skip n i q m : ℕ) (F : Filling s t destination ps index skip n i q)
    (x d : StrPtr) (h : i < length ps) (is : x ≡ get_or ps i d) (e : (m, t') ≡ moved_next t destination n x q) where
  turned : Filling s t' destination ps index skip (n + m) i (q + m)
  turned = fill_more s t destination ps index skip n i q F x d h is m t' e

  pub fill_on : x.length ≤ q + m → Filling s t' destination ps index skip (n + m) (i + 1) 0
  fill_on = used_up s t' destination ps index skip (n + m) i (q + m) turned x d h is

  pub fill_stop : q + m < x.length → (r : Round)
      → r ≡ record { to = sized destination (n + m); completed = false; next = record { string = i + 1; character = q + m + 1 } }
      → (r, t') ≡ round_from s destination ps index skip
  unfolding round_from round_of piece completes next_place place_at
  fill_stop k r f =
      let xss : List (List ℕ) = texts s ps in
      let what : List ℕ = drop (before xss index skip) (joined xss) in
      let bl : x.length ≤ length (joined (drop i xss)) = behind_long s t destination ps index skip n i q F x d h is in
      let rl : length what - (n + m) ≡ length (joined (drop i xss)) - (q + m) = rest_long s t' destination ps index skip (n + m) i (q + m) turned in
      let full : n + m ≡ destination.maximum = omega (arith, F.size, em s t destination ps index skip n i q F x d h is m t' e) in
      let l : length (take destination.maximum what) ≡ n + m = rw length-take (omega (arith, turned.few)) in
      let tx : length (text_of s x) ≡ x.length = text s t destination ps index skip n i q F x d h is in
      let z : q + m + (destination.maximum - (n + m)) ≡ q + m = omega arith in
      let lt : ltb (q + m) (length (text_of s x)) ≡ true = lt-ltb (q + m) (length (text_of s x)) (omega arith) in
      let p : place_at 1 xss (before xss index skip + destination.maximum) ≡ record { string = i + 1; character = q + m + 1 } =
      turned.next ∙ rw (z, cons s t destination ps index skip n i q F x d h is, lt) in
      let c : leb (length what) destination.maximum ≡ false = lt-leb (length what) destination.maximum (omega (arith, turned.few)) in
      rw (f, turned.bytes, l, p, c, full)

-- ---- what is left of the strings

module _ (ps : List StrPtr) (index m k : ℕ) where
  abbrev part_of : List StrPtr
  part_of = take m (drop index ps)

  part_length : length part_of ≡ min m (length ps - index)
  part_length = rw (length-take, length-drop)

  pub rest_at : (d : StrPtr) → k < length part_of → get_or part_of k d ≡ get_or ps (index + k) d
  rest_at d h = get_or-take m (drop index ps) k d (omega (arith, part_length)) ∙ get_or-drop index ps k d

  pub rest_in : k < length part_of → index + k < length ps
  rest_in h = omega (arith, part_length)

pub rest_over : (ps : List StrPtr) (index k : ℕ) → index ≤ length ps → length (take (length ps - index) (drop index ps)) ≤ k → length ps ≤ index + k
rest_over ps index k g h = omega (arith, part_length ps index (length ps - index) k)
