-- Laws of copy and append: where no check fails, both places lie in the store, so that the leaf moves what the rule
-- says. Assumes nothing.
use mathlib.Core.Path.{◌≡◌, refl, sym, ◌∙◌}
use mathlib.Core.Bool.{Bool, true, false}
use mathlib.Core.List.{List, [], ◌∷◌, ◌++◌, append-nil}
use Prim.Native.Nat.{ℕ, zero, suc, ◌+◌, ◌-◌, ◌≤◌, min}
use native.Mathlib.Omega.{arith}
use lib.Dec.{leb}
use lib.ListN.{length, take, drop, length-take, length-drop, length-append}
use lib.Seq.{take_all}
use mir.Syntax.{w64}
use mir.Val.{Fits}
use borrow.Author.Rules.{rules}
use Rattle.strlib.specs.Checks.{into_checks}
use Rattle.strlib.specs.Pointer.{sized, text_of, clear}
use Rattle.strlib.specs.Refusal.{gives, outcome, after, ruled}
use Rattle.strlib.specs.Store.{put}
use Rattle.strlib.specs.declared.StrPtr.{StrPtr}
use Rattle.strlib.proofs.Pointing.{good_is, text_length, leb_same}
use Rattle.strlib.proofs.Checking.{first_both, IntoPassed, into_passed}
use Rattle.strlib.proofs.Answering.{ruled_right}
use Rattle.strlib.proofs.Refusing.{passed}
use Rattle.strlib.proofs.Storing.{take_min, take_append, put_kept}
use Rattle.moving.specs.Moving.{moved}
use Rattle.moving.proofs.Moving.{moved_in}
use Rattle.copying.specs.Copying.{gap, laid, wrote, bounded_copy, finished, copy_refusal, copy_rule, append_rule, PaddedAppend}
use Rattle.copying.specs.declared.Wrote.{Wrote}
use Rattle.copying.proofs.Padding.{bounded}

-- ---- the checks

-- what is known where they find nothing
pub record CopyPassed (s : List ℕ) (destination source : StrPtr) : Type 0 where
  pub into : IntoPassed s destination source
  pub apart : clear destination source ≡ true

pub copy_passed : (s : List ℕ) (destination source : StrPtr) → copy_refusal s destination source ≡ 0 → CopyPassed s destination source
unfolding copy_refusal
copy_passed s destination source z =
    let own : List (ℕ × Bool) = (5, clear destination source) ∷ [] in
    let b = first_both (into_checks s destination source) own refl z in
    record { into = into_passed s destination source b.0; apart = (passed own refl b.1).0 }

-- ---- the calls

module _ (s : List ℕ) (destination source : StrPtr) (e : ◌≡◌ {A = ℕ} 0 (copy_refusal s destination source)) where
  ok : IntoPassed s destination source
  ok = (copy_passed s destination source (sym e)).into

  to_room : (destination.length ≤ destination.maximum) × (destination.start + destination.maximum ≤ length s)
  to_room = good_is (length s) destination ok.room

  from_room : (source.length ≤ source.maximum) × (source.start + source.maximum ≤ length s)
  from_room = good_is (length s) source ok.part

  -- ---- copy

  module _ (n : ℕ) (m : n ≡ min source.length destination.maximum) where
    pub copy_done : (pad : Bool) (r : Wrote) (t t' : List ℕ) → t ≡ moved s source.start destination.start n
        → (r, t') ≡ finished t destination n pad (leb source.length destination.maximum) → (gives r, t') ≡ copy_rule s destination source pad
    unfolding copy_rule text_of
    copy_done pad r t t' p q =
        let l : length (text_of s source) ≡ source.length = text_length s source ok.part in
        let cut : take n (drop source.start s) ≡ take destination.maximum (text_of s source) = rw m (sym (take_min destination.maximum source.length (drop source.start s))) in
        let moves : t ≡ put s destination.start (take destination.maximum (text_of s source)) =
        p ∙ moved_in s source.start destination.start n (omega (arith, from_room, m)) (omega (arith, to_room, m)) ∙ rw cut in
        bounded (copy_refusal s destination source) s destination (text_of s source) pad (leb source.length destination.maximum) n r t' e ok.room
        (rw (length-take, l) (omega (arith, m))) (rw l) (q ∙ rw moves)

  -- ---- append

  pub append_sub : destination.length ≤ destination.maximum
  append_sub = to_room.0

  pub append_fits : Fits w64 (destination.start + destination.length)
  append_fits = omega (arith, to_room, ok.small)

  module _ (n : ℕ) (m : n ≡ min source.length (destination.maximum - destination.length)) where
    pub append_sum : Fits w64 (destination.length + n)
    append_sum = omega (arith, to_room, ok.small, m)

    xs : List ℕ
    xs = text_of s destination ++ text_of s source

    long : length xs ≡ destination.length + source.length
    unfolding xs
    long = rw (length-append, text_length s destination ok.room, text_length s source ok.part)

    cut : laid destination xs false ≡ text_of s destination ++ take n (drop source.start s)
    unfolding laid gap xs text_of
    cut =
        let l : length (text_of s destination) ≡ destination.length = text_length s destination ok.room in
        let a : take destination.maximum (text_of s destination) ≡ text_of s destination = take_all destination.maximum (text_of s destination) (omega (arith, to_room)) in
        rw (append-nil, take_append, a, l, take_min, ← m)

    pub append_done : (to : StrPtr) (t : List ℕ) → t ≡ moved s source.start (destination.start + destination.length) n → to ≡ sized destination (destination.length + n)
        → (gives (record { to = to; completed = leb source.length (destination.maximum - destination.length) }), t) ≡ append_rule s destination source
    unfolding append_rule bounded_copy wrote xs text_of
    append_done to t p q =
        let w : length (take n (drop source.start s)) ≡ n = rw (length-take, length-drop) (omega (arith, from_room, m)) in
        let g : length (laid destination xs false) ≡ destination.length + n = rw (cut, length-append, text_length s destination ok.room, w) in
        let b : leb source.length (destination.maximum - destination.length) ≡ leb (length xs) destination.maximum =
        leb_same source.length (destination.maximum - destination.length) (length xs) destination.maximum (λ h. omega (arith, long, to_room)) (λ h. omega (arith, long, to_room)) in
        let moves : t ≡ put s (destination.start + destination.length) (take n (drop source.start s)) =
        p ∙ moved_in s source.start (destination.start + destination.length) n (omega (arith, from_room, m)) (omega (arith, to_room, m)) in
        ruled_right _ _ _ e (rw (q, g, b)) t _ s
        (moves ∙ rw (cut) (put_kept s destination.start destination.length (take n (drop source.start s)) (omega (arith, to_room))))

pub ruleset append_laws = (rules, append_sub, append_fits, append_sum, append_done)

-- ---- a padded append

same_laid : (destination : StrPtr) (xs : List ℕ) → destination.length ≤ destination.maximum → destination.length ≤ length xs
    → laid destination xs true ≡ laid destination xs false
unfolding laid gap
same_laid destination xs h k =
    let z : destination.length - length (take destination.maximum xs) ≡ 0 = rw length-take (omega arith) in rw z

pub padded_append : PaddedAppend
unfolding append_rule bounded_copy wrote ruled outcome after
padded_append s destination source = go (copy_refusal s destination source) refl
  where
    go : (k : ℕ) → copy_refusal s destination source ≡ k
        → bounded_copy k s destination (text_of s destination ++ text_of s source) true ≡ bounded_copy k s destination (text_of s destination ++ text_of s source) false
    go zero e =
        let g = (copy_passed s destination source e).into.room in
        rw (same_laid destination (text_of s destination ++ text_of s source) (good_is (length s) destination g).0 (rw length-append (omega (arith, text_length s destination g))))
    go (suc k) e = refl
