-- Laws of padding: blanks put behind what was written are the padded result. Assumes nothing.
use mathlib.Core.Path.{◌≡◌, sym, ap, ◌∙◌}
use mathlib.Core.Bool.{Bool, true, false}
use mathlib.Core.List.{List}
use Prim.Native.Nat.{ℕ, ◌+◌, ◌-◌, ◌≤◌, min}
use native.Mathlib.Omega.{arith}
use lib.Dec.{leb}
use lib.ListN.{length, take, replicate, length-take, length-append, length-replicate}
use mir.Syntax.{w64}
use mir.Val.{Fits}
use borrow.Author.Rules.{rules}
use borrow.Author.Tests.{leb-false}
use Rattle.strlib.specs.Pointer.{sized, within, good_in}
use Rattle.strlib.specs.Refusal.{gives}
use Rattle.strlib.specs.Store.{put}
use Rattle.strlib.specs.declared.StrPtr.{StrPtr}
use Rattle.strlib.proofs.Pointing.{within_so, good_is}
use Rattle.strlib.proofs.Answering.{ruled_right}
use Rattle.strlib.proofs.Storing.{put_length, put_put}
use Rattle.moving.specs.Moving.{blanked}
use Rattle.moving.proofs.Blanking.{blanked_in, blanked_out}
use Rattle.copying.specs.Copying.{gap, laid, wrote, bounded_copy, finished}
use Rattle.copying.specs.declared.Wrote.{Wrote}

-- ---- the gap

pub gap_le : (pad : Bool) (old n : ℕ) → gap pad old n ≤ old - n
unfolding gap
gap_le true old n = omega arith
gap_le false old n = omega arith

-- ---- padding what was written

pub pad_fits : (s : List ℕ) (start n : ℕ) (b : Bool) → Fits w64 (length s) → b ≡ within (length s) start n → b ≡ true → Fits w64 (start + n)
pad_fits s start n b h e f = omega (arith, within_so (length s) start n b e f)

pub pad_over : (s : List ℕ) (start n g : ℕ) (b : Bool) → b ≡ within (length s) start n → b ≡ false → s ≡ blanked s (start + n) g
pad_over s start n g b e f = sym (blanked_out s (start + n) g (omega (arith, leb-false (start + n) (length s) (sym e ∙ f))))

pub end_sum : (pad : Bool) (old n g : ℕ) → g ≡ gap pad old n → Fits w64 n → Fits w64 old → Fits w64 (n + g)
end_sum pad old n g e h k = omega (arith, gap_le pad old n)

pub end_done : (s : List ℕ) (destination : StrPtr) (n : ℕ) (pad : Bool) (g : ℕ) → g ≡ gap pad destination.length n
    → (completed : Bool) (to : StrPtr) (t : List ℕ) → to ≡ sized destination (n + g) → t ≡ blanked s (destination.start + n) g
    → (record { to = to; completed = completed }, t) ≡ finished s destination n pad completed
unfolding finished
end_done s destination n pad g e completed to t p q = rw (p, q, e)

-- the cut characters xs are written, and padded: the answer, and the store
pub bounded : (m : ℕ) (s : List ℕ) (destination : StrPtr) (xs : List ℕ) (pad completed : Bool) (n : ℕ) (r : Wrote) (t : List ℕ)
    → ◌≡◌ {A = ℕ} 0 m → good_in (length s) destination ≡ true → n ≡ length (take destination.maximum xs) → completed ≡ leb (length xs) destination.maximum
    → (r, t) ≡ finished (put s destination.start (take destination.maximum xs)) destination n pad completed → (gives r, t) ≡ bounded_copy m s destination xs pad
unfolding bounded_copy wrote laid finished
bounded m s destination xs pad completed n r t e h l c f =
    let cut : List ℕ = take destination.maximum xs in
    let g : ℕ = gap pad destination.length (length cut) in
    let room = good_is (length s) destination h in
    let l' : length cut ≤ destination.maximum = rw length-take (omega arith) in
    let w : length (put s destination.start cut) ≡ length s = put_length s destination.start cut (omega arith) in
    let b : blanked (put s destination.start cut) (destination.start + length cut) g ≡ put (put s destination.start cut) (destination.start + length cut) (replicate g 32) =
    blanked_in (put s destination.start cut) (destination.start + length cut) g (omega (arith, gap_le pad destination.length (length cut))) in
    ruled_right m r _ e
    (ap (λ (p : Wrote × List ℕ). p.0) f ∙ rw (c, l, length-append, length-replicate))
    t _ s
    (ap (λ (p : Wrote × List ℕ). p.1) f ∙ rw l (b ∙ put_put s destination.start cut (omega arith) (replicate g 32)))

-- it keeps to the maximum
pub laid_fits : (n : ℕ) (destination : StrPtr) (xs : List ℕ) (pad : Bool) → good_in n destination ≡ true → length (laid destination xs pad) ≤ destination.maximum
unfolding laid
laid_fits n destination xs pad g =
    rw (length-append, length-replicate, length-take)
    (omega (arith, good_is n destination g, gap_le pad destination.length (min destination.maximum (length xs))))

pub ruleset pad_laws = (rules, pad_fits, pad_over, end_sum, end_done)
