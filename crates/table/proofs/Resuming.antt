-- Laws of a run that goes on: where it may, the code enters and walks as the rule does; else it reads nothing. Assumes
-- nothing.
use mathlib.Core.Path.{◌≡◌, sym, ◌∙◌}
use mathlib.Core.Bool.{Bool, true, false, ◌&&◌, and-true}
use mathlib.Core.List.{List}
use Prim.Native.Nat.{ℕ, ◌+◌, ◌≤◌, ◌<◌}
use native.Mathlib.Omega.{arith}
use lib.Dec.{ltb}
use lib.ListN.{length}
use borrow.Author.Rules.{rules}
use borrow.Author.Tests.{ltb-true}
use Rattle.strlib.proofs.Pointing.{within_is, is_within}
use Rattle.strlib.proofs.Refusing.{and_both}
use Rattle.strlib.specs.Pointer.{characters}
use Rattle.search.specs.Search.{Result}
use Rattle.table.specs.Run.{size_of, is_sized, Walk, bad, only_if, enter, walk}
use Rattle.table.specs.Resume.{can_resume, read_on, resumed}
use Rattle.table.specs.Inner.{Entered}
use Rattle.table.proofs.Running.{sized_is}

-- ---- where a run may go on

record CanResume (ws h : List ℕ) (q n : ℕ) : Type 0 where
  pub sized : is_sized ws ≡ true
  pub state : q < size_of ws
  pub plain : characters h ≡ true
  pub near : n + length h ≤ 65536

can_resume_lem : (ws h : List ℕ) (q n : ℕ) → can_resume ws h q n ≡ true → CanResume ws h q n
unfolding can_resume
can_resume_lem ws h q n e =
    let a = and_both (is_sized ws) _ e in
    let b = and_both (ltb q (size_of ws)) _ a.1 in
    let d = and_both (characters h) _ b.1 in
    record { sized = a.0; state = ltb-true _ _ b.0; plain = d.0; near = within_is _ _ _ d.1 }

-- over characters, no more than a store has, the words and the state decide
pub resumed_is : (ws h : List ℕ) (q n : ℕ) (r : Result) → characters h ≡ true → n + length h ≤ 65536
    → resumed ws h q n r ≡ only_if (is_sized ws && ltb q (size_of ws)) (read_on ws h q n r)
unfolding resumed can_resume
resumed_is ws h q n r plain near = rw (plain, is_within 65536 n (length h) near, and-true)

module _ (ws h : List ℕ) (q n : ℕ) (b : Bool) (e : b ≡ can_resume ws h q n) where
  pub resume_not : b ≡ false → (r : Result) → bad ≡ resumed ws h q n r
  unfolding resumed
  resume_not z r = rw (← e, z)

  module _ (z : b ≡ true) where
    ok : CanResume ws h q n
    ok = can_resume_lem ws h q n (sym e ∙ z)

    pub resume_plain : characters h ≡ true
    resume_plain = ok.plain

    module _ (size : ℕ) (es : size ≡ size_of ws) where
      pub resume_entered : Entered ws size q (n + length h)
      resume_entered = record { state = omega (arith, ok.state); long = omega (arith, (sized_is ws ok.sized).long); near = ok.near }

      pub resume_on : (r : Result) (w : Walk) → w ≡ walk ws size h (enter ws q n r) → w ≡ resumed ws h q n r
      unfolding resumed
      resume_on r w x = x ∙ rw (es, ← e, z)

pub ruleset resume_laws = (rules, resume_not, resume_plain, resume_entered, resume_on)
