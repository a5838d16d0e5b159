-- Laws of the run's code: each return is a clause of the rule. Assumes nothing.
use mathlib.Core.Path.{◌≡◌, refl, sym, ap, ◌∙◌}
use mathlib.Core.Bool.{Bool, true, false}
use mathlib.Core.List.{List, [], ◌∷◌}
use Rattle.std.proofs.Common.{Option, Some, None, Result as Answer, Ok, Err}
use Rattle.std.proofs.lemmas.Result.{err_from_is_err_and}
use Rattle.std.specs.Option.{ok_or}
use Rattle.std.specs.Result.{IsErrAnd}
use Rattle.strlib.specs.declared.refusal.Refusal.{Refusal}
use Rattle.strlib.specs.declared.refusal.Refusal.TheVariants.{Table}
use Prim.Native.Nat.{ℕ, suc, ◌+◌, ◌*◌, ◌≤◌, ◌<◌}
use native.Mathlib.Omega.{arith}
use lib.Dec.{leb}
use lib.ListN.{length, get_or, drop}
use borrow.Author.Rules.{rules}
use borrow.Author.Tests.{leb-true}
use Rattle.strlib.proofs.Checking.{first_both}
use Rattle.strlib.proofs.Pointing.{fits_is, good_is, text_length}
use Rattle.strlib.proofs.Refusing.{and_both, first_before, first_behind, passed, outcome_no, outcome_gave}
use Rattle.strlib.specs.Pointer.{store_fits, good_in, text_of, characters, readable}
use Rattle.strlib.proofs.Texts.{character_at}
use Rattle.strlib.specs.Refusal.{refused, gives, first, outcome}
use Rattle.strlib.specs.declared.StrPtr.{StrPtr}
use Rattle.search.proofs.Placing.{placed_none}
use Rattle.search.specs.Inner.{placed}
use Rattle.search.specs.Search.{Result}
use Rattle.table.specs.Run.{size_of, is_sized, Walk, bad, rests, enter, step, walk, run_over, is_rest, ran_of, host_checks, before_checks, met_checks, run_refusal, run_rule}
use Rattle.table.specs.Inner.{note_of, rests_of, Entered, before_run, ended}
use Rattle.table.specs.declared.Progress.{Progress}
use Rattle.table.proofs.Walking.{walk_bad, walk_stop, RestsIn, in_enter, in_step, walk_turn, walk_end}

-- ---- the loop: what is left of the text is walked from where the run rests

landed : (size m : ℕ) (p : Progress) (w : Walk) → rests_of p ≡ w → RestsIn size m w → (p.state < size) × (p.read ≤ m)
landed size m p w e h = rw (← e) at h

module _ (ws : List ℕ) (size : ℕ) (h : List ℕ) (i : ℕ) (p : Progress) where
  module _ (all : Walk) (e : all ≡ walk ws size (drop i h) (rests_of p)) where
    pub walk_stopped : p.state ≡ 0 → rests_of p ≡ all
    walk_stopped z = sym (e ∙ rw z (walk_stop ws size (drop i h) p.read (note_of p.last)))

    pub walk_over : length h ≤ i → rests_of p ≡ all
    walk_over l = sym (e ∙ walk_end ws size h i (rests_of p) l)

    module _ (l : i < length h) where
      turned : (w : Walk) → w ≡ step ws size (rests_of p) (get_or h i 0) → all ≡ walk ws size (drop (i + 1) h) w
      turned w d = e ∙ walk_turn ws size h i (rests_of p) l ∙ ap (walk ws size (drop (i + 1) h)) (sym d)

      pub walk_refused : bad ≡ step ws size (rests_of p) (get_or h i 0) → bad ≡ all
      walk_refused d = sym (turned bad d ∙ walk_bad ws size (drop (i + 1) h))

      pub walk_on : (n : ℕ) → p.state < size → p.read ≤ n + i → (p' : Progress) → rests_of p' ≡ step ws size (rests_of p) (get_or h i 0)
          → (p'.state < size) × (p'.read ≤ n + (i + 1)) × (all ≡ walk ws size (drop (i + 1) h) (rests_of p'))
      walk_on n a b p' d =
          let y = landed size (suc (n + i)) p' _ d (in_step ws size (n + i) (rests_of p) (get_or h i 0) (a, b)) in
          (y.0, omega (arith, y.1), turned (rests_of p') d)

pub walk_entered : (ws : List ℕ) (size q n k i : ℕ) (p : Progress) → Entered ws size q (n + k) → p.state < size → p.read ≤ n + i → i < k
    → Entered ws size p.state (p.read + 1)
walk_entered ws size q n k i p s a b l = record { state = a; long = s.long; near = omega (arith, s.near) }

pub ruleset walk_laws = (rules, walk_stopped, walk_over, walk_refused, walk_on, walk_entered, character_at)

-- ---- the first word and the number of words

pub record Sized (ws : List ℕ) : Type 0 where
  pub low : 2 ≤ size_of ws
  pub high : size_of ws ≤ 242
  pub long : 1 + 130 * size_of ws ≤ length ws

pub sized_is : (ws : List ℕ) → is_sized ws ≡ true → Sized ws
unfolding is_sized
sized_is ws e =
    let a = and_both (leb 2 (size_of ws)) _ e in
    let b = and_both (leb (size_of ws) 242) _ a.1 in
    record { low = leb-true _ _ a.0; high = leb-true _ _ b.0; long = leb-true _ _ b.1 }

-- ---- enter, then walk

module _ (ws h : List ℕ) (size q n : ℕ) where
  pub on_entered : Entered ws size q (n + length h) → Entered ws size q n
  on_entered k = record { state = k.state; long = k.long; near = omega (arith, k.near) }

  module _ (r : Result) where
    pub on_bad : bad ≡ enter ws q n r → bad ≡ walk ws size h (enter ws q n r)
    on_bad d = sym (walk_bad ws size h) ∙ ap (walk ws size h) d

    pub on_near : Entered ws size q (n + length h) → (p : Progress) → rests_of p ≡ enter ws q n r → Entered ws size p.state (p.read + length h)
    on_near k p d =
        let l = landed size n p (enter ws q n r) d (in_enter ws size q n n r k.state (omega arith)) in
        record { state = l.0; long = k.long; near = omega (arith, l.1, k.near) }

pub ruleset on_laws = (rules, on_entered, on_bad, on_near)

-- ---- from state 1 with nothing read

module _ (ws h : List ℕ) (size : ℕ) (e : size ≡ size_of ws) where
  pub start_entered : is_sized ws ≡ true → length h ≤ 65536 → Entered ws size 1 (0 + length h)
  start_entered y l = let z = sized_is ws y in record { state = omega (arith, z.low); long = omega (arith, z.long); near = omega arith }

  pub start_over : (w : Walk) → w ≡ walk ws size h (enter ws 1 0 (placed 0 0 0)) → w ≡ run_over ws h
  unfolding run_over
  start_over w x = x ∙ rw (e, placed_none 0 0 0 refl)

pub ruleset start_laws = (rules, start_entered, start_over)

-- ---- a refusal with 10 of words that are no table

pub table_left : {A B : Type 0} (o : Option A) (x : Answer A Refusal) (e : Refusal) → x ≡ Err e → x ≡ ok_or o Table
    → (r : Answer B Refusal) → IsErrAnd r (λ x. x ≡ e) → r ≡ Err Table
table_left None x e h k r p = let q = err_from_is_err_and r p in cc
table_left (Some y) x e h k r p = cc

-- ---- the call

-- what is known where the checks of a host find nothing
pub record HostPassed (s : List ℕ) (host : StrPtr) : Type 0 where
  pub fits : store_fits s ≡ true
  pub good : good_in (length s) host ≡ true
  pub plain : readable s host ≡ true

pub host_passed : (s : List ℕ) (host : StrPtr) → first (host_checks s host) ≡ 0 → HostPassed s host
host_passed s host e = let ok = passed (host_checks s host) refl e in record { fits = ok.0; good = ok.1.0; plain = ok.1.1.0 }

-- and where those before a state is entered do
record BeforePassed (s : List ℕ) (host : StrPtr) (ws : List ℕ) : Type 0 where
  pub known : HostPassed s host
  pub sized : is_sized ws ≡ true

before_passed : (s : List ℕ) (host : StrPtr) (ws : List ℕ) → first (before_checks s host ws) ≡ 0 → BeforePassed s host ws
before_passed s host ws e =
    let own : List (ℕ × Bool) = (10, is_sized ws) ∷ [] in
    let b = first_both (host_checks s host) own refl e in
    record { known = host_passed s host b.0; sized = (passed own refl b.1).0 }

module _ (s : List ℕ) (host : StrPtr) (ws : List ℕ) where
  -- nothing was refused before: the answer is the run's
  ran : before_run s host ws ≡ 0 → ended (run_over ws (text_of s host)) ≡ run_rule s host ws
  unfolding before_run run_refusal run_rule outcome
  ran z = rw (first_behind (before_checks s host ws) (met_checks s host ws) refl z) (go (run_over ws (text_of s host)))
    where
      go : (w : Walk) → ended w ≡ outcome (first ((10, is_rest w) ∷ [])) (ran_of w)
      go bad = refl
      go (rests q n r) = refl

  -- over a host that is good and of characters the words decide
  module _ (fits : store_fits s ≡ true) (good : good_in (length s) host ≡ true) (plain : readable s host ≡ true) where
    pub run_plain : is_sized ws ≡ true → run_rule s host ws ≡ ended (run_over ws (text_of s host))
    unfolding before_run
    run_plain z = sym (ran (rw (fits, good, plain, z)))

    pub run_unsized : is_sized ws ≡ false → run_rule s host ws ≡ refused 10
    unfolding run_refusal run_rule outcome
    run_unsized z = rw (fits, good, plain, z)

  -- an answer is given of a host of characters only, and is the run's
  pub run_gave : (a : Result × ℕ) → run_rule s host ws ≡ gives a → (characters (text_of s host) ≡ true) × (ran_of (run_over ws (text_of s host)) ≡ a)
  unfolding run_refusal run_rule readable
  run_gave a e =
      let g = outcome_gave (run_refusal s host ws) (ran_of (run_over ws (text_of s host))) a e in
      let b = first_both (before_checks s host ws) (met_checks s host ws) refl g.0 in
      ((before_passed s host ws b.0).known.plain, g.1)

  module _ (k : ℕ) (e : k ≡ before_run s host ws) where
    pub run_refused : (k ≡ 0 → ⊥) → refused k ≡ run_rule s host ws
    unfolding before_run run_refusal run_rule
    run_refused h = outcome_no k (run_refusal s host ws) (first_before (before_checks s host ws) (met_checks s host ws) k e h) (ran_of (run_over ws (text_of s host))) h

  module _ (z : 0 ≡ before_run s host ws) where
    before_run_lem : BeforePassed s host ws
    unfolding before_run
    before_run_lem = before_passed s host ws (sym z)

    pub run_sized : is_sized ws ≡ true
    run_sized = before_run_lem.sized

    pub run_characters : (t : List ℕ) → t ≡ text_of s host → characters t ≡ true
    unfolding readable
    run_characters t p = ap characters p ∙ before_run_lem.known.plain

    pub run_short : (t : List ℕ) → t ≡ text_of s host → length t ≤ 65536
    run_short t p =
        let ok = before_run_lem.known in
        omega (arith, ap length p, text_length s host ok.good, good_is (length s) host ok.good, fits_is s ok.fits)

    pub run_given : (t : List ℕ) → t ≡ text_of s host → (w : Walk) → w ≡ run_over ws t → ended w ≡ run_rule s host ws
    run_given t p w d = ap ended (d ∙ ap (run_over ws) p) ∙ ran (sym z)

pub ruleset run_laws = (rules, run_refused, run_sized, run_characters, run_short, run_given)
