-- Laws of the two calls: the checks made first find what the rule's first checks find, and the answers follow from
-- those behind them. Assumes nothing.
use Rattle.std.proofs.Common.{◌≡◌, refl, sym, ap, ◌∙◌, Bool, true, cond, List, [], ◌++◌, ℕ, ◌≤◌, ℤ, length, arith, Result}
use Rattle.std.specs.Result.{IsErrAnd}
use lib.Dec.{leb}
use borrow.Author.Tests.{leb-true}
use Rattle.strlib.proofs.Refusing.{first_before, first_behind, Passed, passed, ruled_no}
use Rattle.strlib.proofs.Answering.{here_all, next_all, outcome_left, ruled_left, ruled_right}
use Rattle.strlib.proofs.Pointing.{good_is}
use Rattle.strlib.specs.Pointer.{sized, store_fits, good_in, text_of, readable}
use Rattle.strlib.specs.Refusal.{Outcome, refused, gives, outcome, refusal_number, answered}
use Rattle.strlib.specs.Store.{put}
use Rattle.strlib.specs.declared.StrPtr.{StrPtr}
use Rattle.strlib.specs.declared.refusal.Refusal.{Refusal}
use Rattle.number.specs.Limits.{is_base, in_range}
use Rattle.number.specs.Text.{is_number, number_of}
use Rattle.number.specs.Written.{written}
use Rattle.number.specs.Number.{before_text, of_text, read_refusal, read_rule, before_digits, of_room, write_checks, write_refusal, write_rule}
use Rattle.number.specs.Inner.{unreadable, reads, unwritable, TextRoom}
use Rattle.strlib.proofs.Answering.{cond_passed}

-- ---- reading

module _ (s : List ℕ) (p : StrPtr) (base : ℕ) where
  -- the checks before the text by their names, where all are passed
  pub record ReadPassed : Type 0 where
    pub fits : store_fits s ≡ true
    pub based : is_base base ≡ true
    pub good : good_in (length s) p ≡ true
    pub reads : readable s p ≡ true

  pub read_passed : unreadable s p base ≡ 0 → ReadPassed
  unfolding unreadable
  read_passed e =
      let ok = passed (before_text s p base) refl e in
      record { fits = ok.0; based = ok.1.0; good = ok.1.1.0; reads = ok.1.1.1.0 }

module _ (s : List ℕ) (p : StrPtr) (base : ℕ) where
  pub read_refused : (r : Result ℤ Refusal) (f : Refusal) → IsErrAnd r (λ x. x ≡ f) → refusal_number f ≡ unreadable s p base → answered r ≡ read_rule s p base
  unfolding unreadable read_refusal read_rule
  read_refused r f q h = outcome_left r f q (read_refusal s p base) (here_all f (before_text s p base) (of_text base (text_of s p)) h) (number_of base (text_of s p))

module _ (s : List ℕ) (p : StrPtr) (base : ℕ) (e : 0 ≡ unreadable s p base) where
  pub read_base : is_base base ≡ true
  read_base = (read_passed s p base (sym e)).based

  pub read_given : (t : List ℕ) (a : Outcome ℤ) → t ≡ text_of s p → a ≡ reads (is_number base t) (number_of base t) → a ≡ read_rule s p base
  unfolding unreadable read_refusal read_rule reads
  read_given t a et h =
      let f = first_behind (before_text s p base) (of_text base (text_of s p)) refl (sym e) in
      h ∙ rw et (ap (λ (m : ℕ). outcome m (number_of base (text_of s p))) (sym f))

-- ---- writing

module _ (s : List ℕ) (p : StrPtr) (z : ℤ) (base : ℕ) where
  -- the checks before the digits by their names, where all are passed
  pub record WriteReady : Type 0 where
    pub fits : store_fits s ≡ true
    pub based : is_base base ≡ true
    pub good : good_in (length s) p ≡ true
    pub ranged : in_range z ≡ true

  ready : (cs : List (ℕ × Bool)) → Passed (before_digits s p z base ++ cs) → WriteReady
  ready cs ok = record { fits = ok.0; based = ok.1.0; good = ok.1.1.0; ranged = ok.1.1.1.0 }

  pub write_ready : unwritable s p z base ≡ 0 → WriteReady
  unfolding unwritable
  write_ready e = ready [] (passed (before_digits s p z base) refl e)

  -- and with the room
  pub record WritePassed : Type 0 where
    pub before : WriteReady
    pub room : length (written base z) ≤ p.maximum

  pub write_passed : write_refusal s p z base ≡ 0 → WritePassed
  unfolding write_refusal
  write_passed e =
      let ok = passed (write_checks s p z base) refl e in
      record { before = ready (of_room p z base) ok; room = leb-true (length (written base z)) p.maximum ok.1.1.1.1.0 }

-- of any number that the checks found
module _ (s : List ℕ) (p : StrPtr) (z z' : ℤ) (base k : ℕ) (ez : z ≡ z') (e : k ≡ unwritable s p z base) where
  pub write_refused : (k ≡ 0 → ⊥) → (refused k, s) ≡ write_rule s p z' base
  unfolding unwritable write_refusal write_rule
  write_refused h =
      let same : k ≡ unwritable s p z' base = e ∙ rw ez in
      ruled_no k (write_refusal s p z' base)
      (first_before (before_digits s p z' base) (of_room p z' base) k same h)
      (sized p (length (written base z'))) (put s p.start (written base z')) s h

-- z is what the machine reads back from the bits of z'
module _ (s : List ℕ) (p : StrPtr) (z z' : ℤ) (base : ℕ) (ez : z ≡ z') where
  pub write_left : (r : Result StrPtr Refusal) (f : Refusal) → IsErrAnd r (λ x. x ≡ f) → refusal_number f ≡ unwritable s p z base
      → (answered r, s) ≡ write_rule s p z' base
  unfolding unwritable write_refusal write_rule
  write_left r f q h =
      ruled_left r f q (write_refusal s p z' base) (here_all f (before_digits s p z' base) (of_room p z' base) (h ∙ rw ez))
      (sized p (length (written base z'))) (put s p.start (written base z')) s

module _ (s : List ℕ) (p : StrPtr) (z z' : ℤ) (base : ℕ) (ez : z ≡ z') (e : 0 ≡ unwritable s p z base) where
  ok : WriteReady s p z base
  ok = write_ready s p z base (sym e)

  pub write_base : is_base base ≡ true
  write_base = ok.based

  pub write_range : in_range z ≡ true
  write_range = ok.ranged

  module _ (count : ℕ) (ec : count ≡ length (written base z)) where
    -- what is left is the room
    room_is : cond (leb count p.maximum) 0 6 ≡ write_refusal s p z' base
    unfolding write_refusal unwritable
    room_is = next_all (before_digits s p z' base) (of_room p z' base) refl (cond (leb count p.maximum) 0 6) (e ∙ rw ez) (rw (ec, ez))

    pub write_long : (r : Result StrPtr Refusal) (f : Refusal) → IsErrAnd r (λ x. x ≡ f) → refusal_number f ≡ cond (leb count p.maximum) 0 6
        → (answered r, s) ≡ write_rule s p z' base
    unfolding write_rule
    write_long r f q h = ruled_left r f q (write_refusal s p z' base) (h ∙ room_is) (sized p (length (written base z'))) (put s p.start (written base z')) s

    module _ (h : ◌≡◌ {A = ℕ} 0 (cond (leb count p.maximum) 0 6)) where
      pub write_room : TextRoom base z count p.start (length s)
      write_room =
          let g = good_is (length s) p ok.good in
          record { based = write_base; ranged = write_range; counted = ec; room = omega (arith, leb-true count p.maximum (cond_passed (leb count p.maximum) 5 h)) }

      pub write_given : (q : StrPtr) (t : List ℕ) → q ≡ sized p count → t ≡ put s p.start (written base z) → (gives q, t) ≡ write_rule s p z' base
      unfolding write_rule
      write_given q t eq et =
          ruled_right (write_refusal s p z' base) q (sized p (length (written base z'))) (h ∙ room_is) (eq ∙ rw (ec, ez)) t (put s p.start (written base z')) s (et ∙ rw ez)
