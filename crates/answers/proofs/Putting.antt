-- Laws of the text of an answer, which is put together from its parts, and of the counters. Assumes nothing.
use Rattle.std.proofs.Common.{Result, Ok, Err, Bool, min, ◌^◌}
use mathlib.Core.Path.{◌≡◌, refl, sym, ap, ◌∙◌}
use mathlib.Core.Bool.{true}
use mathlib.Core.List.{List, ◌++◌}
use Prim.Native.Nat.{ℕ, ◌+◌, ◌-◌}
use borrow.Author.Rules.{rules}
use lib.IntN.{ℤ}
use Rattle.number.specs.Limits.{in_range}
use Rattle.number.specs.Written.{digits, written}
use Rattle.strlib.specs.Quoted.{bytes}
use Rattle.std.specs.Result.{is_ok}
use mir.Val.{bool_byte}
use Rattle.strlib.specs.Refusal.{Outcome, refused, gives, refusal_number}
use Rattle.desk.proofs.CueGiven.{cue_given, gain_in_range}
use Rattle.desk.specs.Cue.{cue_answered, cue_word_rule}
use Rattle.desk.specs.declared.cue.Cue.{Cue}
use Rattle.desk.specs.declared.cue.CueFault.{CueFault}
use Rattle.buffer.proofs.Growing.{grow_more}
use Rattle.buffer.specs.Buffer.{grown, value_text}
use Rattle.answers.specs.Text.{end, ok_text, cue_text, total_text}
use Rattle.answers.specs.Pieces.{counted, good_of}
use Rattle.answers.specs.Inner.{writable}

-- ---- an answer

value_is : (z : ℤ) → in_range z ≡ true → value_text z ≡ written 10 z
unfolding value_text
value_is z e = rw e

-- a cue that is given has a gain that can be written
pub rule_writable : (line : List ℕ) (a : Outcome Cue) (w : ℕ) → (a, w) ≡ cue_word_rule line 64 128 → writable a ≡ true
unfolding writable
rule_writable line (gives c) w e = gain_in_range c.gain (cue_given line 64 128 c (sym (ap (λ (z : Outcome Cue × ℕ). z.0) e))).gain
rule_writable line (refused k) w e = refl

pub ok_is : (b b1 b2 b3 b4 : List ℕ) (n n1 n2 n3 n4 : ℕ) (c : Cue) (g : ℤ) → in_range c.gain ≡ true → g ≡ c.gain
    → (n1, b1) ≡ grown b n (bytes " ok " ++ digits 10 c.microphone) → (n2, b2) ≡ grown b1 n1 (bytes " " ++ digits 10 c.loudspeaker)
    → (n3, b3) ≡ grown b2 n2 (bytes " ") → (n4, b4) ≡ grown b3 n3 (value_text g) → (n4, b4) ≡ grown b n (ok_text c)
unfolding ok_text
ok_is b b1 b2 b3 b4 n n1 n2 n3 n4 c g r e p q u v =
    let w : (n4, b4) ≡ grown b3 n3 (written 10 c.gain) = rw (e, value_is c.gain r) at v in
    grow_more b n b3 n3 b4 n4 _ _ (grow_more b n b2 n2 b3 n3 _ _ (grow_more b n b1 n1 b2 n2 _ _ p q) u) w

module _ (b : List ℕ) (n : ℕ) (b' : List ℕ) (r : ℕ) (a : Result Cue CueFault) where
  pub cue_ok : (c : Cue) → a ≡ Ok c → (r, b') ≡ grown b n (ok_text c) → (r, b') ≡ grown b n (cue_text (cue_answered a))
  unfolding cue_text
  cue_ok c e g = rw e g

  pub cue_not : (f : CueFault) → a ≡ Err f → (j k : ℕ) → j ≡ refusal_number f.refusal → k ≡ j → (r, b') ≡ grown b n (bytes " refused " ++ digits 10 k)
      → (r, b') ≡ grown b n (cue_text (cue_answered a))
  unfolding cue_text
  cue_not f e j k p q g = rw (e, ← p, ← q) g

pub cue_writable : (a : Result Cue CueFault) (c : Cue) → writable (cue_answered a) ≡ true → a ≡ Ok c → in_range c.gain ≡ true
unfolding writable
cue_writable a c h e = rw e at h

pub total_is : (b b1 b2 b3 b4 : List ℕ) (n n1 n2 n3 n4 lines ok bad : ℕ) → bad ≡ lines - ok
    → (n1, b1) ≡ grown b n (bytes "total " ++ digits 10 lines) → (n2, b2) ≡ grown b1 n1 (bytes " ok " ++ digits 10 ok)
    → (n3, b3) ≡ grown b2 n2 (bytes " refused " ++ digits 10 bad) → (n4, b4) ≡ grown b3 n3 end → (n4, b4) ≡ grown b n (total_text lines ok (lines - ok))
unfolding total_text
total_is b b1 b2 b3 b4 n n1 n2 n3 n4 lines ok bad e p q u v =
    rw (← e) (grow_more b n b3 n3 b4 n4 _ _ (grow_more b n b2 n2 b3 n3 _ _ (grow_more b n b1 n1 b2 n2 _ _ p q) u) v)

-- ---- counters

pub counted_sum : (n r : ℕ) → r ≡ min n (2 ^ 64 - 1) → r ≡ counted n
unfolding counted
counted_sum n r e = e

-- a line counts as good where its cue is given
pub counted_good : (n r k : ℕ) (a : Result Cue CueFault) (ok : Bool) → ok ≡ is_ok a → k ≡ bool_byte ok → r ≡ min (n + k) (2 ^ 64 - 1)
    → r ≡ counted (n + good_of (cue_answered a))
unfolding counted good_of
counted_good n r k (Ok c) ok e f g = let q : k ≡ 1 = f ∙ rw e in rw q at g
counted_good n r k (Err c) ok e f g = let q : k ≡ 0 = f ∙ rw e in rw q at g

pub ruleset put_laws = (rules, cue_ok, cue_not, cue_writable, rule_writable)

pub ruleset count_laws = (rules, counted_sum, counted_good, rule_writable)
