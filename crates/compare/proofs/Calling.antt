-- Laws of the call: its checks in turn, and its two answers. Assumes nothing.
use Rattle.std.proofs.Common.{◌≡◌, refl, sym, ◌∙◌, Bool, true, List, ℕ, ◌<◌, ℤ, length, arith, Result, Ordering, nat_cmp}
use Rattle.std.specs.Ordering.{ordering_index}
use Rattle.std.specs.Result.{IsErrAnd}
use Rattle.std.proofs.lemmas.Result.{err_from_is_err_and}
use lib.Dec.{leb}
use borrow.Author.Tests.{leb-true}
use Rattle.strlib.proofs.Refusing.{passed, outcome_no, outcome_yes}
use Rattle.strlib.proofs.Answering.{refusal_some}
use Rattle.strlib.proofs.Pointing.{readable_is}
use Rattle.strlib.specs.Pointer.{store_fits, good_in, text_of, characters, readable}
use Rattle.strlib.specs.Refusal.{gives, refusal_number}
use Rattle.strlib.specs.declared.StrPtr.{StrPtr}
use Rattle.strlib.specs.declared.refusal.Refusal.{Refusal}
use Rattle.compare.specs.Compare.{Decision, holds, translates, decision, comparison, compare_checks, compare_refusal, compare_rule, ordering_sign, decision_of, compared_of}
use Rattle.compare.specs.declared.Comparison.{Comparison as Answer}
use Rattle.compare.specs.declared.Decision.{Decision as Decided}
use Rattle.compare.proofs.Walking.{sign_is}

module _ (s : List ℕ) (a b : StrPtr) (code style : ℕ) (t : ℤ) where
  -- the checks by their names, where all are passed
  pub record ComparePassed : Type 0 where
    pub fits : store_fits s ≡ true
    pub coded : leb code 5 ≡ true
    pub styled : leb style 2 ≡ true
    pub translating : translates t ≡ true
    pub good_a : good_in (length s) a ≡ true
    pub good_b : good_in (length s) b ≡ true
    pub read_a : readable s a ≡ true
    pub read_b : readable s b ≡ true

  pub compare_passed : compare_refusal s a b code style t ≡ 0 → ComparePassed
  unfolding compare_refusal
  compare_passed e =
      let ok = passed (compare_checks s a b code style t) refl e in
      record {
        fits = ok.0;
        coded = ok.1.0;
        styled = ok.1.1.0;
        translating = ok.1.1.1.0;
        good_a = ok.1.1.1.1.0;
        good_b = ok.1.1.1.1.1.0;
        read_a = ok.1.1.1.1.1.1.0;
        read_b = ok.1.1.1.1.1.1.1.0;
      }

-- t is what the machine reads back from the bits of t'
module _ (s : List ℕ) (a b : StrPtr) (code style : ℕ) (t t' : ℤ) (et : t ≡ t') where
  pub compare_refused : (r : Result Answer Refusal) (f : Refusal) → IsErrAnd r (λ x. x ≡ f) → refusal_number f ≡ compare_refusal s a b code style t
      → compared_of r ≡ compare_rule s a b code style t'
  unfolding compare_rule
  compare_refused r f q h =
      let p = err_from_is_err_and r q in
      rw (p.1, p.2)
      (outcome_no (refusal_number f) (compare_refusal s a b code style t') (h ∙ rw et) (comparison (text_of s a) (text_of s b) code style t') (refusal_some f))

  module _ (e : 0 ≡ compare_refusal s a b code style t) where
    ok : ComparePassed s a b code style t
    ok = compare_passed s a b code style t (sym e)

    pub compare_translates : translates t ≡ true
    compare_translates = ok.translating

    pub compare_characters_1 : (x : List ℕ) → x ≡ text_of s a → characters x ≡ true
    compare_characters_1 x ex = readable_is s a x (characters x) refl ex ∙ ok.read_a

    pub compare_characters_2 : (y : List ℕ) → y ≡ text_of s b → characters y ≡ true
    compare_characters_2 y ey = readable_is s b y (characters y) refl ey ∙ ok.read_b

    pub compare_code : code < 6
    compare_code = omega (arith, leb-true code 5 ok.coded)

    pub compare_answer : (x y : List ℕ) (d : Decided) (mark : Bool) (sg : Ordering) → x ≡ text_of s a → y ≡ text_of s b → decision_of d ≡ decision x y style t
        → mark ≡ holds code (ordering_index d.order) → sg ≡ nat_cmp (length x) (length y)
        → gives (record { yes = mark; sign = ordering_sign sg; split = d.split }) ≡ compare_rule s a b code style t'
    unfolding compare_rule comparison
    compare_answer x y d mark sg ex ey ed eh es =
        let z : Decision = decision_of d in
        outcome_yes 0 (compare_refusal s a b code style t') (e ∙ rw et) (record { yes = mark; sign = ordering_sign sg; split = d.split })
        (comparison (text_of s a) (text_of s b) code style t') refl
        (rw (← ex, ← ey, ← et, ← ed, eh, es, sign_is (length x) (length y)))
