-- Laws of how far the listed strings are alike: the numbers of a string, and what a number tells of a prefix. Assumes
-- nothing.
use mathlib.Core.Path.{◌≡◌, sym, ◌∙◌}
use mathlib.Core.Bool.{◌&&◌, and-false}
use mathlib.Core.List.{List, [], ◌∷◌}
use Prim.Native.Nat.{ℕ, zero, suc, ◌+◌, ◌≤◌, ◌<◌}
use native.Mathlib.Omega.{arith}
use lib.Dec.{eqb, leb, leb-zero, leb-suc-zero, leb-suc-suc}
use lib.ListN.{length, take, get_or, set}
use lib.Seq.{get_or-take, length-take-le, get_or-set_same, get_or-set_other}
use Rattle.strlib.proofs.Refusing.{bool_case}
use Rattle.strlib.proofs.Texts.{listed_text}
use Rattle.strlib.specs.Pointer.{text_of, texts}
use Rattle.strlib.specs.declared.StrPtr.{StrPtr}
use Rattle.search.specs.Search.{is_prefix}
use Rattle.states.proofs.Prefixes.{eqb_sym}
use Rattle.states.proofs.Rowing.{same_or_not}
use Rattle.words.specs.Alike.{common}
use Rattle.translator.specs.Common.{AlikeTo, Tells, TellsAll}

-- the text of a listed string
pub text_at : (s : List ℕ) (ps : List StrPtr) (k : ℕ) (d : StrPtr) (x : List ℕ) → k < length ps → x ≡ text_of s (get_or ps k d) → x ≡ get_or (texts s ps) k []
text_at s ps k d x h e = e ∙ sym (listed_text s ps k d h)

-- ---- the numbers of a string

pub numbers_more : (ss : List (List ℕ)) (x ns : List ℕ) (k n : ℕ) (y : List ℕ) → ((i : ℕ) → i < k → get_or ns i 0 ≡ common (get_or ss i []) x) → k < length ns
    → y ≡ get_or ss k [] → n ≡ common y x → (i : ℕ) → i < k + 1 → get_or (set ns k n) i 0 ≡ common (get_or ss i []) x
numbers_more ss x ns k n y f h ey en i l =
    same_or_not i k
    (λ p. rw (p, get_or-set_same ns k n 0 h, en, ey))
    (λ p. get_or-set_other ns k i n 0 p ∙ f i (below p))
  where
    below : (i ≡ k → ⊥) → i < k
    below p = omega (arith, p)

pub alike_more : (ss nss : List (List ℕ)) (j : ℕ) (ns x : List ℕ) → ((i : ℕ) → i < j → AlikeTo ss (get_or nss i []) (get_or ss i [])) → j < length nss → x ≡ get_or ss j []
    → AlikeTo ss ns x → (i : ℕ) → i < j + 1 → AlikeTo ss (get_or (set nss j ns) i []) (get_or ss i [])
alike_more ss nss j ns x f h ex a i l =
    same_or_not i j
    (λ p. rw (p, get_or-set_same nss j ns [] h, ← ex) a)
    (λ p. rw (get_or-set_other nss j i ns [] p) (f i (below p)))
  where
    below : (i ≡ j → ⊥) → i < j
    below p = omega (arith, p)

-- ---- what a number tells

begins_take : (l : ℕ) (x y : List ℕ) → l ≤ length x → is_prefix (take l x) y ≡ leb l (common y x)
unfolding common
begins_take zero x y h = sym (leb-zero (common y x))
begins_take (suc l) [] y h = absurd (omega arith)
begins_take (suc l) (a ∷ x) [] h = sym (leb-suc-zero l)
begins_take (suc l) (a ∷ x) (b ∷ y) h =
    rw (eqb_sym a b)
    (bool_case (eqb b a)
    (λ e. rw (e, leb-suc-suc l (common y x)) (begins_take l x y (omega arith)))
    (λ e. rw (e, leb-suc-zero l)))

ends_take : (l : ℕ) (x y : List ℕ) → is_prefix y (take l x) ≡ (leb (length y) l && leb (length y) (common y x))
unfolding common
ends_take l x [] = rw (leb-zero l)
ends_take zero x (b ∷ y) = rw (leb-suc-zero (length y))
ends_take (suc l) [] (b ∷ y) = rw (leb-suc-zero (length y), and-false (leb (suc (length y)) (suc l)))
ends_take (suc l) (a ∷ x) (b ∷ y) =
    bool_case (eqb b a)
    (λ e. rw (e, leb-suc-suc (length y) l, leb-suc-suc (length y) (common y x)) (ends_take l x y))
    (λ e. rw (e, leb-suc-zero (length y), and-false (leb (suc (length y)) (suc l))))

tells_none : (n : ℕ) (x : List ℕ) → Tells n [] x
tells_none n x = record { begins = sym (leb-zero n); ends = go x }
  where
    go : (y : List ℕ) → is_prefix y [] ≡ (leb (length y) 0 && leb (length y) n)
    go [] = sym (leb-zero n)
    go (b ∷ y) = rw (leb-suc-zero (length y))

pub tells_root : (ns : List ℕ) (ss : List (List ℕ)) → length ns ≡ 32 → TellsAll ns [] ss
tells_root ns ss h = record { long = h; tells = λ k m. tells_none (get_or ns k 0) (get_or ss k []) }

pub tells_take : (ss : List (List ℕ)) (ns x : List ℕ) (l : ℕ) → AlikeTo ss ns x → l ≤ length x → TellsAll ns (take l x) ss
tells_take ss ns x l a h =
    record {
      long = a.long;
      tells = λ k m.
          let n : length (take l x) ≡ l = length-take-le l x h in
          let y = get_or ss k [] in
          record { begins = rw (n, a.numbers k m) (begins_take l x y h); ends = rw (n, a.numbers k m) (ends_take l x y) };
    }

-- of the first m strings
pub tells_first : (ss : List (List ℕ)) (ns u : List ℕ) → TellsAll ns u ss → (m : ℕ) → m ≤ length ss → TellsAll ns u (take m ss)
tells_first ss ns u t m h =
    record {
      long = t.long;
      tells = λ k l.
          let n : k < m = simp length-take-le at l in
          rw (get_or-take m ss k [] n) (t.tells k (omega arith));
    }
