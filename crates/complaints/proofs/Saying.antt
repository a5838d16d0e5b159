-- Laws of the line that a program writes on standard error, put together from its parts. Assumes nothing.
use mathlib.Core.Path.{◌≡◌, sym, ap, ◌∙◌}
use mathlib.Core.List.{List, [], ◌∷◌, ◌++◌, map, append-nil, map-append}
use Prim.Native.Nat.{ℕ, suc, ◌+◌, ◌≤◌, ◌<◌}
use native.Mathlib.Numerals.{add-one}
use native.Mathlib.Omega.{arith}
use borrow.Author.Rules.{rules}
use borrow.Author.Tests.{lt-ltb, le-ltb, eq-eqb, ne_eqb}
use lib.ListN.{length, get_or, set, take, drop, length-take, length-map, drop_of_length-le}
use lib.Seq.{drop-cons, take-suc, take_all, set_at, get_or_at, append_snoc}
use Rattle.strlib.specs.Quoted.{bytes}
use Rattle.buffer.proofs.Growing.{grow_more}
use Rattle.buffer.specs.Buffer.{grown}
use Rattle.complaints.specs.Complaint.{shown, source_text, failure_text, usage_text, complaint_text}
use Rattle.endings.specs.declared.Ending.{Ending}
use Rattle.endings.specs.declared.Source.{Source}

-- ---- a name

module _ (c : ℕ) where
  pub shown_low : c < 32 → 63 ≡ shown c
  unfolding shown
  shown_low h = rw (lt-ltb c 32 h)

  pub shown_last : 32 ≤ c → c ≡ 127 → 63 ≡ shown c
  unfolding shown
  shown_last h e = rw (le-ltb c 32 h, eq-eqb c 127 e)

  pub shown_same : 32 ≤ c → (c ≡ 127 → ⊥) → c ≡ shown c
  unfolding shown
  shown_same h e = rw (le-ltb c 32 h, ne_eqb c 127 e)

pub ruleset shown_laws = (rules, shown_low, shown_last, shown_same)

-- the bytes before i are shown
module _ (s s' : List ℕ) (i : ℕ) (l : length s' ≡ length s) (e : s' ≡ map shown (take i s) ++ drop i s) where
  pub show_step : (v : ℕ) → i < length s' → v ≡ shown (get_or s' i 0) → set s' i v ≡ map shown (take (i + 1) s) ++ drop (i + 1) s
  show_step v h q =
      let p : List ℕ = map shown (take i s) in
      let lp : length p ≡ i = length-map (take i s) shown ∙ rw length-take (omega arith) in
      let k : i < length s = omega arith in
      let f : s' ≡ p ++ get_or s i 0 ∷ drop (suc i) s = e ∙ ap (λ (t : List ℕ). p ++ t) (drop-cons s i 0 k) in
      let a : get_or s' i 0 ≡ get_or s i 0 = rw f (get_or_at p (get_or s i 0) (drop (suc i) s) 0 i lp) in
      let b : set s' i v ≡ p ++ v ∷ drop (suc i) s = rw f (set_at p (get_or s i 0) (drop (suc i) s) v i lp) in
      let m : map shown (take (suc i) s) ≡ p ++ (shown (get_or s i 0) ∷ []) =
      ap (map shown) (take-suc s i 0 k) ∙ map-append shown (take i s) (get_or s i 0 ∷ []) in
      rw (add-one, m) (b ∙ rw (q, a) (sym (append_snoc p (shown (get_or s i 0)) (drop (suc i) s))))

  pub show_end : length s' ≤ i → s' ≡ map shown s
  show_end h =
      let k : length s ≤ i = omega arith in
      e ∙ rw (take_all i s k, drop_of_length-le s k) (append-nil (map shown s))

pub ruleset show_laws = (rules, show_step, show_end)

-- ---- a line

pub failure_is : (b b1 b2 b3 : List ℕ) (n1 n2 n3 : ℕ) (program thing what : List ℕ) → (n1, b1) ≡ grown b 0 (program ++ bytes ": incomplete: ")
    → (n2, b2) ≡ grown b1 n1 thing → (n3, b3) ≡ grown b2 n2 what → (n3, b3) ≡ grown b 0 (failure_text program thing what)
unfolding failure_text
failure_is b b1 b2 b3 n1 n2 n3 program thing what p q u = grow_more b 0 b2 n2 b3 n3 _ _ (grow_more b 0 b1 n1 b2 n2 _ _ p q) u

pub usage_is : (b b1 b2 b3 : List ℕ) (n1 n2 n3 : ℕ) (program : List ℕ) → (n1, b1) ≡ grown b 0 (bytes "usage: ") → (n2, b2) ≡ grown b1 n1 program
    → (n3, b3) ≡ grown b2 n2 (bytes " [FILE]" ++ (10 ∷ [])) → (n3, b3) ≡ grown b 0 (usage_text program)
unfolding usage_text
usage_is b b1 b2 b3 n1 n2 n3 program p q u = grow_more b 0 b2 n2 b3 n3 _ _ (grow_more b 0 b1 n1 b2 n2 _ _ p q) u

-- what is said is told apart by its case
pub names : (b b' : List ℕ) (n r : ℕ) (name : List ℕ) (s t : Source) → s ≡ t → (r, b') ≡ grown b n (source_text t name) → (r, b') ≡ grown b n (source_text s name)
names b b' n r name s t e g = rw e g

pub says : (b b' : List ℕ) (r : ℕ) (program name : List ℕ) (s : Source) (e f : Ending) → e ≡ f → (r, b') ≡ grown b 0 (complaint_text program s name f)
    → (r, b') ≡ grown b 0 (complaint_text program s name e)
says b b' r program name s e f p g = rw p g

pub ruleset line_laws = (rules, grow_more, failure_is, usage_is)

pub ruleset says_laws = (rules, grow_more, names, says)
