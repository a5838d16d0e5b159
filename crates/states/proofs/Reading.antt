-- The number that a run over the nodes of a list reads: at most one character past a place at which the answer is sure.
-- Assumes nothing.
use Prim.Native.Nat.{ℕ, zero, suc, ◌+◌, ◌≤◌, ◌<◌}
use mathlib.Core.Path.{◌≡◌, refl, sym, ap, ◌∙◌}
use mathlib.Core.Bool.{true}
use mathlib.Core.List.{List, [], ◌∷◌, ◌++◌, append_assoc, append-nil}
use native.Mathlib.Omega.{arith}
use lib.ListN.{length, take, get_or}
use lib.Seq.{take-suc}
use Rattle.strlib.proofs.Pointing.{either}
use Rattle.strlib.proofs.Texts.{character_at}
use Rattle.strlib.specs.Pointer.{all, characters}
use Rattle.states.specs.Node.{Node, stop, at, reach, next_node}
use Rattle.states.specs.Sure.{Sure}
use Rattle.states.proofs.Reaching.{at≢stop, reach_step}
use Rattle.states.proofs.Early.{sure_stop}

-- from a node with n characters read: the character that leads to a stop counts
abbrev pub read_from : List (List ℕ) → List ℕ → Node → ℕ → ℕ
read_from ss [] stop n = n
read_from ss [] (at v) n = n
read_from ss (c ∷ h) stop n = n
read_from ss (c ∷ h) (at v) n = read_from ss h (reach ss (v ++ (c ∷ []))) (suc n)

-- of a whole run
abbrev pub read_over : List (List ℕ) → List ℕ → ℕ
read_over ss h = read_from ss h (at []) 0

read_le : (ss : List (List ℕ)) (h : List ℕ) (nd : Node) (n : ℕ) → read_from ss h nd n ≤ n + length h
read_le ss [] stop n = omega arith
read_le ss [] (at v) n = omega arith
read_le ss (c ∷ h) stop n = omega arith
read_le ss (c ∷ h) (at v) n = omega (arith, read_le ss h (reach ss (v ++ (c ∷ []))) (suc n))

-- a run from where t led reads at most m characters, where these lead to a stop
read_to : (ss : List (List ℕ)) (h t : List ℕ) (nd : Node) (n m : ℕ) → reach ss t ≡ nd → reach ss (t ++ take m h) ≡ stop → read_from ss h nd n ≤ n + m
read_to ss [] t stop n m e s = omega arith
read_to ss [] t (at v) n m e s = omega arith
read_to ss (c ∷ h) t stop n m e s = omega arith
read_to ss (c ∷ h) t (at v) n zero e s = absurd (at≢stop (sym e ∙ ap (reach ss) (sym (append-nil t)) ∙ s))
read_to ss (c ∷ h) t (at v) n (suc m) e s =
    let d : reach ss (t ++ (c ∷ [])) ≡ reach ss (v ++ (c ∷ [])) = reach_step ss t c ∙ ap (λ (nd : Node). next_node ss nd c) e in
    omega (arith, read_to ss h (t ++ (c ∷ [])) (reach ss (v ++ (c ∷ []))) (suc n) m d (ap (reach ss) (append_assoc t (c ∷ []) (take m h)) ∙ s))

-- the start is no stop, for an empty list too: one character at least is read
read_past : (ss : List (List ℕ)) (h : List ℕ) (k : ℕ) → reach ss (take (suc k) h) ≡ stop → read_over ss h ≤ k + 1
read_past ss [] k s = omega arith
read_past ss (c ∷ h) k s = omega (arith, read_to ss h (c ∷ []) (reach ss (c ∷ [])) 1 k refl s)

-- at most one character past any place at which the answer is sure
pub read_early : (ss : List (List ℕ)) (h : List ℕ) (k : ℕ) → all characters ss ≡ true → characters h ≡ true → Sure ss (take k h) → read_over ss h ≤ k + 1
read_early ss h k ks kh d =
    either (length h) k
    (λ (l : length h ≤ k). omega (arith, read_le ss h (at []) 0))
    (λ (l : k < length h). read_past ss h k
    (ap (reach ss) (take-suc h k 0 l) ∙ sure_stop ss (take k h) (get_or h k 0) ks (character_at h k kh l) d))
