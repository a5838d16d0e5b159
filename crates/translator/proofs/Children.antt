-- Laws of putting the strings that go on into a row, from the last to the first. Assumes nothing.
use Rattle.std.proofs.Common.{ℕ, suc, ◌+◌, ◌-◌, ◌≤◌, ◌<◌, ◌≡◌, sym, ap, ◌∙◌, true, List, [], length, get_or, arith}
use Rattle.strlib.proofs.Listing.{all_at}
use Rattle.strlib.specs.Pointer.{all, characters}
use Rattle.states.proofs.Numbering.{total_to_suc, total_to_le}
use Rattle.states.proofs.Writing.{children_more}
use Rattle.states.specs.State.{total, total_to}
use Rattle.states.specs.Fill.{Put, Children}
use Rattle.translator.specs.Common.{Tells, TellsAll}

module _ (ss : List (List ℕ)) (k n : ℕ) (x : List ℕ) (k0 : 0 < k) (h : k ≤ length ss) (e : n ≡ total_to ss k) (p : x ≡ get_or ss (k - 1) []) where
  split : n ≡ total_to ss (k - 1) + length x
  split =
      let z : suc (k - 1) ≡ k = omega arith in
      e ∙ ap (total_to ss) (sym z) ∙ total_to_suc ss (k - 1) (omega arith) ∙ ap (λ (t : List ℕ). total_to ss (k - 1) + length t) (sym p)

  pub child_room : length x ≤ n
  child_room = omega (arith, split)

  pub child_back : n - length x ≡ total_to ss (k - 1)
  child_back = omega (arith, split)

  pub child_small : total ss ≤ 240 → n - length x ≤ 240
  child_small small = omega (arith, child_back, total_to_le ss (k - 1))

  pub child_plain : all characters ss ≡ true → characters x ≡ true
  child_plain a = ap characters p ∙ all_at characters ss (k - 1) [] a (omega arith)

  pub child_tells : (ns u : List ℕ) → TellsAll ns u ss → Tells (get_or ns (k - 1) 0) u x
  child_tells ns u t = rw p (t.tells (k - 1) (omega arith))

  pub child_step : (ws ws₁ ws₂ : List ℕ) (base v : ℕ) (u : List ℕ) → Children ws ws₁ base u ss k → v ≡ n - length x + length u + 2 → Put ws₁ ws₂ base v u x → Children ws ws₂ base u ss (k - 1)
  child_step ws ws₁ ws₂ base v u a b c = children_more ws base u ss ws₁ ws₂ k v x a k0 h p (omega (arith, child_back)) c
