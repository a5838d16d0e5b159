-- Laws of counters that stay at their greatest number, and of the answers to lines behind others. Assumes nothing.
use mathlib.Core.Path.{◌≡◌, refl, sym}
use mathlib.Core.List.{List, [], ◌∷◌, ◌++◌, append_assoc}
use Prim.Native.Nat.{ℕ, suc, ◌+◌, ◌<◌}
use native.Mathlib.Nat.{add-zero, add_assoc}
use native.Mathlib.Omega.{arith}
use lib.ListN.{length}
use mir.Syntax.{w64}
use mir.Val.{Fits}
use Rattle.desk.specs.Cue.{cue_rule}
use Rattle.answers.specs.Text.{answer_text}
use Rattle.answers.specs.Pieces.{counted, good_of, answers_text, goods}

pub count_again : (a b t : ℕ) → t ≡ counted a → counted (t + b) ≡ counted (a + b)
unfolding counted
count_again a b t e = omega arith

pub count_fixed : (a t : ℕ) → t ≡ counted a → t ≡ counted t
unfolding counted
count_fixed a t e = omega arith

-- a counter is exact for any input under 2^64 lines
pub counted_is : (n : ℕ) → n < 18446744073709551616 → counted n ≡ n
unfolding counted
counted_is n h = omega arith

pub count_fits : (n : ℕ) → Fits w64 n → n ≡ counted n
unfolding counted
count_fits n f = omega (arith, f.fits)

count_suc : (m n : ℕ) → counted m ≡ counted n → counted (m + 1) ≡ counted (n + 1)
unfolding counted
count_suc m n e = omega arith

pub answers_counted : (m n : ℕ) (ls : List (List ℕ)) → counted m ≡ counted n → answers_text m ls ≡ answers_text n ls
unfolding answers_text
answers_counted m n [] e = refl
answers_counted m n (l ∷ ls) e = rw (count_suc m n e, answers_counted (m + 1) (n + 1) ls (count_suc m n e))

pub answers_append : (n : ℕ) (e f : List (List ℕ)) → answers_text n (e ++ f) ≡ answers_text n e ++ answers_text (n + length e) f
unfolding answers_text
answers_append n [] f = rw (add-zero n)
answers_append n (l ∷ ls) f =
    let k : n + 1 + length ls ≡ n + suc (length ls) = omega arith in
    rw (answers_append (n + 1) ls f, k) (sym (append_assoc (answer_text (counted (n + 1)) (cue_rule l 64 128)) (answers_text (n + 1) ls) (answers_text (n + suc (length ls)) f)))

pub goods_append : (e f : List (List ℕ)) → goods (e ++ f) ≡ goods e + goods f
unfolding goods
goods_append [] f = omega arith
goods_append (l ∷ ls) f = rw (goods_append ls f) (sym (add_assoc (good_of (cue_rule l 64 128)) (goods ls) (goods f)))
