-- As many strings as there is room for, laid over the front of a list. Assumes nothing.
use mathlib.Core.Path.{◌≡◌}
use mathlib.Core.List.{List, ◌++◌, append-nil}
use Prim.Native.Nat.{ℕ, ◌≤◌, ◌<◌, min}
use native.Mathlib.Omega.{arith}
use lib.ListN.{length, take, drop, length-take}
use lib.Seq.{take_at, take_all}
use Rattle.std.proofs.lemmas.List.{drop_all}
use Rattle.strlib.proofs.Pointing.{either}

laid_min : {A : Type 0} (n m : ℕ) (xs pads : List A) → length xs ≡ n → length pads ≡ m → take n (take (min n m) xs ++ drop (min n m) pads) ≡ take m xs
laid_min n m xs pads h k =
    either n m
    (λ (g : n ≤ m).
    let e : min n m ≡ n = omega arith in
    rw (e, take_all n xs (omega arith), take_at xs (drop n pads) n h, take_all m xs (omega arith)))
    (λ (g : m < n).
    let e : min n m ≡ m = omega arith in
    rw (e, drop_all m pads (omega arith), append-nil, take_all n (take m xs) (simp length-take (omega arith))))

pub laid : {A : Type 0} (n m room : ℕ) (xs front pads : List A) → length xs ≡ n → length pads ≡ m → room ≡ min n m → front ≡ take room xs → take n (front ++ drop room pads) ≡ take m xs
laid n m room xs front pads h k e f = rw (f, e) (laid_min n m xs pads h k)
