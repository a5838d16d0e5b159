-- Where a run over any words rests: it has read all, or stopped, and then nothing behind what it read could matter. So
-- words that find what the search finds stop only where the answer is sure; and what was found is followed by one
-- character more. Assumes nothing.
use Prim.Native.Nat.{ℕ, zero, suc, ◌+◌, ◌≤◌}
use mathlib.Core.Path.{◌≡◌, refl, sym, ap, ◌∙◌}
use mathlib.Core.Bool.{Bool, true, false, ◌&&◌}
use mathlib.Core.List.{List, [], ◌∷◌, ◌++◌, append-nil}
use native.Mathlib.Omega.{arith}
use lib.Dec.{leb, ltb}
use lib.ListN.{length, take}
use Rattle.strlib.proofs.Listing.{all_take}
use Rattle.strlib.proofs.Texts.{characters_append}
use Rattle.strlib.specs.Pointer.{all, characters}
use Rattle.search.specs.Search.{Result, nothing, found, plain_search}
use Rattle.table.proofs.Walking.{walk_bad, walk_stop}
use Rattle.table.specs.Run.{size_of, word_of, Walk, bad, rests, only_if, noted, enter, step, walk, run_over, ran_of}
use Rattle.states.specs.Sure.{Sure}
use Rattle.states.specs.Reads.{Finds, Stops, RunStops, Reads, RunReads}

-- the end of what was found is at most m
abbrev EndsBy : ℕ → Result → Type 0
EndsBy m nothing = Unit {0}
EndsBy m (found j pos1 pos2) = pos2 ≤ m

ends_later : (m : ℕ) (r : Result) → EndsBy m r → EndsBy (suc m) r
ends_later m nothing k = tt
ends_later m (found j pos1 pos2) k = omega arith

-- a state was entered with m characters read: a stop notes nothing, another state may note what ends with the last of
-- them
abbrev Arrived : ℕ → Walk → Type 0
Arrived m bad = Unit {0}
Arrived m (rests zero n r) = (n ≡ m) × EndsBy n r
Arrived m (rests (suc q) n r) = (n ≡ m) × EndsBy (suc n) r

arrived_only : (m : ℕ) (b : Bool) (w : Walk) → Arrived m w → Arrived m (only_if b w)
arrived_only m true w k = k
arrived_only m false w k = tt

module _ (ws : List ℕ) (size : ℕ) where
  arrived_noted : (q f l n : ℕ) (r : Result) → EndsBy n r → Arrived n (noted (suc q) f l n r)
  arrived_noted q zero l n r k = (refl, ends_later n r k)
  arrived_noted q (suc f) l n r k = arrived_only n (leb (suc f) 32 && leb l n) (rests (suc q) n (found (suc f) _ (suc n))) (refl, omega arith)

  arrived : (q n : ℕ) (r : Result) → EndsBy n r → Arrived n (enter ws q n r)
  unfolding enter
  arrived zero n r k = (refl, k)
  arrived (suc q) n r k = arrived_noted q (word_of ws (suc q) 128) (word_of ws (suc q) 129) n r k

  -- where a run over h rests, from w with m characters read: it has read them all; or it stopped, and would have with
  -- anything else behind what it read
  abbrev Rested : List ℕ → Walk → ℕ → Walk → Type 0
  Rested h w m bad = Unit {0}
  Rested h w m (rests zero n r) = (d : ℕ) × (m + d ≡ n) × EndsBy n r × ((z : List ℕ) → walk ws size (take d h ++ z) w ≡ rests zero n r)
  Rested h w m (rests (suc q) n r) = n ≡ m + length h

  rested_later : (c : ℕ) (h : List ℕ) (w : Walk) (m : ℕ) (end : Walk) → Rested h (step ws size w c) (suc m) end → Rested (c ∷ h) w m end
  unfolding walk
  rested_later c h w m bad k = tt
  rested_later c h w m (rests zero n r) (d, e, k, f) = (suc d, omega arith, k, f)
  rested_later c h w m (rests (suc q) n r) k = omega arith

  rested : (h : List ℕ) (w : Walk) (m : ℕ) → Arrived m w → Rested h w m (walk ws size h w)
  unfolding walk step
  rested [] bad m k = tt
  rested [] (rests zero n r) m k = (0, omega (arith, k.0), k.1, λ z. walk_stop ws size z n r)
  rested [] (rests (suc q) n r) m k = omega (arith, k.0)
  rested (c ∷ h) bad m k = rw (walk_bad ws size h) tt
  rested (c ∷ h) (rests zero n r) m k = rw (walk_stop ws size h n r) (0, omega (arith, k.0), k.1, λ z. walk_stop ws size z n r)
  rested (c ∷ h) (rests (suc q) n r) m k =
      let w : Walk = step ws size (rests (suc q) n r) c in
      let next : Arrived (suc m) w
      = rw (← k.0) (arrived_only (suc n) (ltb (word_of ws (suc q) c) size) (enter ws (word_of ws (suc q) c) (suc n) r) (arrived (word_of ws (suc q) c) (suc n) r k.1)) in
      rested_later c h (rests (suc q) n r) m (walk ws size h w) (rested h w (suc m) next)

-- ---- a whole run

-- from the start, state 1 with no character read
abbrev RunRested : List ℕ → List ℕ → Walk → Type 0
RunRested ws h end = Rested ws (size_of ws) h (enter ws 1 0 nothing) 0 end

run_rested : (ws h : List ℕ) → RunRested ws h (run_over ws h)
unfolding run_over
run_rested ws h = rested ws (size_of ws) h (enter ws 1 0 nothing) 0 (arrived ws (size_of ws) 1 0 nothing tt)

-- the start is no stop
abbrev state_in : Walk → ℕ
state_in bad = 1
state_in (rests q n r) = q

only_in : (b : Bool) (n : ℕ) (r : Result) → state_in (only_if b (rests 1 n r)) ≡ 1
only_in true n r = refl
only_in false n r = refl

noted_in : (f l n : ℕ) (r : Result) → state_in (noted 1 f l n r) ≡ 1
noted_in zero l n r = refl
noted_in (suc f) l n r = only_in (leb (suc f) 32 && leb l n) n _

start_in : (ws : List ℕ) → state_in (enter ws 1 0 nothing) ≡ 1
unfolding enter
start_in ws = noted_in (word_of ws 1 128) (word_of ws 1 129) 0 nothing

module _ (ws h : List ℕ) (r : Result) where
  some_read : (n d : ℕ) → d ≡ n → ((z : List ℕ) → walk ws (size_of ws) (take d h ++ z) (enter ws 1 0 nothing) ≡ rests zero n r) → 1 ≤ n
  unfolding walk
  some_read n zero e f = absurd (omega (arith, start_in ws, ap state_in (f [])))
  some_read n (suc d) e f = omega arith

  ends_behind : (n : ℕ) (s : Result) → EndsBy n s → (j pos1 pos2 : ℕ) → s ≡ found j pos1 pos2 → pos2 ≤ n
  ends_behind n s k j pos1 pos2 e = rw e at k

  reads_at : (q n : ℕ) → RunRested ws h (rests q n r) → Reads h q n r
  reads_at zero n (d, e, k, f) =
      record { left = λ l. refl; first = λ l. some_read n d (omega arith) f; behind = λ j pos1 pos2 p l. ends_behind n r k j pos1 pos2 p }
  reads_at (suc q) n k = record { left = λ l. absurd (omega arith); first = λ l. omega arith; behind = λ j pos1 pos2 p l. omega arith }

pub run_reads : RunReads
run_reads = λ ws host q n r e. reads_at ws host r q n (rw e at (run_rested ws host))

-- ---- words that find what the search finds

module _ (ss : List (List ℕ)) (ws host : List ℕ) (finds : Finds ss ws) (plain : characters host ≡ true) where
  front_plain : (n : ℕ) (z : List ℕ) → characters z ≡ true → characters (take n host ++ z) ≡ true
  unfolding characters
  front_plain n z k = characters_append (take n host) z ∙ rw (all_take (λ x. leb x 127) host n plain, k)

  front_sure : (n : ℕ) (r : Result) → ((z : List ℕ) → characters z ≡ true → plain_search ss (take n host ++ z) ≡ r) → Sure ss (take n host)
  unfolding Sure characters all
  front_sure n r f = λ z k. f z k ∙ sym (f [] refl) ∙ ap (plain_search ss) (append-nil (take n host))

  stops_at : (q n : ℕ) (r : Result) → RunRested ws host (rests q n r) → Stops ss host q n
  unfolding run_over
  stops_at zero n r (d, e, k, f) =
      let is : d ≡ n = omega arith in
      let named : (z : List ℕ) → characters z ≡ true → plain_search ss (take n host ++ z) ≡ r
      = λ z p. sym (finds (take n host ++ z) (front_plain n z p)) ∙ ap (λ (w : Walk). (ran_of w).0) (rw is at (f z)) in
      let sure : Sure ss (take n host) = front_sure n r named in
      record { sure = λ p. sure; no_fewer = λ i first. first.first n sure }
  stops_at (suc q) n r k = record { sure = λ p. absurd (omega arith); no_fewer = λ i first. omega (arith, first.inside) }

pub run_stops : RunStops
run_stops = λ ss ws host q n r finds plain e. stops_at ss ws host finds plain q n r (rw e at (run_rested ws host))
