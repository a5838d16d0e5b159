-- Laws of a row: its default, the strings that go on, the note. Assumes nothing.
use mathlib.Core.Path.{◌≡◌, refl, ap, ◌∙◌}
use mathlib.Core.Bool.{true}
use mathlib.Core.List.{List, [], ◌∷◌}
use Prim.Native.Nat.{ℕ, zero, suc, ◌+◌, ◌*◌, ◌≤◌, ◌<◌}
use native.Mathlib.Omega.{arith}
use lib.ListN.{length, take, drop, get_or}
use lib.Seq.{length-take-le}
use Rattle.strlib.proofs.Listing.{all_take}
use Rattle.strlib.proofs.Texts.{character_at}
use Rattle.strlib.proofs.Texts.{texts_long, texts_take}
use Rattle.strlib.specs.declared.StrPtr.{StrPtr}
use Rattle.strlib.specs.Pointer.{texts, all, characters}
use Rattle.search.specs.Search.{closed, length_of}
use Rattle.states.proofs.Levelling.{next_fail}
use Rattle.states.proofs.Noting.{closed_count}
use Rattle.states.proofs.Numbering.{reach_lt}
use Rattle.states.proofs.Rowing.{row_of, default_of, default_root}
use Rattle.states.specs.State.{total}
use Rattle.states.specs.Fill.{limit, if_open, root_to, word_or_stop, Flat, Defaulted, Children, NotePut, Rowed, Stepped}
use Rattle.translator.proofs.Common.{tells_first}
use Rattle.translator.specs.Common.{TellsAll}
use Rattle.translator.specs.Inner.{Ready, Open, Next, Turn}

-- ---- the first strings of a list

pub total_take : (ss : List (List ℕ)) (k : ℕ) → total (take k ss) ≤ total ss
total_take [] zero = omega arith
total_take [] (suc k) = omega arith
total_take (s ∷ ss) zero = omega arith
total_take (s ∷ ss) (suc k) = omega (arith, total_take ss k)

limit_le : (k n : ℕ) → k ≤ n → limit k n ≤ n
limit_le zero n h = omega arith
limit_le (suc k) n h = omega arith

pub ready_same : (s : List ℕ) (ss : List (List ℕ)) (ws ws' : List ℕ) → Ready s ss ws → length ws' ≡ length ws → Ready s ss ws'
ready_same s ss ws ws' r e = record { few = r.few; room = r.room; plain = r.plain; small = r.small; long = omega arith }

module _ (s : List ℕ) (ss : List (List ℕ)) (ws : List ℕ) (r : Ready s ss ws) where
  -- the start
  pub root_ready : (ws₁ : List ℕ) (q v : ℕ) → Flat ws ws₁ q v → Ready s ss ws₁
  root_ready ws₁ q v f = ready_same s ss ws ws₁ r f.wrote.frame.len

  pub root_open : (closing v : ℕ) (ws₁ : List ℕ) → closing ≡ closed ss [] → v ≡ root_to (length ss) closing → Flat ws ws₁ 1 v → Open ss ws₁ [] 1 closing
  root_open closing v ws₁ e ev f =
      let z : v ≡ root_to (length ss) (closed ss []) = ev ∙ ap (root_to (length ss)) e in
      record { short = omega arith; inside = omega arith; closes = e; default = default_root ss ws ws₁ (rw z at f) }

  module _ (u : List ℕ) (q fail : ℕ) (x : Next ss ws u q fail) (closing from : ℕ) (e : closing ≡ closed ss u) (ef : from ≡ if_open closing fail) where
    from_le : from ≤ fail
    from_le = go closing ef
      where
        go : (k : ℕ) → from ≡ if_open k fail → from ≤ fail
        go zero p = omega arith
        go (suc k) p = omega arith

    pub next_from : 1 + 130 * from + 130 ≤ length ws
    next_from = omega (arith, from_le, x.failed, reach_lt ss (drop 1 u))

    pub next_open : (ws₁ : List ℕ) → Defaulted ws ws₁ q from → Open ss ws₁ u q closing
    next_open ws₁ d =
        let z : from ≡ if_open (closed ss u) fail = ef ∙ ap (λ (k : ℕ). if_open k fail) e in
        record { short = x.short; inside = x.inside; closes = e; default = default_of ss ws ws₁ q fail u x.some x.rows x.failed (rw z at d) }

  pub next_ready : (q from : ℕ) (ws₁ : List ℕ) → Defaulted ws ws₁ q from → Ready s ss ws₁
  next_ready q from ws₁ d = ready_same s ss ws ws₁ r d.wrote.frame.len

  -- a turn
  module _ (x : List ℕ) (l q fail : ℕ) (t : Turn ss ws x l q fail) where
    pub turn_short : length x < l → Stepped ss ws ws x l q 0
    turn_short h =
        record { same = λ a. refl; frame = λ a. absurd (omega arith); row = λ a. absurd (omega arith); next = λ a. absurd (omega arith) }

    module _ (h : l ≤ length x) where
      pub turn_fail : 1 + 130 * fail + 128 ≤ length ws
      turn_fail = omega (arith, t.failed h, reach_lt ss (drop 1 (take l x)))

      pub turn_next : Next ss ws (take l x) q fail
      turn_next =
          let n : length (take l x) ≡ l = length-take-le l x h in
          record { some = rw n t.some; short = rw n (omega (arith, t.short)); inside = t.inside h; rows = rw n t.rows; failed = t.failed h }

      pub turn_done : (ws' : List ℕ) (n : ℕ) → (l < length x → n ≡ word_or_stop ws fail (get_or x l 0)) → Rowed ss ws ws' q (take l x) → Stepped ss ws ws' x l q n
      turn_done ws' n f rd =
          record {
            same = λ a. absurd (omega arith);
            frame = λ a. rd.frame;
            row = λ a. rd.row;
            next = λ a. f a ∙ next_fail ss ws x l fail t.rows t.some a (omega (arith, character_at x l t.plain a)) (t.failed h);
          }

-- ---- the end of a row: of the listed strings ps the first m count

module _ (s : List ℕ) (ps : List StrPtr) (ws : List ℕ) (r : Ready s (texts s ps) ws) (u : List ℕ) (q closing : ℕ) (o : Open (texts s ps) ws u q closing) where
  pub finish_closing : closing ≤ length ps
  finish_closing = omega (arith, closed_count (texts s ps) u, o.closes, texts_long s ps)

  module _ (m : ℕ) (e : m ≡ limit closing (length ps)) where
    pub finish_few : m ≤ length ps
    finish_few = omega (arith, limit_le closing (length ps) finish_closing)

    first_m : take m (texts s ps) ≡ texts s (take m ps)
    first_m = texts_take s ps m

    pub finish_plain : all characters (texts s (take m ps)) ≡ true
    finish_plain = rw first_m at (all_take characters (texts s ps) m r.plain)

    pub finish_small : total (texts s (take m ps)) ≤ 240
    finish_small = let t : total (texts s (take m ps)) ≤ total (texts s ps) = rw first_m at (total_take (texts s ps) m) in omega (arith, r.small)

    pub finish_tells : (ns : List ℕ) → TellsAll ns u (texts s ps) → TellsAll ns u (texts s (take m ps))
    finish_tells ns t = rw first_m at (tells_first (texts s ps) ns u t m (omega (arith, finish_few, texts_long s ps)))

    pub finish_row : (n : ℕ) (ws₁ ws₂ : List ℕ) → n ≡ length_of (texts s ps) closing → Children ws ws₁ (1 + 130 * q) u (texts s (take m ps)) 0 → NotePut ws₁ ws₂ q closing n (length u)
        → Rowed (texts s ps) ws ws₂ q u
    finish_row n ws₁ ws₂ en k nt =
        let f : take (limit closing (length (texts s ps))) (texts s ps) ≡ texts s (take m ps) = rw (texts_long, ← e) first_m in
        row_of (texts s ps) ws ws₁ ws₂ q closing u o.closes o.default (rw f k) (rw en at nt)
