-- Laws of the call: what was checked, and the table from the rows. Assumes nothing.
use borrow.Author.Tests.{le-leb}
use mathlib.Core.Path.{◌≡◌, refl, sym, ap, ◌∙◌}
use mathlib.Core.Bool.{true}
use mathlib.Core.List.{List, []}
use Prim.Native.Nat.{ℕ, zero, suc, ◌+◌, ◌*◌, ◌≤◌, ◌<◌}
use native.Mathlib.Omega.{arith}
use lib.ListN.{length, take, get_or, set, length-take, length-set, replicate, get_or-replicate}
use lib.Seq.{get_or-set_same, get_or-set_other}
use Rattle.strlib.proofs.Listing.{all_take}
use Rattle.strlib.proofs.Answering.{outcome_left, outcome_right, refusal_some}
use Rattle.strlib.proofs.Texts.{texts_long, texts_take}
use Rattle.strlib.specs.Pointer.{text_of, texts, all, characters, readable}
use Rattle.std.specs.Prelude.{Result}
use Rattle.std.specs.Result.{IsErrAnd}
use Rattle.strlib.specs.declared.refusal.Refusal.{Refusal}
use Rattle.strlib.specs.Refusal.{gives, refusal_number, answered}
use Rattle.strlib.specs.declared.StrPtr.{StrPtr}
use Rattle.search.specs.Search.{plain_search}
use Rattle.search.specs.Search.{Result as Found}
use Rattle.table.proofs.Running.{run_gave, run_plain}
use Rattle.table.specs.Run.{size_of, is_sized, ran_of, run_rule}
use Rattle.states.proofs.Levelling.{kept_none, kept_frame, kept_trans}
use Rattle.states.proofs.Rowing.{rows_of}
use Rattle.states.proofs.Searching.{run_ends}
use Rattle.states.specs.State.{total, Represents}
use Rattle.states.specs.Sure.{Sure}
use Rattle.states.specs.Fill.{Rowed, Levels, Kept}
use Rattle.preparing.proofs.Checking.{translate_passed}
use Rattle.preparing.proofs.Listing.{total_all}
use Rattle.preparing.specs.Listed.{listed, total_of, translate_refusal}
use Rattle.translator.proofs.Rows.{ready_same, total_take}
use Rattle.translator.specs.Translate.{Host, note_in, Table, Words, Translated}
use Rattle.translator.specs.Inner.{Ready, Rows}

-- what was checked where nothing is refused, of the listed strings ps
pub ready_of : (s : List ℕ) (list : List StrPtr) (count : ℕ) (ps : List StrPtr) → ps ≡ take count list → (ws : List ℕ) → 0 ≡ translate_refusal s list count (length ws) → Ready s (texts s ps) ws
ready_of s list count ps e ws z =
    let ok = translate_passed s list count (length ws) (sym z) in
    let n : length (texts s (take count list)) ≤ 32 = rw texts_long (simp length-take (omega (arith, ok.few))) in
    rw e (record { few = n; room = ok.room; plain = ok.plain; small = ok.small; long = omega (arith, ok.small, ok.long) })

-- and so is every front of them
pub ready_front : (s : List ℕ) (ps : List StrPtr) (ws : List ℕ) → Ready s (texts s ps) ws → (m : ℕ) → Ready s (texts s (take m ps)) ws
ready_front s ps ws r m =
    let e : take m (texts s ps) ≡ texts s (take m ps) = texts_take s ps m in
    let t : total (texts s (take m ps)) ≤ total (texts s ps) = rw e at (total_take (texts s ps) m) in
    let n : length (texts s (take m ps)) ≤ 32 = rw (← e) (simp length-take (omega (arith, r.few))) in
    record { few = n; room = r.room; plain = rw e at (all_take characters (texts s ps) m r.plain); small = omega (arith, r.small); long = omega (arith, r.long) }

module _ (s : List ℕ) (list : List StrPtr) (count : ℕ) (ws : List ℕ) where
  pub translate_refused : (r : Result (Unit {0}) Refusal) (e : Refusal) → IsErrAnd r (λ x. x ≡ e) → refusal_number e ≡ translate_refusal s list count (length ws)
      → Translated s list count ws (answered r) ws
  unfolding Words
  translate_refused r e p h = record { answered = outcome_left r e p _ h tt; words = rw (← h) (go (refusal_number e) (refusal_some e)) }
    where
      go : (j : ℕ) → (j ≡ 0 → ⊥) → Words j (listed s list count) ws ws
      go zero y = absurd (y refl)
      go (suc j) y = refl

  pub translate_done : 0 ≡ translate_refusal s list count (length ws) → (ps : List StrPtr) → ps ≡ take count list → (ws' : List ℕ) → Table (texts s ps) ws ws'
      → Translated s list count ws (gives tt) ws'
  unfolding Words
  translate_done z ps e ws' t = record { answered = outcome_right _ tt tt z refl; words = rw (← z, ← e) t }

-- ---- all levels

pub levels_end : (ss : List (List ℕ)) (ws ws' fs : List ℕ) (n l : ℕ) → n ≡ total ss → n < l → Levels ss ws' fs l 0 → Kept ws ws' (1 + 130 * (total ss + 2)) → Rows ss ws ws'
levels_end ss ws ws' fs n l e h lv k = record { rows = rows_of ss ws' fs l lv (omega arith); kept = k }

-- the tails of the first characters are the empty text, state 1
pub ones : (ss : List (List ℕ)) → length ss ≤ 32 → (i : ℕ) → i < length ss → ◌≡◌ {A = ℕ} (get_or (replicate 32 1) i 0) 1
ones ss few i h = get_or-replicate 32 i 1 0 (omega arith)

-- ---- the table: v is word 0, then the start's row, then all others

-- words that hold the rows answer every host
module _ (ss : List (List ℕ)) (ws : List ℕ) (holds : Represents ss ws) (few : length ss ≤ 32) (small : total ss ≤ 240) (plain : all characters ss ≡ true) where
  pub table_sized : is_sized ws ≡ true
  unfolding is_sized
  table_sized =
      let a : 2 ≤ size_of ws = omega (arith, holds.size) in
      let b : size_of ws ≤ 242 = omega (arith, holds.size) in
      let c : 1 + 130 * size_of ws ≤ length ws = omega (arith, holds.size, holds.long) in
      rw (le-leb 2 (size_of ws) a, le-leb (size_of ws) 242 b, le-leb (1 + 130 * size_of ws) (length ws) c)

  pub table_finds : (t : List ℕ) (host : StrPtr) → Host t host → note_in (run_rule t host ws) ≡ gives (plain_search ss (text_of t host))
  unfolding readable
  table_finds t host h =
      rw (run_plain t host ws h.fits h.good h.plain table_sized, (run_ends ss ws (text_of t host) holds few plain h.plain).ran)

  pub table_early : (t : List ℕ) (host : StrPtr) (k n : ℕ) (r : Found) → Sure ss (take k (text_of t host)) → run_rule t host ws ≡ gives (r, n) → n ≤ k + 1
  table_early t host k n r sure e =
      let g = run_gave t host ws (r, n) e in
      let b = run_ends ss ws (text_of t host) holds few plain g.0 in
      let m : b.read ≡ n = ap (λ (x : Found × ℕ). x.1) (ap ran_of (sym b.ran) ∙ g.1) in
      omega (arith, m, b.early k sure)

module _ (s : List ℕ) (ps : List StrPtr) (ws : List ℕ) (r : Ready s (texts s ps) ws) (n : ℕ) (en : n ≡ total_of s ps (length ps)) where
  pub build_total : n ≡ total (texts s ps)
  build_total = en ∙ total_all s ps r.room (simp texts_long at r.few)

  pub build_small : n ≤ 240
  build_small = omega (arith, build_total, r.small)

  module _ (v : ℕ) (ev : v ≡ n + 2) where
    pub set_ready : Ready s (texts s ps) (set ws 0 v)
    set_ready = ready_same s (texts s ps) ws (set ws 0 v) r (length-set ws 0 v)

    module _ (ws₁ : List ℕ) (rd : Rowed (texts s ps) (set ws 0 v) ws₁ 1 []) where
      pub row_ready : Ready s (texts s ps) ws₁
      row_ready = ready_same s (texts s ps) (set ws 0 v) ws₁ set_ready rd.frame.len

      module _ (ws₂ : List ℕ) (rs : Rows (texts s ps) ws₁ ws₂) where
        kept : Kept (set ws 0 v) ws₂ (1 + 130 * (total (texts s ps) + 2))
        kept =
            kept_trans (set ws 0 v) ws₁ ws₂ _
            (kept_frame (set ws 0 v) (set ws 0 v) ws₁ 1 (total (texts s ps) + 2) (kept_none (set ws 0 v) _) rd.frame (omega arith))
            rs.kept

        size : size_of ws₂ ≡ total (texts s ps) + 2
        size = kept.front ∙ get_or-set_same ws 0 v 0 (omega (arith, r.long)) ∙ omega (arith, build_total)

        same : length ws₂ ≡ length ws
        same = kept.len ∙ length-set ws 0 v

        holds : Represents (texts s ps) ws₂
        holds = record { size = size; long = omega (arith, r.long, same); rows = rs.rows }

        pub table_made : Table (texts s ps) ws ws₂
        table_made =
            record {
              low = omega (arith, size);
              high = omega (arith, size, r.small);
              same = same;
              past = λ i h. kept.high i (omega (arith, size)) ∙ get_or-set_other ws 0 i v 0 (λ e. omega arith);
              finds = table_finds (texts s ps) ws₂ holds r.few r.small r.plain;
              early = table_early (texts s ps) ws₂ holds r.few r.small r.plain;
            }
