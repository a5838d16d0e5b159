use Rattle.std.proofs.Common.{refl, arith, ◌∙◌, length-set}
use Rattle.strlib.proofs.Texts.{texts_long}
use Rattle.states.proofs.Levelling.{kept_none}
use Rattle.translator.proofs.Common.{text_at}
use Rattle.translator.proofs.Rows.{ready_same}
use Rattle.translator.proofs.Leveling.{level_off0, level_off, level_small, level_turn, level_on, level_kept, level_end}
use Rattle.translator.proofs.levels.fill_level.Goals as goal

pub loop-j-init : goal.loop-j-init
loop-j-init c = record { size = c.told-fails; off = level_off0 _; levels = c.requires.3; kept = kept_none _ _ }

pub returns : goal.returns
returns c =
    level_end _ _ _ c.requires.0 _ _ _ _ (omega (arith, texts_long c.args.store.now c.args.strings.now)) c.loop-j.invariant.levels c.loop-j.invariant.kept

pub offset_bounds-alike-j : goal.offset_bounds-alike-j
offset_bounds-alike-j c = omega (arith, c.requires.0.few, texts_long c.args.store.now c.args.strings.now)

pub bounds-alike-j : goal.bounds-alike-j
bounds-alike-j c = omega (arith, c.requires.0.few, texts_long c.args.store.now c.args.strings.now)

pub bounds-fails-j : goal.bounds-fails-j
bounds-fails-j c = omega (arith, c.requires.0.few, texts_long c.args.store.now c.args.strings.now)

pub bounds-fails-j-in-loop-j : goal.bounds-fails-j-in-loop-j
bounds-fails-j-in-loop-j c = omega (arith, c.requires.0.few, texts_long c.args.store.now c.args.strings.now)

pub overflow_add-off : goal.overflow_add-off
overflow_add-off c = omega (arith, level_small _ _ _ c.requires.0 _ _ _ (rw texts_long c.loop-j-test.true) c.loop-j.invariant.off (text_at _ _ _ _ _ c.loop-j-test.true c.text-x.ensures))

pub overflow_add-off-in-loop-j : goal.overflow_add-off-in-loop-j
overflow_add-off-in-loop-j c = omega (arith, level_small _ _ _ c.requires.0 _ _ _ (rw texts_long c.loop-j-test.true) c.loop-j.invariant.off (text_at _ _ _ _ _ c.loop-j-test.true c.text-x.ensures))

pub overflow_add-off-in-loop-j-2 : goal.overflow_add-off-in-loop-j-2
overflow_add-off-in-loop-j-2 c = omega (arith, level_small _ _ _ c.requires.0 _ _ _ (rw texts_long c.loop-j-test.true) c.loop-j.invariant.off (text_at _ _ _ _ _ c.loop-j-test.true c.text-x.ensures))

pub fill_state-requires : goal.fill_state-requires
fill_state-requires c =
    let h = c.loop-j-test.true in
    let e = text_at _ _ _ _ _ h c.text-x.ensures in (
      ready_same _ _ _ _ c.requires.0 c.loop-j.auto.table,
      level_turn _ _ _ c.requires.0 _ _ _ (rw texts_long c.loop-j-test.true) c.loop-j.invariant.off (text_at _ _ _ _ _ c.loop-j-test.true c.text-x.ensures) _ _ _ _ _ c.requires.1 c.loop-j.invariant.levels refl refl,
      rw (← e) at (c.requires.4 c.loop-j.j (rw texts_long h)),
    )

pub loop-j-preserved : goal.loop-j-preserved
loop-j-preserved c = record {
  size = length-set _ _ _ ∙ c.loop-j.invariant.size;
  off = level_off _ _ _ c.requires.0 _ _ _ (rw texts_long c.loop-j-test.true) c.loop-j.invariant.off (text_at _ _ _ _ _ c.loop-j-test.true c.text-x.ensures);
  levels = level_on _ _ _ c.requires.0 _ _ _ (rw texts_long c.loop-j-test.true) c.loop-j.invariant.off (text_at _ _ _ _ _ c.loop-j-test.true c.text-x.ensures) _ _ _ _ _ _ refl c.fill_state.ensures c.requires.1 c.loop-j.invariant.size c.loop-j.invariant.levels;
  kept = level_kept _ _ _ c.requires.0 _ _ _ (rw texts_long c.loop-j-test.true) c.loop-j.invariant.off (text_at _ _ _ _ _ c.loop-j-test.true c.text-x.ensures) _ _ c.loop-j.fails _ _ _ refl c.fill_state.ensures c.loop-j.invariant.kept;
}
