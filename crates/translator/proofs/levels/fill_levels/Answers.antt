use Rattle.std.proofs.Common.{arith}
use Rattle.states.proofs.Levelling.{level_start, kept_none, kept_trans}
use Rattle.translator.proofs.Checking.{levels_end, ones}
use Rattle.translator.proofs.levels.fill_levels.Goals as goal

pub loop-l-init : goal.loop-l-init
loop-l-init c = record { levels = level_start _ _ _ c.requires.2 (ones _ c.requires.0.few); kept = kept_none _ _ }

pub returns : goal.returns
returns c = levels_end _ _ _ _ _ _ c.requires.1 c.loop-l-test.false c.loop-l.invariant.levels c.loop-l.invariant.kept

pub returns-2 : goal.returns-2
returns-2 c =
    levels_end _ _ _ _ _ _ c.requires.1 (omega arith) c.fill_level.ensures.levels (kept_trans _ _ _ _ c.loop-l.invariant.kept c.fill_level.ensures.kept)
