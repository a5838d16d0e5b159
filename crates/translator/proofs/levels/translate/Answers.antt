use Rattle.std.proofs.Common.{rules}
use Rattle.translator.proofs.Checking.{ready_of, ready_front, translate_refused, translate_done}
use Rattle.translator.proofs.levels.translate.Goals as goal

pub returns-in_err-check_translate : goal.returns-in_err-check_translate
returns-in_err-check_translate c = translate_refused _ _ _ _ _ _ c.from_residual.ensures.1 c.in_err-check_translate.ensures

pub build-requires : goal.build-requires
build-requires c = let r = ready_of _ _ _ _ c.strings.ensures _ c.in_ok-check_translate.ensures in search (rules, ready_front)

pub returns : goal.returns
returns c = translate_done _ _ _ _ c.in_ok-check_translate.ensures _ c.strings.ensures _ c.build.ensures
