use Rattle.strlib_c.proofs.Translating.{translate_is}
use Rattle.strlib_c.proofs.tables.strlib_translate.Goals as goal

pub returns : goal.returns
returns c = translate_is _ _ _ _ _ _ _ c.refusal_number.ensures c.translate.ensures
