use Rattle.std.proofs.Common.{refl}
use mir.Facts.{to_z-of_z}
use Rattle.compare.proofs.Calling.{compare_refused, compare_translates, compare_characters_1, compare_characters_2, compare_code, compare_answer}
use Rattle.compare.proofs.compare.Goals as goal

pub returns-in_err-check_compare : goal.returns-in_err-check_compare
returns-in_err-check_compare c =
    compare_refused _ _ _ _ _ _ _ (to_z-of_z c.ranges.translation) _ _ c.from_residual.ensures.1 c.in_err-check_compare.ensures

pub decide-d-requires : goal.decide-d-requires
decide-d-requires c = (
  compare_translates _ _ _ _ _ _ _ refl c.in_ok-check_compare.ensures,
  compare_characters_1 _ _ _ _ _ _ _ refl c.in_ok-check_compare.ensures _ c.text-x.ensures,
  compare_characters_2 _ _ _ _ _ _ _ refl c.in_ok-check_compare.ensures _ c.text-y.ensures,
)

pub mark-requires : goal.mark-requires
mark-requires c = compare_code _ _ _ _ _ _ _ refl c.in_ok-check_compare.ensures

pub returns : goal.returns
returns c =
    compare_answer _ _ _ _ _ _ _ (to_z-of_z c.ranges.translation) c.in_ok-check_compare.ensures _ _ c.decide-d.result _ _ c.text-x.ensures c.text-y.ensures
    c.decide-d.ensures c.mark.ensures c.cmp.ensures
