use Rattle.std.proofs.Common.{rules, ap, ◌∙◌, cond, length, Bool}
use lib.Dec.{leb}
use mathlib.Core.Bool.{◌&&◌}
use borrow.Author.Tests.{tests}
use Rattle.std.proofs.lemmas.Iterator.{YieldsList-from_slice}
use Rattle.std.proofs.lemmas.Iterator.Search.{all_from_yields_List}
use Rattle.strlib.proofs.Listing.{all_list}
use Rattle.records.specs.Record.{is_name}
use Rattle.records.proofs.kinds.is_name.Goals as goal

pub returns : goal.returns
unfolding is_name
returns c =
    let e = all_from_yields_List (λ x. leb 32 x && leb x 126) _ _ c.all.result c.all.ensures.ran (YieldsList-from_slice c.args.bytes.now cc) (λ x b q k. search (rules, tests)) in
    rw (e, all_list)
