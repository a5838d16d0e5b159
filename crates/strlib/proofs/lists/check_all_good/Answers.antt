use Rattle.std.proofs.Common.{rules, length}
use borrow.Author.Tests.{tests}
use Rattle.std.proofs.lemmas.Iterator.{YieldsList-from_slice}
use Rattle.std.proofs.lemmas.Iterator.Search.{all_from_yields_List}
use Rattle.strlib.specs.Pointer.{good_in}
use Rattle.strlib.proofs.Listing.{all_list}
use Rattle.strlib.proofs.lists.check_all_good.Goals as goal

pub returns : goal.returns
returns c =
    let e = all_from_yields_List (good_in (length c.args.store.now)) _ _ c.all.result c.all.ensures.ran (YieldsList-from_slice c.strings.result.now cc) (λ x b q k. search (rules, tests)) in
    rw (c.check.ensures, e, c.strings.ensures, all_list)
