use Rattle.std.proofs.Common.{rules, ◌∙◌, sym, not, eqb}
use borrow.Author.Tests.{tests}
use Rattle.std.proofs.lemmas.Iterator.{YieldsList-from_slice, YieldsList-from_zip}
use Rattle.std.proofs.lemmas.Iterator.Search.{position_from_yields_List}
use Rattle.std.proofs.lemmas.Slice.Zip.{length-zip}
use Rattle.words.proofs.Ending.{found_is}
use Rattle.words.proofs.Likening.{common_is}
use Rattle.words.proofs.alike.Goals as goal

pub returns : goal.returns
returns c =
    let e =
    position_from_yields_List (λ x. not (eqb x.0 x.1)) c.position-differ.new.self _ c.position-differ.result c.position-differ.ensures.ran
    (YieldsList-from_zip (YieldsList-from_slice c.args.a.now cc) (YieldsList-from_slice c.args.b.now cc)) (λ x b q k. search (rules, tests)) in
    c.unwrap_or.ensures ∙ found_is _ _ c.min.result _ (c.min.ensures ∙ sym (length-zip c.args.a.now c.args.b.now)) e ∙ common_is c.args.a.now c.args.b.now
