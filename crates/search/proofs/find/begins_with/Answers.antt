use Rattle.std.proofs.Common.{rules, ◌∙◌, eqb, arith}
use borrow.Author.Tests.{tests}
use Rattle.std.proofs.lemmas.Iterator.{YieldsList-from_slice, YieldsList-from_zip}
use Rattle.std.proofs.lemmas.Iterator.Search.{all_from_yields_List}
use Rattle.search.proofs.Prefixes.{prefix_pairs}
use Rattle.search.proofs.find.begins_with.Goals as goal

pub returns-then-string-text-2 : goal.returns-then-string-text-2
returns-then-string-text-2 c =
    let e =
    all_from_yields_List (λ p. eqb p.0 p.1) c.all.new.self _ c.all.result c.all.ensures.ran
    (YieldsList-from_zip (YieldsList-from_slice c.args.string.now cc) (YieldsList-from_slice c.args.text.now cc)) (λ p b q k. search (rules, tests)) in
    e ∙ prefix_pairs c.args.string.now c.args.text.now (omega arith)
