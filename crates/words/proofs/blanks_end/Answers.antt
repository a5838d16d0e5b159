use Rattle.std.proofs.Common.{rules, ◌∙◌, ◌-◌, ap, refl, not, eqb, length, take, drop}
use borrow.Author.Tests.{tests}
use Rattle.std.specs.List.{position_or_len}
use Rattle.std.proofs.lemmas.Iterator.{YieldsList-from_slice}
use Rattle.std.proofs.lemmas.Iterator.Search.{position_from_yields_List}
use Rattle.words.proofs.Ending.{found_is, blanks_at, blanks_past, rest_is}
use Rattle.words.proofs.blanks_end.Goals as goal

pub returns-then-text-at : goal.returns-then-text-at
returns-then-text-at c = search (rules, blanks_past)

pub returns : goal.returns
returns c =
    let left = take (length c.args.text.now - c.args.at) (drop c.args.at c.args.text.now) in
    let e = position_from_yields_List (λ x. not (eqb x 32)) _ _ c.position.result c.position.ensures.ran (YieldsList-from_slice left cc) (λ x b q k. search (rules, tests)) in
    blanks_at _ _ _ (c.unwrap_or.ensures ∙ found_is _ left _ _ refl e ∙ ap (position_or_len (λ x. not (eqb x 32))) (rest_is c.args.text.now c.args.at))
