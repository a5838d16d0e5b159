use Rattle.std.proofs.Common.{rules}
use Rattle.search.specs.Rule.{parts_of, search_rule}
use Rattle.search.proofs.Answering.{found_left, found_within, found_given, within_first, within_last}
use Rattle.search.proofs.search.Goals as goal

pub returns-in_err-found : goal.returns-in_err-found
unfolding search_rule
returns-in_err-found c = found_left _ _ c.from_residual.ensures.1 _ _ _ _ _ c.in_err-found.ensures

pub map-requires : goal.map-requires
map-requires c = λ x e. let w = found_within _ _ _ _ _ c.in_ok-found.ensures x e in search (rules, within_first, within_last)

pub returns : goal.returns
unfolding search_rule
returns c = let e = found_given _ _ _ _ _ c.in_ok-found.ensures (λ j pos1 pos2. parts_of c.args.host j pos1 pos2) in search rules
