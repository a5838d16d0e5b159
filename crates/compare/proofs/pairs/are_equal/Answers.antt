use Rattle.std.proofs.Common.{rules}
use Rattle.compare.proofs.Pairing.{block_step, pairing_laws}
use Rattle.compare.proofs.pairs.are_equal.Goals as goal

pub loop-i-init : goal.loop-i-init
loop-i-init c = search pairing_laws

pub is_equal-requires : goal.is_equal-requires
is_equal-requires c = (c.requires.character_1 c.loop-i.i (search rules), c.requires.character_2 c.loop-i.i (search rules))

pub loop-i-preserved : goal.loop-i-preserved
loop-i-preserved c =
    block_step _ _ _ c.loop-i.i _ c.loop-i.equal c.loop-i.invariant c.requires (search rules) _ _ c.is_equal.ensures c.both-equal.ensures

pub returns : goal.returns
returns c = search pairing_laws
