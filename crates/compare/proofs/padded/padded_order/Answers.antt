use Rattle.compare.proofs.Padding.{order_laws}
use Rattle.compare.proofs.Walking.{head_here, head_same, tail_here, tail_same}
use Rattle.compare.proofs.padded.padded_order.Goals as goal

pub returns-then-is_ne : goal.returns-then-is_ne
returns-then-is_ne c = head_here _ _ _ _ c.min-both.ensures c.cmp-order.ensures c.if-is_ne.ensures

pub loop-i-init : goal.loop-i-init
loop-i-init c = head_same _ _ _ _ c.min-both.ensures c.cmp-order.ensures c.if-is_ne.ensures

pub returns-then-is_ne-2 : goal.returns-then-is_ne-2
returns-then-is_ne-2 c = tail_here _ _ c.loop-i.i c.loop-i.invariant _ _ c.byte_at.ensures c.byte_at-in-loop-i.ensures _ c.cmp-order-in-loop-i.ensures c.if-is_ne-2.ensures

pub loop-i-preserved : goal.loop-i-preserved
loop-i-preserved c = tail_same _ _ c.loop-i.i c.loop-i.invariant _ _ c.byte_at.ensures c.byte_at-in-loop-i.ensures _ c.cmp-order-in-loop-i.ensures c.if-is_ne-2.ensures

pub returns : goal.returns
returns c = search order_laws
