use Rattle.std.proofs.Common.{rules, ◌≡◌, ◌+◌, arith}
use Rattle.strlib.specs.declared.StrPtr.{StrPtr}
use Rattle.joining.proofs.Filling.{fill_none, fill_next, fill_on, fill_stop, fill_end, rest_at, rest_in, rest_over}
use Rattle.joining.proofs.fill.Goals as goal

-- what a read past the end gives
abbrev none : StrPtr
none = record { start = 0; length = 0; maximum = 0 }

pub loop-i-init : goal.loop-i-init
loop-i-init c = let z : c.args.index + 0 ≡ c.args.index = omega arith in rw z (fill_none _ _ _ _ _ c.requires)

pub move_next-m-requires : goal.move_next-m-requires
move_next-m-requires c = fill_next _ _ _ _ _ _ _ _ _ c.loop-i.invariant _ none (search (rules, rest_in)) (search (rules, rest_at))

pub returns-then-q-source : goal.returns-then-q-source
returns-then-q-source c =
    fill_stop _ _ _ _ _ _ _ _ _ _ _ c.loop-i.invariant _ none (search (rules, rest_in)) (search (rules, rest_at)) c.move_next-m.ensures.moved (omega arith) _ c.round_at.ensures

pub loop-i-preserved : goal.loop-i-preserved
loop-i-preserved c =
    let e : c.args.index + (c.loop-i.i + 1) ≡ c.args.index + c.loop-i.i + 1 = omega arith in
    rw e (fill_on _ _ _ _ _ _ _ _ _ _ _ c.loop-i.invariant _ none (search (rules, rest_in)) (search (rules, rest_at)) c.move_next-m.ensures.moved (omega arith))

pub returns : goal.returns
returns c = fill_end _ _ _ _ _ _ _ _ _ c.loop-i.invariant (search (rules, rest_over)) _ c.round_at-2.ensures
