use borrow.Author.Rules.{rules}
use Rattle.buffer.proofs.Growing.{grow_is}
use Rattle.buffer.proofs.Decimal.{decimal_is}
use Rattle.buffer.proofs.append_number.Goals as goal

pub returns : goal.returns
returns c =
    grow_is _ _ _ _ _ _
    (decimal_is c.args.value c.decimal-k.result _
    (search rules) c.decimal-k.ensures.len c.decimal-k.ensures.digits)
    c.append.ensures
