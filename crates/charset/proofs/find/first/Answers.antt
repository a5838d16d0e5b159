use Rattle.std.proofs.Common.{ℕ, None, ◌≡◌, refl, sym, ◌<◌, false, length, get_or, rules}
use Rattle.std.proofs.iter.Serving.{serving}
use Rattle.std.proofs.lemmas.Grind.{get_or_default_zero}
use Rattle.charset.proofs.Choosing.{none_in, first_in}
use Rattle.charset.proofs.Turning.{code_word}
use Rattle.charset.proofs.find.first.Goals as goal

pub position-requires-clause-callable : goal.position-requires-clause-callable
position-requires-clause-callable c =
    let small : (k d : ℕ) → k < length c.args.text.now → get_or c.args.text.now k d < length c.args.block.now =
    λ k d l. rw (get_or_default_zero c.args.text.now k d l) (code_word c.args.text.now c.args.block.now c.requires k l c.args.block.now c.requires.words) in
    grind serving

pub returns : goal.returns
returns c = first_in c.args.block.now c.args.mask 1 c.args.text.now c.in_ok-first.first _ refl (search rules) (search rules) (search rules)

pub returns-in_err-first : goal.returns-in_err-first
returns-in_err-first c = let e : c.from_residual.result ≡ None = search rules in rw e (sym (none_in c.args.block.now c.args.mask _ 1 c.args.text.now (search rules)))
