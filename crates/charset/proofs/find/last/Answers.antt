use Rattle.std.proofs.Common.{ℕ, None, Iter, Option, ◌≡◌, refl, sym, ◌<◌, false, length, get_or, rules}
use denote.Ref.{Bor}
use Rattle.std.specs.List.{push}
use Rattle.std.specs.Option.{MatchOption}
use Rattle.std.proofs.iter.Serving.{serving}
use Rattle.charset.proofs.Choosing.{none_in, last_in, back_small}
use Rattle.charset.proofs.Turning.{code_word}
use Rattle.charset.proofs.find.last.Goals as goal

-- a slice that is read from its end
abbrev steps : Iter ℕ → Option (Bor ℕ) → Iter ℕ → Type 0
steps s r t = MatchOption r (length s.rest.now ≡ 0 × t ≡ s) (λ x. s.rest.now ≡ push t.rest.now x.now)

pub rposition-requires-clause-callable : goal.rposition-requires-clause-callable
rposition-requires-clause-callable c =
    let e : c.iter.result.rest.now ≡ c.args.text.now = search rules in
    record {
      at = λ xs t q x u y f h.
          let small = back_small steps (λ s. s.rest.now) (λ x. x.now) (λ s x t g. g) (length c.args.block.now) c.iter.result
          (rw e (λ k l. code_word c.args.text.now c.args.block.now c.requires k l c.args.block.now c.requires.words)) xs t y x u h in
          grind serving;
    }

pub returns : goal.returns
returns c = last_in c.args.block.now c.args.mask 1 c.args.text.now c.in_ok-last.last _ refl (search rules) (search rules) (search rules)

pub returns-in_err-last : goal.returns-in_err-last
returns-in_err-last c = let e : c.from_residual.result ≡ None = search rules in rw e (sym (none_in c.args.block.now c.args.mask _ 1 c.args.text.now (search rules)))
