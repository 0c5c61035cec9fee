use Rattle.std.proofs.Common.{refl, inr}
use Rattle.scanner.specs.Tokens.{views}
use Rattle.scanner.proofs.Readings.{tokens_unique, not_both}
use Rattle.scanner.proofs.Passing.{order_more, tokens_made}
use Rattle.scanner.proofs.text.scan.Goals as goal

-- a text with a fault has no tokens
pub returns-in_err-token-clause-only : goal.returns-in_err-token-clause-only
returns-in_err-token-clause-only c = λ ts is. absurd (not_both c.args.text.now ts c.in_err-token.field-0.0 is (inr (
  c.loop-tokens.invariant.short,
  record {
    tokens = views c.loop-tokens.tokens.items;
    place = c.loop-tokens.source.place;
    rest = c.loop-tokens.source.rest.now;
    in_order = c.loop-tokens.invariant.in_order;
    wrong = c.in_err-token.ensures.wrong;
  },
)))

pub loop-tokens-preserved : goal.loop-tokens-preserved
loop-tokens-preserved c = record {
  short = c.loop-tokens.invariant.short;
  in_order = order_more _ _ _ _ _ _ _ _ c.loop-tokens.invariant.in_order
      (rw c.in-Some.is at c.in_ok-token.ensures.token) c.in_ok-push.ensures.items;
  fits = c.in_ok-token.ensures.fits;
}

pub returns-clause-only : goal.returns-clause-only
returns-clause-only c = λ ts is.
    let made = tokens_made _ _ _ _ _ _ _ c.loop-tokens.invariant.short c.loop-tokens.invariant.in_order
    (rw c.in_default.is at c.in_ok-token.ensures.end) c.in_ok-push-2.ensures.items refl in
    tokens_unique c.args.text.now _ ts made is
