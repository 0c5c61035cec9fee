use Rattle.std.proofs.Common.{◌≡◌, ◌∙◌, ◌++◌, ap, arith, drop, replicate, rules}
use Rattle.locals.proofs.Blanks.{clear_more, cleared_whole}
use Rattle.locals.proofs.frame.Locals.clear_first.Goals as goal

pub loop-i-preserved : goal.loop-i-preserved
loop-i-preserved c = record {
  cleared = clear_more c.loop-i.i c.loop-i.self.values c.args.self.now.values c.loop-i.invariant.cleared (search rules);
  within = omega (arith, c.loop-i-test.true);
}

pub returns : goal.returns
returns c =
    let u = c.args.used in
    let old = c.args.self.now.values in
    let end : c.loop-i.i ≡ u = omega (arith, c.loop-i-test.false, c.loop-i.invariant.within) in
    λ i. record {
      values = (c.loop-i.invariant.cleared ∙ ap (λ k. replicate k 0 ++ drop k old) end
          ∙ cleared_whole u c.args.self.now c.requires.within c.requires.blank) i;
      scratch = 0;
    }
