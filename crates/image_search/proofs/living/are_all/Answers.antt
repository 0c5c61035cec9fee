use Rattle.std.proofs.Common.{◌≡◌, All, false, subst, true}
use Rattle.std.proofs.lemmas.List.{take_all}
use Rattle.std.proofs.lemmas.List.Elements.{All-more}
use Rattle.image_search.proofs.living.are_all.Goals as goal

pub loop-flag-preserved : goal.loop-flag-preserved
loop-flag-preserved c =
    All-more (λ flag. flag ≡ true) c.args.flags.now c.loop-flag.flag-index false c.loop-flag-test.true
    c.loop-flag.invariant c.if-not-flag.false

pub returns : goal.returns
returns c = λ e. subst (All (λ flag. flag ≡ true))
    (take_all c.loop-flag.flag-index c.args.flags.now c.loop-flag-test.false) c.loop-flag.invariant
