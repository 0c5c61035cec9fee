use Rattle.std.proofs.Common.{◌≡◌, All, ap, arith, false, length, refl, subst, sym}
use Rattle.std.proofs.lemmas.List.Elements.{All-push}
use Rattle.image_search.proofs.living.no_flags.Goals as goal

pub loop-init : goal.loop-init
loop-init c = λ k d less.
    let none : length c.new-flags.result.items ≡ 0 = ap length c.new-flags.ensures.items in absurd (omega (arith, less, none))

pub loop-preserved : goal.loop-preserved
loop-preserved c = subst (All (λ flag. flag ≡ false)) (sym c.in_ok-push.ensures.items)
    (All-push (λ flag. flag ≡ false) c.loop.flags.items false c.loop.invariant refl)

pub returns : goal.returns
returns c = c.loop.invariant
