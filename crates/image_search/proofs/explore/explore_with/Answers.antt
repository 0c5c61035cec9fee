use Rattle.std.proofs.Common.{◌≡◌, Bool, subst, true}
use Rattle.std.specs.Prelude.{IfNone, IfOk}
use Rattle.image_search.proofs.explore.explore_with.Goals as goal

pub returns-clause-alone : goal.returns-clause-alone
returns-clause-alone g c =
    subst (λ (b : Bool). IfOk c.explore_from.result (λ o. IfNone o (b ≡ true))) c.new-kept.ensures.alone
    c.explore_from.ensures.alone
