use Rattle.std.proofs.Common.{subst}
use Rattle.image_search.specs.Kept.{IsWhyAt}
use Rattle.image_search.proofs.Keeping.{contains_at}
use Rattle.image_search.proofs.reasons.bound_at.Goals as goal

pub crowd_bound-requires : goal.crowd_bound-requires
crowd_bound-requires c =
    let kept = c.args.kept.now in
    let is = subst (IsWhyAt kept.parts kept.states.items c.args.place) c.in-Sleepers.is c.requires in
    (is.0, contains_at kept.states.items c.args.place is.0 is.1, is.2)

pub returns-in-Parts : goal.returns-in-Parts
returns-in-Parts c =
    let kept = c.args.kept.now in
    let is = subst (IsWhyAt kept.parts kept.states.items c.args.place) c.in-Parts.is c.requires in
    is.2
