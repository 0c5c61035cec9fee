use Rattle.image_search.specs.Kept.{HasKeyAt}
use Rattle.image_search.proofs.Keeping.{contains_at}
use Rattle.image_search.proofs.kept.is_kept.Goals as goal

pub returns-in-Some : goal.returns-in-Some
returns-in-Some c = λ e.
    let at : HasKeyAt c.args.states.now c.in-Some.field-0 c.args.packed.now = c.in-Some.ensures in
    (at.0, contains_at c.args.states.now c.in-Some.field-0 at.0 at.1, at.2)
