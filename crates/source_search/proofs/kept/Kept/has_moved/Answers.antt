use Rattle.std.proofs.Common.{subst}
use Rattle.source_search.specs.Known.{HasMoved}
use Rattle.source_search.proofs.kept.Kept.has_moved.Goals as goal

pub returns : goal.returns
returns c = λ e.
    subst (λ xs. HasMoved xs c.args.other.now c.args.place c.args.outcome) c.as_slice.ensures.value
    (c.is_moved_kept.ensures e)
