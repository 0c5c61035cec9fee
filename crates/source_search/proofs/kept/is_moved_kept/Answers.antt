use Rattle.std.proofs.Common.{length, refl}
use Rattle.std.proofs.lemmas.Option.{slice_get_read}
use Rattle.source_search.proofs.Remembered.{has_moved}
use Rattle.source_search.proofs.kept.is_moved_kept.Goals as goal

pub returns-then-is_moved : goal.returns-then-is_moved
returns-then-is_moved c = λ e.
    has_moved c.args.states.now c.in-Some.found.number c.in-Some-get.kept.now c.args.other.now c.args.place c.args.outcome
    (slice_get_read c.args.states.now (length c.args.states.now) c.in-Some.found.number c.in-Some-get.kept.now refl
    c.in-Some-get.ensures.lookup.3.0 c.in-Some-get.ensures.lookup.1)
    (c.is_moved.ensures c.if-is_moved.true)
