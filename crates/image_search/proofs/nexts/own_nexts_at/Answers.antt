use Rattle.std.proofs.Common.{length, refl}
use Rattle.std.proofs.lemmas.Option.{slice_get_read}
use Rattle.image_search.proofs.nexts.own_nexts_at.Goals as goal

pub returns-clause-grown : goal.returns-clause-grown
returns-clause-grown c = c.in_ok-why.ensures.more.parts

pub returns-clause-done : goal.returns-clause-done
returns-clause-done c = λ none. (
  c.in-Some.packed.now,
  slice_get_read c.args.states.now (length c.args.states.now) c.args.place c.in-Some.packed.now refl
      c.in-Some.ensures.lookup.3.0 c.in-Some.ensures.lookup.1,
  c.in_ok-why.ensures.done none,
)
