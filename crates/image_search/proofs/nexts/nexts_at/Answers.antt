use Rattle.std.proofs.Common.{length, refl}
use Rattle.std.proofs.lemmas.Option.{slice_get_read, IfSome_then}
use Rattle.std.proofs.lemmas.Result.{IfOk-weaker}
use Rattle.image_search.proofs.nexts.nexts_at.Goals as goal

pub returns-clause-nexts : goal.returns-clause-nexts
returns-clause-nexts c =
    IfOk-weaker c.nexts.result _ _ (λ o are none. (
      c.in-Some.packed.now,
      slice_get_read c.args.states.now (length c.args.states.now) c.args.place c.in-Some.packed.now refl
          c.in-Some.ensures.lookup.3.0 c.in-Some.ensures.lookup.1,
      are none,
    )) c.nexts.ensures.nexts

pub returns-clause-why : goal.returns-clause-why
returns-clause-why c =
    IfOk-weaker c.nexts.result _ _ (λ o h. IfSome_then o h (λ why is. (
      c.in-Some.packed.now,
      slice_get_read c.args.states.now (length c.args.states.now) c.args.place c.in-Some.packed.now refl
          c.in-Some.ensures.lookup.3.0 c.in-Some.ensures.lookup.1,
      is,
    ))) c.nexts.ensures.why
