use Rattle.std.proofs.Common.{◌<◌, arith, length, subst}
use Rattle.image_states.specs.Nexts.{may_of}
use Rattle.image_search.specs.Found.{LeadsTo}
use Rattle.image_search.specs.Sleeping.{AllSleepForGood}
use Rattle.image_search.proofs.sleeping.for_good_at.Goals as goal

pub returns-clause-told : goal.returns-clause-told
returns-clause-told c =
    let some : 0 < length c.in_ok-threads.threads.items =
    omega (arith, c.if-len-eq0.false, c.len.ensures, c.in_ok-threads.threads.ok.0) in (
      some,
      subst (LeadsTo c.args.image.now (may_of c.args.outside) (AllSleepForGood c.args.image.now c.in_ok-threads.threads.items))
          c.as_slice-2.ensures.value
          (c.in_ok-threads.ensures.sleep some),
    )
