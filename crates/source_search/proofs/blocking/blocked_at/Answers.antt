use Rattle.std.proofs.Common.{◌<◌, arith, length, subst}
use Rattle.program.specs.Views.{program_of}
use Rattle.source_search.specs.Blocking.{AreBlocked}
use Rattle.source_search.specs.Found.{LeadsTo}
use Rattle.source_search.proofs.blocking.blocked_at.Goals as goal

pub returns-then-len-eq0 : goal.returns-then-len-eq0
returns-then-len-eq0 c = λ resting complete. resting

pub returns : goal.returns
returns c = λ resting complete.
    let p = program_of c.args.checked.now.tree in
    let some : 0 < length c.in_ok-processes.processes.items =
    omega (arith, c.if-len-eq0.false, c.len.ensures, c.in_ok-processes.processes.ok.0) in (
      subst (LeadsTo p c.args.outside (AreBlocked p c.in_ok-processes.processes.items)) c.as_slice.ensures.value
          (c.in_ok-processes.ensures some),
      some,
    )
