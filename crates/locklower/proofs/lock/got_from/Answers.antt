use Rattle.lowering.specs.Marks.{rebase_all}
use Rattle.lowering.specs.Locks.{got_at, recovery}
use Rattle.locklower.proofs.Extended.{extended}
use Rattle.locklower.proofs.RecoveryLaws.{moved_recovery}
use Rattle.locklower.proofs.lock.got_from.Goals as goal

pub returns : goal.returns
returns c =
    let a = c.args in
    extended c.extend_from_slice.result c.extend_from_slice.new.self.items a.code.now.items _
    (rebase_all a.start (got_at a.link (recovery a.recover) a.a)) c.extend_from_slice.ensures.items
    (rw (
      moved_recovery a.start a.recover,
      c.plain-link.ensures,
      c.plain-passed.ensures,
      c.plain-recovered.ensures,
      c.recovery.ensures,
    ))
