use Rattle.lowering.specs.Marks.{rebase_all}
use Rattle.lowering.specs.Locks.{try_code}
use Rattle.locklower.proofs.Extended.{extended}
use Rattle.locklower.proofs.lock.try_lock.Goals as goal

pub returns : goal.returns
returns c =
    let a = c.args in
    extended c.extend_from_slice.result c.extend_from_slice.new.self.items a.code.now.items _
    (rebase_all a.start (try_code a.monitor a.link)) c.extend_from_slice.ensures.items
    (rw (c.plain-lock.ensures, c.plain-link.ensures, c.plain-taken.ensures))
