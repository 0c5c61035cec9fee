use Rattle.std.proofs.Common.{rules}
use Rattle.machine.specs.Views.{concrete}
use Rattle.account_text.proofs.Lines.{threads_more}
use Rattle.account_text.proofs.account.append_threads.Goals.{then-stuck+in_ok-append_sleep, else-stuck}
use Rattle.account_text.proofs.account.append_threads.Goals as goal

pub loop-before-preserved : goal.loop-before-preserved
loop-before-preserved c =
    threads_more (concrete c.args.last.now) c.args.stuck c.loop-before.before _ _ _ _ _ c.loop-before.invariant
    c.outcome.ensures c.in_ok-append_end.ensures (elim c.if-stuck.branch [
      | then-stuck+in_ok-append_sleep w ↦ search rules
      | else-stuck w ↦ search rules
    ])
