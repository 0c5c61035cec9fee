use Rattle.account_text.proofs.Lines.{ended_line}
use Rattle.account_text.proofs.account.append_end.Goals as goal

pub returns-in_ok-writeln : goal.returns-in_ok-writeln
returns-in_ok-writeln c = ended_line c.args.thread c.in-Aborted.cause c.number-number.result c.args.outcome _ _
    c.in-Aborted.is c.number-number.ensures c.in_ok-writeln.ensures.bytes
