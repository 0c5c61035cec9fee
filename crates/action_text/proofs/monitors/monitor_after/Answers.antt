use Rattle.program.specs.Names.{naming_of}
use Rattle.actionlines.specs.Lines.{monitor_name}
use Rattle.action_text.proofs.Called.{behind_word}
use Rattle.action_text.proofs.monitors.monitor_after.Goals as goal

pub returns-in-Some : goal.returns-in-Some
returns-in-Some c =
    behind_word (naming_of c.args.names.now) c.in-Some.name.now c.args.text.now c.args.word.now c.monitor_named.result
    c.in-Some.ensures c.monitor_named.ensures

pub returns-in-None : goal.returns-in-None
returns-in-None c = λ m has same. c.in-None.ensures (monitor_name (naming_of c.args.names.now) m) same
