use Rattle.log_simulation.proofs.Progressing.{due_so, enters_so, kill_due_so, opens_so, outside_so, stray_due}
use Rattle.log_simulation.proofs.log_law.progress_follows_logs.Goals as goal

pub returns-clause-opens : goal.returns-clause-opens
returns-clause-opens c = opens_so

pub returns-clause-entries : goal.returns-clause-entries
returns-clause-entries c = λ p events k k' e g h enters. enters_so p events k k' e g h enters

pub returns-clause-outside : goal.returns-clause-outside
returns-clause-outside c = λ p events k k' e g h outside. outside_so p events k k' e g h outside

pub returns-clause-strays : goal.returns-clause-strays
returns-clause-strays c = λ p events k k' e g h outside w short gives member is.
    stray_due p w events k k' e.thread outside.event g h gives short member is

pub returns-clause-kills : goal.returns-clause-kills
returns-clause-kills c = λ p events k k' e g h outside w short gives begins.
    kill_due_so p w events k k' e.thread outside.event g h gives short begins

pub returns-clause-due : goal.returns-clause-due
returns-clause-due c = λ p events k k' e g h enters w event is whole visible short.
    due_so p events k k' e g h enters w event is whole visible short
