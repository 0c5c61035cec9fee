use Rattle.log_text.proofs.Logs.{lines_once, no_bad_line}
use Rattle.log_text.proofs.laws.log_text_laws.Goals as goal

pub returns-clause-once : goal.returns-clause-once
returns-clause-once c = lines_once

pub returns-clause-good : goal.returns-clause-good
returns-clause-good c = no_bad_line
