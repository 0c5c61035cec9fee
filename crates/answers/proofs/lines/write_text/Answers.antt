use Rattle.answers.proofs.Written.{met_by}
use Rattle.answers.proofs.lines.write_text.Goals as goal

pub returns-clause-failed : goal.returns-clause-failed
returns-clause-failed g c = met_by c.write_bytes.result _ _ _ _ c.write_bytes.ensures.err
