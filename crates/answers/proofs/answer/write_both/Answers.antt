use Rattle.answers.proofs.Written.{both_written, met_by}
use Rattle.answers.proofs.answer.write_both.Goals as goal

pub returns-clause-ok : goal.returns-clause-ok
returns-clause-ok g c =
    both_written c.write_bytes-2.result _ _ _ _ _ c.in_ok-write_bytes.ensures.ok c.write_bytes-2.ensures.ok

pub returns-clause-failed : goal.returns-clause-failed
returns-clause-failed g c = met_by c.write_bytes-2.result _ _ _ _ c.write_bytes-2.ensures.err
