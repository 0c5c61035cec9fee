use Rattle.mesamon.proofs.files.front_of.Goals as goal

pub returns-in-Err-clause-failed : goal.returns-in-Err-clause-failed
returns-in-Err-clause-failed g c = c.failure_of.ensures _ c.in-Err.ensures.failed
