use Rattle.proof_explaining.proofs.Told.{opens, one_step, tied, one_due, one_stray, one_kill, explained}
use Rattle.proof_explaining.proofs.law.events_explain.Goals as goal

pub returns-clause-opens : goal.returns-clause-opens
returns-clause-opens c = opens

pub returns-clause-steps : goal.returns-clause-steps
returns-clause-steps c = one_step

pub returns-clause-reached : goal.returns-clause-reached
returns-clause-reached c = tied

pub returns-clause-due : goal.returns-clause-due
returns-clause-due c = one_due

pub returns-clause-strays : goal.returns-clause-strays
returns-clause-strays c = one_stray

pub returns-clause-kills : goal.returns-clause-kills
returns-clause-kills c = one_kill

pub returns-clause-explained : goal.returns-clause-explained
returns-clause-explained c = explained
