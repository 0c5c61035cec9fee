use Rattle.meaning.specs.States.{opening}
use Rattle.proof_exploration.proofs.Representing.{calm_named, grown, own_leads}
use Rattle.proof_exploration.proofs.Searching.{never_stuck, never_aborted}
use Rattle.proof_exploration.proofs.Waking.{never_aborted_waking, never_stuck_waking}
use Rattle.proof_exploration.proofs.law.searching_laws.Goals as goal

pub returns-clause-stuck : goal.returns-clause-stuck
returns-clause-stuck c = λ p kept actions s wf complete tested led stuck.
    never_stuck p kept wf complete tested actions s led stuck

pub returns-clause-aborted : goal.returns-clause-aborted
returns-clause-aborted c = λ p kept actions s wf complete tested led is.
    never_aborted p kept wf complete tested actions s led is

pub returns-clause-stuck_waking : goal.returns-clause-stuck_waking
returns-clause-stuck_waking c = λ p kept actions s wf complete tested run none stuck.
    never_stuck_waking p kept wf complete tested actions s run none stuck

pub returns-clause-aborted_waking : goal.returns-clause-aborted_waking
returns-clause-aborted_waking c = λ p kept actions s wf complete tested run none is.
    never_aborted_waking p kept wf complete tested actions s run none is

pub returns-clause-grows : goal.returns-clause-grows
returns-clause-grows c = λ p kept more n s all is. grown p kept more all n s is

pub returns-clause-own : goal.returns-clause-own
returns-clause-own c = λ p actions s run own. own_leads p (opening p) s actions run own

pub returns-clause-calm : goal.returns-clause-calm
returns-clause-calm c = λ p s s' t k x is. calm_named p s t k s' x is
