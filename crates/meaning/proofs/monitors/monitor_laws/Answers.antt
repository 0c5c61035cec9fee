use Rattle.meaning.proofs.Holders.{held, holder, one, changes, notifies, broadcasts, waits}
use Rattle.meaning.proofs.monitors.monitor_laws.Goals as goal

pub returns-clause-held : goal.returns-clause-held
returns-clause-held c = λ p actions s q m b wf run is within. held p wf actions s run q m b is within

pub returns-clause-holder : goal.returns-clause-holder
returns-clause-holder c = λ p actions s q m wf run is. holder p wf actions s run q m is

pub returns-clause-one : goal.returns-clause-one
returns-clause-one c = λ p actions s q r m b d wf run is also x y. one p wf actions s run q r m b d is also x y

pub returns-clause-variables : goal.returns-clause-variables
returns-clause-variables c = λ p actions s a s' m n i wf run step apart. changes p wf actions s run a s' m n i step
    apart

pub returns-clause-notify : goal.returns-clause-notify
returns-clause-notify c = λ p actions s q d resumed s' wf run x. notifies p wf actions s run q d resumed s' x

pub returns-clause-broadcast : goal.returns-clause-broadcast
returns-clause-broadcast c = λ p actions s q d resumed s' wf run x. broadcasts p wf actions s run q d resumed s' x

pub returns-clause-waits : goal.returns-clause-waits
returns-clause-waits c = λ p actions s q d wf run w h. waits p wf actions s run q d w h
