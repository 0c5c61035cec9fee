use Rattle.proof_commutation.proofs.Behind.{begins, defers_more, takes, goes_on, over}
use Rattle.proof_commutation.proofs.law.deferral_laws.Goals as goal

pub returns-clause-begins : goal.returns-clause-begins
returns-clause-begins c = λ p s. begins p s

pub returns-clause-defers : goal.returns-clause-defers
returns-clause-defers c = λ p deferred a s s' t q r label b there may table variable printed process.
    defers_more p deferred a s s' t q r label b there may table variable printed process

pub returns-clause-takes : goal.returns-clause-takes
returns-clause-takes c = λ p deferred a s t k ks b is. takes p deferred a s t k ks b is

pub returns-clause-goes_on : goal.returns-clause-goes_on
returns-clause-goes_on c = λ p deferred a s s' t k b empty x variables holders unmade.
    goes_on p deferred a s s' t k b empty x variables holders unmade

pub returns-clause-over : goal.returns-clause-over
returns-clause-over c = λ p deferred a s q end b. over p deferred a s q end b
