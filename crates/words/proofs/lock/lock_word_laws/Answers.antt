use Rattle.words.proofs.LockWords as of
use Rattle.words.proofs.lock.lock_word_laws.Goals as goal

pub returns-clause-owner : goal.returns-clause-owner
returns-clause-owner c = of.owner_of-lock_word

pub returns-clause-died : goal.returns-clause-died
returns-clause-died c = of.died_of-lock_word

pub returns-clause-waiters : goal.returns-clause-waiters
returns-clause-waiters c = of.waiters_of-lock_word

pub returns-clause-set_waiters : goal.returns-clause-set_waiters
returns-clause-set_waiters c = of.set_waiters

pub returns-clause-set_died : goal.returns-clause-set_died
returns-clause-set_died c = of.set_died

pub returns-clause-mask_waiters : goal.returns-clause-mask_waiters
returns-clause-mask_waiters c = of.mask_waiters

pub returns-clause-mask_died : goal.returns-clause-mask_died
returns-clause-mask_died c = of.mask_died

pub returns-clause-parts : goal.returns-clause-parts
returns-clause-parts c = of.lock_word-parts

pub returns-clause-small : goal.returns-clause-small
returns-clause-small c = of.owner_of-small

pub returns-clause-fits : goal.returns-clause-fits
returns-clause-fits c = of.lock_word-fits
