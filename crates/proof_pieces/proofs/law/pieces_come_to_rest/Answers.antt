use Rattle.proof_pieces.proofs.Rests.{rests, holders_go_on, breaks_both, sleeps_so}
use Rattle.proof_pieces.proofs.law.pieces_come_to_rest.Goals as goal

pub returns-clause-rests : goal.returns-clause-rests
returns-clause-rests c = rests

pub returns-clause-goes_on : goal.returns-clause-goes_on
returns-clause-goes_on c = holders_go_on

pub returns-clause-breaks : goal.returns-clause-breaks
returns-clause-breaks c = breaks_both

pub returns-clause-sleeps : goal.returns-clause-sleeps
returns-clause-sleeps c = sleeps_so
