use Rattle.refinement.proofs.Waiting.{done_so, stuck_so, ended_so, done_in_pieces, stuck_in_pieces, ended_in_pieces}
use Rattle.refinement.proofs.law.ends_are_the_sources.Goals as goal

pub returns-clause-done : goal.returns-clause-done
returns-clause-done c = done_so

pub returns-clause-stuck : goal.returns-clause-stuck
returns-clause-stuck c = stuck_so

pub returns-clause-ended : goal.returns-clause-ended
returns-clause-ended c = ended_so

pub returns-clause-done_in_pieces : goal.returns-clause-done_in_pieces
returns-clause-done_in_pieces c = done_in_pieces

pub returns-clause-stuck_in_pieces : goal.returns-clause-stuck_in_pieces
returns-clause-stuck_in_pieces c = stuck_in_pieces

pub returns-clause-ended_in_pieces : goal.returns-clause-ended_in_pieces
returns-clause-ended_in_pieces c = ended_in_pieces
