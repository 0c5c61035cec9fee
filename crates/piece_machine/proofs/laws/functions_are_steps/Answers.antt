use Rattle.piece_machine.proofs.Wanted.{takes_so}
use Rattle.piece_machine.proofs.Determined.{piece_steps_so}
use Rattle.piece_machine.proofs.Refused.{piece_breaks_so, piece_refuses_so}
use Rattle.piece_machine.proofs.Beyond.{piece_strays_so, piece_stray_refused_so, piece_kills_so, piece_kill_refused_so}
use Rattle.piece_machine.proofs.Beyond.{pieces_open_so}
use Rattle.piece_machine.proofs.Cases.{taken_so}
use Rattle.piece_machine.proofs.Fronts.{pieces_run_so}
use Rattle.piece_machine.proofs.laws.functions_are_steps.Goals as goal

pub returns-clause-opening : goal.returns-clause-opening
returns-clause-opening c = pieces_open_so

pub returns-clause-step : goal.returns-clause-step
returns-clause-step c = piece_steps_so

pub returns-clause-broken : goal.returns-clause-broken
returns-clause-broken c = piece_breaks_so

pub returns-clause-cannot_move : goal.returns-clause-cannot_move
returns-clause-cannot_move c = piece_refuses_so

pub returns-clause-can_move : goal.returns-clause-can_move
returns-clause-can_move c = takes_so

pub returns-clause-stray : goal.returns-clause-stray
returns-clause-stray c = piece_strays_so

pub returns-clause-no_stray : goal.returns-clause-no_stray
returns-clause-no_stray c = piece_stray_refused_so

pub returns-clause-kill : goal.returns-clause-kill
returns-clause-kill c = piece_kills_so

pub returns-clause-no_kill : goal.returns-clause-no_kill
returns-clause-no_kill c = piece_kill_refused_so

pub returns-clause-runs : goal.returns-clause-runs
returns-clause-runs c = pieces_run_so

pub returns-clause-cases : goal.returns-clause-cases
returns-clause-cases c = taken_so
