use Rattle.std.proofs.Common.{true}
use Rattle.program.specs.Views.{program_of}
use Rattle.meaning.specs.Offers.{offer}
use Rattle.meaning.specs.Processes.{Dying}
use Rattle.source_offers.specs.Frames.{callers_of, frame_of}
use Rattle.source_offers.specs.Stages.{standing}
use Rattle.source_offers.specs.declared.process.Stage.TheVariants as Code
use Rattle.source_states.specs.States.{state_of}
use Rattle.sourcemeaning.proofs.Moves.{decided, enters, free_moves, joins, resumes}
use Rattle.sourcemeaning.proofs.Ready.{before_ready, dying_free, ready_at}
use Rattle.sourcemeaning.proofs.Waiters.{has_waiters}
use Rattle.sourcemeaning.proofs.moving.is_ready.Goals as goal

pub returns-in-Entering : goal.returns-in-Entering
returns-in-Entering c =
    ready_at (program_of c.args.program.now) (state_of c.args.state.now).variable c.args.number
    (state_of c.args.state.now).table c.args.process.now (Code.Entering c.in-Entering.monitor) c.is_enterable.result
    c.in-Entering.is (decided c.is_enterable.result _ _
    (enters c.args.number (state_of c.args.state.now).table c.in-Entering.monitor _ _) c.is_enterable.ensures)

pub returns-in-Suspended : goal.returns-in-Suspended
returns-in-Suspended c =
    ready_at (program_of c.args.program.now) (state_of c.args.state.now).variable c.args.number
    (state_of c.args.state.now).table c.args.process.now (Code.Suspended c.in-Suspended.condition)
    c.is_resumable.result c.in-Suspended.is (decided c.is_resumable.result _ _
    (resumes c.args.number (state_of c.args.state.now).table c.in-Suspended.condition.monitor _ _)
    c.is_resumable.ensures)

pub returns-in-Joining : goal.returns-in-Joining
returns-in-Joining c =
    ready_at (program_of c.args.program.now) (state_of c.args.state.now).variable c.args.number
    (state_of c.args.state.now).table c.args.process.now
    (Code.Joining c.in-Joining.child c.in-Joining.into c.in-Joining.aborted) c.is_over.result c.in-Joining.is
    (decided c.is_over.result _ _ (joins c.args.number (state_of c.args.state.now).table c.in-Joining.child _)
    c.is_over.ensures)

pub returns-in-Before : goal.returns-in-Before
returns-in-Before c =
    ready_at (program_of c.args.program.now) (state_of c.args.state.now).variable c.args.number
    (state_of c.args.state.now).table c.args.process.now (Code.Before c.in-Before.field-0) _ c.in-Before.is
    (before_ready c.rests.result c.args.number (state_of c.args.state.now).table _
    (has_waiters c.args.state.now.table) c.rests.ensures)

pub returns-in-Returning : goal.returns-in-Returning
returns-in-Returning c =
    ready_at (program_of c.args.program.now) (state_of c.args.state.now).variable c.args.number
    (state_of c.args.state.now).table c.args.process.now (Code.Returning c.in-Returning.field-0) true c.in-Returning.is
    (free_moves c.args.number (state_of c.args.state.now).table
    (offer (program_of c.args.program.now) (state_of c.args.state.now).variable
    (standing (Code.Returning c.in-Returning.field-0) (frame_of c.args.process.now.frame)
    (callers_of c.args.process.now.callers.items))) (has_waiters c.args.state.now.table) tt)

pub returns-in-Failing : goal.returns-in-Failing
returns-in-Failing c =
    ready_at (program_of c.args.program.now) (state_of c.args.state.now).variable c.args.number
    (state_of c.args.state.now).table c.args.process.now (Code.Failing c.in-Failing.field-0 c.in-Failing.field-1) true
    c.in-Failing.is
    (free_moves c.args.number (state_of c.args.state.now).table
    (offer (program_of c.args.program.now) (state_of c.args.state.now).variable
    (standing (Code.Failing c.in-Failing.field-0 c.in-Failing.field-1) (frame_of c.args.process.now.frame)
    (callers_of c.args.process.now.callers.items))) (has_waiters c.args.state.now.table) tt)

pub returns-in-Dying : goal.returns-in-Dying
returns-in-Dying c =
    ready_at (program_of c.args.program.now) (state_of c.args.state.now).variable c.args.number
    (state_of c.args.state.now).table c.args.process.now (Code.Dying c.in-Dying.field-0 c.in-Dying.field-1) true
    c.in-Dying.is
    (free_moves c.args.number (state_of c.args.state.now).table
    (offer (program_of c.args.program.now) (state_of c.args.state.now).variable
    (Dying c.in-Dying.field-0 c.in-Dying.field-1.items)) (has_waiters c.args.state.now.table)
    (dying_free (program_of c.args.program.now) (state_of c.args.state.now).variable c.in-Dying.field-0
    c.in-Dying.field-1.items))

pub returns-in-Leaving : goal.returns-in-Leaving
returns-in-Leaving c =
    ready_at (program_of c.args.program.now) (state_of c.args.state.now).variable c.args.number
    (state_of c.args.state.now).table c.args.process.now (Code.Leaving c.in-Leaving.field-0) true c.in-Leaving.is
    (free_moves c.args.number (state_of c.args.state.now).table
    (offer (program_of c.args.program.now) (state_of c.args.state.now).variable
    (standing (Code.Leaving c.in-Leaving.field-0) (frame_of c.args.process.now.frame)
    (callers_of c.args.process.now.callers.items))) (has_waiters c.args.state.now.table) tt)
