-- Who is woken or moved is a thread, and what came of the piece is told.
use Rattle.std.proofs.Common.{refl, ap, subst}
use Rattle.futexcalls.specs.Answers.{word_of}
use Rattle.futexcalls.specs.Progress.{PieceProgress, answered, progressed}
use Rattle.futexcalls.specs.PieceResults.{PieceSo}
use Rattle.machine.specs.Views.{CommonView}
use Rattle.machine.proofs.CallPieces.{answer_threads}
use Rattle.machine.proofs.common.Common.call_piece.Goals.{in-Next, in-Blocked, in-Done}
use Rattle.machine.proofs.common.Common.call_piece.Goals as goal

pub tell-requires-clause-woken : goal.tell-requires-clause-woken
tell-requires-clause-woken c =
    (answer_threads c.self.inside.buckets c.futex_step.new.buckets (word_of c.self.inside.words) c.args.t
    c.args.call c.args.phase (answered c.in-Done.answer c.futex_step.new.lists) c.self.invariant.sound c.self.invariant.places
    c.in-Done.ensures.piece).0

pub tell-requires-clause-moved : goal.tell-requires-clause-moved
tell-requires-clause-moved c =
    (answer_threads c.self.inside.buckets c.futex_step.new.buckets (word_of c.self.inside.words) c.args.t
    c.args.call c.args.phase (answered c.in-Done.answer c.futex_step.new.lists) c.self.invariant.sound c.self.invariant.places
    c.in-Done.ensures.piece).1

pub returns-clause-piece : goal.returns-clause-piece
returns-clause-piece c =
    let progress : PieceProgress = progressed c.futex_step.result c.futex_step.new.lists in
    let piece : PieceSo (word_of c.args.self.now.words) c.args.t c.args.call c.args.phase c.args.self.now.sleepers progress
    c.futex_step.new.buckets =
    subst (λ (v : CommonView). PieceSo (word_of v.words) c.args.t c.args.call c.args.phase v.sleepers progress
    c.futex_step.new.buckets) c.self.view_is c.futex_step.ensures.piece in
    elim c.match-futex_step.branch [
      | in-Next w ↦ (progress, rw (ap (λ x. x.buckets) w.self-inside-is) piece, rw (w.result-is, w.in-Next.is) refl)
      | in-Blocked w ↦ (progress, rw (ap (λ x. x.buckets) w.self-inside-is) piece, rw (w.result-is, w.in-Blocked.is) tt)
      | in-Done w ↦ (
        progress,
        rw (ap (λ x. x.buckets) w.self-inside-is) piece,
        rw (w.result-is, w.event-is, w.in-Done.is) (w.tell.ensures.answer, w.tell.ensures.event),
      )
    ]
