-- Its step is taken, or it is refused and has changed nothing.
use Rattle.std.proofs.Common.{◌≡◌, ◌∙◌, ℕ, Err, ap, refl, subst}
use Rattle.locals.specs.Looks.{look}
use Rattle.locals.specs.Requests.{next_step_of}
use Rattle.locals.specs.Threads.{Thread}
use Rattle.piece_machine.specs.PieceConcrete.{Outcome}
use Rattle.piece_machine.specs.PieceViews.{PieceView as MachineView, GoesTo, parts}
use Rattle.runner.specs.Attempts.{AsksFirst}
use Rattle.runner.specs.declared.attempt.Obstacle.TheVariants.{First}
use Rattle.runner.proofs.Handing.{up}
use Rattle.runner.proofs.Noting.{wants_if}
use Rattle.runner.proofs.Walking.{breaks_there, fault_here, is_shared, turns_none, step_enters, step_next, waits_there, walk_enters}
use Rattle.runner.proofs.Walking.{walked_none}
use Rattle.runner.proofs.Wanting.{wants_so}
use Rattle.runner.proofs.in_place.take_at_once.Goals as goal

pub returns-in-Ok-clause-enters : goal.returns-in-Ok-clause-enters
returns-in-Ok-clause-enters c =
    let m = c.args.machine.now in
    let p = m.view.program in
    let u = up (parts m).concrete c.args.t c.requires.thread in
    let shared = is_shared p c.args.t u.thread c.args.next (c.requires.next u.thread u.stands) c.requires.shared in
    step_enters p (parts m) (parts m) (parts c.step_as.new.self) c.args.t 0 c.step_as.new.event
    (walked_none p (parts m) c.args.t u.thread u.stands c.requires.thread shared) shared c.in-Ok.ensures.done

pub returns-in-Ok-clause-next : goal.returns-in-Ok-clause-next
returns-in-Ok-clause-next c =
    let m = c.args.machine.now in
    let p = m.view.program in
    let u = up (parts m).concrete c.args.t c.requires.thread in
    let shared = is_shared p c.args.t u.thread c.args.next (c.requires.next u.thread u.stands) c.requires.shared in
    step_next p (parts m) (parts m) (parts c.step_as.new.self) c.args.t 0 c.step_as.new.event
    (walked_none p (parts m) c.args.t u.thread u.stands c.requires.thread shared) shared c.in-Ok.ensures.done

pub returns-in-Err-Broken-clause-enters : goal.returns-in-Err-Broken-clause-enters
returns-in-Err-Broken-clause-enters c =
    let m = c.args.machine.now in
    let p = m.view.program in
    let u = up (parts m).concrete c.args.t c.requires.thread in
    let shared = is_shared p c.args.t u.thread c.args.next (c.requires.next u.thread u.stands) c.requires.shared in
    walk_enters p (parts m) (parts m) (parts c.step_as.new.self) c.args.t 0
    (walked_none p (parts m) c.args.t u.thread u.stands c.requires.thread shared)
    (ap (λ (v : MachineView). parts v) c.in-Err-Broken.ensures.err.1)

pub returns-in-Err-Broken-clause-breaks : goal.returns-in-Err-Broken-clause-breaks
returns-in-Err-Broken-clause-breaks c =
    let m = c.args.machine.now in
    let p = m.view.program in
    let u = up (parts m).concrete c.args.t c.requires.thread in
    let shared = is_shared p c.args.t u.thread c.args.next (c.requires.next u.thread u.stands) c.requires.shared in (
      refl,
      breaks_there p (parts m) (parts m) c.args.t 0
          (walked_none p (parts m) c.args.t u.thread u.stands c.requires.thread shared) shared
          (c.in-Err-Broken.ensures.err.0 ∙ ap (λ f. let o : Outcome = Err f in o) c.in-Err-Broken.field-0-is),
    )

pub returns-in-Err-CannotMove-clause-held : goal.returns-in-Err-CannotMove-clause-held
returns-in-Err-CannotMove-clause-held c =
    let m = c.args.machine.now in
    let p = m.view.program in
    let u = up (parts m).concrete c.args.t c.requires.thread in
    let shared = is_shared p c.args.t u.thread c.args.next (c.requires.next u.thread u.stands) c.requires.shared in (
      ap (λ (v : MachineView). parts v) c.in-Err-CannotMove.ensures.err.1,
      waits_there p (parts m) (parts m) c.args.t 0
          (walked_none p (parts m) c.args.t u.thread u.stands c.requires.thread shared) shared
          (c.in-Err-CannotMove.ensures.err.0 ∙ ap (λ f. let o : Outcome = Err f in o) c.in-Err-CannotMove.field-0-is),
    )

pub returns-in-Err-CannotMove-clause-wants : goal.returns-in-Err-CannotMove-clause-wants
returns-in-Err-CannotMove-clause-wants c =
    let m = c.args.machine.now in
    let p = m.view.program in
    let t = c.args.t in
    let u = up (parts m).concrete t c.requires.thread in
    let next_is = c.requires.next u.thread u.stands in
    let shared = is_shared p t u.thread c.args.next next_is c.requires.shared in
    let fails = c.in-Err-CannotMove.ensures.err.0 ∙ ap (λ f. let o : Outcome = Err f in o) c.in-Err-CannotMove.field-0-is in
    let asks = subst (λ (v : MachineView). (bucket : ℕ) (here : Thread) → c.obstacle_of.result ≡ First bucket
    → GoesTo v.view t here → c.args.next ≡ next_step_of (look v.view.program t here)
    → AsksFirst v.view.program (parts v) t bucket here) c.in-Err-CannotMove.ensures.err.1 c.obstacle_of.ensures in
    wants_if p (parts m) t c.obstacle_of.result
    (λ bucket is. wants_so p (parts m) t bucket 0 u.thread u.thread u.stands c.requires.thread
    (turns_none p t u.thread shared) (fault_here p (parts m) t u.thread u.stands fails)
    (asks bucket u.thread is (record { origin = u.thread; count = 0; stands = u.stands; goes = refl }) next_is))
