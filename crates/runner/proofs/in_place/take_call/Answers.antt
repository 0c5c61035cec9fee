-- Its piece is taken, or it is refused and has changed nothing.
use Rattle.std.proofs.Common.{◌≡◌, ◌∙◌, ◌++◌, ◌∷◌, [], ℕ, Some, Ok, Err, ap, refl, subst}
use Rattle.locals.specs.Looks.{look}
use Rattle.locals.specs.Requests.{next_step_of}
use Rattle.locals.specs.Threads.{Thread}
use Rattle.locals.specs.declared.request.NextStep.TheVariants as kind
use Rattle.machine.specs.ConcreteServing.{plain}
use Rattle.piece_machine.specs.PieceConcrete.{Outcome}
use Rattle.piece_machine.specs.PieceViews.{PieceView as MachineView, GoesTo, event_told, parts}
use Rattle.runner.specs.Attempts.{AsksFirst}
use Rattle.runner.specs.declared.attempt.Attempt.TheVariants.{Made}
use Rattle.runner.specs.declared.attempt.Obstacle.TheVariants.{First}
use Rattle.runner.proofs.Callings.{asks_shared, made_other, none_ends, step_ends}
use Rattle.runner.proofs.Growing.{entry}
use Rattle.runner.proofs.Handing.{up}
use Rattle.runner.proofs.Noting.{wants_if}
use Rattle.runner.proofs.Walking.{breaks_there, fault_here, turns_none, waits_there, walked_none}
use Rattle.runner.proofs.Wanting.{wants_so}
use Rattle.runner.proofs.in_place.take_call.Goals as goal

pub returns-in-Ok-Plain-clause-ends : goal.returns-in-Ok-Plain-clause-ends
returns-in-Ok-Plain-clause-ends c =
    let m = c.args.machine.now in
    let p = m.view.program in
    let t = c.args.t in
    let new = parts c.request_told.new.self in
    let u = up (parts m).concrete t c.requires.moves in
    let next_is = c.requires.next u.thread u.stands in
    let shared = asks_shared p t u.thread c.args.request next_is in
    let w = walked_none p (parts m) t u.thread u.stands c.requires.moves shared in
    step_ends p (parts m) (parts m) new t 0 (plain c.in-Ok-Plain.name c.in-Ok-Plain.value) c.args.log.now.items
    c.push_small.new.self.items c.attempt_as.result w shared
    (c.in-Ok-Plain.ensures.done
    ∙ ap (λ r. let o : Outcome = Ok (new, event_told r c.request_told.new.event) in o) c.in-Ok-Plain.field-0-is)
    (c.push_small.ensures.entries ∙ (λ i. c.args.log.now.items
    ++ entry t 0 (Some (plain (c.in-Ok-Plain.name-is i) (c.in-Ok-Plain.value-is i))) ∷ [])) c.attempt_as.ensures.made c.attempt_as.ensures.other

pub returns-in-Ok-Written-clause-ends : goal.returns-in-Ok-Written-clause-ends
returns-in-Ok-Written-clause-ends c =
    let m = c.args.machine.now in
    let p = m.view.program in
    let t = c.args.t in
    let new = parts c.request_told.new.self in
    let u = up (parts m).concrete t c.requires.moves in
    let next_is = c.requires.next u.thread u.stands in
    let shared = asks_shared p t u.thread c.args.request next_is in
    let w = walked_none p (parts m) t u.thread u.stands c.requires.moves shared in
    step_ends p (parts m) (parts m) new t 0 c.request_told.new.event c.args.log.now.items
    c.push_parts.new.self.items Made w shared
    (c.in-Ok-Written.ensures.done
    ∙ ap (λ r. let o : Outcome = Ok (new, event_told r c.request_told.new.event) in o) c.in-Ok-Written.field-0-is)
    c.push_parts.ensures.entries refl made_other

pub returns-in-Err-Broken-clause-ends : goal.returns-in-Err-Broken-clause-ends
returns-in-Err-Broken-clause-ends c =
    let m = c.args.machine.now in
    let p = m.view.program in
    let t = c.args.t in
    let new = parts c.request_told.new.self in
    let u = up (parts m).concrete t c.requires.moves in
    let next_is = c.requires.next u.thread u.stands in
    let shared = asks_shared p t u.thread c.args.request next_is in
    let w = walked_none p (parts m) t u.thread u.stands c.requires.moves shared in
    none_ends p (parts m) (parts m) new t 0 c.in-Err-Broken.field-0 c.args.log.now.items
    c.push_parts-in-Err-Broken.new.self.items w shared c.in-Err-Broken.ensures.err.0
    (ap (λ (v : MachineView). parts v) c.in-Err-Broken.ensures.err.1) c.push_parts-in-Err-Broken.ensures.entries

pub returns-in-Err-Broken-clause-breaks : goal.returns-in-Err-Broken-clause-breaks
returns-in-Err-Broken-clause-breaks c =
    let m = c.args.machine.now in
    let p = m.view.program in
    let t = c.args.t in
    let new = parts c.request_told.new.self in
    let u = up (parts m).concrete t c.requires.moves in
    let next_is = c.requires.next u.thread u.stands in
    let shared = asks_shared p t u.thread c.args.request next_is in
    let w = walked_none p (parts m) t u.thread u.stands c.requires.moves shared in (
      refl,
      breaks_there p (parts m) (parts m) t 0 w shared
          (c.in-Err-Broken.ensures.err.0 ∙ ap (λ f. let o : Outcome = Err f in o) c.in-Err-Broken.field-0-is),
    )

pub returns-in-Err-CannotMove-clause-held : goal.returns-in-Err-CannotMove-clause-held
returns-in-Err-CannotMove-clause-held c =
    let m = c.args.machine.now in
    let p = m.view.program in
    let t = c.args.t in
    let new = parts c.request_told.new.self in
    let u = up (parts m).concrete t c.requires.moves in
    let next_is = c.requires.next u.thread u.stands in
    let shared = asks_shared p t u.thread c.args.request next_is in
    let w = walked_none p (parts m) t u.thread u.stands c.requires.moves shared in (
      ap (λ (v : MachineView). parts v) c.in-Err-CannotMove.ensures.err.1,
      refl,
      waits_there p (parts m) (parts m) t 0 w shared
          (c.in-Err-CannotMove.ensures.err.0 ∙ ap (λ f. let o : Outcome = Err f in o) c.in-Err-CannotMove.field-0-is),
    )

pub returns-in-Err-CannotMove-clause-wants : goal.returns-in-Err-CannotMove-clause-wants
returns-in-Err-CannotMove-clause-wants c =
    let m = c.args.machine.now in
    let p = m.view.program in
    let t = c.args.t in
    let new = parts c.request_told.new.self in
    let u = up (parts m).concrete t c.requires.moves in
    let next_is = c.requires.next u.thread u.stands in
    let shared = asks_shared p t u.thread c.args.request next_is in
    let w = walked_none p (parts m) t u.thread u.stands c.requires.moves shared in
    let fails = c.in-Err-CannotMove.ensures.err.0 ∙ ap (λ f. let o : Outcome = Err f in o) c.in-Err-CannotMove.field-0-is in
    let asks = subst (λ (v : MachineView). (bucket : ℕ) (here : Thread) → c.obstacle_of.result ≡ First bucket
    → GoesTo v.view t here → kind.Shared c.args.request ≡ next_step_of (look v.view.program t here)
    → AsksFirst v.view.program (parts v) t bucket here) c.in-Err-CannotMove.ensures.err.1 c.obstacle_of.ensures in
    wants_if p (parts m) t c.obstacle_of.result
    (λ bucket is. wants_so p (parts m) t bucket 0 u.thread u.thread u.stands c.requires.moves
    (turns_none p t u.thread shared) (fault_here p (parts m) t u.thread u.stands fails)
    (asks bucket u.thread is (record { origin = u.thread; count = 0; stands = u.stands; goes = refl }) next_is))
