-- A step of the thread is one of the machine.
use Rattle.std.proofs.Common.{◌≤◌, Result, Ok, Err, length, rules, refl, sym, ◌∙◌}
use Rattle.std.specs.Prelude.{OnOk, IfErr}
use Rattle.locals.specs.Looks.{look}
use Rattle.machine.specs.declared.event.StepFault.{StepFault}
use Rattle.machine.specs.Views.{parts_of}
use Rattle.machine.proofs.Whole.{stands_at, made_at, stepped, told_there}
use Rattle.machine.proofs.Steps.{breaks_when, rests_when, forks_when}
use Rattle.machine.proofs.parts.step_parts.Goals as goal

pub take_local-requires : goal.take_local-requires
take_local-requires c =
    let within : c.args.t ≤ length c.args.threads.now.items = search rules in
    let x = c.index_mut.result.now in
    record {
      asks = told_there c.args.image.now c.args.threads.now.items c.args.t c.args.next x x (c.requires.thread.0, within)
          c.index_mut.ensures.value c.requires.next ∙ c.in-Local.is;
    }

pub take_request-requires-clause-asks : goal.take_request-requires-clause-asks
take_request-requires-clause-asks c =
    let within : c.args.t ≤ length c.args.threads.now.items = search rules in
    let x = c.index_mut-in-Shared.result.now in
    told_there c.args.image.now c.args.threads.now.items c.args.t c.args.next x x (c.requires.thread.0, within)
    c.index_mut-in-Shared.ensures.value c.requires.next ∙ c.in-Shared.is

pub take_exit-requires-clause-asks : goal.take_exit-requires-clause-asks
take_exit-requires-clause-asks c =
    let within : c.args.t ≤ length c.args.threads.now.items = search rules in
    let x = c.index_mut-in-Exit.result.now in
    told_there c.args.image.now c.args.threads.now.items c.args.t c.args.next x x (c.requires.thread.0, within)
    c.index_mut-in-Exit.ensures.value c.requires.next ∙ c.in-Exit.is

pub fork_parts-requires-clause-asks : goal.fork_parts-requires-clause-asks
fork_parts-requires-clause-asks c = λ x at.
    forks_when (look c.args.image.now c.args.t x) _ _ c.in-Fork.has_room (sym (c.requires.next x at) ∙ c.in-Fork.is)

on_ok : {A : Type 0} (r : Result A StepFault) (P Q : Type 0) → (P → Q) → OnOk r P → OnOk r Q
on_ok (Ok u) P Q f h = f h
on_ok (Err g) P Q f h = tt

if_err : {A : Type 0} (r : Result A StepFault) (P Q : StepFault → Type 0) → ((g : StepFault) → P g → Q g) → IfErr r P
    → IfErr r Q
if_err (Ok u) P Q f h = tt
if_err (Err g) P Q f h = f g h

pub returns-in-Local-clause-done : goal.returns-in-Local-clause-done
returns-in-Local-clause-done c =
    let k = parts_of c.args.shared.now c.args.threads.now.items in
    let within : c.args.t ≤ length c.args.threads.now.items = search rules in
    let stands = stands_at c.args.threads.now.items c.args.t c.index_mut.result.now c.index_mut.result.now
    c.requires.thread.0 within c.index_mut.ensures.value in
    stepped c.args.image.now k c.args.t (length k.threads) c.index_mut.result.now _ stands c.requires.awake refl
    (c.take_local.ensures (length k.threads) k.common)

pub returns-in-Shared-clause-done : goal.returns-in-Shared-clause-done
returns-in-Shared-clause-done c =
    let k = parts_of c.args.shared.now c.args.threads.now.items in
    let within : c.args.t ≤ length c.args.threads.now.items = search rules in
    let x = c.index_mut-in-Shared.result.now in
    let stands = stands_at c.args.threads.now.items c.args.t x x c.requires.thread.0 within
    c.index_mut-in-Shared.ensures.value in
    on_ok c.take_request.result _ _
    (λ done. stepped c.args.image.now k c.args.t (length k.threads) x _ stands c.requires.awake refl
    (done (length k.threads))) c.take_request.ensures.done

pub returns-in-Shared-clause-err : goal.returns-in-Shared-clause-err
returns-in-Shared-clause-err c =
    let k = parts_of c.args.shared.now c.args.threads.now.items in
    let within : c.args.t ≤ length c.args.threads.now.items = search rules in
    let x = c.index_mut-in-Shared.result.now in
    let stands = stands_at c.args.threads.now.items c.args.t x x c.requires.thread.0 within
    c.index_mut-in-Shared.ensures.value in
    if_err c.take_request.result _ _
    (λ f err. stepped c.args.image.now k c.args.t (length k.threads) x _ stands c.requires.awake refl
    (err (length k.threads))) c.take_request.ensures.err

pub returns-in-Exit-clause-done : goal.returns-in-Exit-clause-done
returns-in-Exit-clause-done c =
    let k = parts_of c.args.shared.now c.args.threads.now.items in
    let within : c.args.t ≤ length c.args.threads.now.items = search rules in
    let x = c.index_mut-in-Exit.result.now in
    let stands = stands_at c.args.threads.now.items c.args.t x x c.requires.thread.0 within
    c.index_mut-in-Exit.ensures.value in
    stepped c.args.image.now k c.args.t (length k.threads) x _ stands c.requires.awake refl
    (c.take_exit.ensures.done (length k.threads))

pub returns-in-Broken-clause-err : goal.returns-in-Broken-clause-err
returns-in-Broken-clause-err c =
    let k = parts_of c.args.shared.now c.args.threads.now.items in
    let within : c.args.t ≤ length c.args.threads.now.items = search rules in
    let m = made_at k.threads c.args.t (c.requires.thread.0, within) in
    stepped c.args.image.now k c.args.t (length k.threads) m.0 _ m.1 c.requires.awake refl
    (breaks_when _ (length k.threads) c.args.t k.common (look c.args.image.now c.args.t m.0)
    (sym (c.requires.next m.0 m.1) ∙ c.in-Broken.is))

pub returns-in-Ended-clause-err : goal.returns-in-Ended-clause-err
returns-in-Ended-clause-err c =
    let k = parts_of c.args.shared.now c.args.threads.now.items in
    let within : c.args.t ≤ length c.args.threads.now.items = search rules in
    let m = made_at k.threads c.args.t (c.requires.thread.0, within) in
    stepped c.args.image.now k c.args.t (length k.threads) m.0 _ m.1 c.requires.awake refl
    (rests_when _ (length k.threads) c.args.t k.common (look c.args.image.now c.args.t m.0)
    (sym (c.requires.next m.0 m.1) ∙ c.in-Ended.is))
