-- A step of the thread's own comes first, and it goes on ahead of the machine, or its step is taken at once.
use Rattle.std.proofs.Common.{◌≡◌, ◌∙◌, Some, is_some, subst, sym}
use Rattle.std.proofs.lemmas.Bool.{both_ways}
use Rattle.locals.specs.Looks.{look}
use Rattle.locals.specs.Steps.{local_next}
use Rattle.machine.specs.States.{thread_of}
use Rattle.machine.specs.Views.{View, concrete}
use Rattle.piece_machine.specs.PieceViews.{parts}
use Rattle.runner.proofs.Handing.{up}
use Rattle.runner.proofs.Walking.{is_own}
use Rattle.runner.proofs.in_place.take_if_free.Goals as goal

pub take_at_once-requires-clause-shared : goal.take_at_once-requires-clause-shared
take_at_once-requires-clause-shared c = λ own.
    let m = c.args.machine.now in
    let t = c.args.t in
    let u = up (parts m).concrete t c.requires.thread in
    let at = subst (λ (v : View). thread_of (concrete v) t ≡ Some u.thread) (sym c.machine.ensures.shows) u.stands in
    let is = c.next_step-next.ensures u.thread at in
    let l = look c.machine.result.now.program t u.thread in
    both_ways (is_some (local_next l)) (sym (c.if-is_local.ensures l is)) (is_own l (sym is ∙ own))
