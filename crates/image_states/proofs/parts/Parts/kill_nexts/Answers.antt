use Rattle.std.proofs.Common.{◌≡◌, ◌∙◌, Some, ap, arith, sym, suc}
use Rattle.std.proofs.lemmas.Result.{IfOk-weaker}
use Rattle.image_states.specs.Packed.{thread_at}
use Rattle.image_states.proofs.Growing.{more_none}
use Rattle.image_states.proofs.Turned.{kill_absent, kill_dying}
use Rattle.image_states.proofs.parts.Parts.kill_nexts.Goals as goal

pub returns-then-packed-kills-clause-more : goal.returns-then-packed-kills-clause-more
returns-then-packed-kills-clause-more c = more_none c.args.self.now c.args.found.now.items

pub returns-then-packed-kills-clause-done : goal.returns-then-packed-kills-clause-done
returns-then-packed-kills-clause-done c = λ none less. absurd (omega (arith, less, c.if-packed-kills.true))

pub returns-in-None-clause-more : goal.returns-in-None-clause-more
returns-in-None-clause-more c = more_none c.args.self.now c.args.found.now.items

pub returns-in-None-clause-done : goal.returns-in-None-clause-done
returns-in-None-clause-done c = λ none less.
    kill_absent c.args.image.now c.args.self.now c.args.packed.now c.args.found.now.items c.args.t
    (ap (thread_at c.args.self.now.locals.items c.args.packed.now.parts.items) c.requires.number
    ∙ rw c.in-None.is at c.thread.ensures.none)

pub returns-then-is_dying-clause-more : goal.returns-then-is_dying-clause-more
returns-then-is_dying-clause-more c = more_none c.args.self.now c.args.found.now.items

pub returns-then-is_dying-clause-done : goal.returns-then-is_dying-clause-done
returns-then-is_dying-clause-done c =
    let there : thread_at c.args.self.now.locals.items c.args.packed.now.parts.items (suc c.args.k) ≡ Some c.in-Some.local.now =
    rw c.in-Some.is at c.thread.ensures.some in
    λ none less.
    kill_dying c.args.image.now c.args.self.now c.args.packed.now c.args.found.now.items c.args.t c.in-Some.local.now
    (ap (thread_at c.args.self.now.locals.items c.args.packed.now.parts.items) c.requires.number ∙ there)
    (sym c.is_dying.ensures ∙ c.if-is_dying.true)

pub returns-else-is_dying-clause-done : goal.returns-else-is_dying-clause-done
returns-else-is_dying-clause-done c = IfOk-weaker c.kill.result _ _ (λ o r none less. r none) c.kill.ensures.done
