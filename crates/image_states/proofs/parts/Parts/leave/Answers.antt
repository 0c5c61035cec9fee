use Rattle.std.proofs.Common.{◌≡◌, ◌∙◌, ap, arith, length, subst, sym}
use Rattle.futexcalls.specs.Answers.{word_of}
use Rattle.robustexit.specs.ExitRules.{exit_of}
use Rattle.image_states.specs.Exits.{IsPlanOf}
use Rattle.image_states.specs.Packed.{words_in}
use Rattle.image_states.proofs.Growing.{words_still}
use Rattle.image_states.proofs.Results.{if_both}
use Rattle.image_states.proofs.Turned.{exit_moves}
use Rattle.image_states.proofs.Within.{thread_within}
use Rattle.image_states.proofs.parts.Parts.leave.Goals as goal

pub plan-step-requires-clause-thread : goal.plan-step-requires-clause-thread
plan-step-requires-clause-thread c = (
  omega (arith, c.requires.number),
  thread_within c.args.self.now c.args.packed.now c.requires.within c.args.k c.args.t c.requires.number c.requires.made,
)

pub plan-step-requires-clause-memory : goal.plan-step-requires-clause-memory
plan-step-requires-clause-memory c = (c.requires.within).memory

pub leave_by-requires-clause-lies : goal.leave_by-requires-clause-lies
leave_by-requires-clause-lies c = c.plan-step.ensures.lies

pub returns-clause-moves : goal.returns-clause-moves
returns-clause-moves c =
    let x = c.args.packed.now in
    let version = c.args.image.now.version in
    let rule : c.of-rule.result ≡ exit_of version = c.of-rule.ensures ∙ ap exit_of c.version.ensures.value in
    let words = words_in c.args.self.now.memories.items x.memory in
    let plan : IsPlanOf c.of-rule.result (length words) c.args.t c.args.phase (word_of words) c.plan-step.result =
    c.plan-step.ensures.plan in
    if_both c.leave_by.result _ _ _ c.leave_by.ensures.more c.leave_by.ensures.leaves (λ m o r none.
    exit_moves c.args.image.now c.leave_by.new.self x c.leave_by.new.found.items c.args.t c.args.scratch.now.here c.args.phase
    c.requires.asks (r none c.args.phase
    (subst (λ ws. IsPlanOf (exit_of version) (length ws) c.args.t c.args.phase (word_of ws) c.plan-step.result)
    (sym (words_still c.args.self.now c.leave_by.new.self m.parts x.memory (c.requires.within).memory))
    (subst (λ r. IsPlanOf r (length words) c.args.t c.args.phase (word_of words) c.plan-step.result) rule plan))))
