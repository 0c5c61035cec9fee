use Rattle.std.proofs.Common.{◌≡◌, ◌≢◌, ◌+◌, sym, ap, ◌∙◌, arith, length, subst}
use Rattle.words.specs.LockWord.{owner_of}
use Rattle.words.specs.Process.{process_word}
use Rattle.futexcalls.proofs.Choices.{word-got}
use Rattle.futexcalls.specs.Answers.{word_of}
use Rattle.robustexit.specs.Phases.{next_entry}
use Rattle.robustexit.proofs.Steps.{next_entry-past}
use Rattle.image_states.specs.Exits.{IsPlanOf}
use Rattle.robustexit.specs.declared.phase.ExitPhase.TheVariants.{Entry}
use Rattle.image_states.proofs.Planned.{owned_entry}
use Rattle.image_states.proofs.exits.entry_plan.Goals as goal

pub returns-clause-plan : goal.returns-clause-plan
returns-clause-plan c =
    let words = c.args.mem.now in
    let found = c.in-Some.ensures.found in
    let link : word_of words c.args.entry.0 ≡ c.load.result = word-got words c.args.entry.0 c.load.result c.load.ensures in
    let pending : word_of words (process_word c.args.t 1) ≡ c.load-pending.result = ap (word_of words)
    (sym c.block.ensures) ∙ word-got words c.block.result.0 c.load-pending.result c.load-pending.ensures in
    let lock : word_of words (c.args.entry.0 + 1) ≡ c.load-word.result = ap (word_of words) (sym found.0)
    ∙ word-got words c.in-Some.lock.0 c.load-word.result c.load-word.ensures in
    let other : word_of words (process_word c.args.t 1) ≢ c.args.entry.0 =
    λ e. c.if-pending-entry.false (sym pending ∙ e) in
    let owned : owner_of (word_of words (c.args.entry.0 + 1)) ≡ c.args.t =
    ap owner_of lock ∙ sym c.tid.ensures ∙ c.if-tid-t.false in
    let next : c.phase_at-next.result ≡ next_entry (word_of words c.args.entry.0) (c.args.seen + 1) =
    c.phase_at-next.ensures ∙ ap (next_entry c.load.result) c.saturating_add.ensures
    ∙ next_entry-past c.load.result (c.args.seen + 1) 4294967295 (omega arith)
    ∙ ap (λ x. next_entry x (c.args.seen + 1)) (sym link) in
    λ rule. subst (IsPlanOf rule (length words) c.args.t (Entry c.args.entry c.args.seen) (word_of words))
    (sym c.abandon.ensures)
    (owned_entry rule (length words) c.args.t c.args.seen c.args.entry c.in-Some.lock (word_of words)
    c.load-word.result c.phase_at-next.result found.1 other owned found.0 lock next)
