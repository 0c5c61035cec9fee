-- A lock that the thread owns, at an entry that isn't the pending one.
use Rattle.std.proofs.Common.{◌≡◌, ◌≢◌, ◌+◌, sym, ap, ◌∙◌, arith, inl}
use Rattle.words.specs.LockWord.{owner_of}
use Rattle.words.specs.Process.{process_word}
use Rattle.futexcalls.proofs.Choices.{word-got}
use Rattle.futexcalls.specs.Answers.{word_of}
use Rattle.robustexit.specs.Phases.{next_entry}
use Rattle.robustexit.specs.RobustExit.{IsOwned}
use Rattle.robustexit.proofs.Steps.{abandons, next_entry-past}
use Rattle.robustexit.proofs.exit.entry_step.Goals as goal

pub returns-clause-step : goal.returns-clause-step
returns-clause-step c =
    let words = c.args.mem.now in
    let found = c.in-Some.ensures.found in
    let link : word_of words c.args.entry.0 ≡ c.load.result = word-got words c.args.entry.0 c.load.result
    c.load.ensures in
    let pending : word_of words (process_word c.args.t 1) ≡ c.load-2.result = ap (word_of words)
    (sym c.block.ensures) ∙ word-got words c.block.result.0 c.load-2.result c.load-2.ensures in
    let other : word_of words (process_word c.args.t 1) ≢ c.args.entry.0 = λ e. c.if-is_pending.false
    (sym pending ∙ e) in
    let owned : owner_of (word_of words c.in-Some.lock.0) ≡ c.args.t = ap owner_of (word-got words c.in-Some.lock.0
    c.load-else-is_pending.result c.load-else-is_pending.ensures) ∙ sym c.tid.ensures ∙ c.if-tid-t.false in
    let next : c.phase_at-next.result ≡ next_entry (word_of words c.args.entry.0)
    (c.args.seen + 1) = c.phase_at-next.ensures ∙ ap (next_entry c.load.result) c.saturating_add.ensures
    ∙ next_entry-past c.load.result (c.args.seen + 1) 4294967295 (omega arith)
    ∙ ap (λ x. next_entry x (c.args.seen + 1)) (sym link) in
    inl (
      found.1,
      IsOwned other (rw (← found.0) (abandons c.args.t c.in-Some.lock.0 words c.abandon.new.mem
          c.args.buckets.now c.abandon.new.buckets c.abandon.new.woken (omega (arith, found.0, found.1.1)) owned
          c.abandon.ensures.marks c.abandon.ensures.wakes)),
      next,
    )
