-- A lock that the thread owns is marked, and at another one sleeper is woken.
use Rattle.std.proofs.Common.{◌≡◌, refl, sym, ap, ◌∙◌, arith}
use Rattle.words.specs.LockWord.{owner_of}
use Rattle.words.specs.Process.{process_word}
use Rattle.futexcalls.proofs.Choices.{word-got}
use Rattle.futexcalls.specs.Answers.{word_of}
use Rattle.robustexit.specs.RobustExit.{IsOwned, IsForeign, IsPassed}
use Rattle.robustexit.specs.ExitRules.{wakes}
use Rattle.robustexit.proofs.Steps.{abandons, takes-front}
use Rattle.robustexit.proofs.exit.pending_step.Goals as goal

pub returns-then-tid-t-clause-step : goal.returns-then-tid-t-clause-step
returns-then-tid-t-clause-step c =
    let words = c.args.mem.now in
    let pending : word_of words (process_word c.args.t 1) ≡ c.load.result = ap (word_of words) (sym c.block.ensures)
    ∙ word-got words c.block.result.0 c.load.result c.load.ensures in
    let found = c.in-Some.ensures.found in
    let owned : owner_of (word_of words c.in-Some.lock.0) ≡ c.args.t = ap owner_of (word-got words c.in-Some.lock.0
    c.load-word.result c.load-word.ensures) ∙ sym c.tid.ensures ∙ c.if-tid-t.true in
    rw pending (IsOwned found.1 (rw (← found.0) (abandons c.args.t c.in-Some.lock.0 words c.abandon.new.mem
    c.args.buckets.now c.abandon.new.buckets c.abandon.new.woken (omega (arith, found.0, found.1.1)) owned
    c.abandon.ensures.marks c.abandon.ensures.wakes)))

pub returns-then-tid-t-clause-front : goal.returns-then-tid-t-clause-front
returns-then-tid-t-clause-front c =
    let words = c.args.mem.now in
    let pending : word_of words (process_word c.args.t 1) ≡ c.load.result = ap (word_of words) (sym c.block.ensures)
    ∙ word-got words c.block.result.0 c.load.result c.load.ensures in
    let a = c.abandon.ensures in
    rw (pending, ← c.in-Some.ensures.found.0) (takes-front c.args.buckets.now c.abandon.new.buckets c.in-Some.lock.0
    _ c.abandon.new.woken a.woken a.rest a.others)

pub returns-then-wakes-clause-step : goal.returns-then-wakes-clause-step
returns-then-wakes-clause-step c =
    let words = c.args.mem.now in
    let pending : word_of words (process_word c.args.t 1) ≡ c.load.result = ap (word_of words) (sym c.block.ensures)
    ∙ word-got words c.block.result.0 c.load.result c.load.ensures in
    let found = c.in-Some.ensures.found in
    let read : owner_of (word_of words c.in-Some.lock.0) ≡ c.tid.result = ap owner_of
    (word-got words c.in-Some.lock.0 c.load-word.result c.load-word.ensures) ∙ sym c.tid.ensures in
    rw pending (IsForeign found.1 (rw (← found.0) (λ e. c.if-tid-t.false (sym read ∙ e)))
    (rw (← found.0) (ap (wakes c.args.rule) (word-got words c.in-Some.lock.0 c.load-word.result c.load-word.ensures) ∙ sym c.wakes.ensures ∙ c.if-wakes.true))
    (rw (← found.0) (record { same = refl; wakes = c.wake.ensures.call })))

pub returns-then-wakes-clause-front : goal.returns-then-wakes-clause-front
returns-then-wakes-clause-front c =
    let words = c.args.mem.now in
    let pending : word_of words (process_word c.args.t 1) ≡ c.load.result = ap (word_of words) (sym c.block.ensures)
    ∙ word-got words c.block.result.0 c.load.result c.load.ensures in
    let w = c.wake.ensures in
    rw (pending, ← c.in-Some.ensures.found.0) (takes-front c.args.buckets.now c.wake.new.buckets c.in-Some.lock.0 1
    c.wake.new.woken w.woken w.rest w.others)

pub returns-else-wakes-clause-step : goal.returns-else-wakes-clause-step
returns-else-wakes-clause-step c =
    let words = c.args.mem.now in
    let pending : word_of words (process_word c.args.t 1) ≡ c.load.result = ap (word_of words) (sym c.block.ensures)
    ∙ word-got words c.block.result.0 c.load.result c.load.ensures in
    let found = c.in-Some.ensures.found in
    let read : owner_of (word_of words c.in-Some.lock.0) ≡ c.tid.result = ap owner_of
    (word-got words c.in-Some.lock.0 c.load-word.result c.load-word.ensures) ∙ sym c.tid.ensures in
    rw pending (IsPassed found.1 (rw (← found.0) (λ e. c.if-tid-t.false (sym read ∙ e)))
    (rw (← found.0) (ap (wakes c.args.rule) (word-got words c.in-Some.lock.0 c.load-word.result c.load-word.ensures) ∙ sym c.wakes.ensures ∙ c.if-wakes.false))
    (record { nobody = c.nobody-else-wakes.ensures.none; same = refl }))
