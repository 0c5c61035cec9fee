use Rattle.std.proofs.Common.{◌≡◌, ◌∙◌, ℕ, Some, true, false, slice_set, ap, inl, inr, refl, sym, slice_get, subst, arith}
use Rattle.std.proofs.lemmas.Option.{slice_get-get_or}
use Rattle.locals.specs.Steps.{local_after}
use Rattle.runner.specs.declared.fault.RunFault.{RunFault}
use Rattle.runner.specs.Views.{LogState, log_state}
use Rattle.runner.specs.Entries.{RefusesEntry}
use Rattle.runner.specs.Rounds.{AllPast}
use Rattle.runner.proofs.Growing.{enters, entry}
use Rattle.runner.proofs.Ordering.{taken_next}
use Rattle.runner.proofs.Passing.{all_past, holds_up, one_past, passes, passes_limit, stops}
use Rattle.runner.proofs.rounds.try_entry.Goals as goal

pub returns-then-refused-t-clause-none : goal.returns-then-refused-t-clause-none
returns-then-refused-t-clause-none g c =
    let was : slice_get c.args.refused.now c.args.t ≡ Some true =
    slice_get-get_or c.args.refused.now c.args.t false (omega arith) ∙ ap Some c.if-refused-t.true in
    λ still. (
      refl,
      λ moves. stops g.J.RunName.program g.J.RunName.limit (log_state c.args.shared.now) c.args.t
          (c.requires.past c.args.t was),
    )

pub returns-in-Ok-clause-past : goal.returns-in-Ok-clause-past
returns-in-Ok-clause-past g c =
    let free : slice_get c.args.refused.now c.args.t ≡ Some false =
    slice_get-get_or c.args.refused.now c.args.t false (omega arith) ∙ ap Some c.if-refused-t.false in
    all_past g.J.RunName.program g.J.RunName.limit (log_state c.args.shared.now)
    (log_state c.enter.new.self) c.args.t c.go_on.new.self c.args.refused.now
    c.requires.kept c.go_on.ensures.reached c.in-Ok.ensures.ok free c.requires.past

pub returns-in-Err-Limit-clause-past : goal.returns-in-Err-Limit-clause-past
returns-in-Err-Limit-clause-past g c =
    let p = g.J.RunName.program in
    let limit = g.J.RunName.limit in
    let h = c.in-Err-Limit.ensures.err in
    let r = c.go_on.ensures in
    let refused = subst (λ (f : RunFault). RefusesEntry p limit
    (log_state c.args.shared.now) c.args.t c.go_on.new.self f) c.in-Err-Limit.field-0-is h.2 in
    let now = passes p limit (log_state c.args.shared.now) c.args.t c.go_on.new.self refused r.reached r.within
    r.whole in
    subst (λ (s : LogState). AllPast p limit s (slice_set c.args.refused.now c.args.t true)) (sym h.0)
    (one_past p limit (log_state c.args.shared.now) c.args.t c.args.refused.now now c.requires.past)

pub returns-in-Ok-clause-entry : goal.returns-in-Ok-clause-entry
returns-in-Ok-clause-entry g c = λ made.
    let a = c.go_on.new.self in
    let takes = c.in-Ok.ensures.ok in
    let r = c.go_on.ensures in (
      entry c.args.t a.count takes.event,
      refl,
      takes.moves,
      taken_next g.J.RunName.program g.J.RunName.limit (log_state c.args.shared.now) (log_state c.enter.new.self) c.args.t a
          takes r.reached r.within r.whole,
      takes.log,
    )

pub returns-in-Ok-clause-tried : goal.returns-in-Ok-clause-tried
returns-in-Ok-clause-tried g c =
    let a = c.go_on.new.self in
    let takes = c.in-Ok.ensures.ok in
    let p = g.J.RunName.program in
    let goes : local_after p c.args.t a.count a.origin ≡ Some a.here =
    ap (λ (u : ℕ). local_after p u a.count a.origin) (sym takes.stands.0) ∙ c.go_on.ensures.reached in (
      entry c.args.t a.count takes.event,
      refl,
      enters p (log_state c.args.shared.now).concrete (log_state c.enter.new.self).concrete c.args.t a.count a.origin a.here
          takes.event takes.stands.1 takes.moves goes takes.gives,
    )

-- whom the limit stops is marked, and whom a held bucket does isn't
pub returns-then-refused-t-clause-marks : goal.returns-then-refused-t-clause-marks
returns-then-refused-t-clause-marks g c = λ none moves free.
    let was : slice_get c.args.refused.now c.args.t ≡ Some true =
    slice_get-get_or c.args.refused.now c.args.t false (omega arith) ∙ ap Some c.if-refused-t.true in
    absurd cc

pub returns-in-Err-Limit-clause-marks : goal.returns-in-Err-Limit-clause-marks
returns-in-Err-Limit-clause-marks g c = λ none moves free.
    let p = g.J.RunName.program in
    let limit = g.J.RunName.limit in
    let r = c.go_on.ensures in
    let refused = subst (λ (f : RunFault). RefusesEntry p limit (log_state c.args.shared.now) c.args.t c.go_on.new.self f)
    c.in-Err-Limit.field-0-is c.in-Err-Limit.ensures.err.2 in
    inl (passes_limit p limit (log_state c.args.shared.now) c.args.t c.go_on.new.self refused r.reached r.within r.whole, refl)

pub returns-in-Err-CannotMove-clause-marks : goal.returns-in-Err-CannotMove-clause-marks
returns-in-Err-CannotMove-clause-marks g c = λ none moves free.
    let p = g.J.RunName.program in
    let limit = g.J.RunName.limit in
    let r = c.go_on.ensures in
    let refused = subst (λ (f : RunFault). RefusesEntry p limit (log_state c.args.shared.now) c.args.t c.go_on.new.self f)
    c.in-Err-CannotMove.field-0-is c.in-Err-CannotMove.ensures.err.2 in
    inr (holds_up p limit (log_state c.args.shared.now) c.args.t c.go_on.new.self refused moves r.reached r.within r.whole, refl)
