use Rattle.std.proofs.Common.{◌∙◌, ◌+◌, ◌-◌, ◌≡◌, ◌<◌, List, ℕ, MatchOption, None, Some, Option, arith, ap, subst, sym, refl}
use Rattle.words.specs.declared.outcome.Cause.TheVariants.{Faulted}
use Rattle.locals.specs.declared.taking.Behind.{Behind}
use Rattle.locals.specs.Accesses.{accessing}
use Rattle.locals.specs.Looks.{look}
use Rattle.locals.specs.Sequences.{LeadsTo}
use Rattle.locals.specs.Steps.{local_step}
use Rattle.locals.specs.Threads.{Dies, Thread}
use Rattle.locals.specs.Views.{running}
use Rattle.locals.proofs.NoWords.{led_by, none_as, none_made}
use Rattle.locals.proofs.OwnSteps.{behind}
use Rattle.locals.proofs.activation.Activation.run_by_sequences.Goals as goal

pub unreachable-requires : goal.unreachable-requires
unreachable-requires c =
    let p = c.args.image.now in
    let start = running c.args.self.now in
    let led = c.take_sequences-taken in
    let made = subst (λ (b : Behind). LeadsTo b p c.args.t start c.args.nothing.now led.new.words led.result.0 led.new.self)
    c.in-Made.is (led.ensures.takes start refl) in
    let here = look p c.args.t made.here in
    let none = ap (accessing here) c.requires.nothing ∙ none_made here in
    absurd (cc (sym none ∙ made.makes))

pub returns : goal.returns
returns c =
    let p = c.args.image.now in
    let start = running c.args.self.now in
    let led = c.take_sequences-taken in
    let ran = c.run-count in
    let taken = led.result.0 in
    let away = led_by led.result.1 p c.args.t start led.new.words taken led.new.self
    (subst (λ (words : List ℕ). LeadsTo led.result.1 p c.args.t start words led.new.words taken led.new.self) c.requires.nothing
    (led.ensures.takes start refl)) in
    let further = behind p c.args.t taken ran.result.0 start (running led.new.self) away.0 in
    record {
      reached = subst (λ (o : Option Thread). MatchOption ran.result.1 (o ≡ Some (running ran.new.self))
          (λ fault. o ≡ Some (Dies (Faulted fault)))) (sym further) ran.ensures.reached;
      within = omega (arith, led.ensures.within, ran.ensures.within);
      whole = none_as ran.result.1 (ran.result.0 < c.args.budget - taken → local_step p c.args.t (running ran.new.self) ≡ None)
          (taken + ran.result.0 < c.args.budget → local_step p c.args.t (running ran.new.self) ≡ None)
          (λ whole more. whole (omega (arith, more, led.ensures.within))) ran.ensures.whole;
      nothing = away.1;
    }
