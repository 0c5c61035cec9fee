-- Each process pays in its turn.
use Rattle.std.proofs.Common.{◌≡◌, ◌+◌, ◌∙◌, ap, arith, length, subst, sym, ℕ}
use Rattle.std.proofs.lemmas.Bool.{false≢true}
use Rattle.log_simulation.specs.Going.{Matches, followed}
use Rattle.log_simulation.specs.declared.follower.Follower.{Follower}
use Rattle.proof_commutation.specs.Deferring.{IsBehind}
use Rattle.log_simulation.specs.declared.recorder.Recorder.{Recorder}
use Rattle.log_simulation.specs.Recording.{progress_rest}
use Rattle.log_simulation.specs.Deferred.{CountsDeferred}
use Rattle.log_simulation.proofs.Recording.{catches_up_next, rest_more, still_of}
use Rattle.log_simulation.proofs.recorder.Recorder.take_rest.Goals as goal

pub returns-then-not-branch : goal.returns-then-not-branch
returns-then-not-branch c = λ p g ahead of less matches waits behind.
    let l = c.loop-before in
    let i = l.invariant.caught_up p g ahead of less matches waits behind in
    let rest = progress_rest p l.before g in
    let follower = ap (λ r. r.follower) c.take_deferred-count.ensures.kept in
    let places = i.0.places in
    let inside = c.loop-before-test.true in
    let w = c.take_deferred-count.ensures.defers rest.deferred i.2 (omega (arith, less, places, inside)) in
    let r = catches_up_next p c.take_deferred-count.new.self.follower c.catch_up.new.self (l.before + 1)
    c.take_deferred-count.result c.in_ok-catch_up.field-0 rest ahead
    (ap followed follower ∙ i.0.program)
    (subst (λ (x : Follower). Matches x rest) (sym follower) i.1) i.3 w.0 c.in_ok-catch_up.ensures.catches_up in
    absurd (false≢true (sym c.if-not-branch.true ∙ r.0))

pub loop-before-preserved : goal.loop-before-preserved
loop-before-preserved c = record {
  caught_up = λ p g ahead of less matches waits behind.
      let l = c.loop-before in
      let i = l.invariant.caught_up p g ahead of less matches waits behind in
      let rest = progress_rest p l.before g in
      let taken = c.take_deferred-count.new.self in
      let follower = ap (λ r. r.follower) c.take_deferred-count.ensures.kept in
      let places = i.0.places in
      let inside = c.loop-before-test.true in
      let w = c.take_deferred-count.ensures.defers rest.deferred i.2 (omega (arith, less, places, inside)) in
      let r = catches_up_next p taken.follower c.catch_up.new.self (l.before + 1)
      c.take_deferred-count.result c.in_ok-catch_up.field-0 rest ahead
      (ap followed follower ∙ i.0.program)
      (subst (λ (x : Follower). Matches x rest) (sym follower) i.1) i.3 w.0 c.in_ok-catch_up.ensures.catches_up in
      let last : Recorder = record {
        marks = taken.marks;
        follower = c.catch_up.new.self;
        deferred = taken.deferred;
        raised = taken.raised;
        steps = taken.steps;
        is_whole = taken.is_whole;
      } in
      let more = rest_more p l.before g in (
        still_of p l.self last i.0
            (c.in_ok-catch_up.ensures.kept.0 ∙ ap (λ (x : Follower). x.checked) follower)
            (c.in_ok-catch_up.ensures.kept.1 ∙ ap (λ (x : Follower). x.layout) follower)
            (ap (λ r. r.marks) c.take_deferred-count.ensures.kept) c.take_deferred-count.ensures.places
            (ap (λ r. length r.raised.items) c.take_deferred-count.ensures.kept),
        subst (λ x. Matches c.catch_up.new.self x) (sym more) r.1,
        subst (λ x. CountsDeferred taken.deferred.items x.deferred) (sym more) w.1,
        subst (λ x. IsBehind p x.deferred x.source ahead) (sym more) r.2,
      );
}

pub returns : goal.returns
returns c = λ p g ahead of less matches waits behind.
    let l = c.loop-before in
    let i = l.invariant.caught_up p g ahead of less matches waits behind in
    let within = l.auto.before-end in
    let past = c.loop-before-test.false in
    let all : l.before ≡ c.args.made = omega (arith, within, past) in
    subst (λ (n : ℕ). Matches l.self.follower (progress_rest p n g)) all i.1
