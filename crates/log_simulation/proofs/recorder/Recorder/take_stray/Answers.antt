-- The wake is an action that is due, or none.
use Rattle.std.proofs.Common.{◌≡◌, ◌<◌, ◌≤◌, ◌^◌, ◌+◌, ◌∙◌, ap, arith, refl, subst, sym, Bool, List, Some}
use Rattle.std.proofs.Common.{length}
use Rattle.std.specs.Prelude.{MatchBool}
use Rattle.proof_simulation.specs.Strays.{stray_condition}
use Rattle.log_simulation.specs.Entries.{progress_strayed}
use Rattle.log_simulation.specs.Going.{Matches, followed}
use Rattle.log_simulation.specs.declared.follower.Follower.{Follower}
use Rattle.log_simulation.specs.declared.recorder.Recorder.{Recorder}
use Rattle.log_simulation.specs.declared.deferred.Deferred.{Deferred}
use Rattle.log_simulation.specs.Recording.{Records}
use Rattle.log_simulation.specs.Deferred.{CountsDeferred}
use Rattle.log_simulation.proofs.Recording.{condition_so, follows_stray_due, still_of, stops_waiting, tells_on, unheard}
use Rattle.log_simulation.proofs.Records.{when_true}
use Rattle.log_simulation.proofs.recorder.Recorder.take_stray.Goals as goal

pub returns : goal.returns
returns c = λ p n g of less tells due.
    let t = c.args.t in
    let a = c.args.address in
    let old = c.args.self.now in
    let counted = c.count.new.self in
    let taken = c.take_deferred-count.new.self in
    let b = c.in_ok-self.field-0 in
    let member = c.in-Some.condition in
    let first = ap (λ r. r.follower) c.count.ensures.kept in
    let second = ap (λ r. r.follower) c.take_deferred-count.ensures.kept ∙ first in
    let d = when_true _ _ counted.is_whole c.count.ensures.counts c.if-not-self.false in
    let h = when_true _ _ old.is_whole tells d.0 in
    let was = h.counted in
    let few : n + 1 < 2 ^ 32 = omega (arith, d.1, was) in
    let steps : taken.steps ≡ n + 1 =
    ap (λ r. r.steps) c.take_deferred-count.ensures.kept ∙ (omega (arith, d.2, was)) in
    let found : Some member ≡ stray_condition p a (g.source.table.waits t) =
    sym c.in-Some.is ∙ condition_so p n t a g counted.follower c.stray_condition.result
    (ap followed first ∙ of.program)
    (ap (λ (x : Follower). x.layout) first ∙ of.layout)
    (subst (λ (x : Follower). Matches x g) (sym first) h.matches) c.stray_condition.ensures in
    let waits = subst (λ (w : List Deferred). CountsDeferred w g.deferred)
    (sym (ap (λ r. r.deferred.items) c.count.ensures.kept)) h.deferred in
    let places = of.places in
    let more = ap (λ r. length r.deferred.items) c.count.ensures.kept in
    let w = c.take_deferred-count.ensures.defers g.deferred waits (omega (arith, less, places, more)) in
    let program = ap followed second ∙ of.program in
    let r = follows_stray_due p taken.follower c.follow_stray.new.self t c.take_deferred-count.result member b g program
    (subst (λ (x : Follower). Matches x g) (sym second) h.matches) (due few member (sym found)) w.0
    c.in_ok-self.ensures.follows in
    let last : Recorder = record {
      marks = taken.marks;
      follower = c.follow_stray.new.self;
      deferred = taken.deferred;
      raised = taken.raised;
      steps = taken.steps;
      is_whole = b;
    } in (
      still_of p old last of
          (c.in_ok-self.ensures.kept.0 ∙ ap (λ (x : Follower). x.checked) second)
          (c.in_ok-self.ensures.kept.1 ∙ ap (λ (x : Follower). x.layout) second)
          (ap (λ r. r.marks) c.take_deferred-count.ensures.kept ∙ ap (λ r. r.marks) c.count.ensures.kept)
          (c.take_deferred-count.ensures.places ∙ more) (ap (λ r. length r.raised.items) c.take_deferred-count.ensures.kept
          ∙ ap (λ r. length r.raised.items) c.count.ensures.kept),
      subst (λ (x : Bool). MatchBool x (Records (n + 1) (progress_strayed p t a g) last) (2 ^ 32 ≤ n + 1)) (sym r.0)
          (stops_waiting p n t a g member old last h (sym found) steps few r.1 w.1
          (ap (λ r. r.raised) c.take_deferred-count.ensures.kept ∙ ap (λ r. r.raised) c.count.ensures.kept)),
    )

pub returns-in_default : goal.returns-in_default
returns-in_default c = λ p n g of less tells due.
    let t = c.args.t in
    let a = c.args.address in
    let old = c.args.self.now in
    let counted = c.count.new.self in
    let first = ap (λ r. r.follower) c.count.ensures.kept in
    let layout = ap (λ (x : Follower). x.layout) first in
    let places = ap (λ r. length r.deferred.items) c.count.ensures.kept in (
      still_of p old counted of (ap (λ (x : Follower). x.checked) first) layout
          (ap (λ r. r.marks) c.count.ensures.kept) places (ap (λ r. length r.raised.items) c.count.ensures.kept),
      tells_on 1 n g (progress_strayed p t a g) old counted counted c.count.ensures.counts tells refl
          (λ h steps few.
          let found = condition_so p n t a g counted.follower c.stray_condition.result
          (ap followed first ∙ of.program) (layout ∙ of.layout)
          (subst (λ (x : Follower). Matches x g) (sym first) h.matches) c.stray_condition.ensures in
          unheard p n t a g old counted h (sym found ∙ c.in_default.is) steps few first
          (ap (λ r. r.deferred) c.count.ensures.kept) (ap (λ r. r.raised) c.count.ensures.kept)),
    )
