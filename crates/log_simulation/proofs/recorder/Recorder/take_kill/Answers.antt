-- The kill is due.
use Rattle.std.proofs.Common.{◌≡◌, ◌<◌, ◌≤◌, ◌^◌, ◌+◌, ◌∙◌, ap, arith, subst, sym, Bool, List}
use Rattle.std.proofs.Common.{length}
use Rattle.std.specs.Prelude.{MatchBool, false}
use Rattle.words.specs.Updates.{put}
use Rattle.log_simulation.specs.Shown.{shown}
use Rattle.log_simulation.specs.Going.{Matches, followed, progress_left}
use Rattle.log_simulation.specs.declared.follower.Follower.{Follower}
use Rattle.log_simulation.specs.declared.recorder.Recorder.{Recorder}
use Rattle.log_simulation.specs.declared.deferred.Deferred.{Deferred}
use Rattle.log_simulation.specs.Recording.{Records}
use Rattle.log_simulation.specs.Deferred.{CountsDeferred, Raises}
use Rattle.log_simulation.proofs.Recording.{follows_kill_due, killed_so, still_of}
use Rattle.log_simulation.proofs.Records.{when_true}
use Rattle.log_simulation.proofs.recorder.Recorder.take_kill.Goals as goal

pub returns : goal.returns
returns c = λ p n g of less tells due.
    let t = c.args.t in
    let s = shown c.args.machine.now in
    let m = c.args.last in
    let old = c.args.self.now in
    let counted = c.count.new.self in
    let lowered = c.lower-raised.new.self in
    let taken = c.take_deferred-count.new.self in
    let b = c.in_ok-self.field-0 in
    let follower = ap (λ r. r.follower) c.take_deferred-count.ensures.kept
    ∙ ap (λ r. r.follower) c.lower-raised.ensures.kept ∙ ap (λ r. r.follower) c.count.ensures.kept in
    let d = when_true _ _ counted.is_whole c.count.ensures.counts c.if-not-self.false in
    let h = when_true _ _ old.is_whole tells d.0 in
    let was = h.counted in
    let few : n + 1 < 2 ^ 32 = omega (arith, d.1, was) in
    let steps : taken.steps ≡ n + 1 = ap (λ r. r.steps) c.take_deferred-count.ensures.kept
    ∙ ap (λ r. r.steps) c.lower-raised.ensures.kept ∙ (omega (arith, d.2, was)) in
    let raised = subst (λ (w : List Bool). Raises w g.raised)
    (sym (ap (λ r. r.raised.items) c.count.ensures.kept)) h.raised in
    let bits = of.bits in
    let as_many = ap (λ r. length r.raised.items) c.count.ensures.kept in
    let l = c.lower-raised.ensures.raises g.raised raised (omega (arith, less, bits, as_many)) in
    let waits = subst (λ (w : List Deferred). CountsDeferred w g.deferred)
    (sym (ap (λ r. r.deferred.items) c.lower-raised.ensures.kept ∙ ap (λ r. r.deferred.items) c.count.ensures.kept))
    h.deferred in
    let places = of.places in
    let more = ap (λ r. length r.deferred.items) c.lower-raised.ensures.kept
    ∙ ap (λ r. length r.deferred.items) c.count.ensures.kept in
    let w = c.take_deferred-count.ensures.defers g.deferred waits (omega (arith, less, places, more)) in
    let program = ap followed follower ∙ of.program in
    let r = follows_kill_due p taken.follower c.follow_kill.new.self s t c.take_deferred-count.result
    c.lower-raised.result m b g program (ap (λ (x : Follower). x.layout) follower ∙ of.layout)
    (subst (λ (x : Follower). Matches x g) (sym follower) h.matches) (due few) w.0 l.0
    c.in_ok-self.ensures.follows in
    let last : Recorder = record {
      marks = taken.marks;
      follower = c.follow_kill.new.self;
      deferred = taken.deferred;
      raised = taken.raised;
      steps = taken.steps;
      is_whole = b;
    } in
    let still = ap (λ r. r.raised.items) c.take_deferred-count.ensures.kept in (
      still_of p old last of
          (c.in_ok-self.ensures.kept.0 ∙ ap (λ (x : Follower). x.checked) follower)
          (c.in_ok-self.ensures.kept.1 ∙ ap (λ (x : Follower). x.layout) follower)
          (ap (λ r. r.marks) c.take_deferred-count.ensures.kept ∙ ap (λ r. r.marks) c.lower-raised.ensures.kept
          ∙ ap (λ r. r.marks) c.count.ensures.kept)
          (c.take_deferred-count.ensures.places ∙ more)
          (ap (λ (w : List Bool). length w) still ∙ c.lower-raised.ensures.bits ∙ as_many),
      subst (λ (x : Bool). MatchBool x (Records (n + 1) (progress_left p s t m g) last) (2 ^ 32 ≤ n + 1)) (sym r.0)
          (killed_so p n t s m g last h.bounded steps few r.1 w.1
          (subst (λ (w : List Bool). Raises w (put g.raised t false)) (sym still) l.1)),
    )
