-- The step was an action that is due, or none that others learn of.
use Rattle.std.proofs.Common.{◌≡◌, ◌<◌, ◌≤◌, ◌^◌, ◌+◌, ◌∙◌, ap, arith, subst, sym, Bool, List}
use Rattle.std.proofs.Common.{length}
use Rattle.std.specs.Prelude.{MatchBool, ◌||◌, false}
use Rattle.proof_thread.specs.Deferrals.{deferred_by_step, mark_of}
use Rattle.lowering.specs.Pieces.{code_of, marks_of}
use Rattle.locals.specs.Looks.{look}
use Rattle.log_simulation.specs.Entries.{progress_shared}
use Rattle.log_simulation.specs.Going.{Matches, followed}
use Rattle.log_simulation.specs.declared.follower.Follower.{Follower}
use Rattle.log_simulation.specs.declared.recorder.Recorder.{Recorder}
use Rattle.log_simulation.specs.declared.deferred.Deferred.{Deferred}
use Rattle.log_simulation.specs.Recording.{Records}
use Rattle.log_simulation.specs.Deferred.{CountsDeferred, Raises}
use Rattle.log_simulation.specs.Shown.{shown}
use Rattle.log_simulation.specs.Requests.{raises as raises_step}
use Rattle.log_simulation.proofs.Visible.{raises_so}
use Rattle.proof_simulation.specs.Ordering.{raises_number}
use Rattle.words.specs.Updates.{put}
use Rattle.log_simulation.proofs.Recording.{follows_due, deferral_told, loudly, internally, still_of}
use Rattle.log_simulation.proofs.Recording.{tells_on}
use Rattle.log_simulation.proofs.Records.{when_true}
use Rattle.log_simulation.proofs.recorder.Recorder.take_shared_step.Goals as goal

pub returns-in_ok-self : goal.returns-in_ok-self
returns-in_ok-self c = λ p n word g is told of less tells due.
    let t = c.args.t in
    let here = c.args.here.now in
    let v = c.args.value in
    let s = shown c.args.machine.now in
    let old = c.args.self.now in
    let counted = c.count.new.self in
    let lowered = c.lower.new.self in
    let taken = c.take_deferred-count.new.self in
    let b = c.in_ok-self.field-0 in
    let follower = ap (λ r. r.follower) c.take_deferred-count.ensures.kept ∙ ap (λ r. r.follower) c.lower.ensures.kept
    ∙ ap (λ r. r.follower) c.count.ensures.kept in
    let d = when_true _ _ counted.is_whole c.count.ensures.counts c.if-not-self.false in
    let h = when_true _ _ old.is_whole tells d.0 in
    let was = h.counted in
    let few : n + 1 < 2 ^ 32 = omega (arith, d.1, was) in
    let steps : taken.steps ≡ n + 1 = ap (λ r. r.steps) c.take_deferred-count.ensures.kept
    ∙ ap (λ r. r.steps) c.lower.ensures.kept ∙ (omega (arith, d.2, was)) in
    let visible = sym told ∙ c.if-visible.true in
    let raised = subst (λ (w : List Bool). Raises w g.raised)
    (sym (ap (λ r. r.raised.items) c.count.ensures.kept)) h.raised in
    let bits = of.bits in
    let as_many = ap (λ r. length r.raised.items) c.count.ensures.kept in
    let l = c.lower.ensures.raises g.raised raised (omega (arith, less, bits, as_many)) in
    let waits = subst (λ (w : List Deferred). CountsDeferred w g.deferred)
    (sym (ap (λ r. r.deferred.items) c.lower.ensures.kept ∙ ap (λ r. r.deferred.items) c.count.ensures.kept)) h.deferred in
    let places = of.places in
    let more = ap (λ r. length r.deferred.items) c.lower.ensures.kept
    ∙ ap (λ r. length r.deferred.items) c.count.ensures.kept in
    let w = c.take_deferred-count.ensures.defers g.deferred waits (omega (arith, less, places, more)) in
    let program = ap followed follower ∙ of.program in
    let r = follows_due p taken.follower c.follow.new.self s t c.take_deferred-count.result b g program
    (ap (λ (x : Follower). x.layout) follower ∙ of.layout)
    (subst (λ (x : Follower). Matches x g) (sym follower) h.matches) (due visible few) w.0
    c.in_ok-self.ensures.follows in
    let last : Recorder = record {
      marks = taken.marks;
      follower = c.follow.new.self;
      deferred = taken.deferred;
      raised = taken.raised;
      steps = taken.steps;
      is_whole = b;
    } in
    let still = ap (λ r. r.raised.items) c.take_deferred-count.ensures.kept in (
      still_of p old last of
          (c.in_ok-self.ensures.kept.0 ∙ ap (λ (x : Follower). x.checked) follower)
          (c.in_ok-self.ensures.kept.1 ∙ ap (λ (x : Follower). x.layout) follower)
          (ap (λ r. r.marks) c.take_deferred-count.ensures.kept ∙ ap (λ r. r.marks) c.lower.ensures.kept
          ∙ ap (λ r. r.marks) c.count.ensures.kept)
          (c.take_deferred-count.ensures.places ∙ more)
          (ap (λ (w : List Bool). length w) still ∙ c.lower.ensures.bits ∙ as_many),
      subst (λ (x : Bool). MatchBool x (Records (n + 1) (progress_shared p t here word v s g) last)
          (2 ^ 32 ≤ n + 1)) (sym r.0)
          (loudly p n t v here word s g last visible h.bounded steps few r.1 w.1
          (subst (λ (w : List Bool). Raises w (put g.raised t false)) (sym still) l.1)),
    )

pub returns-else-visible : goal.returns-else-visible
returns-else-visible c = λ p n word g is told of less tells due.
    let t = c.args.t in
    let here = c.args.here.now in
    let v = c.args.value in
    let s = shown c.args.machine.now in
    let old = c.args.self.now in
    let counted = c.count.new.self in
    let raised = c.raise.new.self in
    let last = c.delay.new.self in
    let first = ap (λ r. r.follower) c.raise.ensures.kept ∙ ap (λ r. r.follower) c.count.ensures.kept in
    let follower = ap (λ r. r.follower) c.delay.ensures.kept ∙ first in
    let marks = ap (λ r. r.marks) c.raise.ensures.kept ∙ ap (λ r. r.marks) c.count.ensures.kept in
    let places = ap (λ r. length r.deferred.items) c.raise.ensures.kept
    ∙ ap (λ r. length r.deferred.items) c.count.ensures.kept in
    let still = ap (λ r. r.raised.items) c.delay.ensures.kept in
    let as_many = ap (λ r. length r.raised.items) c.count.ensures.kept in
    let hidden = sym told ∙ c.if-visible.false in
    let deferral = deferral_told p t v here raised.marks.items c.mark_at-mark.result c.args.step c.at_step.result
    (ap (λ m. m.items) marks ∙ of.marks)
    (c.mark_at-mark.ensures ∙ ap (λ m. mark_of m here) c.as_slice.ensures.value) is c.at_step.ensures in
    let raises = c.is_raise.ensures ∙ ap (λ s. raises_step s) is ∙ raises_so (look (code_of p) t here) in (
      still_of p old last of (ap (λ (x : Follower). x.checked) follower) (ap (λ (x : Follower). x.layout) follower)
          (ap (λ r. r.marks) c.delay.ensures.kept ∙ marks)
          (c.delay.ensures.places ∙ places)
          (ap (λ (w : List Bool). length w) still ∙ c.raise.ensures.bits ∙ as_many),
      tells_on 1 n g (progress_shared p t here word v s g) old counted last c.count.ensures.counts tells
          (ap (λ r. r.is_whole) c.delay.ensures.kept ∙ ap (λ r. r.is_whole) c.raise.ensures.kept)
          (λ h steps few.
          internally p n t v here word s g old last h hidden
          (ap (λ r. r.steps) c.delay.ensures.kept ∙ ap (λ r. r.steps) c.raise.ensures.kept ∙ steps) few follower
          (c.delay.ensures.defers g.deferred
          (deferred_by_step (mark_of (marks_of p) here) (look (code_of p) t here) v)
          (subst (λ (w : List Deferred). CountsDeferred w g.deferred)
          (sym (ap (λ r. r.deferred.items) c.raise.ensures.kept ∙ ap (λ r. r.deferred.items) c.count.ensures.kept))
          h.deferred) deferral
          (let bounded = h.bounded t in omega (arith, bounded, few)))
          (subst (λ (w : List Bool). Raises w (put g.raised t (raises_number (look (code_of p) t here) || g.raised t)))
          (sym still)
          (subst (λ (i : Bool). Raises raised.raised.items (put g.raised t (i || g.raised t))) raises
          (c.raise.ensures.raises g.raised
          (subst (λ (w : List Bool). Raises w g.raised) (sym (ap (λ r. r.raised.items) c.count.ensures.kept))
          h.raised))))),
    )
