-- Steps that are taken are those of the thread, and what each adds is deferred.
use Rattle.std.proofs.Common.{rules, ◌≡◌, ◌∙◌, ap, arith, refl, subst, sym, ℕ, List, length}
use Rattle.words.specs.Updates.{put}
use Rattle.meaning.specs.Labels.{Kind}
use Rattle.log_simulation.specs.Entries.{progress_locally, deferred_locally}
use Rattle.words.proofs.Updates.{put_same}
use Rattle.log_simulation.specs.declared.recorder.Recorder.{Recorder}
use Rattle.log_simulation.specs.Recording.{Counts}
use Rattle.log_simulation.specs.Deferred.{CountsDeferred}
use Rattle.runner.proofs.Once.{none_after}
use Rattle.log_simulation.proofs.Recording.{local_more, locally, still_of, tells_on}
use Rattle.log_simulation.proofs.Records.{few_deferred}
use Rattle.log_simulation.proofs.recorder.Recorder.take_steps.Goals as goal

pub returns-then-not-take_step-clause-goes : goal.returns-then-not-take_step-clause-goes
returns-then-not-take_step-clause-goes c =
    none_after c.args.image.now c.args.entry.now.thread c.loop.counter c.args.entry.now.local
    c.args.here.now c.loop.here
    c.loop.invariant.goes c.if-not-take_step.ensures.step c.loop-test.true

pub loop-preserved : goal.loop-preserved
loop-preserved c =
    let i = c.loop.invariant in
    let kept = c.take_step.ensures.kept in
    record {
      goes = search rules;
      counts = subst (λ (r : Recorder). Counts c.args.entry.now.local c.args.self.now r) (sym kept) i.counts;
      follower = ap (λ r. r.follower) kept ∙ i.follower;
      marks = ap (λ r. r.marks) kept ∙ i.marks;
      raised = ap (λ r. r.raised) kept ∙ i.raised;
      places = c.take_step.ensures.places ∙ i.places;
      defers = λ p f own marks waits few.
          let t = c.args.entry.now.thread in
          let o = c.args.here.now in
          let ks = deferred_locally p t c.loop.counter o (f t) in
          let before = i.defers p f own marks waits few in
          let long = few_deferred p t c.loop.counter o (f t) in
          let mine = ap (λ (l : List Kind). length l) (put_same f t ks) in
          let less = c.loop-test.true in
          subst (λ (g : ℕ → List Kind). CountsDeferred c.take_step.new.self.deferred.items g)
          (local_more p c.args.image.now t c.loop.counter o c.loop.here f c.loop.self.marks.items own
          (ap (λ m. m.items) i.marks ∙ marks) i.goes)
          (c.take_step.ensures.defers (put f t ks) before (omega (arith, long, mine, few, less)));
    }

pub returns-clause-told : goal.returns-clause-told
returns-clause-told c = λ _ p n g own of tells.
    let t = c.args.entry.now.thread in
    let o = c.args.here.now in
    let i = c.loop.invariant in
    let r = c.args.self.now in
    let last = c.loop.self in
    let within = c.loop.auto.counter-end in
    let past = c.loop-test.false in
    let all : c.loop.counter ≡ c.args.entry.now.local = omega (arith, within, past) in (
      still_of p r last of (ap (λ x. x.checked) i.follower) (ap (λ x. x.layout) i.follower) i.marks i.places
          (ap (λ v. length v.items) i.raised),
      tells_on c.args.entry.now.local n g
          (progress_locally p t c.args.entry.now.local o g) r last last i.counts tells refl
          (λ h steps few. locally p n c.args.entry.now.local t o g r last h steps few i.follower i.raised
          (subst (λ j. CountsDeferred last.deferred.items
          (put g.deferred t (deferred_locally p t j o (g.deferred t)))) all
          (i.defers p g.deferred own of.marks h.deferred (let less = h.bounded t in omega (arith, few, less))))),
    )
