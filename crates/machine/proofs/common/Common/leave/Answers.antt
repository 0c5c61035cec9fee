-- The front determines the step.
use Rattle.std.proofs.Common.{◌≡◌, ◌≢◌, ℕ, [], List, ◌<◌, length, refl, sym, ap, ◌∙◌, arith}
use Rattle.words.specs.Process.{process_word}
use Rattle.robustexit.specs.declared.phase.ExitPhase.{ExitPhase}
use Rattle.robustexit.specs.declared.phase.ExitPhase.TheVariants.{Entry, Pending, ClearId, LastWake, Ended}
use Rattle.robustexit.specs.Fronts.{wake_word}
use Rattle.buckets.specs.Sleepers.{thread_count}
use Rattle.futexcalls.specs.Answers.{word_of}
use Rattle.machine.specs.ConcreteServing.{event_of}
use Rattle.machine.specs.ConcreteExits.{leave}
use Rattle.machine.specs.RequestMeanings.{name_at, value_at}
use Rattle.machine.specs.Views.{common, common_of}
use Rattle.machine.proofs.Queues.{known}
use Rattle.machine.proofs.Determines.{left, left_is, left_threads, value_of}
use Rattle.machine.proofs.common.Common.leave.Goals.{in-LastWake, in_default}
use Rattle.machine.proofs.common.Common.leave.Goals as goal

pub put_with-requires-clause-woken : goal.put_with-requires-clause-woken
put_with-requires-clause-woken c =
    rw c.as_slice-woken.ensures (left_threads c.self.inside.buckets c.exit_step-next.new.buckets
    (wake_word c.args.t c.args.phase (word_of c.self.inside.words)) c.exit_step-next.new.woken
    c.self.invariant.sound.agree
    (known c.self.inside.buckets c.self.invariant.sound c.self.invariant.places) c.exit_step-next.ensures.front)

other_value : (t : ℕ) (phase : ExitPhase) (ws woken : List ℕ) → phase ≢ LastWake
    → value_at t phase ws ≡ value_of t phase ws woken
other_value t (Entry e seen) ws woken ne = refl
other_value t Pending ws woken ne = refl
other_value t ClearId ws woken ne = refl
other_value t LastWake ws woken ne = absurd (ne refl)
other_value t Ended ws woken ne = refl

pub returns-clause-gives : goal.returns-clause-gives
returns-clause-gives c =
    let o = c.self.inside.output.items in
    let x = c.exit_step-next.ensures in
    let most : thread_count c.self.inside.buckets ≡ thread_count c.args.self.now.sleepers =
    ap (λ v. thread_count v.sleepers) c.self.view_is in
    let within : process_word c.args.t 5 < length c.self.inside.words =
    omega (arith, c.requires.thread.1, most, c.self.invariant.wide) in
    let value : c.match-phase.value
    ≡ value_of c.args.t c.args.phase c.self.inside.words c.exit_step-next.new.woken =
    elim c.match-phase.branch [
      | in-LastWake w ↦ w.value-is ∙ ap length c.as_slice-woken.ensures
          ∙ sym (ap (λ p. value_of c.args.t p c.self.inside.words c.exit_step-next.new.woken) w.in-LastWake.is)
      | in_default w ↦ w.value-is ∙ c.address_at-address.ensures
          ∙ other_value c.args.t c.args.phase c.self.inside.words c.exit_step-next.new.woken
          w.in_default.not-LastWake
    ] in
    ap (λ v. leave c.args.rule c.args.t c.args.phase (common v)) (sym c.self.view_is)
    ∙ left_is c.args.rule c.self.inside.words c.exit_step-next.new.mem c.self.inside.buckets c.exit_step-next.new.buckets o
    c.args.t c.args.phase c.exit_step-next.result c.exit_step-next.new.woken
    c.self.invariant.sound.agree within x.step x.front x.words x.threads
    ∙ (λ i. left c.exit_step-next.new.mem c.exit_step-next.new.buckets o c.args.phase c.exit_step-next.result
    (sym value i) c.exit_step-next.new.woken)
    ∙ (let told : c.put_with.new.self
    ≡ event_of (name_at c.args.phase) c.match-phase.value c.exit_step-next.new.woken [] =
    c.put_with.ensures
    ∙ (λ i. event_of (c.name_of.ensures i) c.match-phase.value (c.as_slice-woken.ensures i) []) in
    λ i. record {
      common = common_of c.exit_step-next.new.mem c.exit_step-next.new.buckets o;
      next =
          c.exit_step-next.result;
      event = sym told i;
    })
