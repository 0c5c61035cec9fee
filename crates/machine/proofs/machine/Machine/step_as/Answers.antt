-- What always holds is kept, and the room falls by what was printed.
use Rattle.std.proofs.Common.{rules, List, ℕ, ◌≡◌, ◌+◌, ◌-◌, length, Some, Result, Ok, Err, ap, sym, subst, arith}
use Rattle.std.specs.Prelude.{OnOk, OnErr}
use Rattle.locals.specs.Threads.{Thread}
use Rattle.locals.specs.Looks.{look}
use Rattle.locals.specs.Requests.{next_step_of}
use Rattle.machine.specs.declared.event.StepFault.{StepFault}
use Rattle.machine.specs.States.{thread_at}
use Rattle.machine.specs.Views.{View, KeepsBits, MendsBits, parts_of, printed_by}
use Rattle.machine.proofs.Ables.{shows_result}
use Rattle.machine.proofs.Whole.{kept_after}
use Rattle.machine.proofs.Printed.{printed_so, at_most_one}
use Rattle.machine.proofs.machine.Machine.step_as.Goals as goal

pub step_parts-done-requires-clause-next : goal.step_parts-done-requires-clause-next
step_parts-done-requires-clause-next c =
    subst (λ (v : View). (x : Thread) → thread_at v.threads c.args.t ≡ Some x
    → c.args.next ≡ next_step_of (look v.program c.args.t x)) (sym c.self.view_is) c.requires.next

on_err : {U : Type 0} (r : Result U StepFault) (A B C : Type 0) → (A → B → C) → OnErr r (A × B) → OnErr r C
on_err (Ok u) A B C f h = tt
on_err (Err g) A B C f h = f h.0 h.1

pub refresh_after-requires-clause-few : goal.refresh_after-requires-clause-few
refresh_after-requires-clause-few c =
    let s = c.step_parts-done.ensures in
    let k = parts_of c.self.inside.common c.self.inside.threads.items in
    let k' = parts_of c.step_parts-done.new.shared c.step_parts-done.new.threads.items in
    let well = kept_after c.self.inside.image k k' c.args.t c.step_parts-done.result c.step_parts-done.new.event
    c.self.invariant.0 s.done (on_err c.step_parts-done.result _ _ (k' ≡ k) (λ v t i. parts_of (v i) (t i)) s.same) in
    omega (arith, ap length c.deref.ensures.value, well.few)

pub refresh_after-requires-clause-fits : goal.refresh_after-requires-clause-fits
refresh_after-requires-clause-fits c =
    let s = c.step_parts-done.ensures in
    let k = parts_of c.self.inside.common c.self.inside.threads.items in
    let k' = parts_of c.step_parts-done.new.shared c.step_parts-done.new.threads.items in
    let well = kept_after c.self.inside.image k k' c.args.t c.step_parts-done.result c.step_parts-done.new.event
    c.self.invariant.0 s.done (on_err c.step_parts-done.result _ _ (k' ≡ k) (λ v t i. parts_of (v i) (t i)) s.same) in
    omega (arith, ap length c.deref.ensures.value, well.few, well.fits)

pub invariant_of-self : goal.invariant_of-self
invariant_of-self c =
    let s = c.step_parts-done.ensures in
    let k = parts_of c.self.inside.common c.self.inside.threads.items in
    let k' = parts_of c.step_parts-done.new.shared c.step_parts-done.new.threads.items in
    let counted : c.len-made.result ≡ length c.self.inside.threads.items = search rules in (
      kept_after c.self.inside.image k k' c.args.t c.step_parts-done.result c.step_parts-done.new.event c.self.invariant.0 s.done
          (on_err c.step_parts-done.result _ _ (k' ≡ k) (λ v t i. parts_of (v i) (t i)) s.same),
      (omega (arith, s.space, c.self.invariant.1.0), c.self.invariant.1.1),
      shows_result c.self.inside.image k k' c.args.t c.step_parts-done.result c.step_parts-done.new.event
          c.self.inside.able.words c.refresh_after.new.self.words c.self.invariant.0 s.done
          (on_err c.step_parts-done.result _ _ (k' ≡ k) (λ v t i. parts_of (v i) (t i)) s.same) c.self.invariant.2
          (subst (λ (ts : List Thread). KeepsBits c.self.inside.able.words c.refresh_after.new.self.words
          (parts_of c.step_parts-done.new.shared ts)) c.deref.ensures.value c.refresh_after.ensures.kept)
          (subst (λ (n : ℕ). MendsBits c.refresh_after.new.self.words k' n c.args.t c.step_parts-done.new.event.woken) counted
          (subst (λ (ts : List Thread). MendsBits c.refresh_after.new.self.words (parts_of c.step_parts-done.new.shared ts)
          c.len-made.result c.args.t c.step_parts-done.new.event.woken) c.deref.ensures.value
          c.refresh_after.ensures.right)),
    )

on_ok : {U : Type 0} (r : Result U StepFault) (P Q : Type 0) → (P → Q) → OnOk r P → OnOk r Q
on_ok (Ok u) P Q f h = f h
on_ok (Err g) P Q f h = tt

pub returns-clause-room : goal.returns-clause-room
returns-clause-room c =
    let s = c.step_parts-done.ensures in
    let old = c.self.inside.common in
    let new = c.step_parts-done.new.shared in
    let k = parts_of old c.self.inside.threads.items in
    let k' = parts_of new c.step_parts-done.new.threads.items in
    let was : c.args.self.now.room ≡ old.capacity - length old.output = ap (λ v. v.room) (sym c.self.view_is) in
    let e = c.step_parts-done.new.event in
    on_ok c.step_parts-done.result _ _ (λ done.
    let more : length new.output ≡ length old.output + printed_by e =
    printed_so c.self.inside.image k k' c.args.t e done in
    omega (arith, was, more, at_most_one e, s.capacity, c.requires.room)) s.done

pub returns-clause-holds : goal.returns-clause-holds
returns-clause-holds c = (invariant_of-self c).0
