-- What the value of an event tells of the answer to a request.
use Rattle.std.proofs.Common.{◌≡◌, ℕ, suc, ◌==◌, Bool, true, false, List, length, arith}
use Rattle.std.proofs.Common.{Option, Some, Result, Ok, Err, refl, ap, sym, ◌∙◌, inl, inr}
use Rattle.std.proofs.Common.{lt-ltb}
use Rattle.std.specs.Prelude.{nat_lt, if◌then◌else◌}
use Rattle.std.proofs.lemmas.Bool.{eq-eqb, ne_eqb}
use Rattle.words.specs.Process.{process_word}
use Rattle.robustexit.specs.ExitRules.{exit_of}
use Rattle.locals.specs.Threads.{Thread, opening_thread}
use Rattle.locals.specs.Looks.{Request, AskLoad, AskSwap, AskCompareSwap, AskFork, Look, Asks}
use Rattle.machine.specs.declared.event.Event.{Event}
use Rattle.machine.specs.declared.event.EventName.{EventName}
use Rattle.machine.specs.declared.event.EventName.TheVariants as name
use Rattle.machine.specs.declared.event.StepFault.{StepFault}
use Rattle.machine.specs.declared.event.StepFault.TheVariants.{Broken}
use Rattle.machine.specs.States.{Common, State, ConcreteState, state_of}
use Rattle.machine.specs.AbstractServing.{Serves}
use Rattle.machine.specs.ConcreteServing.{plain, gives, load, set_word}
use Rattle.machine.specs.ConcreteSteps.{thread_step, on_machine, go_on_with}
use Rattle.program.specs.Trees.{Program}
use Rattle.lowering.specs.declared.mark.Mark.{Mark}
use Rattle.proof_thread.specs.Deferrals.{deferred_by_request}
use Rattle.proof_simulation.specs.Ordering.{completes}

-- the value of the event of a step
abbrev value_of : Result (ConcreteState × Event) StepFault → ℕ
value_of (Ok r) = r.1.value
value_of (Err fault) = 0

module _ (p : Program) (k k' : ConcreteState) (t : ℕ) (event : Event) (woken : List ℕ) where
  abbrev s : State
  s = state_of k

  abbrev pub Gives : Look → Type 0
  Gives l = on_machine k t (thread_step (exit_of p.version) (length k.threads) t k.common l) ≡ Ok (k', event)

  -- what a word is answered with is the value of the event
  by_word : (go : ℕ → Thread) (a answer : ℕ) (after : Common) (n : EventName) (b : Bool) → b ≡ true
      → on_machine k t (go_on_with go (if b then gives answer after (plain n answer) else Err Broken)) ≡ Ok (k', event)
      → event.value ≡ answer
  by_word go a answer after n true is h = sym (ap value_of h)
  by_word go a answer after n false is h = absurd cc

  -- a fork is answered with the number of the child, or 0
  by_room : (go : ℕ → Thread) (entry : ℕ) (arguments : List ℕ) (full room : Bool)
      → on_machine k t (go_on_with go (if full then gives 0 k.common (plain name.Fork 0)
      else if room then Ok (record {
        answer = suc (length k.threads);
        common = set_word k.common (process_word (suc (length k.threads)) 2) (suc (length k.threads));
        child = Some (opening_thread entry arguments);
        event = plain name.Fork (suc (length k.threads));
      })
      else Err Broken)) ≡ Ok (k', event)
      → (full ≡ true → event.value ≡ 0) × (full ≡ false → event.value ≡ suc (length k.threads))
  by_room go entry arguments true room h = (λ e. sym (ap value_of h), λ e. absurd cc)
  by_room go entry arguments false true h = (λ e. absurd cc, λ e. sym (ap value_of h))
  by_room go entry arguments false false h = absurd cc

  by_fork : (go : ℕ → Thread) (entry : ℕ) (arguments : List ℕ) (room : Bool) (answer : ℕ) (mid : State)
      → Serves t (AskFork entry arguments room) s woken answer mid → Gives (Asks (AskFork entry arguments room) go)
      → event.value ≡ answer
  by_fork go entry arguments room answer mid (none, inl (full, is, same)) h =
      (by_room go entry arguments (length k.threads == k.common.most) room h).0
      (eq-eqb (length k.threads) k.common.most full) ∙ sym is
  by_fork go entry arguments room answer mid (none, inr (less, has, is, same)) h =
      (by_room go entry arguments (length k.threads == k.common.most) room h).1
      (ne_eqb (length k.threads) k.common.most (λ e. absurd (omega (arith, less, e)))) ∙ sym is

  -- whether others learn of a request is told by the value of its event
  pub completes_told : (request : Request) (go : ℕ → Thread) (answer : ℕ) (mid : State)
      → Serves t request s woken answer mid → Gives (Asks request go)
      → completes p request answer ≡ completes p request event.value
  completes_told (AskLoad a) go answer mid serves h =
      ap (completes p (AskLoad a)) (serves.1.1.0 ∙ sym (by_word go a (load k.common a) _ name.Load
      (nat_lt a (length k.common.words)) (lt-ltb a (length k.common.words) serves.0) h))
  completes_told (AskSwap a v) go answer mid serves h =
      ap (completes p (AskSwap a v)) (serves.1.1.0 ∙ sym (by_word go a (load k.common a) _ name.Swap
      (nat_lt a (length k.common.words)) (lt-ltb a (length k.common.words) serves.0) h))
  completes_told (AskCompareSwap a x v) go answer mid serves h =
      ap (completes p (AskCompareSwap a x v))
      (serves.1.1.0 ∙ sym (by_word go a (load k.common a) _ name.CompareSwap
      (nat_lt a (length k.common.words)) (lt-ltb a (length k.common.words) serves.0) h))
  completes_told (AskFork entry arguments room) go answer mid serves h =
      ap (completes p (AskFork entry arguments room)) (sym (by_fork go entry arguments room answer mid serves h))
  completes_told request go answer mid serves h = refl

  -- and so is which action is deferred behind it
  pub deferral_told : (mark : Option Mark) (request : Request) (go : ℕ → Thread) (answer : ℕ) (mid : State)
      → Serves t request s woken answer mid → Gives (Asks request go)
      → deferred_by_request mark request answer ≡ deferred_by_request mark request event.value
  deferral_told mark (AskFork entry arguments room) go answer mid serves h =
      ap (deferred_by_request mark (AskFork entry arguments room))
      (sym (by_fork go entry arguments room answer mid serves h))
  deferral_told mark request go answer mid serves h = refl
