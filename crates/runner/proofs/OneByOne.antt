-- A run of the machine itself is that of a log: each of its steps is an entry.
use Rattle.std.proofs.Common.{◌≡◌, ℕ, true, false, not, length, [], ◌∷◌, ◌++◌, Option, Some, None, Ok, Err}
use Rattle.std.proofs.Common.{replicate, inl, inr, refl, ap, sym, ◌∙◌}
use Rattle.isa.specs.Programs.{Program}
use Rattle.robustexit.specs.declared.phase.ExitPhase.TheVariants.{Entry as EntryPhase, Pending, ClearId, LastWake, Ended}
use Rattle.robustexit.specs.ExitRules.{exit_of}
use Rattle.locals.specs.Threads.{Thread, Runs as Running, Dies, Exits}
use Rattle.locals.specs.Looks.{Rests, look}
use Rattle.locals.specs.Steps.{local_next}
use Rattle.machine.specs.declared.event.Event.{Event}
use Rattle.machine.specs.declared.event.Entry.{Entry}
use Rattle.machine.specs.declared.event.EventName.TheVariants as name
use Rattle.machine.specs.declared.event.StepFault.{StepFault}
use Rattle.machine.specs.declared.event.StepFault.TheVariants.{CannotMove}
use Rattle.machine.specs.States.{thread_of}
use Rattle.machine.specs.Runs.{has_ended}
use Rattle.machine.specs.ConcreteServing.{plain}
use Rattle.machine.specs.ConcreteSteps.{on_machine, thread_step, step_awake, step_thread, can_move, thread_can_move}
use Rattle.machine.specs.FrontRuns.{EventStep}
use Rattle.piece_machine.specs.PieceConcrete.{PieceConcrete, Outcome, awake_step, look_step, piece_of, whole_at, with_local}
use Rattle.piece_machine.specs.PieceConcrete.{thread_step as piece_at_thread}
use Rattle.piece_machine.specs.PieceFronts.{FrontPiece, OutsidePiece}
use Rattle.runner.specs.Logs.{Enters}
use Rattle.runner.specs.LogRuns.{LogsSo, local_step_of, shared_step_of}
use Rattle.runner.proofs.Handing.{piece_goes}
use Rattle.runner.proofs.Owning.{inside}
use Rattle.runner.proofs.Unrolling.{put_back, put_twice}

done_or_not : (r : Outcome) (q : PieceConcrete × Event) (f : StepFault) → r ≡ Ok q → r ≡ Err f → ⊥
done_or_not (Ok x) q f done fails = cc
done_or_not (Err g) q f done fails = cc

-- a thread that took a step was awake, and has not ended
record IsAwake (p : Program) (k : PieceConcrete) (t : ℕ) : Type 0 where
  pub thread : Thread
  pub stands : thread_of k.concrete t ≡ Some thread
  pub awake : k.concrete.common.asleep t ≡ None

awake_by : (p : Program) (k : PieceConcrete) (t : ℕ) (q : PieceConcrete × Event) (o : Option Thread) (a : Option ℕ)
    → thread_of k.concrete t ≡ o → k.concrete.common.asleep t ≡ a → piece_of p k t ≡ Ok q → IsAwake p k t
awake_by p k t q None a stands awake done =
    absurd (done_or_not (piece_of p k t) q CannotMove done (ap (piece_at_thread p k t) stands))
awake_by p k t q (Some x) (Some a) stands awake done =
    absurd (done_or_not (piece_of p k t) q CannotMove done (ap (piece_at_thread p k t) stands
    ∙ ap (awake_step p k t x) awake))
awake_by p k t q (Some x) None stands awake done = record { thread = x; stands = stands; awake = awake }

rested : (p : Program) (k : PieceConcrete) (t : ℕ) (x : Thread) → look p t x ≡ Rests → thread_of k.concrete t ≡ Some x
    → k.concrete.common.asleep t ≡ None → piece_of p k t ≡ Err CannotMove
rested p k t x rests stands awake =
    ap (piece_at_thread p k t) stands ∙ ap (awake_step p k t x) awake ∙ ap (look_step p k t) rests
    ∙ ap (whole_at k) (ap (step_thread p k.concrete t) stands ∙ ap (step_awake p k.concrete t x) awake
    ∙ ap (λ l. on_machine k.concrete t (thread_step (exit_of p.version) (length k.concrete.threads) t k.concrete.common l)) rests)

goes_by : (p : Program) (k : PieceConcrete) (t : ℕ) (q : PieceConcrete × Event) (x : Thread)
    → thread_of k.concrete t ≡ Some x → k.concrete.common.asleep t ≡ None → piece_of p k t ≡ Ok q
    → has_ended (Some x) ≡ false
goes_by p k t q (Running place operands locals callers) stands awake done = refl
goes_by p k t q (Dies cause) stands awake done = refl
goes_by p k t q (Exits (EntryPhase e seen)) stands awake done = refl
goes_by p k t q (Exits Pending) stands awake done = refl
goes_by p k t q (Exits ClearId) stands awake done = refl
goes_by p k t q (Exits LastWake) stands awake done = refl
goes_by p k t q (Exits Ended) stands awake done =
    absurd (done_or_not (piece_of p k t) q CannotMove done (rested p k t (Exits Ended) refl stands awake))

moved : (p : Program) (k : PieceConcrete) (t : ℕ) (q : PieceConcrete × Event) (w : IsAwake p k t) → piece_of p k t ≡ Ok q
    → can_move k.concrete t ≡ true
moved p k t q w done =
    (λ i. thread_can_move (w.awake i) (w.stands i)) ∙ ap not (goes_by p k t q w.thread w.stands w.awake done)

-- a turn of one local step, or no local step and a shared one
record IsEntry (p : Program) (k : PieceConcrete) (s : EventStep) (k' : PieceConcrete) : Type 0 where
  pub entry : Entry
  pub enters : Enters p k entry k'
  pub steps : replicate entry.local (local_step_of entry.thread) ++ shared_step_of entry.thread entry.event ≡ s ∷ []

shared_entry : (p : Program) (k k' : PieceConcrete) (s : EventStep) (x : Thread) → thread_of k.concrete s.thread ≡ Some x
    → can_move k.concrete s.thread ≡ true → local_next (look p s.thread x) ≡ None
    → piece_of p k s.thread ≡ Ok (k', s.event) → IsEntry p k s k'
shared_entry p k k' s x stands moves shared gives = record {
  entry = record { thread = s.thread; local = 0; event = Some s.event };
  enters = inl (record {
    origin = x;
    here = x;
    stands = stands;
    moves = moves;
    goes = refl;
    ends = (shared, ap (λ (q : PieceConcrete). piece_of p q s.thread) (put_back k s.thread x stands) ∙ gives);
  });
  steps = refl;
}

local_entry : (p : Program) (k k' : PieceConcrete) (s : EventStep) (x y : Thread) → local_next (look p s.thread x) ≡ Some y
    → thread_of k.concrete s.thread ≡ Some x → k.concrete.common.asleep s.thread ≡ None
    → can_move k.concrete s.thread ≡ true → piece_of p k s.thread ≡ Ok (k', s.event) → IsEntry p k s k'
local_entry p k k' s x y goes stands awake moves gives =
    let t = s.thread in
    let back = put_back k t x stands in
    let same = inside (k', s.event) (with_local (with_local k t x) t y, plain name.Local 0) (sym gives
    ∙ sym (ap (λ (q : PieceConcrete). piece_of p q t) back) ∙ piece_goes p k t x x y awake stands goes) in
    record {
      entry = record { thread = t; local = 1; event = None };
      enters = inl (record {
        origin = x;
        here = y;
        stands = stands;
        moves = moves;
        goes = goes;
        ends = ap (λ (q : PieceConcrete × Event). q.0) same ∙ put_twice k t x y;
      });
      steps = λ i. record { thread = t; event = (sym same i).1 } ∷ [];
    }

entry_by : (p : Program) (k k' : PieceConcrete) (s : EventStep) (x : Thread) (next : Option Thread)
    → local_next (look p s.thread x) ≡ next → thread_of k.concrete s.thread ≡ Some x
    → k.concrete.common.asleep s.thread ≡ None → can_move k.concrete s.thread ≡ true
    → piece_of p k s.thread ≡ Ok (k', s.event) → IsEntry p k s k'
entry_by p k k' s x None is stands awake moves gives = shared_entry p k k' s x stands moves is gives
entry_by p k k' s x (Some y) is stands awake moves gives = local_entry p k k' s x y is stands awake moves gives

entry_of : (p : Program) (k k' : PieceConcrete) (s : EventStep) → piece_of p k s.thread ≡ Ok (k', s.event)
    → IsEntry p k s k'
entry_of p k k' s gives =
    let w = awake_by p k s.thread (k', s.event) (thread_of k.concrete s.thread) (k.concrete.common.asleep s.thread)
    refl refl gives in
    entry_by p k k' s w.thread (local_next (look p s.thread w.thread)) refl w.stands w.awake
    (moved p k s.thread (k', s.event) w gives) gives

-- a wake or a kill from outside is an entry of its own
outside_entry : (p : Program) (k k' : PieceConcrete) (s : EventStep) → OutsidePiece p k s.thread s.event k'
    → IsEntry p k s k'
outside_entry p k k' s gives = record {
  entry = record { thread = s.thread; local = 0; event = Some s.event };
  enters = inr (record { event = s.event; alone = refl; is = refl; gives = gives });
  steps = refl;
}

front_entry : (p : Program) (k k' : PieceConcrete) (s : EventStep) → FrontPiece p k s k' → IsEntry p k s k'
front_entry p k k' s (inl own) = entry_of p k k' s own
front_entry p k k' s (inr outside) = outside_entry p k k' s outside

pub logs_so : LogsSo
logs_so p k k' [] same = ([], same, refl)
logs_so p k k' (s ∷ steps) runs =
    let e = front_entry p k runs.0 s runs.1 in
    let rest = logs_so p runs.0 k' steps runs.2 in
    (e.entry ∷ rest.0, (runs.0, e.enters, rest.1), λ i. e.steps i ++ rest.2 i)
