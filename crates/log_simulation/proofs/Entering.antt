-- Entries of a thread's own that the machine takes, those that it can't, and what comes from outside.
use Rattle.std.proofs.Common.{◌≡◌, ℕ, Bool, true, false, Option, Some, None, Ok, refl, sym, ◌∙◌, ap, subst, inl, inr}
use Rattle.std.proofs.Common.{◌==◌}
use Rattle.std.specs.Prelude.{MatchBool}
use Rattle.isa.specs.Programs.{Program}
use Rattle.locals.specs.Threads.{Thread}
use Rattle.locals.specs.Steps.{local_after}
use Rattle.machine.specs.declared.event.Event.{Event}
use Rattle.machine.specs.declared.event.Entry.{Entry}
use Rattle.machine.specs.States.{thread_of}
use Rattle.piece_machine.specs.PieceConcrete.{PieceConcrete, kill_piece, stray_piece, with_local}
use Rattle.piece_machine.specs.PieceFronts.{OutsidePiece}
use Rattle.machine.specs.ConcreteSteps.{can_move}
use Rattle.machine.specs.FrontRuns.{doing_of}
use Rattle.machine.specs.Runs.{Strayed, Killed}
use Rattle.machine.specs.declared.event.EventName.{EventName}
use Rattle.machine.specs.declared.event.EventName.TheVariants as name
use Rattle.machine.proofs.Placing.{thread_at-put}
use Rattle.runner.specs.Logs.{Ends, Enters, EntersOwn, EntersOutside, is_outside}
use Rattle.runner.proofs.Once.{here_once}
use Rattle.runner.proofs.Owning.{own_entry, piece_kill_told, piece_stray_told, tells_outside}

-- local steps alone
pub enters_locally : (p : Program) (k mid : PieceConcrete) (e : Entry) (n : ℕ) (o here : Thread) → e.event ≡ None
    → can_move k.concrete e.thread ≡ true → thread_of k.concrete e.thread ≡ Some o → n ≡ e.local → local_after p e.thread n o ≡ Some here
    → mid ≡ with_local k e.thread here → EntersOwn p k e mid
enters_locally p k mid e n o here alone moves stands count goes there = record {
  origin = o;
  here = here;
  stands = stands;
  moves = moves;
  goes = subst (λ (j : ℕ). local_after p e.thread j o ≡ Some here) count goes;
  ends = subst (λ (x : Option Event). Ends p (with_local k e.thread here) e.thread here x mid) (sym alone) there;
}

-- a shared step behind them
pub enters_shared : (p q : Program) (k mid new : PieceConcrete) (e : Entry) (event : Event) (n : ℕ) (o here : Thread)
    → e.event ≡ Some event → can_move k.concrete e.thread ≡ true → thread_of k.concrete e.thread ≡ Some o → n ≡ e.local
    → local_after p e.thread n o ≡ Some here → mid ≡ with_local k e.thread here → q ≡ p
    → Ends q mid e.thread here (Some event) new → EntersOwn p k e new
enters_shared p q k mid new e event n o here is moves stands count goes there same ends = record {
  origin = o;
  here = here;
  stands = stands;
  moves = moves;
  goes = subst (λ (j : ℕ). local_after p e.thread j o ≡ Some here) count goes;
  ends = subst (λ (x : Option Event). Ends p (with_local k e.thread here) e.thread here x new) (sym is)
      (subst (λ (z : Program). Ends z (with_local k e.thread here) e.thread here (Some event) new) same
      (subst (λ (m : PieceConcrete). Ends q m e.thread here (Some event) new) there ends));
}

-- where the shared step isn't this one, the entry can't be taken
pub never_shared : (p q : Program) (k mid : PieceConcrete) (e : Entry) (event : Event) (n : ℕ) (o here : Thread)
    → e.event ≡ Some event → thread_of k.concrete e.thread ≡ Some o → n ≡ e.local → local_after p e.thread n o ≡ Some here
    → mid ≡ with_local k e.thread here → q ≡ p
    → ((new : PieceConcrete) → Ends q mid e.thread here (Some event) new → ⊥)
    → (new : PieceConcrete) → EntersOwn p k e new → ⊥
never_shared p q k mid e event n o here is stands count goes there same never new enters =
    let goes' = subst (λ (j : ℕ). local_after p e.thread j o ≡ Some here) count goes in
    let h = here_once p k e.thread e.local enters.origin enters.here o here enters.stands enters.goes stands goes' in
    let a : Ends p (with_local k e.thread here) e.thread here e.event new =
    subst (λ (x : Thread). Ends p (with_local k e.thread x) e.thread x e.event new) h enters.ends in
    let b : Ends p (with_local k e.thread here) e.thread here (Some event) new =
    subst (λ (x : Option Event). Ends p (with_local k e.thread here) e.thread here x new) is a in
    let c : Ends q (with_local k e.thread here) e.thread here (Some event) new =
    subst (λ (z : Program). Ends z (with_local k e.thread here) e.thread here (Some event) new) (sym same) b in
    never new (subst (λ (m : PieceConcrete). Ends q m e.thread here (Some event) new) (sym there) c)

-- a thread stands where it was put
pub put_there : (k mid : PieceConcrete) (t : ℕ) (o here : Thread) → thread_of k.concrete t ≡ Some o
    → mid ≡ with_local k t here → thread_of mid.concrete t ≡ Some here
put_there k mid t o here stands there =
    ap (λ (m : PieceConcrete). thread_of m.concrete t) there ∙ thread_at-put k.concrete.threads t o here stands

true_or_false : (b : Bool) → b ≡ true → b ≡ false → ⊥
true_or_false b is isn't = absurd cc

-- an entry by its event: a thread's own
pub by_own : (p : Program) (k new : PieceConcrete) (e : Entry) (b : Bool) → is_outside e.event ≡ false
    → MatchBool b (EntersOwn p k e new) ((mid : PieceConcrete) → EntersOwn p k e mid → ⊥)
    → MatchBool b (Enters p k e new) ((mid : PieceConcrete) → Enters p k e mid → ⊥)
by_own p k new e true mine enters = inl enters
by_own p k new e false mine never = λ mid enters. either mid enters
  where
    either : (mid : PieceConcrete) → Enters p k e mid → ⊥
    either mid (inl own) = never mid own
    either mid (inr outside) = absurd (true_or_false (is_outside e.event) (tells_outside p k mid e outside) mine)

-- or a wake from outside
pub by_outside : (p : Program) (k new : PieceConcrete) (e : Entry) (b : Bool) → is_outside e.event ≡ true
    → MatchBool b (EntersOutside p k e new) ((mid : PieceConcrete) → EntersOutside p k e mid → ⊥)
    → MatchBool b (Enters p k e new) ((mid : PieceConcrete) → Enters p k e mid → ⊥)
by_outside p k new e true foreign enters = inr enters
by_outside p k new e false foreign never = λ mid enters. either mid enters
  where
    either : (mid : PieceConcrete) → Enters p k e mid → ⊥
    either mid (inl own) = absurd (true_or_false (is_outside e.event) foreign (own_entry p k mid e own))
    either mid (inr outside) = never mid outside

-- a step from outside, of a thread with this event
outside_named : (p : Program) (k mid : PieceConcrete) (e : Entry) (event : Event) → e.event ≡ Some event → EntersOutside p k e mid
    → OutsidePiece p k e.thread event mid
outside_named p k mid e event is outside =
    let both : Some outside.event ≡ Some event = sym outside.is ∙ is in
    let same : outside.event ≡ event = cc in
    subst (λ (x : Event). OutsidePiece p k e.thread x mid) same outside.gives

named_kill : (n : EventName) (v : ℕ) (b : Bool) → doing_of n v ≡ Killed b → n ≡ name.Kill
named_kill name.Kill v b e = refl
named_kill n v b e = absurd cc

named_stray : (v a : ℕ) → doing_of name.Kill v ≡ Strayed a → ⊥
named_stray v a e = cc

-- a wake, or none, of a thread with this event
pub stray_by : (p : Program) (k new : PieceConcrete) (e : Entry) (event : Event) (b : Bool) → e.event ≡ Some event → e.local ≡ 0
    → (event.name ≡ name.Kill → ⊥)
    → MatchBool b (stray_piece k e.thread ≡ Ok (new, event))
    ((mid : PieceConcrete) → stray_piece k e.thread ≡ Ok (mid, event) → ⊥)
    → MatchBool b (EntersOutside p k e new) ((mid : PieceConcrete) → EntersOutside p k e mid → ⊥)
stray_by p k new e event true is alone other gives =
    record { event = event; alone = alone; is = is; gives = inl gives }
stray_by p k new e event false is alone other never = λ mid outside. by_step mid (outside_named p k mid e event is outside)
  where
    by_step : (mid : PieceConcrete) → OutsidePiece p k e.thread event mid → ⊥
    by_step mid (inl gives) = never mid gives
    by_step mid (inr gives) =
        other (named_kill event.name event.value (event.value == 1) (piece_kill_told p k mid e.thread event gives))

-- a kill, or none, of a thread with this event
pub kill_by : (p : Program) (k new : PieceConcrete) (e : Entry) (event : Event) (b : Bool) → e.event ≡ Some event → e.local ≡ 0
    → event.name ≡ name.Kill
    → MatchBool b (kill_piece p k e.thread ≡ Ok (new, event))
    ((mid : PieceConcrete) → kill_piece p k e.thread ≡ Ok (mid, event) → ⊥)
    → MatchBool b (EntersOutside p k e new) ((mid : PieceConcrete) → EntersOutside p k e mid → ⊥)
kill_by p k new e event true is alone named gives =
    record { event = event; alone = alone; is = is; gives = inr gives }
kill_by p k new e event false is alone named never = λ mid outside. by_step mid (outside_named p k mid e event is outside)
  where
    by_step : (mid : PieceConcrete) → OutsidePiece p k e.thread event mid → ⊥
    by_step mid (inl gives) = named_stray event.value event.value
        (sym (ap (λ (n : EventName). doing_of n event.value) named) ∙ piece_stray_told k mid e.thread event gives)
    by_step mid (inr gives) = never mid gives

-- without an event nothing came from outside
pub no_event : (p : Program) (k new : PieceConcrete) (e : Entry) → e.event ≡ None → EntersOutside p k e new → ⊥
no_event p k new e none outside =
    let both : Some outside.event ≡ None = sym outside.is ∙ none in absurd cc
