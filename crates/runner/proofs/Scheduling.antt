-- Steps that are taken one by one, each an entry of its own.
use Rattle.std.proofs.Common.{◌≡◌, ℕ, ◌+◌, ◌<◌, ◌≤◌, ◌^◌, ◌⊎◌, List, [], ◌∷◌, ◌++◌, take, length}
use Rattle.std.proofs.Common.{Bool, true, false, zero, suc, is_ok, is_err, is_some, if◌then◌else◌, Some, Result, Ok, Err, IfOk, IfErr}
use Rattle.std.proofs.Common.{Option, None, refl, ap, sym, ◌∙◌, subst, arith, get_or, inl, inr}
use Rattle.std.specs.List.{All}
use Rattle.std.proofs.lemmas.List.{take_more, map-append}
use Rattle.std.proofs.lemmas.List.Elements.{All-append, All-cons, All-nil}
use Rattle.std.proofs.lemmas.Option.{slice_get-get_or}
use Rattle.isa.specs.Programs.{Program}
use Rattle.locals.specs.Threads.{Thread}
use Rattle.locals.specs.Steps.{local_step, local_after}
use Rattle.machine.specs.declared.event.Entry.{Entry}
use Rattle.machine.specs.declared.event.Event.{Event}
use Rattle.machine.specs.Runs.{Doing}
use Rattle.machine.specs.declared.event.StepFault.{StepFault}
use Rattle.machine.specs.declared.event.StepFault.TheVariants.{CannotMove, Broken}
use Rattle.machine.specs.Views.{concrete}
use Rattle.piece_machine.specs.PieceConcrete.{PieceConcrete, can_take, kill_piece, piece_of, stray_piece, with_local}
use Rattle.piece_machine.specs.PieceDetermined.{IsFit}
use Rattle.piece_machine.specs.PieceViews.{PieceView as MachineView, parts}
use Rattle.piece_machine.proofs.Refused.{piece_refuses_so}
use Rattle.piece_machine.proofs.Wanted.{takes_so}
use Rattle.runner.specs.declared.report.Report.{Report}
use Rattle.runner.specs.declared.schedule.ScheduleFault.{ScheduleFault}
use Rattle.runner.specs.declared.schedule.ScheduleFault.TheVariants.{Memory}
use Rattle.runner.specs.declared.schedule.Turn.{Turn}
use Rattle.runner.specs.declared.schedule.Turn.TheVariants.{Step, Stray, Kill}
use Rattle.runner.specs.Logs.{Ends, Enters, EntersOutside, EntersOwn, event_cost, opening}
use Rattle.runner.specs.Reports.{IsVerdict}
use Rattle.runner.specs.Schedules.{FailsAt, Follows, IsFollowed, IsOneStep, RefusesSchedule, turn_by, turn_by_event}
use Rattle.runner.specs.Schedules.{turn_of}
use Rattle.runner.proofs.Going.{runs_more}
use Rattle.runner.proofs.Owning.{piece_kill_told, piece_own, piece_stray_told}

single_more : (log : List Entry) (e : Entry) → All IsOneStep log → IsOneStep e → All IsOneStep (log ++ e ∷ [])
single_more log e all one =
    All-append IsOneStep log (e ∷ []) all (All-cons IsOneStep e [] one (All-nil IsOneStep))

-- an entry that was pushed stands at the end
pub pushed : {A E : Type 0} (r : Result A E) (b : Bool) (new old : List Entry) (e : Entry) → b ≡ is_err r → b ≡ false
    → new ≡ (if is_ok r then old ++ e ∷ [] else old) → new ≡ old ++ e ∷ []
pushed (Ok x) b new old e is ended items = items
pushed (Err x) b new old e is ended items = absurd cc

-- the turn that an entry was
own_end : (p : Program) (k k' : PieceConcrete) (t : ℕ) (here : Thread) (event : Option Event) → Ends p k t here event k'
    → turn_by_event event t ≡ Step t
own_end p k k' t here None ends = refl
own_end p k k' t here (Some event) ends = ap (λ (d : Doing). turn_by d t) (piece_own p k k' t event ends.1)

own_turn : (p : Program) (k k' : PieceConcrete) (e : Entry) (t : ℕ) → EntersOwn p k e k' → e.thread ≡ t
    → turn_of e ≡ Step t
own_turn p k k' e t enters is =
    own_end p (with_local k e.thread enters.here) k' e.thread enters.here e.event enters.ends ∙ ap Step is

-- what was taken is an entry of this turn
pub own_taken : (p : Program) (k k' : PieceConcrete) (number t : ℕ) (turn : Turn) (r : Result Entry ScheduleFault)
    → turn ≡ Step t → number < 2 ^ 32 → IfOk r (λ e. EntersOwn p k e k' × (e.thread ≡ t) × IsOneStep e)
    → IfOk r (λ e. Enters p k e k' × (turn_of e ≡ turn) × IsOneStep e × (number < 2 ^ 32))
own_taken p k k' number t turn (Ok e) is few h = (inl h.0, own_turn p k k' e t h.0 h.1 ∙ sym is, h.2, few)
own_taken p k k' number t turn (Err f) is few h = h

pub woken_turn : (k k' : PieceConcrete) (t : ℕ) (event : Event) → stray_piece k t ≡ Ok (k', event)
    → turn_by_event (Some event) t ≡ Stray t
woken_turn k k' t event gives = ap (λ (d : Doing). turn_by d t) (piece_stray_told k k' t event gives)

pub killed_turn : (p : Program) (k k' : PieceConcrete) (t : ℕ) (event : Event) → kill_piece p k t ≡ Ok (k', event)
    → turn_by_event (Some event) t ≡ Kill t
killed_turn p k k' t event gives = ap (λ (d : Doing). turn_by d t) (piece_kill_told p k k' t event gives)

pub outside_taken : (p : Program) (k k' : PieceConcrete) (number : ℕ) (turn other : Turn)
    (r : Result Entry ScheduleFault) → turn ≡ other → number < 2 ^ 32
    → IfOk r (λ e. EntersOutside p k e k' × (turn_of e ≡ other))
    → IfOk r (λ e. Enters p k e k' × (turn_of e ≡ turn) × IsOneStep e × (number < 2 ^ 32))
outside_taken p k k' number turn other (Ok e) is few h =
    (inr h.0, h.1 ∙ sym is, omega (arith, h.0.alone, ap event_cost h.0.is), few)
outside_taken p k k' number turn other (Err f) is few h = h

-- the turn is refused as the one that it is
pub refused_so : (p : Program) (k : PieceConcrete) (number : ℕ) (turn other : Turn) (r : Result Entry ScheduleFault)
    → turn ≡ other → IfErr r (λ fault. RefusesSchedule p k number other fault)
    → IfErr r (λ fault. RefusesSchedule p k number turn fault)
refused_so p k number turn other r is h =
    subst (λ (x : Turn). IfErr r (λ fault. RefusesSchedule p k number x fault)) (sym is) h

-- one entry more
pub follows_more : (p q : Program) (schedule : List Turn) (i : ℕ) (d turn : Turn) (log log' : List Entry)
    (k k' : PieceConcrete) (e : Entry) → i < length schedule → get_or schedule i d ≡ turn → q ≡ p
    → Follows p (take i schedule) log k → Enters q k e k' → turn_of e ≡ turn → IsOneStep e → log' ≡ log ++ e ∷ []
    → Follows p (take (i + 1) schedule) log' k'
follows_more p q schedule i d turn log log' k k' e inside names same f enters is one grows =
    let entered : Enters p k e k' = subst (λ (z : Program). Enters z k e k') same enters in
    let next : take (i + 1) schedule ≡ take i schedule ++ turn_of e ∷ [] =
    take_more schedule i d inside ∙ ap (λ (n : Turn). take i schedule ++ n ∷ []) (names ∙ sym is) in
    let all : Follows p (take i schedule ++ turn_of e ∷ []) (log ++ e ∷ []) k' = record {
      legal = runs_more p (opening p) k k' log e f.legal entered;
      turns = map-append turn_of log (e ∷ []) ∙ ap (λ (ts : List Turn). ts ++ turn_of e ∷ []) f.turns;
      single = single_more log e f.single one;
    } in
    subst (λ (ts : List Turn). Follows p ts log' k') (sym next)
    (subst (λ (es : List Entry). Follows p (take i schedule ++ turn_of e ∷ []) es k') (sym grows) all)

-- the turn that is refused
pub fails_at : (p q : Program) (schedule : List Turn) (i number : ℕ) (d turn : Turn) (log : List Entry)
    (k : PieceConcrete) (fault : ScheduleFault) → i < length schedule → get_or schedule i d ≡ turn → i < 2 ^ 32
    → number ≡ i + 1 → q ≡ p → Follows p (take i schedule) log k → RefusesSchedule q k number turn fault
    → FailsAt p schedule fault
fails_at p q schedule i number d turn log k fault inside names few is same f refuses =
    inr (
      i,
      k,
      turn,
      record {
        log = log;
        follows = f;
        few = few;
        names = slice_get-get_or schedule i d inside ∙ ap (λ (n : Turn). Some n) names;
      },
      (let P : ℕ → Type 0 = λ n. RefusesSchedule p k n turn fault in
          subst P is (let Q : Program → Type 0 = λ z. RefusesSchedule z k number turn fault in subst Q same refuses)),
    )

-- the report of a schedule that was followed to its end
pub followed : (p : Program) (schedule : List Turn) (log : List Entry) (last : MachineView) (r : Report)
    → length schedule < 2 ^ 32 → Follows p schedule log (parts last)
    → last.view.program ≡ p → r.log.items ≡ log → r.last ≡ last → r.output.items ≡ last.view.output
    → IsVerdict (concrete last.view) r.verdict → IsFollowed p schedule r
followed p schedule log last r few all program logged same output verdict =
    let of_log : Follows p schedule r.log.items (parts last) = subst
    (λ (es : List Entry). Follows p schedule es (parts last)) (sym logged) all in
    record {
      follows = subst (λ (v : MachineView). Follows p schedule r.log.items (parts v)) (sym same) of_log;
      few = few;
      program = ap (λ (v : MachineView). v.view.program) same ∙ program;
      output = output ∙ ap (λ (v : MachineView). v.view.output) (sym same);
      verdict = subst (λ (v : MachineView). IsVerdict (concrete v.view) r.verdict) (sym same) verdict;
    }

-- what is refused behind turns that were taken, or for want of memory
pub fails_behind : {T : Type 0} (p : Program) (schedule : List Turn) (done : Result T ScheduleFault) (fault : ScheduleFault)
    → IfErr done (λ (f : ScheduleFault). FailsAt p schedule f) → (fault ≡ Memory) ⊎ (done ≡ Err fault)
    → FailsAt p schedule fault
fails_behind p schedule done fault fails (inl is) =
    subst (λ (f : ScheduleFault). FailsAt p schedule f) (sym is) (inl tt)
fails_behind p schedule done fault fails (inr is) =
    subst (λ (r : Result _ ScheduleFault). IfErr r (λ (f : ScheduleFault). FailsAt p schedule f)) is fails

-- a thread that can take a step is refused it only where that may not be
pub only_broken : (p : Program) (k : PieceConcrete) (t : ℕ) (f : StepFault) → IsFit p k → can_take p k t ≡ true
    → piece_of p k t ≡ Err f → piece_of p k t ≡ Err Broken
only_broken p k t Broken fit takes fails = fails
only_broken p k t CannotMove fit takes fails =
    absurd ((piece_refuses_so p k t fit).0 fails ((takes_so p k t).0 takes))

some_or_none : (o : Option Thread) → true ≡ is_some o → o ≡ None → ⊥
some_or_none None some none = absurd cc
some_or_none (Some x) some none = absurd cc

-- who stands before a local step takes one
pub one_local : (p : Program) (t n : ℕ) (o here x : Thread) → Some o ≡ Some x → true ≡ is_some (local_step p t x)
    → local_after p t n o ≡ Some here → n ≤ 1 → (n < 1 → local_step p t here ≡ None) → n ≡ 1
one_local p t zero o here x same before goes few whole =
    let is : o ≡ here = cc in
    let at : o ≡ x = cc in
    absurd (some_or_none (local_step p t x) before
    (ap (local_step p t) (sym at ∙ is) ∙ whole (omega arith)))
one_local p t (suc n) o here x same before goes few whole = omega arith
