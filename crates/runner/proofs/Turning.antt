-- Entries that are taken by the threads and counts of others, and those that can't be.
use Rattle.std.proofs.Common.{◌≡◌, ℕ, ◌+◌, ◌<◌, ◌≤◌, ◌^◌, ◌⊎◌, List, [], ◌∷◌, ◌++◌, map, take, length, Bool, true}
use Rattle.std.proofs.Common.{false, Option, Some, None, is_some, Result, Ok, Err, get_or, refl, ap, sym}
use Rattle.std.proofs.Common.{◌∙◌, subst, arith, inl, inr, is_ok, IfOk, IfErr}
use Rattle.std.proofs.lemmas.List.{take_more, take_all, map-append}
use Rattle.std.proofs.lemmas.List.Sums.{sum_by-append}
use Rattle.std.proofs.lemmas.Option.{slice_get-get_or}
use Rattle.isa.specs.Programs.{Program}
use Rattle.locals.specs.Threads.{Thread}
use Rattle.locals.specs.Steps.{local_step, local_after}
use Rattle.machine.specs.declared.event.Event.{Event}
use Rattle.machine.specs.declared.event.Entry.{Entry}
use Rattle.machine.specs.States.{thread_of}
use Rattle.machine.specs.ConcreteSteps.{can_move}
use Rattle.machine.specs.Views.{concrete}
use Rattle.piece_machine.specs.PieceConcrete.{PieceConcrete, kill_piece, stray_piece, with_local}
use Rattle.piece_machine.specs.PieceViews.{PieceView as MachineView, parts}
use Rattle.machine.specs.declared.event.StepFault.{StepFault}
use Rattle.machine.proofs.Placing.{thread_at-put}
use Rattle.runner.specs.declared.report.Report.{Report}
use Rattle.runner.specs.LogSchedules.{Shape, shape_of, FollowsLog, IsFollowedLog, CannotTake, IsBadLogEntry, FailsLogAt}
use Rattle.runner.specs.declared.log_schedule.FollowLogFault.{FollowLogFault}
use Rattle.runner.specs.declared.log_schedule.FollowLogFault.TheVariants.{Memory}
use Rattle.runner.specs.Logs.{Runs, Enters, EntersOwn, EntersOutside, Ends, cost, event_cost, opening}
use Rattle.runner.specs.Logs.{is_kill, is_killing, is_outside}
use Rattle.runner.specs.Reports.{IsVerdict}
use Rattle.runner.proofs.Going.{runs_more}
use Rattle.runner.proofs.Owning.{own_entry, piece_kill_told, piece_stray_told, tells_outside}
use Rattle.runner.proofs.Growing.{entry}
use Rattle.runner.proofs.Once.{here_once, never_local}

true_or_false : (b : Bool) → b ≡ true → b ≡ false → ⊥
true_or_false b is isn't = absurd cc

-- an entry of a shape that isn't from outside is its thread's own
own_of : (p : Program) (k k' : PieceConcrete) (e : Entry) (shape : Shape) → shape_of e ≡ shape → shape.outside ≡ false
    → Enters p k e k' → EntersOwn p k e k'
own_of p k k' e shape is mine (inl enters) = enters
own_of p k k' e shape is mine (inr outside) =
    absurd (true_or_false (is_outside e.event) (tells_outside p k k' e outside) (ap (λ (s : Shape). s.outside) is ∙ mine))

-- a thread that can't move
pub no_mover : (p : Program) (k : PieceConcrete) (shape : Shape) → shape.outside ≡ false
    → can_move k.concrete shape.thread ≡ false → CannotTake p k shape
no_mover p k shape mine rests e k' is enters =
    true_or_false (can_move k.concrete e.thread) (own_of p k k' e shape is mine enters).moves
    (ap (λ (s : Shape). can_move k.concrete s.thread) is ∙ rests)

-- why an entry from outside can't be taken: it has local steps, or what it is is refused
abbrev pub IsRefused : Program → PieceConcrete → Shape → Type 0
IsRefused p k shape = (0 < shape.local)
    ⊎ ((shape.kill ≡ false) × (f : StepFault) × (stray_piece k shape.thread ≡ Err f))
    ⊎ ((shape.kill ≡ true) × (f : StepFault) × (kill_piece p k shape.thread ≡ Err f))

done_or_not : (r : Result (PieceConcrete × Event) StepFault) (x : PieceConcrete × Event) (f : StepFault)
    → r ≡ Ok x → r ≡ Err f → ⊥
done_or_not r x f done refused = absurd cc

-- an entry from outside of such a shape
refused_outside : (p : Program) (k k' : PieceConcrete) (e : Entry) (shape : Shape) → shape_of e ≡ shape
    → EntersOutside p k e k' → IsRefused p k shape → ⊥
refused_outside p k k' e shape is outside (inl some) =
    let n : e.local ≡ shape.local = ap (λ (s : Shape). s.local) is in
    absurd (omega (arith, some, n, outside.alone))
refused_outside p k k' e shape is outside (inr (inl refused)) = elim outside.gives [
  | inl wakes ↦ done_or_not (stray_piece k shape.thread) (k', outside.event) refused.1
      (subst (λ (t : ℕ). stray_piece k t ≡ Ok (k', outside.event)) (ap (λ (s : Shape). s.thread) is) wakes) refused.2
  | inr kills ↦ true_or_false shape.kill (sym (ap (λ (s : Shape). s.kill) is) ∙ (ap is_kill outside.is
      ∙ ap is_killing (piece_kill_told p k k' e.thread outside.event kills))) refused.0
]
refused_outside p k k' e shape is outside (inr (inr refused)) = elim outside.gives [
  | inl wakes ↦ true_or_false shape.kill refused.0 (sym (ap (λ (s : Shape). s.kill) is) ∙ (ap is_kill outside.is
      ∙ ap is_killing (piece_stray_told k k' e.thread outside.event wakes)))
  | inr kills ↦ done_or_not (kill_piece p k shape.thread) (k', outside.event) refused.1
      (subst (λ (t : ℕ). kill_piece p k t ≡ Ok (k', outside.event)) (ap (λ (s : Shape). s.thread) is) kills) refused.2
]

-- a shape from outside that is refused
pub no_outside : (p : Program) (k : PieceConcrete) (shape : Shape) → shape.outside ≡ true → IsRefused p k shape
    → CannotTake p k shape
no_outside p k shape foreign why e k' is (inl own) =
    true_or_false (is_outside e.event) (ap (λ (s : Shape). s.outside) is ∙ foreign) (own_entry p k k' e own)
no_outside p k shape foreign why e k' is (inr outside) = refused_outside p k k' e shape is outside why

-- fewer local steps
pub too_few : (p : Program) (k : PieceConcrete) (shape : Shape) (m : ℕ) (o h : Thread)
    → thread_of k.concrete shape.thread ≡ Some o → local_after p shape.thread m o ≡ Some h
    → local_step p shape.thread h ≡ None → m < shape.local → CannotTake p k shape
too_few p k shape m o h stands goes none less e k' is enters =
    let t : e.thread ≡ shape.thread = ap (λ (s : Shape). s.thread) is in
    let n : e.local ≡ shape.local = ap (λ (s : Shape). s.local) is in
    never_local p k e m o h (ap (thread_of k.concrete) t ∙ stands) (ap (λ u. local_after p u m o) t ∙ goes)
    (ap (λ u. local_step p u h) t ∙ none) (omega (arith, less, n)) k' enters

-- no shared step behind the local ones
pub no_shared : (p q : Program) (k mid : PieceConcrete) (shape : Shape) (o h : Thread)
    → shape.outside ≡ false
    → thread_of k.concrete shape.thread ≡ Some o → local_after p shape.thread shape.local o ≡ Some h → shape.shared ≡ true
    → q ≡ p → mid ≡ with_local k shape.thread h
    → ((here : Thread) (event : Event) (k' : PieceConcrete) → thread_of mid.concrete shape.thread ≡ Some here
    → Ends q mid shape.thread here (Some event) k' → ⊥)
    → CannotTake p k shape
no_shared p q k mid shape o h alone stands goes shared own there never e k' is enters =
    by e.event refl
  where
    mine : EntersOwn p k e k'
    mine = own_of p k k' e shape is alone enters

    t : e.thread ≡ shape.thread
    t = ap (λ (s : Shape). s.thread) is

    n : e.local ≡ shape.local
    n = ap (λ (s : Shape). s.local) is

    same : mine.here ≡ h
    same = here_once p k e.thread e.local mine.origin mine.here o h mine.stands mine.goes
        (ap (thread_of k.concrete) t ∙ stands)
        ((λ i. local_after p (t i) (n i) o) ∙ goes)

    by : (event : Option Event) → e.event ≡ event → ⊥
    by None none = true_or_false (is_some e.event) (ap (λ (s : Shape). s.shared) is ∙ shared) (ap is_some none)
    by (Some event) some =
        never h event k' (ap (λ (m : PieceConcrete). thread_of m.concrete shape.thread) there
        ∙ thread_at-put k.concrete.threads shape.thread o h stands)
        (subst (λ (z : Program). Ends z mid shape.thread h (Some event) k') (sym own)
        (subst (λ (m : PieceConcrete). Ends p m shape.thread h (Some event) k') (sym there)
        (subst (λ (u : ℕ). Ends p (with_local k u h) u h (Some event) k') t
        (subst (λ (x : Thread). Ends p (with_local k e.thread x) e.thread x (Some event) k') same
        (subst (λ (v : Option Event). Ends p (with_local k e.thread mine.here) e.thread mine.here v k') some
        mine.ends)))))

-- local steps, and the shared step behind them
pub takes_shared : (p q : Program) (k mid k' : PieceConcrete) (t n : ℕ) (o h : Thread) (event : Event)
    → can_move k.concrete t ≡ true → thread_of k.concrete t ≡ Some o → local_after p t n o ≡ Some h → q ≡ p → mid ≡ with_local k t h
    → ((here : Thread) → thread_of mid.concrete t ≡ Some here → Ends q mid t here (Some event) k')
    → EntersOwn p k (entry t n (Some event)) k'
takes_shared p q k mid k' t n o h event moves stands goes own there ends = record {
  origin = o;
  here = h;
  stands = stands;
  moves = moves;
  goes = goes;
  ends = subst (λ (z : Program). Ends z (with_local k t h) t h (Some event) k') own
      (subst (λ (m : PieceConcrete). Ends q m t h (Some event) k') there
      (ends h (ap (λ (m : PieceConcrete). thread_of m.concrete t) there ∙ thread_at-put k.concrete.threads t o h stands)));
}

-- entries of the same shape cost the same
shape_cost : (e f : Entry) → shape_of e ≡ shape_of f
    → e.local + event_cost e.event ≡ f.local + event_cost f.event
shape_cost e f is =
    let n : e.local ≡ f.local = ap (λ (s : Shape). s.local) is in
    let s : is_some e.event ≡ is_some f.event = ap (λ (s : Shape). s.shared) is in
    let c = events_cost e.event f.event s in
    omega (arith, n, c)
  where
    events_cost : (a b : Option Event) → is_some a ≡ is_some b → event_cost a ≡ event_cost b
    events_cost None None s = refl
    events_cost None (Some b) s = absurd cc
    events_cost (Some a) None s = absurd cc
    events_cost (Some a) (Some b) s = refl

-- one entry more
pub cost_more : (log : List Entry) (e : Entry) → cost (log ++ e ∷ []) ≡ cost log + (e.local + event_cost e.event)
cost_more log e =
    let h : cost (log ++ e ∷ []) ≡ cost log + cost (e ∷ []) =
    sum_by-append (λ (x : Entry). x.local + event_cost x.event) log (e ∷ []) in omega (arith, h)

pub shapes_more : (p q : Program) (entries : List Entry) (i : ℕ) (d f : Entry) (log log' : List Entry)
    (k k' : PieceConcrete) (e : Entry) → i < length entries → get_or entries i d ≡ f → q ≡ p
    → FollowsLog p (map shape_of (take i entries)) log k → Enters q k e k' → shape_of e ≡ shape_of f
    → log' ≡ log ++ e ∷ [] → cost log + (f.local + event_cost f.event) < 2 ^ 32
    → FollowsLog p (map shape_of (take (i + 1) entries)) log' k'
    × (cost log' ≡ cost log + (f.local + event_cost f.event))
shapes_more p q entries i d f log log' k k' e inside names own follows enters is grows few =
    let entered : Enters p k e k' = subst (λ (z : Program). Enters z k e k') own enters in
    let next : take (i + 1) entries ≡ take i entries ++ f ∷ [] =
    take_more entries i d inside ∙ ap (λ (x : Entry). take i entries ++ x ∷ []) names in
    let more : cost log' ≡ cost log + (e.local + event_cost e.event) = ap cost grows ∙ cost_more log e in
    let same_cost = shape_cost e f is in (
      record {
        legal = subst (λ (es : List Entry). Runs p (opening p) es k') (sym grows)
            (runs_more p (opening p) k k' log e follows.legal entered);
        same = ap (map shape_of) grows ∙ map-append shape_of log (e ∷ [])
            ∙ (λ j. follows.same j ++ is j ∷ []) ∙ sym (map-append shape_of (take i entries) (f ∷ []))
            ∙ ap (map shape_of) (sym next);
        few = omega (arith, more, same_cost, few);
      },
      omega (arith, more, same_cost),
    )

-- the entry that can't be followed
pub bad_entry : (p q : Program) (entries : List Entry) (i number : ℕ) (d f : Entry) (log : List Entry)
    (k : PieceConcrete) → i < length entries → get_or entries i d ≡ f → number ≡ i + 1 → q ≡ p
    → FollowsLog p (map shape_of (take i entries)) log k
    → CannotTake q k (shape_of f) ⊎ (2 ^ 32 ≤ cost log + (f.local + event_cost f.event))
    → IsBadLogEntry p entries number
bad_entry p q entries i number d f log k inside names is own follows refuses = record {
  before = i;
  counted = is;
  entry = f;
  names = slice_get-get_or entries i d inside ∙ ap (λ (x : Entry). Some x) names;
  log = log;
  concrete = k;
  follows = follows;
  refuses = subst (λ (z : Program). CannotTake z k (shape_of f)
      ⊎ (2 ^ 32 ≤ cost log + (f.local + event_cost f.event))) own refuses;
}

-- the report of a log that was followed to its end
pub followed_log : (p : Program) (entries : List Entry) (i : ℕ) (log : List Entry) (last : MachineView) (r : Report)
    → length entries ≤ i → FollowsLog p (map shape_of (take i entries)) log (parts last)
    → last.view.program ≡ p → r.log.items ≡ log → r.last ≡ last → r.output.items ≡ last.view.output
    → IsVerdict (concrete last.view) r.verdict → IsFollowedLog p entries r
followed_log p entries i log last r past f program logged same output verdict =
    let all : FollowsLog p (map shape_of entries) log (parts last) =
    subst (λ (es : List Entry). FollowsLog p (map shape_of es) log (parts last)) (take_all i entries past) f in
    let of_log : FollowsLog p (map shape_of entries) r.log.items (parts last) =
    subst (λ (es : List Entry). FollowsLog p (map shape_of entries) es (parts last)) (sym logged) all in
    record {
      follows = subst (λ (v : MachineView). FollowsLog p (map shape_of entries) r.log.items (parts v)) (sym same) of_log;
      program = ap (λ (v : MachineView). v.view.program) same ∙ program;
      output = output ∙ ap (λ (v : MachineView). v.view.output) (sym same);
      verdict = subst (λ (v : MachineView). IsVerdict (concrete v.view) r.verdict) (sym same) verdict;
    }

-- the same, where all entries were followed
pub followed_all : (p : Program) (entries : List Entry) (log : List Entry) (last : MachineView) (r : Report)
    → FollowsLog p (map shape_of entries) log (parts last)
    → last.view.program ≡ p → r.log.items ≡ log → r.last ≡ last → r.output.items ≡ last.view.output
    → IsVerdict (concrete last.view) r.verdict → IsFollowedLog p entries r
followed_all p entries log last r all program logged same output verdict =
    let of_log : FollowsLog p (map shape_of entries) r.log.items (parts last) =
    subst (λ (es : List Entry). FollowsLog p (map shape_of entries) es (parts last)) (sym logged) all in
    record {
      follows = subst (λ (v : MachineView). FollowsLog p (map shape_of entries) r.log.items (parts v)) (sym same) of_log;
      program = ap (λ (v : MachineView). v.view.program) same ∙ program;
      output = output ∙ ap (λ (v : MachineView). v.view.output) (sym same);
      verdict = subst (λ (v : MachineView). IsVerdict (concrete v.view) r.verdict) (sym same) verdict;
    }

-- what holds where there was no error
pub on_ok : {T E : Type 0} (r : Result T E) (P : Type 0) → is_ok r ≡ true → IfOk r (λ (x : T). P) → P
on_ok (Ok x) P ok p = p
on_ok (Err e) P ok p = absurd cc

-- what is refused behind entries that were followed, or as they were
pub fails_behind : {T : Type 0} (p : Program) (entries : List Entry) (done : Result T FollowLogFault) (fault : FollowLogFault)
    → IfErr done (λ (f : FollowLogFault). FailsLogAt p entries f) → (fault ≡ Memory) ⊎ (done ≡ Err fault)
    → FailsLogAt p entries fault
fails_behind p entries done fault fails (inl is) = subst (λ (f : FollowLogFault). FailsLogAt p entries f) (sym is) tt
fails_behind p entries done fault fails (inr is) =
    subst (λ (r : Result _ FollowLogFault). IfErr r (λ (f : FollowLogFault). FailsLogAt p entries f)) is fails
