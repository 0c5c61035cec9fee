-- Which entries tell of a wake or a kill from outside: those that are one, and no entry of a thread's own.
use Rattle.std.proofs.Common.{◌≡◌, ℕ, List, [], ◌∷◌, ◌++◌, Bool, true, false, not, Option, Some, None, Result, Ok, Err}
use Rattle.std.proofs.Common.{refl, ap, ◌∙◌, ◌+◌, ◌<◌, ◌==◌, arith, subst, sym, inl, inr, length}
use Rattle.std.specs.Prelude.{if◌then◌else◌}
use Rattle.std.specs.List.{All}
use Rattle.std.proofs.lemmas.List.Elements.{All-append, All-cons, All-nil}
use Rattle.std.proofs.lemmas.List.Sums.{sum_by-append}
use Rattle.isa.specs.Programs.{Program}
use Rattle.futexcalls.specs.declared.pieces.FutexCall.{FutexCall}
use Rattle.futexcalls.specs.declared.pieces.FutexCall.TheVariants.{Wait, Wake, Requeue}
use Rattle.futexcalls.specs.declared.pieces.FutexPhase.{FutexPhase}
use Rattle.futexcalls.specs.declared.pieces.FutexPhase.TheVariants.{First, Second, Compare, Act}
use Rattle.futexcalls.specs.Pieces.{after_lock, again_of, takes_at}
use Rattle.futexcalls.specs.PieceResults.{moved_by, woken_by}
use Rattle.robustexit.specs.ExitRules.{exit_of}
use Rattle.locals.specs.Threads.{Thread}
use Rattle.locals.specs.Looks.{Look, Goes, Asks, Leaves, Breaks, Rests, look}
use Rattle.machine.specs.declared.event.Entry.{Entry}
use Rattle.machine.specs.declared.event.Event.{Event}
use Rattle.machine.specs.declared.event.StepFault.{StepFault}
use Rattle.machine.specs.declared.event.StepFault.TheVariants.{CannotMove, Broken}
use Rattle.machine.specs.FrontRuns.{doing_of}
use Rattle.machine.specs.Runs.{Doing, Own, Strayed, Killed, is_own}
use Rattle.machine.specs.States.{Common, ConcreteState, thread_of}
use Rattle.machine.specs.ConcreteOutside.{kill_of, stray_of}
use Rattle.machine.specs.ConcretePieces.{call_name}
use Rattle.machine.specs.ConcreteServing.{load}
use Rattle.machine.specs.ConcreteSteps.{step_of}
use Rattle.machine.specs.PieceStates.{call_of}
use Rattle.machine.proofs.Outside.{stray_told}
use Rattle.machine.proofs.Killing.{kill_told}
use Rattle.machine.proofs.OwnEvents.{own_so}
use Rattle.piece_machine.specs.PieceConcrete.{PieceConcrete, Outcome, whole_at, lock_at, take_at, over, compare_word}
use Rattle.piece_machine.specs.PieceConcrete.{compare_at, acted, piece_at, call_step, look_step, awake_step}
use Rattle.piece_machine.specs.PieceConcrete.{thread_step, piece_of, with_local, lies_in, is_held, wanted, killed_at}
use Rattle.piece_machine.specs.PieceConcrete.{stray_piece, kill_piece}
use Rattle.piece_machine.specs.PieceFronts.{OutsidePiece}
use Rattle.runner.specs.Logs.{EntersOwn, EntersOutside, Ends, HasOnly, IsOwnEntry, IsUnstrayed, Outside, is_kill}
use Rattle.runner.specs.Logs.{is_killing, is_outside, is_stray, is_waking, kill_cost, kills_in}

-- what a step leaves, with its event
pub inside : (x y : PieceConcrete × Event) → (let a : Outcome = Ok x in a) ≡ (let b : Outcome = Ok y in b) → x ≡ y
inside x y h = cc

-- a step of a thread's own tells that it is
record OwnSo (r : Outcome) : Type 0 where
  pub so : (q : PieceConcrete × Event) → r ≡ Ok q → doing_of q.1.name q.1.value ≡ Own

own_ok : (q : PieceConcrete × Event) → doing_of q.1.name q.1.value ≡ Own → OwnSo (Ok q)
own_ok q is = record {
  so = λ z h. subst (λ (x : PieceConcrete × Event). doing_of x.1.name x.1.value ≡ Own) (inside q z h) is;
}

own_err : (f : StepFault) → OwnSo (Err f)
own_err f = record { so = λ z h. absurd cc }

own_if : (b : Bool) (x y : Outcome) → OwnSo x → OwnSo y → OwnSo (if b then x else y)
own_if true x y a b = a
own_if false x y a b = b

own_whole : (p : Program) (k : PieceConcrete) (t : ℕ) (r : Result (ConcreteState × Event) StepFault)
    → step_of p k.concrete t ≡ r → OwnSo (whole_at k r)
own_whole p k t (Ok q) done = own_ok _ (own_so p k.concrete q.0 t q.1 done)
own_whole p k t (Err f) done = own_err f

own_name : (call : FutexCall) (v : ℕ) → doing_of (call_name call) v ≡ Own
own_name (Wait a expected) v = refl
own_name (Wake a wakes) v = refl
own_name (Requeue a b wakes moves expected) v = refl

own_lock : (k : PieceConcrete) (t : ℕ) (next : FutexPhase) (b : ℕ) (o : Option ℕ) → OwnSo (lock_at k t next b o)
own_lock k t next b None = own_ok _ refl
own_lock k t next b (Some u) = own_err CannotMove

own_take : (k : PieceConcrete) (t : ℕ) (next : FutexPhase) (o : Option ℕ) → OwnSo (take_at k t next o)
own_take k t next None = own_err CannotMove
own_take k t next (Some b) = own_lock k t next b (k.holder b)

own_over : (k : PieceConcrete) (t : ℕ) (call : FutexCall) (go : ℕ → Thread) (c : Common) (answer : ℕ)
    (woken moved : List ℕ) → OwnSo (over k t call go c answer woken moved)
own_over k t call go c answer woken moved = own_ok _ (own_name call answer)

own_word : (k : PieceConcrete) (t : ℕ) (call : FutexCall) (go : ℕ → Thread) (a expected : ℕ)
    → OwnSo (compare_word k t call go a expected)
own_word k t call go a expected =
    own_if (load k.concrete.common a == expected) _ _ (own_ok _ refl)
    (own_over k t call go k.concrete.common (again_of call) [] [])

own_compare : (k : PieceConcrete) (t : ℕ) (call : FutexCall) (go : ℕ → Thread) → OwnSo (compare_at k t call go)
own_compare k t (Wait a expected) go = own_word k t (Wait a expected) go a.0 expected
own_compare k t (Wake a wakes) go = own_err CannotMove
own_compare k t (Requeue a b wakes moves expected) go =
    own_word k t (Requeue a b wakes moves expected) go a.0 expected

own_piece : (k : PieceConcrete) (t : ℕ) (call : FutexCall) (go : ℕ → Thread) (phase : FutexPhase)
    → OwnSo (piece_at k t call go phase)
own_piece k t call go First = own_take k t (after_lock k.buckets First call) (takes_at k.buckets First call)
own_piece k t call go Second = own_take k t (after_lock k.buckets Second call) (takes_at k.buckets Second call)
own_piece k t call go Compare = own_compare k t call go
own_piece k t call go Act =
    let c = k.concrete.common in
    own_over k t call go (acted t call c) (length (woken_by call c.queue) + length (moved_by call c.queue))
    (woken_by call c.queue) (moved_by call c.queue)

own_call : (p : Program) (k : PieceConcrete) (t : ℕ) (go : ℕ → Thread) (o : Option FutexCall)
    → OwnSo (call_step p k t go o)
own_call p k t go None = own_whole p k t (step_of p k.concrete t) refl
own_call p k t go (Some call) =
    own_if (lies_in (length k.concrete.common.words) call) _ _ (own_piece k t call go (k.phase t)) (own_err Broken)

own_look : (p : Program) (k : PieceConcrete) (t : ℕ) (l : Look) → OwnSo (look_step p k t l)
own_look p k t (Asks request go) = own_call p k t go (call_of request)
own_look p k t (Goes x) = own_whole p k t (step_of p k.concrete t) refl
own_look p k t (Leaves phase) =
    own_if (is_held k (wanted (exit_of p.version) k t (Leaves phase))) _ _ (own_err CannotMove)
    (own_whole p k t (step_of p k.concrete t) refl)
own_look p k t Breaks = own_whole p k t (step_of p k.concrete t) refl
own_look p k t Rests = own_whole p k t (step_of p k.concrete t) refl

own_awake : (p : Program) (k : PieceConcrete) (t : ℕ) (x : Thread) (a : Option ℕ) → OwnSo (awake_step p k t x a)
own_awake p k t x None = own_look p k t (look p t x)
own_awake p k t x (Some a) = own_err CannotMove

own_thread : (p : Program) (k : PieceConcrete) (t : ℕ) (o : Option Thread) → OwnSo (thread_step p k t o)
own_thread p k t None = own_err CannotMove
own_thread p k t (Some x) = own_awake p k t x (k.concrete.common.asleep t)

pub piece_own : (p : Program) (k k' : PieceConcrete) (t : ℕ) (event : Event) → piece_of p k t ≡ Ok (k', event)
    → doing_of event.name event.value ≡ Own
piece_own p k k' t event done = (own_thread p k t (thread_of k.concrete t)).so (k', event) done

-- a wake from outside tells that it is, and so does a kill
whole_leads : (k k' : PieceConcrete) (event : Event) (r : Result (ConcreteState × Event) StepFault)
    → whole_at k r ≡ Ok (k', event) → r ≡ Ok (k'.concrete, event)
whole_leads k k' event (Ok q) h = ap (λ (z : PieceConcrete × Event). Ok (z.0.concrete, z.1)) (inside _ (k', event) h)
whole_leads k k' event (Err f) h = absurd cc

killed_leads : (p : Program) (k k' : PieceConcrete) (t : ℕ) (event : Event)
    (r : Result (ConcreteState × Event) StepFault) → killed_at p k t r ≡ Ok (k', event) → r ≡ Ok (k'.concrete, event)
killed_leads p k k' t event (Ok q) h =
    ap (λ (z : PieceConcrete × Event). Ok (z.0.concrete, z.1)) (inside _ (k', event) h)
killed_leads p k k' t event (Err f) h = absurd cc

pub piece_stray_told : (k k' : PieceConcrete) (t : ℕ) (event : Event) → stray_piece k t ≡ Ok (k', event)
    → doing_of event.name event.value ≡ Strayed event.value
piece_stray_told k k' t event wakes =
    stray_told k.concrete k'.concrete t event (whole_leads k k' event (stray_of k.concrete t) wakes)

pub piece_kill_told : (p : Program) (k k' : PieceConcrete) (t : ℕ) (event : Event) → kill_piece p k t ≡ Ok (k', event)
    → doing_of event.name event.value ≡ Killed (event.value == 1)
piece_kill_told p k k' t event kills =
    kill_told k.concrete k'.concrete t event (killed_leads p k k' t event (kill_of k.concrete t) kills)

own_end : (p : Program) (k k' : PieceConcrete) (t : ℕ) (here : Thread) (event : Option Event) → Ends p k t here event k'
    → is_outside event ≡ false
own_end p k k' t here None ends = refl
own_end p k k' t here (Some event) ends = ap (λ (d : Doing). not (is_own d)) (piece_own p k k' t event ends.1)

-- an entry of a thread's own doesn't
pub own_entry : (p : Program) (k k' : PieceConcrete) (e : Entry) → EntersOwn p k e k' → IsOwnEntry e
own_entry p k k' e enters =
    own_end p (with_local k e.thread enters.here) k' e.thread enters.here e.event enters.ends

told_so : (p : Program) (k k' : PieceConcrete) (t : ℕ) (event : Event) → OutsidePiece p k t event k'
    → not (is_own (doing_of event.name event.value)) ≡ true
told_so p k k' t event (inl wakes) = ap (λ (d : Doing). not (is_own d)) (piece_stray_told k k' t event wakes)
told_so p k k' t event (inr kills) = ap (λ (d : Doing). not (is_own d)) (piece_kill_told p k k' t event kills)

-- a wake is told from a kill
pub wake_or_kill : (p : Program) (k a b : PieceConcrete) (t : ℕ) (event : Event) → stray_piece k t ≡ Ok (a, event)
    → kill_piece p k t ≡ Ok (b, event) → ⊥
wake_or_kill p k a b t event wakes kills =
    true_isn't_false (ap is_killing (sym (piece_kill_told p k b t event kills) ∙ piece_stray_told k a t event wakes))
  where
    true_isn't_false : true ≡ false → ⊥
    true_isn't_false h = absurd cc

-- an entry from outside does
pub tells_outside : (p : Program) (k k' : PieceConcrete) (e : Entry) → EntersOutside p k e k'
    → is_outside e.event ≡ true
tells_outside p k k' e outside =
    ap is_outside outside.is ∙ told_so p k k' e.thread outside.event outside.gives

-- what doesn't come from outside is no kill
calm_doing : (d : Doing) → not (is_own d) ≡ false → is_killing d ≡ false
calm_doing Own h = refl
calm_doing (Strayed a) h = refl
calm_doing (Killed begins) h = absurd cc

pub calm_kill : (event : Option Event) → is_outside event ≡ false → is_kill event ≡ false
calm_kill None h = refl
calm_kill (Some event) h = calm_doing (doing_of event.name event.value) h

calm_wake : (d : Doing) → not (is_own d) ≡ false → is_waking d ≡ false
calm_wake Own h = refl
calm_wake (Strayed a) h = absurd cc
calm_wake (Killed begins) h = refl

calm_stray : (event : Option Event) → is_outside event ≡ false → is_stray event ≡ false
calm_stray None h = refl
calm_stray (Some event) h = calm_wake (doing_of event.name event.value) h

-- where there may be wakes from outside, nothing is said of a log
pub none_said : {A : Type 0} → (strays : Bool) → strays ≡ true → strays ≡ false → A
none_said strays some none = absurd cc

-- the kills of one entry more
pub kills_more : (log log' : List Entry) (e : Entry) → log' ≡ log ++ e ∷ []
    → kills_in log' ≡ kills_in log + kill_cost e.event
kills_more log log' e grows =
    let all = sum_by-append (λ (x : Entry). kill_cost x.event) log (e ∷ []) in
    omega (arith, ap kills_in grows, all)

unstrayed_more : (may : Outside) (log log' : List Entry) (e : Entry) → log' ≡ log ++ e ∷ [] → is_stray e.event ≡ false
    → HasOnly may log → may.strays ≡ false → All IsUnstrayed log'
unstrayed_more may log log' e grows calm has none =
    subst (λ (es : List Entry). All IsUnstrayed es) (sym grows)
    (All-append IsUnstrayed log (e ∷ []) (has.strays none) (All-cons IsUnstrayed e [] calm (All-nil IsUnstrayed)))

abbrev counted : Bool → ℕ
counted b = if b then 1 else 0

by_kill : (b c : Bool) → b ≡ c → counted b ≡ counted c
by_kill b c is = ap counted is

-- an entry of a thread's own is no kill
pub own_kills : (p : Program) (k k' : PieceConcrete) (e : Entry) → EntersOwn p k e k' → kill_cost e.event ≡ 0
own_kills p k k' e enters =
    by_kill (is_kill e.event) false (calm_kill e.event (own_entry p k k' e enters))

-- an entry of a thread's own behind others
pub only_own : (p : Program) (k k' : PieceConcrete) (may : Outside) (log log' : List Entry) (e : Entry)
    → EntersOwn p k e k' → log' ≡ log ++ e ∷ [] → HasOnly may log → HasOnly may log'
only_own p k k' may log log' e enters grows has = record {
  strays = unstrayed_more may log log' e grows (calm_stray e.event (own_entry p k k' e enters)) has;
  kills = omega (arith, kills_more log log' e grows, own_kills p k k' e enters, has.kills);
}

-- a wake from outside is no kill
pub stray_kills : (k k' : PieceConcrete) (t : ℕ) (event : Event) → stray_piece k t ≡ Ok (k', event)
    → kill_cost (Some event) ≡ 0
stray_kills k k' t event wakes =
    by_kill (is_kill (Some event)) false (ap is_killing (piece_stray_told k k' t event wakes))

-- a wake from outside behind others
pub only_stray : (k k' : PieceConcrete) (may : Outside) (log log' : List Entry) (e : Entry) (event : Event)
    → may.strays ≡ true → e.event ≡ Some event → stray_piece k e.thread ≡ Ok (k', event) → log' ≡ log ++ e ∷ []
    → HasOnly may log → HasOnly may log'
only_stray k k' may log log' e event some is wakes grows has = record {
  strays = λ none. none_said may.strays some none;
  kills = omega (
    arith,
    kills_more log log' e grows,
    ap kill_cost is,
    stray_kills k k' e.thread event wakes,
    has.kills,
  );
}

-- a kill is one
pub one_kill : (p : Program) (k k' : PieceConcrete) (t : ℕ) (event : Event) → kill_piece p k t ≡ Ok (k', event)
    → kill_cost (Some event) ≡ 1
one_kill p k k' t event kills =
    by_kill (is_kill (Some event)) true (ap is_killing (piece_kill_told p k k' t event kills))

-- a kill behind others, where there may be one more
pub only_kill : (p : Program) (k k' : PieceConcrete) (may : Outside) (log log' : List Entry) (e : Entry)
    (event : Event) → kills_in log < may.kills → e.event ≡ Some event → kill_piece p k e.thread ≡ Ok (k', event)
    → log' ≡ log ++ e ∷ [] → HasOnly may log → HasOnly may log'
only_kill p k k' may log log' e event fewer is kills grows has = record {
  strays = unstrayed_more may log log' e grows
      (ap is_stray is ∙ ap is_waking (piece_kill_told p k k' e.thread event kills)) has;
  kills = omega (
    arith,
    kills_more log log' e grows,
    ap kill_cost is,
    one_kill p k k' e.thread event kills,
    fewer,
  );
}
