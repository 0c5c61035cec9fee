-- What is seen of states that belong together: no broken step, the same ends.
use Rattle.std.proofs.Common.{◌≡◌, ◌≢◌, ℕ, zero, suc, ◌<◌, ◌≤◌, Bool, true, false, List, [], ◌∷◌, length, Option, Some}
use Rattle.std.proofs.Common.{None, refl, ap, sym, ◌∙◌, subst, arith, pos}
use Rattle.std.specs.Prelude.{if◌then◌else◌}
use Rattle.words.specs.declared.outcome.Fault.{Fault}
use Rattle.words.specs.declared.outcome.Fault.TheVariants.{ResultOutOfRange, DivisionByZero, IndexOutOfRange}
use Rattle.words.specs.declared.outcome.Fault.TheVariants.{HandleNotJoinable, ProcessTableFull, AbortStatement}
use Rattle.words.specs.declared.outcome.Fault.TheVariants.{AbandonedMonitor, JoinedAborted}
use Rattle.words.specs.Outcomes.{outcome_of, fault_number}
use Rattle.words.specs.Process.{process_word}
use Rattle.words.specs.Versions.{most_of}
use Rattle.robustexit.specs.declared.phase.ExitPhase.{ExitPhase}
use Rattle.robustexit.specs.declared.phase.ExitPhase.TheVariants.{Entry, Pending, ClearId, LastWake, Ended as Ended'}
use Rattle.locals.specs.Threads.{Thread, Runs as Runs', Dies as Dies', Exits as Exits'}
use Rattle.locals.specs.Looks.{Request, Look, Goes, Asks, look}
use Rattle.machine.specs.States.{State}
use Rattle.machine.specs.AbstractServing.{Lies, IsUnserved}
use Rattle.machine.specs.Runs.{IsBroken, NextIsBroken, has_ended}
use Rattle.isa.specs.Programs.{memory_size}
use Rattle.program.specs.declared.kinds.Role.{Role}
use Rattle.program.specs.declared.kinds.Role.TheVariants.{Recover, Main}
use Rattle.program.specs.Scope.{recover_of}
use Rattle.program.specs.Trees.{Block, Done, Then, Return, Part, NoPart, SomePart, Program, followed_by}
use Rattle.program.specs.WellFormed.{WellFormed}
use Rattle.lowering.specs.Pieces.{code_of}
use Rattle.meaning.specs.Labels.{Faulted, Killed, End, Ended, Aborted}
use Rattle.meaning.specs.Values.{Variables}
use Rattle.meaning.specs.Processes.{Frame, Caller, Process, Entering, Before, Suspended, Joining, Returning, Failing}
use Rattle.meaning.specs.Processes.{Dying, Leaving, Over, goes_on_by, goes_on, with_result, recovers, recovers_by}
use Rattle.meaning.specs.Processes.{holds, callers_monitors}
use Rattle.meaning.specs.Offers.{Rests, after_join, offer}
use Rattle.meaning.specs.States.{SourceState}
use Rattle.protocol.specs.Carries.{has_died}
use Rattle.protocol.specs.Points.{Entry as PendingEntry, Point, Unmade, Runs, Walks, LastWakes, HasEnded, GotReads}
use Rattle.protocol.specs.Points.{GotLinks}
use Rattle.protocol.specs.Points.{GotHeads, GotUnpends, WaitReads, LeavePends, LeaveReads, LeaveHeads, LeaveSwaps}
use Rattle.protocol.specs.World.{mem}
use Rattle.protocol.specs.Cells.{Cell, SequenceOf, LockOf, OutcomeOf, cell_of}
use Rattle.protocol.specs.Requests.{request}
use Rattle.protocol.specs.Requests as P
use Rattle.protocol.specs.Exits.{PhaseIs}
use Rattle.protocol.specs.Finds.{CarriesFinding}
use Rattle.protocol.specs.Runs.{IsOver, Goes as GoesOn}
use Rattle.protocol.proofs.Good.{Good}
use Rattle.protocol.proofs.Rest.{matches}
use Rattle.protocol.proofs.Processes.{is_made, point_made}
use Rattle.proof_thread.specs.Variables.{variable_address}
use Rattle.proof_thread.specs.Walks.{View, WalksWithin, Walks as WalkData, stays, goes, loads, empty_view}
use Rattle.proof_thread.specs.Following.{Build, own_of}
use Rattle.proof_thread.specs.Completing.{Completes}
use Rattle.proof_thread.specs.Completing as F
use Rattle.refinement.specs.Seen.{end_by, machine_end, source_end, process_end, outcome_of_end}
use Rattle.refinement.specs.Built.{build_of, marked_image}
use Rattle.refinement.proofs.Building.{is_build}
use Rattle.proof_templates.specs.Layout.{place, valid}
use Rattle.proof_templates.specs.Asking.{machine_request}
use Rattle.proof_templates.specs.Locking.{Takes, EntersAt, ExitsAt, WaitsAt}
use Rattle.proof_templates.specs.Locking as L
use Rattle.proof_templates.specs.Notifying.{NotifiesAt, BroadcastsAt}
use Rattle.proof_templates.specs.Notifying as N
use Rattle.proof_templates.specs.Inside.{Template, Enters, Exits, Waits, Notifies, Broadcasts, lock_taker}
use Rattle.proof_templates.specs.Inside.{taking_process}
use Rattle.proof_templates.specs.Inside.{releasing_process, process_at, StandsIn, first_thread, first_point}
use Rattle.proof_templates.specs.Inside.{TemplateFits, IsSteady}
use Rattle.proof_templates.proofs.Follows.{follows}
use Rattle.proof_templates.proofs.Begins.{begins}
use Rattle.proof_templates.proofs.Layouts.{valid_lies, word_lies, number_is}
use Rattle.proof_templates.proofs.Addresses.{variable_lies}
use Rattle.proof_simulation.specs.Killing.{last_of, left_of}
use Rattle.proof_simulation.specs.Standing as S
use Rattle.proof_simulation.specs.Standing.{StandsAt, ending}
use Rattle.proof_simulation.specs.Corresponding.{Corresponds}
use Rattle.proof_simulation.specs.Serving.{IsAskable}
use Rattle.proof_simulation.proofs.Points.{in_template}
use Rattle.proof_simulation.proofs.Standings.{first_in}
use Rattle.proof_simulation.proofs.Worlds.{reached_good, reached_most}
use Rattle.protocol.specs.Rules.{release_of}

-- a thread that goes or asks what can be served: it is neither at an end nor broken
pub data IsBusy (p : Program) (s : State) (t : ℕ) (x : Thread) : Type 0 where
  steps : (y : Thread) → look (code_of p) t x ≡ Goes y → IsBusy p s t x
  asks : (r : Request) (go : ℕ → Thread) → look (code_of p) t x ≡ Asks r go → (IsUnserved r s → ⊥) → IsBusy p s t x

-- a thread in its exit is not busy
exit_idle : (p : Program) (s : State) (t : ℕ) (phase : ExitPhase) → IsBusy p s t (Exits' phase) → ⊥
exit_idle p s t (Entry e seen) (steps y h) = cc
exit_idle p s t Pending (steps y h) = cc
exit_idle p s t ClearId (steps y h) = cc
exit_idle p s t LastWake (steps y h) = cc
exit_idle p s t Ended' (steps y h) = cc
exit_idle p s t (Entry e seen) (asks r go h f) = cc
exit_idle p s t Pending (asks r go h f) = cc
exit_idle p s t ClearId (asks r go h f) = cc
exit_idle p s t LastWake (asks r go h f) = cc
exit_idle p s t Ended' (asks r go h f) = cc

busy_thread : (p : Program) (s : State) (t : ℕ) (x : Thread) (word : ℕ) → IsBusy p s t x
    → (end_by word (Some x) ≡ None) × (has_ended (Some x) ≡ false)
busy_thread p s t (Runs' place operands l fs) word h = (refl, refl)
busy_thread p s t (Dies' cause) word h = (refl, refl)
busy_thread p s t (Exits' phase) word h = absurd (exit_idle p s t phase h)

busy_fine : (p : Program) (s : State) (t : ℕ) (x : Thread) → IsBusy p s t x → IsBroken s (look (code_of p) t x) → ⊥
busy_fine p s t x (steps y h) broken = subst (λ (l : Look). IsBroken s l) h broken
busy_fine p s t x (asks r go h fine) broken = fine (subst (λ (l : Look). IsBroken s l) h broken)

exit_fine : (p : Program) (s : State) (t : ℕ) (phase : ExitPhase) → IsBroken s (look (code_of p) t (Exits' phase)) → ⊥
exit_fine p s t (Entry e seen) h = h
exit_fine p s t Pending h = h
exit_fine p s t ClearId h = h
exit_fine p s t LastWake h = h
exit_fine p s t Ended' h = h

-- a process that offers something isn't over
offers_end : (p : Program) (v : Variables) (q : Process) → (offer p v q ≡ Rests → ⊥) → process_end (Some q) ≡ None
offers_end p v (Over end) h = absurd (h refl)
offers_end p v (Entering m f cs) h = refl
offers_end p v (Before e f cs) h = refl
offers_end p v (Suspended c f cs) h = refl
offers_end p v (Joining c i y f cs) h = refl
offers_end p v (Returning z cs) h = refl
offers_end p v (Failing e k f cs) h = refl
offers_end p v (Dying c ms) h = refl
offers_end p v (Leaving z) h = refl

going_end : (role : Role) (rest : Block) (entered : Option ℕ) (f : Frame) (cs : List Caller)
    → process_end (Some (goes_on_by role rest entered f cs)) ≡ None
going_end (Recover m) Done entered f [] = refl
going_end (Recover m) Done entered f (c ∷ cs) = refl
going_end (Recover m) (Then s rest) entered f cs = refl
going_end Main Done entered f cs = refl
going_end Main (Then (Return v) rest) entered f cs = refl
going_end Main (Then s rest) entered f cs = refl
going_end role rest entered f cs = refl

joined_end : (into : Option ℕ) (part : Part) (f : Frame) (cs : List Caller) (end : End)
    → process_end (Some (after_join into part f cs end)) ≡ None
joined_end into part f cs (Ended z) = going_end (with_result into z f).role (with_result into z f).rest None
    (with_result into z f) cs
joined_end into NoPart f cs (Aborted cause) = refl
joined_end into (SomePart body) f cs (Aborted cause) = going_end f.role (followed_by body f.rest) None _ cs

ending_end : (end : End) (ms : List ℕ) → process_end (Some (ending end ms)) ≡ None
ending_end (Ended z) ms = refl
ending_end (Aborted cause) ms = refl

recovered_end : (p : Program) (o : Option ℕ) (m : ℕ) (f : Frame) (cs : List Caller)
    → process_end (Some (recovers_by p o m f cs)) ≡ None
recovered_end p None m f cs = refl
recovered_end p (Some r) m f cs = going_end _ _ (Some m) _ _

taken_end : (p : Program) (m : ℕ) (f : Frame) (cs : List Caller) (v : ℕ)
    → process_end (Some (lock_taker p m f cs v)) ≡ None
taken_end p m f cs v = by_test (has_died v)
  where
    by_test : (b : Bool) → process_end (Some (if b then recovers p m f cs else goes_on (Some m) f cs)) ≡ None
    by_test true = recovered_end p (recover_of p m) m f cs
    by_test false = going_end f.role f.rest (Some m) f cs

taking_end : (p : Program) (m : ℕ) (f : Frame) (cs : List Caller) (before : Process) (pt : Point)
    → process_end (Some before) ≡ None → process_end (Some (taking_process p m f cs before pt)) ≡ None
taking_end p m f cs before (GotReads n v) h = taken_end p m f cs v
taking_end p m f cs before (GotLinks n v k) h = taken_end p m f cs v
taking_end p m f cs before (GotHeads n v) h = taken_end p m f cs v
taking_end p m f cs before (GotUnpends n v) h = taken_end p m f cs v
taking_end p m f cs before pt h = h

releasing_end : (before after : Process) (pt : Point) → process_end (Some before) ≡ None
    → process_end (Some after) ≡ None → process_end (Some (releasing_process before after pt)) ≡ None
releasing_end before after (WaitReads c) h g = h
releasing_end before after (LeavePends m r) h g = h
releasing_end before after (LeaveReads m r) h g = h
releasing_end before after (LeaveHeads m k r) h g = h
releasing_end before after (LeaveSwaps m r) h g = h
releasing_end before after pt h g = g

module _ (b : Build) (u : Variables) (t : ℕ) where
  template_end : (k : Template) (pt : Point) → TemplateFits b u t k
      → process_end (Some (process_at b.program k pt)) ≡ None
  template_end (Enters m base l fs f cs) pt h = taking_end b.program m f cs (Entering m f cs) pt refl
  template_end (Exits m base shown l fs before z cs) pt h =
      releasing_end before _ pt (offers_end b.program u before (λ r. cc (r, h.offers))) refl
  template_end (Waits c base l fs before f cs ms) pt h =
      taking_end b.program c.monitor f cs _ pt
      (releasing_end before _ pt (offers_end b.program u before (λ r. cc (r, h.offers))) refl)
  template_end (Notifies c base l fs before after ms) pt h =
      offers_end b.program u before (λ r. cc (r, h.offers))
  template_end (Broadcasts c base l fs before after ms) pt h =
      offers_end b.program u before (λ r. cc (r, h.offers))

fault_outcome : (fault : Fault) → outcome_of (fault_number fault) ≡ outcome_of_end (Aborted (Faulted fault))
fault_outcome ResultOutOfRange = refl
fault_outcome DivisionByZero = refl
fault_outcome IndexOutOfRange = refl
fault_outcome HandleNotJoinable = refl
fault_outcome ProcessTableFull = refl
fault_outcome AbortStatement = refl
fault_outcome AbandonedMonitor = refl
fault_outcome JoinedAborted = refl

told : (end : End) (outcome result : ℕ) → CarriesFinding end outcome result → outcome_of outcome ≡ outcome_of_end end
told (Ended z) outcome result h = ap outcome_of h.0
told (Aborted (Faulted fault)) outcome result h = ap outcome_of h ∙ fault_outcome fault
told (Aborted Killed) outcome result h = ap outcome_of h

-- a point of a template is that of a thread that was made
take_made : (p : Program) (t m : ℕ) (k : _) (first : ℕ) (values : List ℕ) (fs : _) (pt : Point) (x : Thread)
    → Takes p t m k first values fs pt x → point_made pt ≡ true
take_made p t m k first values fs pt x (L.Takes.reads v) = refl
take_made p t m k first values fs pt x h = refl

made_in : (p : Program) (t : ℕ) (k : Template) (pt : Point) (x : Thread) → StandsIn p t k pt x → point_made pt ≡ true
made_in p t (Enters m base l fs f cs) pt x (L.EntersAt.takes h) = take_made p t _ _ _ _ _ pt x h
made_in p t (Enters m base l fs f cs) pt x (L.EntersAt.takes_again h) = take_made p t _ _ _ _ _ pt x h
made_in p t (Enters m base l fs f cs) pt x h = refl
made_in p t (Exits m base shown l fs before z cs) pt x L.ExitsAt.pends = refl
made_in p t (Exits m base shown l fs before z cs) pt x h = refl
made_in p t (Waits c base l fs before f cs ms) pt x (L.WaitsAt.takes h) = take_made p t _ _ _ _ _ pt x h
made_in p t (Waits c base l fs before f cs ms) pt x h = refl
made_in p t (Notifies c base l fs before after ms) pt x N.NotifiesAt.adds = refl
made_in p t (Notifies c base l fs before after ms) pt x h = refl
made_in p t (Broadcasts c base l fs before after ms) pt x N.BroadcastsAt.adds = refl
made_in p t (Broadcasts c base l fs before after ms) pt x h = refl

-- a thread that there is was made
made_at : (b : Build) (v : Variables) (t : ℕ) (o : Option Thread) (q : Option Process) (pt : Point) (l : List ℕ)
    (x : Thread) → StandsAt b v t o q pt l → o ≡ Some x → point_made pt ≡ true
made_at b v t o q pt l x S.unmade e = absurd cc
made_at b v t o q pt l x (S.inside {y = y} left k u few walk fits same ne stands) e = made_in b.program t k pt y stands
made_at b v t o q pt l x stand e = refl

module _ (p : Program) (w : WellFormed p) (steps' : ℕ) (s : State) (c : SourceState)
    (k : Corresponds p w steps' s c) where
  pub number_of : (t : ℕ) (x : Thread) → s.thread t ≡ Some x → (0 < t) × (t ≤ k.world.made)
  unfolding is_made
  number_of t x e = (reached_good p.version k.world c.table k.reached).threads.number t
      (made_at (build_of p w k.world.made) c.variable t (s.thread t) (c.process t) (k.world.at t).point
      (k.world.at t).list x (k.threads t) e)

  pub few_made : k.world.made ≤ most_of p.version
  few_made = subst (λ (n : ℕ). k.world.made ≤ n) (reached_most p.version k.world c.table k.reached)
      (reached_good p.version k.world c.table k.reached).threads.few

-- a process whose thread comes to what it does isn't over
completes_end : (b : Build) (t : ℕ) (v : Variables) (x : Thread) (q : Process) → Completes b t v x q
    → process_end (Some q) ≡ None
completes_end b t v x q (F.acts kind own h m o st) = offers_end b.program v q (λ r. cc (r, o))
completes_end b t v x q (F.prints n go h o st) = offers_end b.program v q (λ r. cc (r, o))
completes_end b t v x q (F.stores m i z go own has is fits h o st) = offers_end b.program v q (λ r. cc (r, o))
completes_end b t v x q (F.returns h m e) = subst (λ (y : Process). process_end (Some y) ≡ None) (sym e) refl
completes_end b t v x q (F.leaves r fits h m o) = offers_end b.program v q (λ e. cc (e, o))
completes_end b t v x q (F.forks entry arguments go h full o mine its empty) = offers_end b.program v q (λ r. cc (r, o))
completes_end b t v x q (F.claims child go some made most h o j to bad) = offers_end b.program v q (λ r. cc (r, o))
completes_end b t v x q (F.faults fault e o) = offers_end b.program v q (λ r. cc (r, o))
completes_end b t v x q (F.enters base e is below held code after) =
    subst (λ (y : Process). process_end (Some y) ≡ None) (sym e) refl
completes_end b t v x q (F.exits m base shown o held is code after) = offers_end b.program v q (λ r. cc (r, o))
completes_end b t v x q (F.waits c base is o had own held e code after) =
    offers_end b.program v q (λ r. cc (r, o))
completes_end b t v x q (F.notifies c base is o has keeps e code after) = offers_end b.program v q (λ r. cc (r, o))
completes_end b t v x q (F.broadcasts c base is o has keeps e code after) =
    offers_end b.program v q (λ r. cc (r, o))

-- a walk over a robust list is before the end
walk_phase : (p : Program) (e : ℕ) (x : PendingEntry) (end : End) (phase : ExitPhase)
    → PhaseIs (place p) (valid p) (Walks e x end) phase
    → ((word : ℕ) → end_by word (Some (Exits' phase)) ≡ None) × (has_ended (Some (Exits' phase)) ≡ false)
walk_phase p e x end (Entry entry n) is = (λ word. refl, refl)
walk_phase p e x end Pending is = (λ word. refl, refl)
walk_phase p zero x end ClearId is = absurd cc
walk_phase p (suc m) x end ClearId is = absurd (cc is.1.1)
walk_phase p zero x end LastWake is = absurd cc
walk_phase p (suc m) x end LastWake is = absurd (cc is.1.1)
walk_phase p zero x end Ended' is = absurd cc
walk_phase p (suc m) x end Ended' is = absurd (cc is.1.1)

-- what is seen of a thread and its process
pub data Seen (p : Program) (s : State) (t : ℕ) : Option Thread → Option Process → Point → Type 0 where
  unmade : Seen p s t None None Unmade
  busy : {x : Thread} {q : Process} {pt : Point} → IsBusy p s t x → process_end (Some q) ≡ None
      → Seen p s t (Some x) (Some q) pt
  -- in its exit, before its id word is cleared
  exits : {phase : ExitPhase} {q : Process} {pt : Point} → ((word : ℕ) → end_by word (Some (Exits' phase)) ≡ None)
      → has_ended (Some (Exits' phase)) ≡ false → process_end (Some q) ≡ None
      → Seen p s t (Some (Exits' phase)) (Some q) pt
  wakes : {end : End} → Seen p s t (Some (Exits' LastWake)) (Some (Over end)) (LastWakes end)
  rests : {end : End} → Seen p s t (Some (Exits' Ended')) (Some (Over end)) (HasEnded end)

module _ (p : Program) (w : WellFormed p) (s : State) (size : s.size ≡ memory_size (code_of p)) (made : ℕ)
    (few_all : made ≤ most_of p.version) (t : ℕ) where
  abbrev b : Build
  b = build_of p w made

  lies : (a a' : ℕ) → a ≡ a' → a' < memory_size (code_of p) → (Lies s a → ⊥) → ⊥
  lies a a' e small h = h (subst (λ n. a < n) (sym size) (subst (λ x. x < memory_size (code_of p)) (sym e) small))

  word_there : (u i : ℕ) → 0 < u → u ≤ most_of p.version → i ≤ 5 → (Lies s (process_word u i) → ⊥) → ⊥
  word_there u i some few less = lies (process_word u i) (process_word u i) refl (word_lies p u i some few less)

  child_there : (u i : ℕ) → 0 < u → u ≤ made → i ≤ 5 → (Lies s (process_word u i) → ⊥) → ⊥
  child_there u i some below less = word_there u i some (omega (arith, below, few_all)) less

  abbrev view : Option ℕ → Variables → View
  view own v = record { program = p; own = own; variables = v }

  walk_busy : (own : Option ℕ) (v : Variables) (n : ℕ) (x z : Thread) → WalkData (marked_image p) t (view own v) n x z
      → IsBusy p s t z → IsBusy p s t x
  walk_busy own v n x z stays h = h
  walk_busy own v n x z (goes {y = y} e plain more) h = steps y e
  walk_busy own v n x z (loads {a = a} {k = go} e r more) h =
      asks _ go e (lies a (variable_address p r.member r.index) r.there (variable_lies p r.member r.index r.variable))

  steps_busy : (n : ℕ) (x z : Thread) → WalksWithin (marked_image p) t (empty_view p) n x z → IsBusy p s t z
      → IsBusy p s t x
  steps_busy n x z walk h = walk_busy None (λ m i j. pos zero) walk.count x z walk.walk h

  one_fine : (q r : Request) → Some q ≡ Some r → (IsUnserved q s → ⊥) → IsUnserved r s → ⊥
  one_fine q r e h = let same : q ≡ r = cc in subst (λ (x : Request). IsUnserved x s → ⊥) same h

  cell_there : (a : Cell) → valid p a ≡ true → (Lies s (place p a) → ⊥) → ⊥
  cell_there a ok = lies (place p a) (place p a) refl (valid_lies p a ok)

  asked_fine : (r : P.Request) (q : Request) → machine_request p r ≡ Some q → IsAskable p r → IsUnserved q s → ⊥
  asked_fine P.AskNothing q e ok = absurd ok
  asked_fine (P.AskLoad a) q e ok = one_fine _ q e (cell_there a ok)
  asked_fine (P.AskStore a v) q e ok = one_fine _ q e (cell_there a ok)
  asked_fine (P.AskSwap a v) q e ok = one_fine _ q e (cell_there a ok)
  asked_fine (P.AskCompareSwap a x v) q e ok = one_fine _ q e (cell_there a ok)
  asked_fine (P.AskOrWaiters a) q e ok = one_fine _ q e (cell_there a ok)
  asked_fine (P.AskAddOne a) q e ok = one_fine _ q e (cell_there a ok)
  asked_fine (P.AskAdd a v) q e ok = one_fine _ q e (cell_there a ok)
  asked_fine (P.AskWait x v) q e ok = one_fine _ q e (cell_there (cell_of x) ok)
  asked_fine (P.AskWakeOne x) q e ok = one_fine _ q e (cell_there (cell_of x) ok)
  asked_fine (P.AskRequeue c x) q e ok = one_fine _ q e
      (λ un. cell_there (SequenceOf c) ok.0 (λ h. cell_there (LockOf c.monitor) ok.1 (λ g. un (h, g))))
  asked_fine (P.AskFault cause) q e ok = one_fine _ q e (λ z. z)
  asked_fine P.AskExitStep q e ok = absurd cc

  module _ (some : 0 < t) (few : t ≤ most_of p.version) where
    inside_busy : (u : Variables) (k : Template) (pt : Point) (y : Thread) → TemplateFits b u t k → pt ≢ Runs
        → StandsIn p t k pt y → IsBusy p s t y
    inside_busy u k pt y fits ne stands =
        let f = follows b u t k (is_build p w made) some few fits pt y ne stands in
        let i = in_template p t some few b refl u k pt y fits ne stands in
        asks f.asks f.go f.look (asked_fine (request (release_of p.version) t pt) f.asks f.same i.askable)

    begins_inside : (k : Template) → first_point false k ≢ Runs
    begins_inside (Enters m base l fs f cs) e = cc
    begins_inside (Exits m base shown l fs before z cs) e = cc
    begins_inside (Waits c base l fs before f cs ms) e = cc
    begins_inside (Notifies c base l fs before after ms) e = cc
    begins_inside (Broadcasts c base l fs before after ms) e = cc

    begins_busy : (v : Variables) (k : Template) (x : Thread) → x ≡ first_thread k → TemplateFits b v t k
        → IsBusy p s t x
    begins_busy v k x is fits =
        let g = begins b v t false k some few fits in
        subst (λ (z : Thread). IsBusy p s t z) (sym is) (steps_busy 12 (first_thread k) g.thread g.walk
        (inside_busy v k (first_point false k) g.thread fits (begins_inside k) g.stands))

    completes_busy : (v : Variables) (x : Thread) (q : Process)
        → ((m : ℕ) → mem m (holds q) ≡ true → m < length p.monitors) → IsSteady p q v → Completes b t v x q
        → IsBusy p s t x
    completes_busy v x q listed steady (F.acts {y = y} kind own h m o st) = steps y h
    completes_busy v x q listed steady (F.prints n go h o st) = asks _ go h (λ z. z)
    completes_busy v x q listed steady (F.stores m i z go own has is fits h o st) =
        asks _ go h (lies (variable_address p m i) (variable_address p m i) refl (variable_lies p m i is))
    completes_busy v x q listed steady (F.returns h m e) = asks _ _ h (λ z. z)
    completes_busy v x q listed steady (F.leaves None fits h m o) = asks _ _ h (λ z. z)
    completes_busy v x q listed steady (F.leaves (Some n) fits h m o) = asks _ _ h (λ z. z)
    completes_busy v x q listed steady (F.forks entry arguments go h full o mine its empty) = asks _ go h
        (λ z. z.1 refl)
    completes_busy v x q listed steady (F.claims child go is made' most h o j to bad) =
        asks _ go h (word_there child 3 is most (omega arith))
    completes_busy v x q listed steady (F.faults fault e o) = asks _ _ (ap (look (code_of p) t) e) (λ z. z)
    completes_busy v x q listed steady (F.enters {m = m} {f = f} {cs = cs} {l = l} {fs = fs} base e is below held
        code after) =
        begins_busy v (Enters m base l fs f cs) x is
        (record { monitor = below; held = held; code = code; after = after })
    completes_busy v x q listed steady (F.exits {z = z} {cs = cs} {l = l} {fs = fs} m base shown o held is code after) =
        begins_busy v (Exits m base shown l fs q z cs) x is
        (record {
          monitor = listed m (first_in m (callers_monitors cs) (holds q) held);
          offers = o;
          steady = steady;
          held = held;
          code = code;
          after = after;
        })
    completes_busy v x q listed steady (F.waits {f = f} {cs = cs} {l = l} {fs = fs} {ms = ms} c base is o had own
        held e code after) =
        begins_busy v (Waits c base l fs q f cs ms) x e (record {
          condition = is;
          offers = o;
          steady = steady;
          had = had;
          own = own;
          held = held;
          code = code;
          after = after;
        })
    completes_busy v x q listed steady (F.notifies {r = r} {l = l} {fs = fs} c base is o has keeps e code after) =
        begins_busy v (Notifies c base l fs q r has.0) x e (record {
          condition = is;
          offers = o;
          steady = steady;
          held = has.1;
          keeps = keeps;
          code = code;
          goes = after;
        })
    completes_busy v x q listed steady (F.broadcasts {r = r} {l = l} {fs = fs} c base is o has keeps e code after) =
        begins_busy v (Broadcasts c base l fs q r has.0) x e (record {
          condition = is;
          offers = o;
          steady = steady;
          held = has.1;
          keeps = keeps;
          code = code;
          goes = after;
        })

    seen : (v : Variables) (o : Option Thread) (q : Option Process) (pt : Point) (l : List ℕ)
        → ((m : ℕ) → mem m l ≡ true → m < length p.monitors) → StandsAt b v t o q pt l → Seen p s t o q pt
    seen v o q pt l listed S.unmade = unmade
    seen v o q pt l listed (S.works {x = x} {q = r} left few' k work) =
        busy (walk_busy (own_of r) v k.walk.count x k.last k.walk.walk (completes_busy v k.last r listed work.steady
        k.completes)) (completes_end b t v k.last r k.completes)
    seen v o q pt l listed (S.returns None fits k mark) = busy (asks _ _ k (λ z. z)) refl
    seen v o q pt l listed (S.returns (Some n) fits k mark) = busy (asks _ _ k (λ z. z)) refl
    seen v o q pt l listed (S.inside {x = x} {y = y} {pt = at} left k u few' walk fits same ne stands) =
        busy (steps_busy left x y walk (inside_busy u k at y fits ne stands)) (template_end b u t k at fits)
    seen v o q pt l listed (S.faults fault) = busy (asks _ _ refl (λ z. z)) refl
    seen v o q pt l listed (S.killed of) = busy (asks _ _ refl (λ z. z)) refl
    seen v o q pt l listed (S.refused {x = x} {q = r} left few' k o' steady) =
        busy (steps_busy left x (Dies' (Faulted HandleNotJoinable)) k (asks _ _ refl (λ z. z)))
        (offers_end b.program v r (λ e. cc (e, o')))
    seen v o q pt l listed (S.reads {child = child} {x = x} left few' is j k) =
        busy (steps_busy left x j.reads k (asks _ _ j.read (child_there child 2 is.some is.made (omega arith)))) refl
    seen v o q pt l listed (S.sleeps {child = child} {x = x} left few' is j k) =
        busy (steps_busy left x j.sleeps k (asks _ _ j.sleep (child_there child 2 is.some is.made (omega arith)))) refl
    seen v o q pt l listed (S.learns {child = child} {end = end} {x = x} {into = i} {part = y} {f = f} {cs = cs} left
        few' is j k) =
        busy (steps_busy left x j.learns k (asks _ _ j.outcome (child_there child 5 is.some is.made (omega arith))))
        (joined_end i y f cs end)
    seen v o q pt l listed (S.takes {child = child} {z = z} {x = x} {into = i} {part = y} {f = f} {cs = cs} left
        few' is j k) =
        busy (steps_busy left x j.takes k (asks _ _ j.result (child_there child 4 is.some is.made (omega arith))))
        (joined_end i y f cs (Ended z))
    seen v o q pt l listed (S.walks {e = e} {x = x} {end = end} {ms = ms} phase is short en of) =
        let g = walk_phase p e x end phase is in exits g.0 g.1 (ending_end end (left_of (last_of x) ms))
    seen v o q pt l listed (S.clears {end = end} {ms = ms}) = exits (λ n. refl) refl (ending_end end [])
    seen v o q pt l listed S.wakes = wakes
    seen v o q pt l listed S.rests = rests

seen_end : (p : Program) (s : State) (t word : ℕ) (o : Option Thread) (q : Option Process) (pt : Point)
    → Seen p s t o q pt → ((end : End) → IsOver pt end → outcome_of word ≡ outcome_of_end end)
    → end_by word o ≡ process_end q
seen_end p s t word o q pt unmade h = refl
seen_end p s t word o q pt (busy {x = x} k e) h = (busy_thread p s t x word k).0 ∙ sym e
seen_end p s t word o q pt (exits g f e) h = g word ∙ sym e
seen_end p s t word o q pt (wakes {end = end}) h = ap Some (h end refl)
seen_end p s t word o q pt (rests {end = end}) h = ap Some (h end refl)

seen_going : (p : Program) (s : State) (t : ℕ) (o : Option Thread) (q : Option Process) (pt : Point)
    → Seen p s t o q pt → GoesOn pt → (x : Thread) × (o ≡ Some x) × (has_ended (Some x) ≡ false)
seen_going p s t o q pt unmade h = absurd h
seen_going p s t o q pt (busy {x = x} k e) h = (x, refl, (busy_thread p s t x 0 k).1)
seen_going p s t o q pt (exits {phase = phase} g f e) h = (Exits' phase, refl, f)
seen_going p s t o q pt wakes h = (Exits' LastWake, refl, refl)
seen_going p s t o q pt rests h = absurd h

same_thread : {x y : Thread} → Some y ≡ Some x → y ≡ x
same_thread e = cc

seen_fine : (p : Program) (s : State) (t : ℕ) (o : Option Thread) (q : Option Process) (pt : Point)
    → Seen p s t o q pt → (x : Thread) → o ≡ Some x → IsBroken s (look (code_of p) t x) → ⊥
seen_fine p s t o q pt unmade x e = absurd cc
seen_fine p s t o q pt (busy {x = y} k g) x e =
    subst (λ (z : Thread). IsBroken s (look (code_of p) t z) → ⊥) (same_thread e) (busy_fine p s t y k)
seen_fine p s t o q pt (exits {phase = phase} g f h) x e =
    subst (λ (z : Thread). IsBroken s (look (code_of p) t z) → ⊥) (same_thread e) (exit_fine p s t phase)
seen_fine p s t o q pt wakes x e =
    subst (λ (z : Thread). IsBroken s (look (code_of p) t z) → ⊥) (same_thread e) (exit_fine p s t LastWake)
seen_fine p s t o q pt rests x e =
    subst (λ (z : Thread). IsBroken s (look (code_of p) t z) → ⊥) (same_thread e) (exit_fine p s t Ended')

module _ (p : Program) (w : WellFormed p) (taken' : ℕ) (s : State) (c : SourceState)
    (k : Corresponds p w taken' s c) where
  inv : Good k.world c.table
  inv = reached_good p.version k.world c.table k.reached

  see : (t : ℕ) → (0 < t) × (t ≤ k.world.made) → Seen p s t (s.thread t) (c.process t) (k.world.at t).point
  see t number =
      let few = few_made p w taken' s c k in
      seen p w s k.size k.world.made few t number.0 (omega (arith, number.1, few)) c.variable (s.thread t)
      (c.process t) (k.world.at t).point (k.world.at t).list (k.lists t) (k.threads t)

  pub sound : (t : ℕ) → NextIsBroken (code_of p) s t → ⊥
  sound t broken = seen_fine p s t (s.thread t) (c.process t) (k.world.at t).point
      (see t (number_of p w taken' s c k t broken.thread broken.stands)) broken.thread broken.stands broken.breaks

  -- a thread that hasn't ended
  pub not_ended : (t : ℕ) → GoesOn (k.world.at t).point
      → (x : Thread) × (s.thread t ≡ Some x) × (has_ended (Some x) ≡ false)
  unfolding is_made
  not_ended t h = seen_going p s t (s.thread t) (c.process t) (k.world.at t).point
      (see t (inv.threads.number t (goes_made (k.world.at t).point h))) h
    where
      goes_made : (pt : Point) → GoesOn pt → point_made pt ≡ true
      goes_made Unmade h = absurd h
      goes_made pt h = refl

  pub ends : (t : ℕ) → machine_end s t ≡ source_end c t
  ends t = by_thread (s.thread t) refl
    where
      outcome : (0 < t) × (t ≤ k.world.made) → (end : End) → IsOver (k.world.at t).point end
          → outcome_of (s.word (process_word t 5)) ≡ outcome_of_end end
      outcome number end over =
          let table = matches k.world c.table inv in
          let tell = (table.over t end (table.ended t end over)).1 in
          ap outcome_of (k.shares.words.word (OutcomeOf t)
          (number_is p t number.0 (omega (arith, number.1, few_made p w taken' s c k))))
          ∙ told end (k.world.outcome t) (k.world.result t) tell

      by_thread : (o : Option Thread) → s.thread t ≡ o → machine_end s t ≡ source_end c t
      by_thread (Some x) e =
          let number = number_of p w taken' s c k t x e in
          seen_end p s t (s.word (process_word t 5)) (s.thread t) (c.process t) (k.world.at t).point (see t number)
          (outcome number)
      by_thread None e = ap (end_by (s.word (process_word t 5))) e
          ∙ no_process (s.thread t) (c.process t) (k.world.at t).point (k.world.at t).list (k.threads t) e
        where
          no_process : (o : Option Thread) (q : Option Process) (pt : Point) (l : List ℕ)
              → StandsAt (build_of p w k.world.made) c.variable t o q pt l → o ≡ None → None ≡ process_end q
          no_process o q pt l S.unmade e = refl
          no_process o q pt l stand e = absurd cc
