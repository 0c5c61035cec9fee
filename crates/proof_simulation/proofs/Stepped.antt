-- A step of a thread at a point of the protocol, whose request the machine has served: it is a move, and what it
-- carries
-- is an action of the process.
use Rattle.std.proofs.Common.{◌≡◌, ℕ, zero, suc, ◌<◌, ◌≤◌, ◌==◌, Bool, true, false, List, [], ◌∷◌, length, Option, Some}
use Rattle.std.proofs.Common.{None, refl, ap, sym, ◌∙◌, subst, arith, inl, inr}
use Rattle.std.specs.Prelude.{◌^◌, if◌then◌else◌, is_some}
use Rattle.words.specs.Updates.{put}
use Rattle.locals.specs.Threads.{Thread}
use Rattle.words.specs.Signed.{word_of}
use Rattle.machine.specs.States.{State, with_thread}
use Rattle.machine.specs.AbstractServing.{shared_of}
use Rattle.program.specs.Trees.{Program}
use Rattle.program.specs.WellFormed.{WellFormed}
use Rattle.meaning.specs.Labels.{Kind, Label, Abandons, End, kind_of}
use Rattle.meaning.specs.Values.{Variables}
use Rattle.meaning.specs.Table.{Table, Allows}
use Rattle.meaning.specs.Processes.{Process}
use Rattle.meaning.specs.Offers.{Nothing, offer, TakesUp}
use Rattle.meaning.specs.States.{SourceState}
use Rattle.protocol.specs.Points.{Purpose, ToEnter, ToReenter, ToResume, ToExit, ToWait, Entry, NoEntry, Owned, Unowned}
use Rattle.protocol.specs.Points.{Point, EnterTries, TakeTries, LeaveSwaps, NotifyWakes, BroadcastMoves, JoinReads}
use Rattle.protocol.specs.Points.{Walks, ClearsId, Thread as Place, thread_at}
use Rattle.protocol.specs.World.{World, mem}
use Rattle.protocol.specs.Steps.{go_list}
use Rattle.protocol.specs.Carries.{Event, Acts, Strays, Kills, has_died, taking_label, table_after, PermitsMove}
use Rattle.protocol.specs.Carries.{IsByHolder}
use Rattle.protocol.specs.Exits.{Shares}
use Rattle.protocol.specs.Answers.{next, next_list}
use Rattle.protocol.specs.Served.{IsMove, MayAnswer, source_event, is_pending, pending_event}
use Rattle.protocol.proofs.Good.{Good}
use Rattle.protocol.proofs.Kept.{permitted}
use Rattle.protocol.proofs.Covers.{every_step_is_a_move}
use Rattle.words.proofs.Updates.{at_put}
use Rattle.proof_thread.specs.Completing.{IsOwn}
use Rattle.proof_thread.specs.Variables.{VariablesFit, variable_address}
use Rattle.refinement.specs.Built.{build_of}
use Rattle.proof_templates.specs.Layout.{place, valid}
use Rattle.proof_templates.specs.Templates.{ActsSo}
use Rattle.proof_commutation.specs.Deferring.{is_internal}
use Rattle.proof_simulation.specs.Ordering as P
use Rattle.proof_simulation.specs.Ordering.{Resumes}
use Rattle.proof_simulation.specs.Standing.{StandsAt}
use Rattle.proof_simulation.specs.Ranks.{steps_left}
use Rattle.proof_simulation.specs.Corresponding.{Reached, IsBefore, Corresponds}
use Rattle.proof_simulation.specs.Serving.{IsServed}
use Rattle.proof_simulation.proofs.Sourcing.{action, state_after}
use Rattle.proof_simulation.proofs.Worlds.{reached_on, reached_good, shares_at}
use Rattle.proof_simulation.proofs.Moving.{Puts, put_puts, same_puts, Next, Follow, moved, moved_raised}
use Rattle.proof_simulation.proofs.Completions.{next_stays, next_calm, next_raised, raises_at}
use Rattle.proof_simulation.specs.Deferred.{Stage, stages, stage_of, Agrees, Stays, notified_at, raised_then, raised_at}

-- an action of a process's own that others learn of
abbrev IsVisible : Label → Type 0
IsVisible label = IsOwn (kind_of label) × (is_internal label ≡ false)

-- what a step carries is an action of a process's own
if_visible : (b : Bool) (u t : ℕ) (l label : Label) → IsVisible l → (if b then Some (Acts t l) else None)
    ≡ Some (Acts u label) → IsVisible label
if_visible true u t l label own e = let same : l ≡ label = cc in subst (λ (k : Label). IsVisible k) same own
if_visible false u t l label own e = absurd cc

taking_visible : (k : Purpose) (m : ℕ) (b : Bool) → IsVisible (taking_label k m b)
taking_visible ToEnter m b = (tt, refl)
taking_visible ToReenter m b = (tt, refl)
taking_visible (ToResume c) m b = (tt, refl)

pending_visible : (t u : ℕ) (x : Entry) (label : Label) → pending_event t x ≡ Some (Acts u label) → IsVisible label
pending_visible t u NoEntry label e = absurd cc
pending_visible t u (Owned m) label e = let same : Abandons m ≡ label = cc
    in subst (λ (k : Label). IsVisible k) same (tt, refl)
pending_visible t u (Unowned m) label e = absurd cc

one_visible : (u t : ℕ) (l label : Label) → IsVisible l → Some (Acts t l) ≡ Some (Acts u label)
    → IsVisible label
one_visible u t l label own e = let same : l ≡ label = cc in subst (λ (k : Label). IsVisible k) same own

-- the walk passes an entry over, or abandons it
walk_visible : (b : Bool) (u t m : ℕ) (label : Label) → (if b then None else Some (Acts t (Abandons m)))
    ≡ Some (Acts u label) → IsVisible label
walk_visible true u t m label e = absurd cc
walk_visible false u t m label e = one_visible u t (Abandons m) label (tt, refl) e

carried_visible : (w : World) (T : Table) (t : ℕ) (pt : Point) (r : ℕ) (w' : World) (e : End) (u : ℕ) (label : Label)
    → source_event w T t pt r w' e ≡ Some (Acts u label) → IsVisible label
carried_visible w T t (EnterTries m) r w' e u label h = if_visible (r == 0) u t _ label (tt, refl) h
carried_visible w T t (TakeTries m v k) r w' e u label h =
    if_visible (r == v) u t _ label (taking_visible k m (has_died v)) h
carried_visible w T t (LeaveSwaps m ToExit) r w' e u label h = one_visible u t _ label (tt, refl) h
carried_visible w T t (LeaveSwaps m (ToWait c s)) r w' e u label h = one_visible u t _ label (tt, refl) h
carried_visible w T t (NotifyWakes c) r w' e u label h = one_visible u t _ label (tt, refl) h
carried_visible w T t (BroadcastMoves c s) r w' e u label h = one_visible u t _ label (tt, refl) h
carried_visible w T t (JoinReads q) r w' e u label h = if_visible (r == 0) u t _ label (tt, refl) h
carried_visible w T t (Walks zero x end) r w' e u label h = pending_visible t u x label h
carried_visible w T t (Walks (suc m) x end) r w' e u label h = walk_visible (is_pending x m) u t m label h
carried_visible w T t (ClearsId end) r w' e u label h = one_visible u t _ label (tt, refl) h
carried_visible w T t pt r w' e u label h = absurd cc

carried_own : (w : World) (T : Table) (t : ℕ) (pt : Point) (r : ℕ) (w' : World) (e : End) (u : ℕ) (label : Label)
    → source_event w T t pt r w' e ≡ Some (Acts u label) → IsOwn (kind_of label)
carried_own w T t pt r w' e u label h = (carried_visible w T t pt r w' e u label h).0

carried_loud : (w : World) (T : Table) (t : ℕ) (pt : Point) (r : ℕ) (w' : World) (e : End) (u : ℕ) (label : Label)
    → source_event w T t pt r w' e ≡ Some (Acts u label) → is_internal label ≡ false
carried_loud w T t pt r w' e u label h = (carried_visible w T t pt r w' e u label h).1

module _ (p : Program) (w : WellFormed p) (steps : ℕ) (s : State) (c : SourceState) (k : Corresponds p w steps s c)
    (t : ℕ) (done raises : Bool) (deferral : Option Kind) (pauses : Bool) (s' mid : State) (n answer : ℕ) (y : Thread)
    (q : Process) (pt : Point)
    (number : (0 < t) × (t ≤ k.world.made)) (awake : k.world.asleep t ≡ None) (proc : c.process t ≡ Some q)
    (point : (k.world.at t).point ≡ pt) (served : IsServed p s mid k.world t pt answer)
    (same : s' ≡ with_thread mid t y) where
  abbrev l : List ℕ
  l = (k.world.at t).list

  -- the point and the list after the step, and the world
  abbrev to : End → Point
  to e = next k.world e pt served.reply

  abbrev list : List ℕ
  list = next_list pt l

  abbrev on : End → World
  on e = go_list served.after t (to e) list

  abbrev event : End → Option Event
  event e = source_event k.world c.table t pt served.reply served.after e

  -- where the thread comes by its step, and its process by what the step carries
  pub record Arrives (e : End) : Type 0 where
    pub process : Process
    pub acts : ActsSo p c.variable t (event e) q process
    pub stands : StandsAt (build_of p w served.after.made) c.variable t (Some y) (Some process) (to e) list
    pub listed : (m : ℕ) → mem m list ≡ true → m < length p.monitors
    pub blank : IsBefore (to e) → k.world.result t ≡ 0
    pub paced : event e ≡ None → pauses ≡ false
        → steps_left (build_of p w served.after.made) c.variable t (on e) stands < n

  inv : Good k.world c.table
  inv = reached_good p.version k.world c.table k.reached

  is_move : IsMove k.world t pt served.reply served.after
  is_move = every_step_is_a_move p.version k.reached.moves k.world k.reached.led t pt served.reply served.after
      number.0 number.1
      awake point served.serves

  abbrev end : End
  end = is_move.end

  abbrev table : Table
  table = table_after k.world c.table t is_move.move

  arrived : Reached p.version (on end) table
  arrived = subst (λ (x : World). Reached p.version x table) is_move.done
      (reached_on p.version k.world c.table t is_move.move k.reached is_move.can)

  permits : PermitsMove (event end) c.table table
  permits = subst (λ (e : Option Event). PermitsMove e c.table table) (is_move.carries c.table)
      (permitted k.world c.table t is_move.move inv is_move.can)

  abbrev follow : (c' : SourceState) (process : Process) → c'.table ≡ table → c'.variable ≡ c.variable
      → c'.printed ≡ c.printed → Puts c.process c'.process t (Some process)
      → StandsAt (build_of p w served.after.made) c'.variable t (Some y) (Some process) (to end) list
      → ((m : ℕ) → mem m list ≡ true → m < length p.monitors) → (IsBefore (to end) → k.world.result t ≡ 0)
      → Follow p w steps s c k t s' c' y process (to end) list (on end)
  follow c' process is v o ps stands listed blank = record {
    reached = subst (λ (T : Table). Reached p.version (on end) T) (sym is) arrived;
    shares = subst (λ (x : State). Shares (place p) (valid p) (shared_of x) (on end)) (sym same)
        (shares_at (place p) (valid p) (shared_of mid) served.after _ served.after.made served.shares);
    size = ap (λ (x : State). x.size) same ∙ served.keeps.size;
    most = ap (λ (x : State). x.most) same ∙ served.keeps.most;
    made = ap (λ (x : State). x.made) same ∙ served.keeps.made ∙ k.made ∙ sym served.made;
    more = omega (arith, served.made);
    output = ap (λ (x : State). x.output) same ∙ served.keeps.output ∙ k.output ∙ sym o;
    variables = λ m i is'. ap (λ (x : State). x.word (variable_address p m i)) same ∙ served.keeps.variables m i is'
        ∙ k.variables m i is' ∙ ap (λ (x : Variables). word_of (x m.monitor m.number i)) (sym v);
    fit = λ m. subst (λ (x : Variables). VariablesFit served.after.made p m x) (sym v)
        (subst (λ n. VariablesFit n p m c.variable) (sym served.made) (k.fit m));
    same = λ u m other has n i. ap (λ (x : Variables). x m n i) (sym v);
    threads = subst (λ (x : State). Puts s.thread x.thread t (Some y)) (sym same)
        (subst (λ (f : ℕ → Option Thread). Puts s.thread (put f t (Some y)) t (Some y)) (sym served.keeps.thread)
        (put_puts s.thread t (Some y)));
    processes = ps;
    at = ap (λ (f : ℕ → Place). put f t (thread_at (to end) list)) served.at;
    stands = stands;
    listed = listed;
    words = λ u. subst (λ (f : ℕ → ℕ). f u < 2 ^ 32) (sym served.result) (k.words u);
    blank = λ u h. ap (λ (f : ℕ → ℕ). f u) served.result ∙ at_put k.world.at t (thread_at (to end) list) u
        (λ (z : Place). IsBefore z.point → k.world.result u ≡ 0) (λ e b. ap k.world.result e ∙ blank b)
        (λ o b. k.blank u b) h;
    numbers = λ d. omega (arith, served.numbers d, k.numbers d);
  }

  -- whether it carries an action is what is seen of it
  pub stepped : deferral ≡ None → raises ≡ raises_at pt → Agrees (stage_of pt) false → ((e : End)
      → MayAnswer pt served.reply
      → done ≡ is_some (event e))
      → ((e : End) (u : ℕ) (label : Label) → event e ≡ Some (Acts u label) → Resumes p s' c.table label)
      → ((e : End) → MayAnswer pt served.reply → Arrives e)
      → Next p w steps s' t done raises deferral pauses n c (stages k.world) (raised_at k.world)
  stepped plain raise calm shown resumes arrives =
      let a = arrives end is_move.possible in
      by_event (event end) refl permits a.acts
    where
      a : Arrives end
      a = arrives end is_move.possible

      seen : done ≡ is_some (event end)
      seen = shown end is_move.possible

      has_raised : is_some (notified_at (to end)) ≡ raised_then done raises (raised_at k.world t)
      has_raised = next_raised k.world c.table t pt served.reply served.after end
          ∙ ap (λ b. raised_then b (raises_at pt) (is_some (notified_at pt))) (sym seen)
          ∙ ap (λ b. raised_then done b (is_some (notified_at pt))) (sym raise)
          ∙ ap (λ (i : Point). raised_then done raises (is_some (notified_at i))) (sym point)

      internal : event end ≡ None → table ≡ c.table → a.process ≡ q
          → Next p w steps s' t done raises deferral pauses n c (stages k.world) (raised_at k.world)
      internal none is stays =
          let f = follow c a.process (sym is) refl refl (same_puts c.process t _ (proc ∙ ap Some (sym stays))) a.stands
          a.listed a.blank in
          let m = moved p w steps s c k t s' c y a.process (to end) list (on end) f in
          record {
            after = c;
            ties = m.ties;
            kinds = [];
            own = tt;
            leads = refl;
            stage = stage_of (to end);
            staged = m.staged;
            raised = moved_raised p w steps s c k t s' c y a.process (to end) list (on end) f
                (raised_then done raises (raised_at k.world t)) has_raised;
            places = P.nothing (seen ∙ ap (λ (e : Option Event). is_some e) none) plain
                (subst (λ (i : Stage). Stays i (stage_of (to end))) (ap stage_of (sym point))
                (next_stays k.world end pt served.reply)) refl;
            paced = λ z. inr (subst (λ (x : ℕ). x < n) (sym m.is) (a.paced none z));
          }

      acting : (u : ℕ) (label : Label) → event end ≡ Some (Acts u label) → Allows t label c.table table
          → IsByHolder t label c.table
          → TakesUp (offer p c.variable q) label Nothing a.process
          → Next p w steps s' t done raises deferral pauses n c (stages k.world) (raised_at k.world)
      acting u label e allows held takes =
          let c1 = state_after c t Nothing a.process table in
          let f = follow c1 a.process refl refl refl (put_puts c.process t (Some a.process)) a.stands a.listed
          a.blank in
          let m = moved p w steps s c k t s' c1 y a.process (to end) list (on end) f in
          record {
            after = c1;
            ties = m.ties;
            kinds = kind_of label ∷ [];
            own = (carried_own k.world c.table t pt served.reply served.after end u label e, tt);
            leads = (c1, action p c t q a.process label Nothing table proc takes allows, refl);
            stage = stage_of (to end);
            staged = m.staged;
            raised = moved_raised p w steps s c k t s' c1 y a.process (to end) list (on end) f
                (raised_then done raises (raised_at k.world t)) has_raised;
            places = P.acts _ _ label Nothing table (seen ∙ ap (λ (i : Option Event). is_some i) e)
                (next_calm k.world end pt served.reply calm)
                (carried_loud k.world c.table t pt served.reply served.after end u label e) proc takes allows held
                (λ m j i other. refl) (resumes end u label e) refl;
            paced = λ z. inl tt;
          }

      by_event : (e : Option Event) → event end ≡ e → PermitsMove e c.table table → ActsSo p c.variable t e q a.process
          → Next p w steps s' t done raises deferral pauses n c (stages k.world) (raised_at k.world)
      by_event None h is stays = internal h is stays
      by_event (Some (Acts u label)) h allows acts =
          acting u label h (subst (λ i. Allows i label c.table table) acts.0 allows.0)
          (subst (λ i. IsByHolder i label c.table) acts.0 allows.1) acts.1
      by_event (Some (Strays u x)) h allows acts = absurd acts
      by_event (Some (Kills u x us)) h allows acts = absurd acts
