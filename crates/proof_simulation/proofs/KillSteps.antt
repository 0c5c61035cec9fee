-- A kill of a thread that isn't dying: where the machine and the source stand behind it.
use Rattle.std.proofs.Common.{◌≡◌, ◌≢◌, ◌<◌, ◌≤◌, ◌+◌, ◌==◌, ◌&&◌, ◌||◌, ℕ, zero, suc, Bool, true, false, List}
use Rattle.std.proofs.Common.{length, Option, Some, None, refl, ap, sym, ◌∙◌, subst, arith, inl, inr}
use Rattle.std.specs.Prelude.{if◌then◌else◌, not, is_some}
use Rattle.std.proofs.lemmas.Bool.{cases_eq, eq-eqb, ne_eqb, false≢true, or_right}
use Rattle.words.specs.Process.{process_word}
use Rattle.words.specs.Updates.{put}
use Rattle.locals.specs.Threads.{Thread, Dies as Dies', Exits as Exits', is_dying}
use Rattle.machine.specs.States.{State}
use Rattle.machine.specs.Runs.{killed_to}
use Rattle.program.specs.declared.kinds.Member.{Member}
use Rattle.program.specs.Trees.{Program}
use Rattle.program.specs.WellFormed.{WellFormed}
use Rattle.lowering.specs.Layout.{link_word}
use Rattle.meaning.specs.Labels.{Killed, Faulted, Kill as Kill'}
use Rattle.meaning.specs.Processes.{Process, Dying, holds}
use Rattle.meaning.specs.Offers.{Offer, NotifiesSome, NotifiesAll, offer}
use Rattle.meaning.specs.Runs.{IsNotifying, IsLeft, IsStep}
use Rattle.meaning.specs.States.{SourceState}
use Rattle.meaning.specs.Table.{Table, HeldBy, AreResumed, without_waiters}
use Rattle.meaning.specs.Values.{Variables}
use Rattle.lowering.specs.Locks.{leave_length}
use Rattle.protocol.specs.Rules.{release_of}
use Rattle.protocol.specs.Word.{owner}
use Rattle.protocol.specs.Points.{Entry, NoEntry, Owned, Unowned, Purpose, ToEnter, ToReenter, ToResume, Spot, Point}
use Rattle.protocol.specs.Points.{NotifyWakes, BroadcastMarks, BroadcastReads, BroadcastMoves, Dies, Walks, ClearsId}
use Rattle.protocol.specs.Points.{LastWakes, HasEnded, IsLive, entry_at, entry_word, taking_entry, thread_at}
use Rattle.protocol.specs.Points.{Thread as Place}
use Rattle.protocol.specs.World.{World, mem}
use Rattle.protocol.specs.Moves.{Kill}
use Rattle.protocol.specs.Steps.{after}
use Rattle.protocol.specs.Carries.{killed_waits, table_after}
use Rattle.protocol.specs.Cells.{LockOf, LinkOf, PendingOf, SequenceOf, cell_of}
use Rattle.protocol.specs.Exits.{sleep_address}
use Rattle.protocol.specs.Memory.{entry_address}
use Rattle.protocol.proofs.Good.{Good}
use Rattle.protocol.proofs.Lock.{tie_held, tie_owner}
use Rattle.protocol.proofs.Pend.{PendAt}
use Rattle.protocol.proofs.Roles.{ListedEntry, Knows, holds as holds', own, entry_listed}
use Rattle.words.proofs.Updates.{at_put, put_same, put_other}
use Rattle.proof_thread.specs.Following.{Build}
use Rattle.proof_thread.specs.Variables.{is_condition}
use Rattle.proof_templates.specs.Layout.{place, valid}
use Rattle.proof_templates.specs.Inside.{Template, StandsIn, TemplateFits}
use Rattle.proof_templates.specs.Inside as I
use Rattle.proof_templates.specs.Locking as L
use Rattle.proof_templates.specs.Notifying as N
use Rattle.proof_templates.proofs.Layouts.{apart, condition_there, is_layout, monitor_valid, number_is}
use Rattle.refinement.specs.Built.{build_of}
use Rattle.proof_simulation.specs.Corresponding.{Corresponds, IsBefore, Reached}
use Rattle.proof_simulation.specs.Deferred.{stages, notified_at, raised_at}
use Rattle.proof_simulation.specs.Deferred as W
use Rattle.proof_simulation.specs.Killing.{last_of, left_of, IsOfProgram}
use Rattle.proof_simulation.specs.Kills.{killed_last, killed_resumed, held_by, linked_monitor, after_kill}
use Rattle.proof_simulation.specs.Next.{offer_of_process}
use Rattle.proof_simulation.specs.Ordering.{act, awake_waiters}
use Rattle.proof_simulation.specs.Standing.{StandsAt}
use Rattle.proof_simulation.specs.Standing as S
use Rattle.proof_simulation.proofs.Kills.{KillAny, kill_here, kill_made, kill_reached, kill_resumes, resumed_in}
use Rattle.proof_simulation.proofs.Moving.{put_stage, put_raised}
use Rattle.proof_simulation.proofs.Observing.{few_made}
use Rattle.proof_simulation.proofs.Resumed.{waiters}
use Rattle.proof_simulation.proofs.Strays.{index_below}
use Rattle.proof_simulation.proofs.Worlds.{agrees_at, reached_good}
use Rattle.lowering.specs.Conditions.{wait_takes}

-- a condition is one of the program
abbrev pub IsThere : Program → Option Member → Type 0
IsThere p None = Unit {0}
IsThere p (Some c) = valid p (SequenceOf c) ≡ true

-- where a thread stands that isn't dying, by its point: monitor and condition are those of the program
abbrev pub IsIn : Program → Point → Type 0
IsIn p pt = IsLive pt × IsOfProgram p (entry_at pt) × IsThere p (notified_at pt)

taking_in : (p : Program) (m : ℕ) (k : Purpose) → m < length p.monitors → IsOfProgram p (taking_entry m k)
taking_in p m ToEnter h = h
taking_in p m ToReenter h = h
taking_in p m (ToResume c) h = h

takes_in : (p : Program) (t m : ℕ) (k : Purpose) (first : ℕ) (values : List ℕ) (fs : List _) (pt : Point) (x : Thread)
    → m < length p.monitors → L.Takes p t m k first values fs pt x → IsIn p pt
takes_in p t m k first values fs pt x h (L.Takes.reads n) = (tt, taking_in p m k h, tt)
takes_in p t m k first values fs pt x h (L.Takes.marks n) = (tt, taking_in p m k h, tt)
takes_in p t m k first values fs pt x h (L.Takes.sleeps n) = (tt, taking_in p m k h, tt)
takes_in p t m k first values fs pt x h (L.Takes.tries n) = (tt, taking_in p m k h, tt)
takes_in p t m k first values fs pt x h (L.Takes.heads n) = (tt, h, tt)
takes_in p t m k first values fs pt x h (L.Takes.links n e) = (tt, h, tt)
takes_in p t m k first values fs pt x h (L.Takes.lists n) = (tt, h, tt)
takes_in p t m k first values fs pt x h (L.Takes.unpends n) = (tt, h, tt)
takes_in p t m k first values fs pt x h (L.Takes.enters n e) = (tt, tt, tt)
takes_in p t m k first values fs pt x h (L.Takes.recovers n e) = (tt, tt, tt)

enters_in : (p : Program) (t m base : ℕ) (l : _) (fs : List _) (pt : Point) (x : Thread) → m < length p.monitors
    → L.EntersAt p t m base l fs pt x → IsIn p pt
enters_in p t m base l fs pt x h L.EntersAt.pends = (tt, tt, tt)
enters_in p t m base l fs pt x h L.EntersAt.tries = (tt, h, tt)
enters_in p t m base l fs pt x h (L.EntersAt.takes k) = takes_in p t m ToEnter (base + 11) l.values fs pt x h k
enters_in p t m base l fs pt x h L.EntersAt.pends_again = (tt, tt, tt)
enters_in p t m base l fs pt x h L.EntersAt.tries_again = (tt, h, tt)
enters_in p t m base l fs pt x h (L.EntersAt.takes_again k) = takes_in p t m ToReenter (base + 11) l.values fs pt x h k

exits_in : (p : Program) (t m base : ℕ) (shown : Option ℕ) (l : _) (fs : List _) (pt : Point) (x : Thread)
    → m < length p.monitors → L.ExitsAt (leave_length p.version) (release_of p.version) p t m base shown l fs pt x
    → IsIn p pt
exits_in p t m base shown l fs pt x h L.ExitsAt.pends = (tt, tt, tt)
exits_in p t m base shown l fs pt x h L.ExitsAt.reads = (tt, h, tt)
exits_in p t m base shown l fs pt x h (L.ExitsAt.cuts e) = (tt, h, tt)
exits_in p t m base shown l fs pt x h L.ExitsAt.swaps = (tt, h, tt)
exits_in p t m base shown l fs pt x h L.ExitsAt.wakes = (tt, h, tt)
exits_in p t m base shown l fs pt x h L.ExitsAt.unpends = (tt, h, tt)
exits_in p t m base shown l fs pt x h L.ExitsAt.goes = (tt, tt, tt)

waits_in : (p : Program) (t : ℕ) (c : Member) (base : ℕ) (l : _) (fs : List _) (pt : Point) (x : Thread)
    → c.monitor < length p.monitors → L.WaitsAt (leave_length p.version) (release_of p.version) p t c base l fs pt x →
    IsIn p pt
waits_in p t c base l fs pt x h L.WaitsAt.numbers = (tt, tt, tt)
waits_in p t c base l fs pt x h (L.WaitsAt.pends n) = (tt, tt, tt)
waits_in p t c base l fs pt x h (L.WaitsAt.reads n) = (tt, h, tt)
waits_in p t c base l fs pt x h (L.WaitsAt.cuts n e) = (tt, h, tt)
waits_in p t c base l fs pt x h (L.WaitsAt.swaps n) = (tt, h, tt)
waits_in p t c base l fs pt x h (L.WaitsAt.wakes n) = (tt, h, tt)
waits_in p t c base l fs pt x h (L.WaitsAt.sleeps n) = (tt, h, tt)
waits_in p t c base l fs pt x h (L.WaitsAt.takes k) =
    takes_in p t c.monitor (ToResume c) (base + wait_takes p.version) l.values fs pt x h k

notifies_in : (p : Program) (c : Member) (base : ℕ) (l : _) (fs : List _) (pt : Point) (x : Thread)
    → valid p (SequenceOf c) ≡ true → N.NotifiesAt p c base l fs pt x → IsIn p pt
notifies_in p c base l fs pt x h N.NotifiesAt.adds = (tt, tt, tt)
notifies_in p c base l fs pt x h N.NotifiesAt.wakes = (tt, tt, h)
notifies_in p c base l fs pt x h N.NotifiesAt.goes = (tt, tt, tt)

broadcasts_in : (p : Program) (c : Member) (base : ℕ) (l : _) (fs : List _) (pt : Point) (x : Thread)
    → valid p (SequenceOf c) ≡ true → N.BroadcastsAt p c base l fs pt x → IsIn p pt
broadcasts_in p c base l fs pt x h N.BroadcastsAt.adds = (tt, tt, tt)
broadcasts_in p c base l fs pt x h N.BroadcastsAt.marks = (tt, tt, h)
broadcasts_in p c base l fs pt x h N.BroadcastsAt.reads = (tt, tt, h)
broadcasts_in p c base l fs pt x h (N.BroadcastsAt.moves n) = (tt, tt, h)
broadcasts_in p c base l fs pt x h N.BroadcastsAt.goes = (tt, tt, tt)

module _ (b : Build) (v : Variables) (t : ℕ) where
  inside_in : (k : Template) (u : Variables) (pt : Point) (y : Thread) → TemplateFits b u t k
      → StandsIn b.program t k pt y → IsIn b.program pt
  inside_in (I.Enters m base l fs f cs) u pt y fits s = enters_in b.program t m base l fs pt y fits.monitor s
  inside_in (I.Exits m base shown l fs before z cs) u pt y fits s =
      exits_in b.program t m base shown l fs pt y fits.monitor s
  inside_in (I.Waits c base l fs before f cs ms) u pt y fits s =
      let x = condition_there _ c.number (ap is_condition fits.condition) in
      waits_in b.program t c base l fs pt y (index_below b.program.monitors c.monitor x.0 x.1) s
  inside_in (I.Notifies c base l fs before after ms) u pt y fits s =
      notifies_in b.program c base l fs pt y (ap is_condition fits.condition) s
  inside_in (I.Broadcasts c base l fs before after ms) u pt y fits s =
      broadcasts_in b.program c base l fs pt y (ap is_condition fits.condition) s

  abbrev Stands : Option Process → Point → Type 0
  Stands q pt = (r : Process) × (q ≡ Some r) × IsIn b.program pt

  is_alive : {A : Type 0} (x y : Thread) → Some y ≡ Some x → is_dying x ≡ false → is_dying y ≡ true → A
  is_alive x y e alive dying =
      let same : y ≡ x = cc in absurd (false≢true (sym alive ∙ ap is_dying (sym same) ∙ dying))

  -- a thread that isn't dying
  stands_in : (o : Option Thread) (q : Option Process) (pt : Point) (l : List ℕ) → StandsAt b v t o q pt l
      → (x : Thread) → o ≡ Some x → is_dying x ≡ false → Stands q pt
  stands_in o q pt l S.unmade x e alive = absurd cc
  stands_in o q pt l (S.works left few h work) x e alive = (_, refl, (tt, tt, tt))
  stands_in o q pt l (S.returns r fits h mark) x e alive = (_, refl, (tt, tt, tt))
  stands_in o q pt l (S.inside {y = y} left k u few walk fits same ne stands) x e alive =
      (_, refl, inside_in k u pt y fits stands)
  stands_in o q pt l (S.faults fault) x e alive = is_alive x (Dies' (Faulted fault)) e alive refl
  stands_in o q pt l (S.killed of) x e alive = is_alive x (Dies' Killed) e alive refl
  stands_in o q pt l (S.refused left few h claims steady) x e alive = (_, refl, (tt, tt, tt))
  stands_in o q pt l (S.reads left few c j h) x e alive = (_, refl, (tt, tt, tt))
  stands_in o q pt l (S.sleeps left few c j h) x e alive = (_, refl, (tt, tt, tt))
  stands_in o q pt l (S.learns left few c j h) x e alive = (_, refl, (tt, tt, tt))
  stands_in o q pt l (S.takes left few c j h) x e alive = (_, refl, (tt, tt, tt))
  stands_in o q pt l (S.walks phase is short ends of) x e alive = is_alive x (Exits' phase) e alive refl
  stands_in o q pt l S.clears x e alive = is_alive x (Exits' _) e alive refl
  stands_in o q pt l S.wakes x e alive = is_alive x (Exits' _) e alive refl
  stands_in o q pt l S.rests x e alive = is_alive x (Exits' _) e alive refl

live_before : (pt : Point) → IsLive pt → IsBefore pt
live_before (Walks e x end) live = absurd live
live_before (ClearsId end) live = absurd live
live_before (LastWakes end) live = absurd live
live_before (HasEnded end) live = absurd live
live_before pt live = tt

pend_live : (pt : Point) (v : ℕ) → IsLive pt → PendAt pt v → v ≡ entry_word (entry_at pt)
pend_live (ClearsId end) v live h = absurd live
pend_live (LastWakes end) v live h = absurd live
pend_live (HasEnded end) v live h = absurd live
pend_live pt v live h = h

killed_waits_is : (w : World) (T : Table) (t : ℕ) (pt : Point)
    → killed_waits w T t pt ≡ put (without_waiters (resumed_in w T t (notified_at pt)) T.waits) t None
killed_waits_is w T t (NotifyWakes c) = refl
killed_waits_is w T t (BroadcastMarks c) = refl
killed_waits_is w T t (BroadcastReads c) = refl
killed_waits_is w T t (BroadcastMoves c s) = refl
killed_waits_is w T t pt = refl

left_same : (p : Program) (v : Variables) (q : Process) (last : Option ℕ) (ms : List ℕ) → IsLeft p v q last ms
    → ms ≡ left_of last (holds q)
left_same p v q None ms h = h
left_same p v q (Some m) ms h = h.2

-- a monitor is told by its link word
linked_is : (p : Program) (n m : ℕ) → m < n → ((i : ℕ) → i < n → link_word p i ≡ link_word p m → i ≡ m)
    → linked_monitor p (link_word p m) n ≡ Some m
linked_is p zero m less only = absurd (omega (arith, less))
linked_is p (suc n) m less only = elim (cases_eq n m) [
  | inl e ↦ ap (λ b. if b then Some n else linked_monitor p (link_word p m) n)
      (eq-eqb (link_word p n) (link_word p m) (ap (link_word p) e)) ∙ ap (λ i. Some i) e
  | inr o ↦ ap (λ b. if b then Some n else linked_monitor p (link_word p m) n)
      (ne_eqb (link_word p n) (link_word p m) (λ i. o (only n (omega arith) i)))
      ∙ linked_is p n m (omega (arith, less, o)) (λ i l. only i (omega (arith, l)))
]

module _ (p : Program) (wf : WellFormed p) (steps : ℕ) (s : State) (c : SourceState)
    (k : Corresponds p wf steps s c) (t : ℕ) (x : Thread) (thread : s.thread t ≡ Some x)
    (alive : is_dying x ≡ false) where
  abbrev pt : Point
  pt = (k.world.at t).point

  abbrev l : List ℕ
  l = (k.world.at t).list

  abbrev entry : Entry
  entry = entry_at pt

  abbrev s' : State
  s' = killed_to true s t

  good : Good k.world c.table
  good = reached_good p.version k.world c.table k.reached

  found : Stands (build_of p wf k.world.made) c.variable t (c.process t) pt
  found = stands_in (build_of p wf k.world.made) c.variable t (s.thread t) (c.process t) pt l (k.threads t) x thread
      alive

  abbrev q : Process
  q = found.0

  proc : c.process t ≡ Some q
  proc = found.1

  live : IsLive pt
  live = found.2.0

  of : IsOfProgram p entry
  of = found.2.1

  any : KillAny p c.variable q pt l
  any = kill_here p wf steps s c k t q proc live

  number : (0 < t) × (t ≤ k.world.made)
  number = good.threads.number t (kill_made p wf steps s c k t q proc live)

  few : t ≤ k.world.most
  few = let made = good.threads.few in omega (arith, made, number.1)

  -- the monitor that comes last, as the words tell it
  abbrev told : ℕ → Option ℕ
  told e = if not (e == 0) && (owner (s.word (e + 1)) == t) then linked_monitor p e (length p.monitors) else None

  pending : s.word (process_word t 1) ≡ entry_address (place p) (entry_word entry)
  pending = k.shares.words.word (PendingOf t) (number_is p t number.0 (omega (
    arith,
    few,
    few_made p wf steps s c k,
    number.1,
  )))
      ∙ ap (entry_address (place p)) (pend_live pt (k.world.pending t) live (good.pends.pend t))

  above : (m : ℕ) → m < length p.monitors → place p (LinkOf m) ≢ 0
  above m less e = let h = (is_layout p wf).entry m (monitor_valid p m less) in omega (arith, h.0, e)

  lock_word : (m : ℕ) → m < length p.monitors → s.word (place p (LinkOf m) + 1) ≡ k.world.lock m
  lock_word m less = k.shares.words.word (LockOf m) (monitor_valid p m less)

  linked : (m : ℕ) → m < length p.monitors
      → linked_monitor p (link_word p m) (length p.monitors) ≡ Some m
  linked m less = linked_is p (length p.monitors) m less (λ i low e.
      same i (apart p (LinkOf i) (LinkOf m) (monitor_valid p i low) (monitor_valid p m less) e))
    where
      same : (i : ℕ) → LinkOf i ≡ LinkOf m → i ≡ m
      same i h = cc

  told_so : (y : Entry) → IsOfProgram p y → entry ≡ y → ListedEntry y l
      → told (entry_address (place p) (entry_word y)) ≡ last_of y
  unfolding holds'
  told_so NoEntry h e listed = refl
  told_so (Owned m) h e listed =
      let held = good.locks.held m t (ap (λ (i : Entry). mem m l || own i m) e
      ∙ or_right (mem m l) (m == m) (eq-eqb m m refl)) in
      let tied = tie_held (c.table.hold m) (k.world.lock m) t (good.locks.tie m) held in
      ap (λ b. if not b && (owner (s.word (place p (LinkOf m) + 1)) == t)
      then linked_monitor p (place p (LinkOf m)) (length p.monitors) else None) (ne_eqb (place p (LinkOf m)) 0 (above m
      h))
      ∙ ap (λ b. if b then linked_monitor p (place p (LinkOf m)) (length p.monitors) else None)
      (ap (λ i. owner i == t) (lock_word m h) ∙ eq-eqb (owner (k.world.lock m)) t tied.0) ∙ linked m h
  told_so (Unowned m) h e listed =
      ap (λ b. if not b && (owner (s.word (place p (LinkOf m) + 1)) == t)
      then linked_monitor p (place p (LinkOf m)) (length p.monitors) else None) (ne_eqb (place p (LinkOf m)) 0 (above m
      h))
      ∙ ap (λ b. if b then linked_monitor p (place p (LinkOf m)) (length p.monitors) else None)
      (ap (λ i. owner i == t) (lock_word m h) ∙ ne_eqb (owner (k.world.lock m)) t (λ i.
      let hold = tie_owner (c.table.hold m) (k.world.lock m) (good.locks.tie m) (λ z. omega (arith, number.0, i, z)) in
      let has = good.locks.owned m t (hold ∙ ap HeldBy i) in
      false≢true (sym (ap (λ (j : Entry). mem m l || own j m) e ∙ none (mem m l) listed) ∙ has)))
    where
      none : (b : Bool) → b ≡ false → (b || false) ≡ false
      none b h = ap (λ i. i || false) h

  last_told : killed_last p s.word t ≡ last_of entry
  unfolding Knows
  last_told = ap told pending ∙ told_so entry of refl (entry_listed pt l live (good.locks.knows t).1)

  -- who is resumed, as the machine's sleepers tell it
  sleeps : (u : ℕ) → s'.asleep u ≡ sleep_address (place p) (put k.world.asleep t None u)
  sleeps u = at_put k.world.asleep t None u (λ (i : Option Spot). put s.asleep t None u ≡ sleep_address (place p) i)
      (λ e. ap (put s.asleep t None) e ∙ put_same s.asleep t None)
      (λ n. put_other s.asleep t None u n ∙ k.shares.sleeps u)

  spots : (u : ℕ) (y : Spot) → put k.world.asleep t None u ≡ Some y → valid p (cell_of y) ≡ true
  spots u y = at_put k.world.asleep t None u (λ (i : Option Spot). i ≡ Some y → valid p (cell_of y) ≡ true)
      (λ e h. absurd cc) (λ n h. k.shares.spots u y h)

  resumes : (n : Option Member) (o : Offer) → IsNotifying o n → IsThere p n
      → resumed_in k.world c.table t n ≡ killed_resumed p s' c.table (is_some n) o
  resumes None o is there = refl
  resumes (Some d) (NotifiesSome e r) is there =
      waiters p s' k.world c.table d (put k.world.asleep t None) k.made there sleeps spots
      ∙ ap (awake_waiters p s' c.table) (sym is)
  resumes (Some d) (NotifiesAll e r) is there =
      waiters p s' k.world c.table d (put k.world.asleep t None) k.made there sleeps spots
      ∙ ap (awake_waiters p s' c.table) (sym is)
  resumes (Some d) o is there = absurd is

  abbrev last : Option ℕ
  last = killed_last p s.word t

  abbrev resumed : List ℕ
  resumed = killed_resumed p s' c.table (raised_at k.world t) (offer_of_process p c.variable (c.process t))

  resumed_told : resumed_in k.world c.table t (notified_at pt) ≡ resumed
  resumed_told = resumes (notified_at pt) (offer p c.variable q) any.notifies found.2.2
      ∙ ap (λ (i : Option Process). killed_resumed p s' c.table (raised_at k.world t) (offer_of_process p c.variable i))
      (sym proc)

  abbrev c' : SourceState
  c' = after_kill t resumed last c

  table_so : table_after k.world c.table t (Kill pt) ≡ c'.table
  table_so = ap (λ (f : ℕ → Option Member). record c.table { waits = f }) (killed_waits_is k.world c.table t pt
      ∙ ap (λ (i : List ℕ). put (without_waiters i c.table.waits) t None) resumed_told)

  left_so : left_of (last_of entry) l ≡ left_of last (held_by (c.process t))
  left_so = left_same p c.variable q (last_of entry) (left_of (last_of entry) l) any.left
      ∙ ap (λ (i : Option ℕ). left_of i (holds q)) (sym last_told)
      ∙ ap (λ (i : Option Process). left_of last (held_by i)) (sym proc)

  abbrev z : Place
  z = thread_at (Dies Killed entry) l

  abbrev world : World
  world = after k.world t (Kill pt)

  abbrev Here : ℕ → Option Thread → Option Process → Place → Type 0
  Here u o r y = StandsAt (build_of p wf k.world.made) c.variable u o r y.point y.list

  mine : Here t (Some (Dies' Killed)) (Some (Dying Killed (left_of last (held_by (c.process t))))) z
  mine = subst (λ (i : List ℕ). Here t (Some (Dies' Killed)) (Some (Dying Killed i)) z) left_so (S.killed of)

  here : (u : ℕ) → Here u (s'.thread u) (c'.process u) (world.at u)
  here u = elim (cases_eq u t) [
    | inl e ↦ subst (λ v. Here v (s'.thread v) (c'.process v) (world.at v)) (sym e)
        (rw (
          put_same s.thread t (Some (Dies' Killed)),
          put_same c.process t (Some (Dying Killed (left_of last (held_by (c.process t))))),
          put_same k.world.at t z,
        ) mine)
    | inr o ↦
        rw (
          put_other s.thread t (Some (Dies' Killed)) u o,
          put_other c.process t (Some (Dying Killed (left_of last (held_by (c.process t))))) u o,
          put_other k.world.at t z u o,
        ) (k.threads u)
  ]

  -- machine and source belong together
  pub killed_ties : Corresponds p wf (suc steps) (killed_to true s t) (after_kill t resumed last c)
  killed_ties = record {
    world = world;
    reached = subst (λ (T : Table). Reached p.version world T) table_so (kill_reached p wf steps s c k t q proc live);
    shares = record {
      words = agrees_at (place p) (valid p) s.word k.world (put k.world.at t z) k.world.made
          (put k.world.asleep t None) k.shares.words;
      sleeps = sleeps;
      spots = spots;
    };
    size = k.size;
    most = k.most;
    made = k.made;
    output = k.output;
    variables = k.variables;
    fit = k.fit;
    threads = here;
    lists = λ u m. at_put k.world.at t z u (λ (y : Place). mem m y.list ≡ true → m < length p.monitors)
        (λ e h. k.lists t m h) (λ o h. k.lists u m h);
    words = k.words;
    blank = λ u. at_put k.world.at t z u (λ (y : Place). IsBefore y.point → k.world.result u ≡ 0)
        (λ e h. ap k.world.result e ∙ k.blank t (live_before pt live)) (λ o h. k.blank u h);
    numbers = λ d. let less = k.numbers d in omega (arith, less);
  }

  pub killed_staged : (u : ℕ) → stages killed_ties.world u ≡ put (stages k.world) t W.Leaves u
  unfolding killed_ties
  killed_staged u = put_stage k.world.at t (Dies Killed entry) l u

  pub killed_raised : (u : ℕ) → raised_at killed_ties.world u ≡ put (raised_at k.world) t false u
  unfolding killed_ties
  killed_raised u = put_raised k.world.at t (Dies Killed entry) l u

  -- and the kill is possible in the source, wherever it has the same table and variables, and the process stands there
  pub killed_step : (a : SourceState) → a.table ≡ c.table → a.variable ≡ c.variable → a.process t ≡ c.process t
      → IsStep p a (act t (Kill' resumed last)) (after_kill t resumed last a)
  killed_step a table variables process = inr (inr (
    resumed,
    last,
    refl,
    record {
      before = q;
      monitors = left_of last (held_by (a.process t));
      notified = notified_at pt;
      stands = process ∙ proc;
      killable = any.killable;
      notifies = subst (λ (v : Variables). IsNotifying (offer p v q) (notified_at pt)) (sym variables) any.notifies;
      left = subst (λ (v : Variables). IsLeft p v q last (left_of last (held_by (a.process t)))) (sym variables)
          (subst (λ (i : Option Process). IsLeft p c.variable q last (left_of last (held_by i))) (sym process)
          (subst (λ (i : List ℕ). IsLeft p c.variable q last i) left_so
          (subst (λ (i : Option ℕ). IsLeft p c.variable q i (left_of (last_of entry) l)) (sym last_told) any.left)));
      allows = (
        subst (λ (T : Table). AreResumed T (notified_at pt) resumed) (sym table)
            (subst (λ (i : List ℕ). AreResumed c.table (notified_at pt) i) resumed_told
            (kill_resumes p wf steps s c k t q proc live)),
        refl,
      );
      variables = refl;
      printed = refl;
      processes = refl;
    },
  ))
