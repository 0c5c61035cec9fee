-- No wake is lost: where no thread can move no process can, nor can one whose thread sleeps, where all others are
-- outside the taking and giving up of locks.
use Rattle.std.proofs.Common.{◌≡◌, ℕ, zero, suc, ◌<◌, true, false, List, Option, Some, None, refl, ap, sym, ◌∙◌, subst}
use Rattle.std.proofs.Common.{arith, inl, inr, ◌⊎◌}
use Rattle.std.specs.Prelude.{is_some, slice_get, length}
use Rattle.words.specs.declared.version.ImageVersion.{ImageVersion}
use Rattle.robustexit.specs.declared.phase.ExitPhase.{ExitPhase}
use Rattle.robustexit.specs.declared.phase.ExitPhase.TheVariants.{Entry, Pending, ClearId, LastWake, Ended as Ended'}
use Rattle.locals.specs.declared.frame.Locals.{Locals}
use Rattle.locals.specs.declared.frame.Frame.{Frame as MachineFrame}
use Rattle.locals.specs.Threads.{Thread, Runs as Runs', Exits as Exits'}
use Rattle.machine.specs.States.{State}
use Rattle.machine.specs.Runs.{CanStep, has_ended}
use Rattle.program.specs.declared.kinds.Member.{Member}
use Rattle.program.specs.declared.kinds.MemberType.TheVariants.{Condition}
use Rattle.program.specs.Scope.{member_in, member_type}
use Rattle.program.specs.Trees.{Monitor, Program}
use Rattle.lowering.specs.Cells.{Link}
use Rattle.lowering.proofs.CellLaws.{cell_above}
use Rattle.program.specs.WellFormed.{WellFormed}
use Rattle.meaning.specs.Labels.{Label}
use Rattle.meaning.specs.Table.{Table}
use Rattle.meaning.specs.Values.{Variables}
use Rattle.meaning.specs.Processes.{Process}
use Rattle.meaning.specs.Offers.{Effect, offer, TakesUp}
use Rattle.meaning.specs.States.{SourceState}
use Rattle.meaning.specs.Runs.{CanMove}
use Rattle.lowering.specs.Locks.{leave_length}
use Rattle.protocol.specs.Rules.{release_of}
use Rattle.protocol.specs.Points.{Purpose, ToEnter, ToReenter, ToResume, Spot, Point, Unmade, Walks, HasEnded}
use Rattle.protocol.specs.Points.{Entry as PendingEntry, NoEntry, Owned, Unowned, entry_word, taking_entry}
use Rattle.protocol.specs.World.{World}
use Rattle.protocol.specs.Cells.{Cell, LinkOf, PendingOf}
use Rattle.protocol.specs.Memory.{entry_address, stored_value}
use Rattle.protocol.specs.Exits.{PhaseIs, sleep_address}
use Rattle.protocol.specs.Runs.{IsNext, IsOutside, LosesNoWake, CanStep as CanStep', Goes as GoesOn}
use Rattle.protocol.proofs.Rest.{no_wake_lost}
use Rattle.protocol.proofs.Pend.{PendAt}
use Rattle.proof_thread.specs.Following.{Build}
use Rattle.refinement.specs.Refines.{Sleeps, HasEnded as IsAtEnd, RunsFreely}
use Rattle.refinement.specs.Built.{build_of}
use Rattle.proof_templates.specs.Layout.{place, valid, is_monitor}
use Rattle.proof_templates.specs.Locking.{Takes, EntersAt, ExitsAt, WaitsAt}
use Rattle.proof_templates.specs.Locking as L
use Rattle.proof_templates.specs.Notifying.{NotifiesAt, BroadcastsAt}
use Rattle.proof_templates.specs.Notifying as N
use Rattle.proof_templates.specs.Inside.{Template, Enters, Exits, Waits, Notifies, Broadcasts, process_at, StandsIn}
use Rattle.proof_templates.specs.Inside.{TemplateFits}
use Rattle.proof_templates.proofs.Layouts.{number_is, monitor_valid, is_cell}
use Rattle.proof_simulation.specs.Killing.{IsOfProgram}
use Rattle.proof_simulation.specs.Standing as S
use Rattle.proof_simulation.specs.Standing.{StandsAt}
use Rattle.proof_simulation.specs.Corresponding.{Reached, Corresponds}
use Rattle.proof_simulation.proofs.Worlds.{reached_good}
use Rattle.proof_simulation.proofs.Observing.{not_ended, number_of, few_made}

loses_none : (version : ImageVersion) (w : World) (T : Table) → Reached version w T → LosesNoWake w T
loses_none version w T r = subst (λ (x : Table). LosesNoWake w x) (sym r.table)
    (no_wake_lost version r.moves w r.led).waking

same_process : {x y : Process} → Some y ≡ Some x → y ≡ x
same_process e = cc

module _ (p : Program) (v : Variables) (t : ℕ) (before after : Process) (label : Label) (effect : Effect)
    (acts : TakesUp (offer p v before) label effect after) where
  abbrev Acts : Process → Type 0
  Acts q = TakesUp (offer p v q) label effect after

  -- what a process offers inside a template is what the point says
  inside_next : (k : Template) (pt : Point) (x : Thread) → process_at p k pt ≡ before → StandsIn p t k pt x
      → IsNext pt label
  inside_next (Enters m base l fs f cs) pt x e (L.EntersAt.takes (L.Takes.reads word)) =
      let a = subst (λ (q : Process). Acts q) (sym e) acts in (a.0, a.1)
  inside_next (Enters m base l fs f cs) pt x e (L.EntersAt.takes_again (L.Takes.reads word)) =
      let a = subst (λ (q : Process). Acts q) (sym e) acts in (a.0, a.1)
  inside_next (Enters m base l fs f cs) pt x e h = tt
  inside_next (Exits m base shown l fs q z cs) pt x e L.ExitsAt.pends = tt
  inside_next (Exits m base shown l fs q z cs) pt x e h = tt
  inside_next (Waits c base l fs q f cs ms) pt x e (L.WaitsAt.takes (L.Takes.reads word)) =
      let a = subst (λ (r : Process). Acts r) (sym e) acts in (a.0, a.1)
  inside_next (Waits c base l fs q f cs ms) pt x e h = tt
  inside_next (Notifies c base l fs q r ms) pt x e N.NotifiesAt.adds = tt
  inside_next (Notifies c base l fs q r ms) pt x e h = tt
  inside_next (Broadcasts c base l fs q r ms) pt x e N.BroadcastsAt.adds = tt
  inside_next (Broadcasts c base l fs q r ms) pt x e h = tt

  module _ (w : WellFormed p) (made : ℕ) where
    next_is : (o : Option Thread) (q : Option Process) (pt : Point) (l : List ℕ)
        → StandsAt (build_of p w made) v t o q pt l → q ≡ Some before → IsNext pt label
    next_is o q pt l S.unmade e = absurd cc
    next_is o q pt l (S.inside {y = y} {pt = at} left k u few walk fits same ne stands) e =
        inside_next k at y (same_process e) stands
    next_is o q pt l (S.reads left few c j h) e =
        let a = subst (λ (x : Process). Acts x) (sym (same_process e)) acts in (a.0, a.1)
    next_is o q pt l (S.sleeps left few c j h) e =
        let a = subst (λ (x : Process). Acts x) (sym (same_process e)) acts in (a.0, a.1)
    next_is o q pt l (S.walks {e = zero} phase is short en of) e = tt
    next_is o q pt l (S.walks {e = suc m} phase is short en of) e = tt
    next_is o q pt l S.rests e = subst (λ (x : Process). Acts x) (sym (same_process e)) acts
    next_is o q pt l stand e = tt

-- a thread that is awake and has ended, or runs code with the pending word 0, is outside
no_walk_ended : (p : Program) (e : ℕ) (x : PendingEntry) (phase : ExitPhase) (end : _)
    → PhaseIs (place p) (valid p) (Walks e x end) phase → has_ended (Some (Exits' phase)) ≡ true → ⊥
no_walk_ended p e x (Entry entry n) end is h = cc
no_walk_ended p e x Pending end is h = cc
no_walk_ended p e x ClearId end is h = cc
no_walk_ended p e x LastWake end is h = cc
no_walk_ended p zero x Ended' end is h = cc
no_walk_ended p (suc m) x Ended' end is h = cc is.1.1

-- a thread in its exit, and not at its end
pub data IsExiting (o : Option Thread) : Type 0 where
  exits : (phase : ExitPhase) → o ≡ Some (Exits' phase) → has_ended (Some (Exits' phase)) ≡ false → IsExiting o

exiting_ended : (o : Option Thread) → IsExiting o → has_ended o ≡ true → ⊥
exiting_ended o (exits phase e h) g = cc (sym h ∙ ap has_ended (sym e) ∙ g)

exiting_runs : (o : Option Thread) → IsExiting o → (place : ℕ) (operands : List ℕ) (locals : Locals)
    (callers : List MachineFrame) → o ≡ Some (Runs' place operands locals callers) → ⊥
exiting_runs o (exits phase e h) place operands locals callers g = cc (e, g)

walk_exiting : (p : Program) (e : ℕ) (x : PendingEntry) (phase : ExitPhase) (end : _)
    → PhaseIs (place p) (valid p) (Walks e x end) phase → IsExiting (Some (Exits' phase))
walk_exiting p e x (Entry entry n) end is = exits _ refl refl
walk_exiting p e x Pending end is = exits _ refl refl
walk_exiting p e x ClearId end is = exits _ refl refl
walk_exiting p e x LastWake end is = exits _ refl refl
walk_exiting p e x Ended' end is = absurd (no_walk_ended p e x Ended' end is refl)

-- outside a lock's taking and giving up, for a pending word, unless the thread is in its exit
outside_inside : (p : Program) (t : ℕ) (k : Template) (pt : Point) (x : Thread) (n : ℕ) → StandsIn p t k pt x → n ≡ 0
    → IsOutside pt n
outside_inside p t (Enters m base l fs f cs) pt x n (L.EntersAt.takes (L.Takes.reads word)) z = z
outside_inside p t (Enters m base l fs f cs) pt x n (L.EntersAt.takes h) z = z
outside_inside p t (Enters m base l fs f cs) pt x n (L.EntersAt.takes_again (L.Takes.reads word)) z = z
outside_inside p t (Enters m base l fs f cs) pt x n (L.EntersAt.takes_again h) z = z
outside_inside p t (Enters m base l fs f cs) pt x n h z = z
outside_inside p t (Exits m base shown l fs q y cs) pt x n L.ExitsAt.pends z = z
outside_inside p t (Exits m base shown l fs q y cs) pt x n h z = z
outside_inside p t (Waits c base l fs q f cs ms) pt x n (L.WaitsAt.takes (L.Takes.reads word)) z = z
outside_inside p t (Waits c base l fs q f cs ms) pt x n (L.WaitsAt.takes h) z = z
outside_inside p t (Waits c base l fs q f cs ms) pt x n h z = z
outside_inside p t (Notifies c base l fs q r ms) pt x n N.NotifiesAt.adds z = z
outside_inside p t (Notifies c base l fs q r ms) pt x n h z = z
outside_inside p t (Broadcasts c base l fs q r ms) pt x n N.BroadcastsAt.adds z = z
outside_inside p t (Broadcasts c base l fs q r ms) pt x n h z = z

-- a pending entry is that of a monitor of the program
module _ (p : Program) (t n i : ℕ) (is : n ≡ suc i) where
  here : (m : ℕ) → n ≡ suc m → is_monitor p m ≡ true → is_monitor p i ≡ true
  here m e there = let same : m ≡ i = cc in subst (λ u. is_monitor p u ≡ true) same there

  none : n ≡ 0 → is_monitor p i ≡ true
  none e = absurd (cc (e, is))

  purpose_entry : (m : ℕ) (k : Purpose) → n ≡ entry_word (taking_entry m k) → is_monitor p m ≡ true
      → is_monitor p i ≡ true
  purpose_entry m ToEnter e there = here m e there
  purpose_entry m ToReenter e there = here m e there
  purpose_entry m (ToResume c) e there = here m e there

  take_entry : (m : ℕ) (k : Purpose) (first : ℕ) (values : List ℕ) (fs : List MachineFrame) (pt : Point) (x : Thread)
      → is_monitor p m ≡ true → Takes p t m k first values fs pt x → PendAt pt n → is_monitor p i ≡ true
  take_entry m k first values fs pt x there (L.Takes.reads v) e = purpose_entry m k e there
  take_entry m k first values fs pt x there (L.Takes.marks v) e = purpose_entry m k e there
  take_entry m k first values fs pt x there (L.Takes.sleeps v) e = purpose_entry m k e there
  take_entry m k first values fs pt x there (L.Takes.tries v) e = purpose_entry m k e there
  take_entry m k first values fs pt x there (L.Takes.heads v) e = here m e there
  take_entry m k first values fs pt x there (L.Takes.links v h) e = here m e there
  take_entry m k first values fs pt x there (L.Takes.lists v) e = here m e there
  take_entry m k first values fs pt x there (L.Takes.unpends v) e = here m e there
  take_entry m k first values fs pt x there (L.Takes.enters v h) e = none e
  take_entry m k first values fs pt x there (L.Takes.recovers v h) e = none e

  -- a condition's monitor is one of the program
  home : (c : Member) → member_type p c ≡ Some Condition → is_monitor p c.monitor ≡ true
  home c e = by_monitor (slice_get p.monitors c.monitor) e
    where
      by_monitor : (o : Option Monitor) → member_in o c.number ≡ Some Condition → is_some o ≡ true
      by_monitor None h = absurd cc
      by_monitor (Some x) h = refl

  inside_entry : (b : Build) → b.program ≡ p → (u : Variables) (k : Template) (pt : Point) (x : Thread)
      → TemplateFits b u t k
      → StandsIn p t k pt x → PendAt pt n → is_monitor p i ≡ true
  inside_entry b same u (Enters m base l fs f cs) pt x fits stands e =
      let there = monitor_valid p m (subst (λ (q : Program). m < length q.monitors) same fits.monitor) in
      by_point there pt x stands e
    where
      by_point : is_monitor p m ≡ true → (pt : Point) (x : Thread) → EntersAt p t m base l fs pt x → PendAt pt n
          → is_monitor p i ≡ true
      by_point there pt x L.EntersAt.pends e = none e
      by_point there pt x L.EntersAt.tries e = here m e there
      by_point there pt x (L.EntersAt.takes h) e = take_entry m ToEnter _ _ fs pt x there h e
      by_point there pt x L.EntersAt.pends_again e = none e
      by_point there pt x L.EntersAt.tries_again e = here m e there
      by_point there pt x (L.EntersAt.takes_again h) e = take_entry m ToReenter _ _ fs pt x there h e
  inside_entry b same u (Exits m base shown l fs before z cs) pt x fits stands e =
      let there = monitor_valid p m (subst (λ (q : Program). m < length q.monitors) same fits.monitor) in
      by_point there pt x stands e
    where
      by_point : is_monitor p m ≡ true → (pt : Point) (x : Thread)
          → ExitsAt (leave_length p.version) (release_of p.version) p t m base shown l fs pt x → PendAt pt n
          → is_monitor p i ≡ true
      by_point there pt x L.ExitsAt.pends e = none e
      by_point there pt x L.ExitsAt.reads e = here m e there
      by_point there pt x (L.ExitsAt.cuts h) e = here m e there
      by_point there pt x L.ExitsAt.swaps e = here m e there
      by_point there pt x L.ExitsAt.wakes e = here m e there
      by_point there pt x L.ExitsAt.unpends e = here m e there
      by_point there pt x L.ExitsAt.goes e = none e
  inside_entry b same u (Waits c base l fs before f cs ms) pt x fits stands e =
      let there = home c (subst (λ (q : Program). member_type q c ≡ Some Condition) same fits.condition) in
      by_point there pt x stands e
    where
      by_point : is_monitor p c.monitor ≡ true → (pt : Point) (x : Thread)
          → WaitsAt (leave_length p.version) (release_of p.version) p t c base l fs pt x → PendAt pt n
          → is_monitor p i ≡ true
      by_point there pt x L.WaitsAt.numbers e = none e
      by_point there pt x (L.WaitsAt.pends v) e = none e
      by_point there pt x (L.WaitsAt.reads v) e = here c.monitor e there
      by_point there pt x (L.WaitsAt.cuts v h) e = here c.monitor e there
      by_point there pt x (L.WaitsAt.swaps v) e = here c.monitor e there
      by_point there pt x (L.WaitsAt.wakes v) e = here c.monitor e there
      by_point there pt x (L.WaitsAt.sleeps v) e = here c.monitor e there
      by_point there pt x (L.WaitsAt.takes h) e = take_entry c.monitor (ToResume c) _ _ fs pt x there h e
  inside_entry b same u (Notifies c base l fs before after ms) pt x fits N.NotifiesAt.adds e = none e
  inside_entry b same u (Notifies c base l fs before after ms) pt x fits N.NotifiesAt.wakes e = none e
  inside_entry b same u (Notifies c base l fs before after ms) pt x fits N.NotifiesAt.goes e = none e
  inside_entry b same u (Broadcasts c base l fs before after ms) pt x fits N.BroadcastsAt.adds e = none e
  inside_entry b same u (Broadcasts c base l fs before after ms) pt x fits N.BroadcastsAt.marks e = none e
  inside_entry b same u (Broadcasts c base l fs before after ms) pt x fits N.BroadcastsAt.reads e = none e
  inside_entry b same u (Broadcasts c base l fs before after ms) pt x fits (N.BroadcastsAt.moves v) e = none e
  inside_entry b same u (Broadcasts c base l fs before after ms) pt x fits N.BroadcastsAt.goes e = none e

-- and so is that of a killed thread
killed_entry : (p : Program) (n : ℕ) (x : PendingEntry) → IsOfProgram p x → n ≡ entry_word x → (m : ℕ) → n ≡ suc m
    → is_monitor p m ≡ true
killed_entry p n NoEntry of e m is = absurd (omega (arith, e, is))
killed_entry p n (Owned i) of e m is =
    let same : i ≡ m = omega (arith, e, is) in subst (λ u. is_monitor p u ≡ true) same (monitor_valid p i of)
killed_entry p n (Unowned i) of e m is =
    let same : i ≡ m = omega (arith, e, is) in subst (λ u. is_monitor p u ≡ true) same (monitor_valid p i of)

-- the address of such an entry isn't 0
no_entry : (p : Program) (n : ℕ) → ((m : ℕ) → n ≡ suc m → is_monitor p m ≡ true) → entry_address (place p) n ≡ 0 → n ≡ 0
no_entry p zero there e = refl
no_entry p (suc m) there e =
    let above = cell_above p (Link m) (is_cell p (LinkOf m) (there m refl)) in absurd (omega (arith, e, above))

module _ (p : Program) (w : WellFormed p) (made : ℕ) (v : Variables) (t n : ℕ) where
  -- a thread whose pending word is 0 is outside, unless it is in its exit
  outside : (o : Option Thread) (q : Option Process) (pt : Point) (l : List ℕ)
      → StandsAt (build_of p w made) v t o q pt l → (IsExiting o → ⊥) → PendAt pt n
      → entry_address (place p) n ≡ 0 → IsOutside pt n
  outside o q pt l S.unmade free e z = tt
  outside o q pt l (S.inside {y = y} {pt = at} left k u few walk fits same ne stands) free e z =
      outside_inside p t k at y n stands
      (no_entry p n (λ m is. inside_entry p t n m is (build_of p w made) refl u k at y fits stands e) z)
  outside o q pt l (S.killed {x = x} of) free e z = no_entry p n (killed_entry p n x of e) z
  outside o q pt l (S.walks {e = i} {x = x} {end = end} phase is short en of) free e z =
      absurd (free (walk_exiting p i x phase end is))
  outside o q pt l S.clears free e z = absurd (free (exits ClearId refl refl))
  outside o q pt l S.wakes free e z = absurd (free (exits LastWake refl refl))
  outside o q pt l S.rests free e z = tt
  outside o q pt l stand free e z = e

asleep_spot : (at : Cell → ℕ) (a : Option ℕ) (o : Option Spot) (x : ℕ) → a ≡ sleep_address at o → a ≡ Some x
    → (y : Spot) × (o ≡ Some y)
asleep_spot at a None x e h = absurd (cc (e, h))
asleep_spot at a (Some y) x e h = (y, refl)

-- who doesn't go on is outside
ended_outside : (pt : Point) (n : ℕ) → (GoesOn pt → ⊥) → IsOutside pt n
ended_outside Unmade n h = tt
ended_outside (HasEnded end) n h = tt
ended_outside pt n h = absurd (h tt)

module _ (p : Program) (w : WellFormed p) (steps : ℕ) (s : State) (c : SourceState)
    (k : Corresponds p w steps s c) where
  next_of : (q : ℕ) (can : CanMove p c q) → IsNext (k.world.at q).point can.moves.label
  next_of q can = next_is p c.variable q can.moves.before can.moves.after can.moves.label can.moves.effect
      can.moves.acts w k.world.made (s.thread q) (c.process q) (k.world.at q).point (k.world.at q).list (k.threads q)
      can.moves.stands

  pub at_rest : ((t : ℕ) → CanStep s t → ⊥) → (q : ℕ) → CanMove p c q → ⊥
  at_rest still q can =
      (loses_none p.version k.world c.table k.reached).at_rest moves q can.moves.label can.after.table (next_of q can)
      can.moves.allows
    where
      moves : (t : ℕ) → CanStep' k.world t → ⊥
      moves t m =
          let x = not_ended p w steps s c k t m.1 in
          still t (record {
            thread = x.0;
            stands = x.1;
            awake = k.shares.sleeps t ∙ ap (sleep_address (place p)) m.0;
            goes_on = x.2;
          })

  pub sleepers : ((t : ℕ) (x : Thread) → s.thread t ≡ Some x → Sleeps s t ⊎ (IsAtEnd s t ⊎ RunsFreely s t)) → (t : ℕ)
      → Sleeps s t → CanMove p c t → ⊥
  sleepers others t h can =
      let spot = asleep_spot (place p) (s.asleep t) (k.world.asleep t) h.0 (k.shares.sleeps t) h.1 in
      (loses_none p.version k.world c.table k.reached).sleepers calm t spot.0 spot.1 can.moves.label can.after.table
      (next_of t can) can.moves.allows
    where
      by_state : (u : ℕ) (x : Thread) → s.thread u ≡ Some x → k.world.asleep u ≡ None
          → Sleeps s u ⊎ (IsAtEnd s u ⊎ RunsFreely s u) → IsOutside (k.world.at u).point (k.world.pending u)
      by_state u x there awake (inl sleeps) =
          absurd (cc (sleeps.1, k.shares.sleeps u ∙ ap (sleep_address (place p)) awake))
      by_state u x there awake (inr (inl over)) =
          ended_outside (k.world.at u).point (k.world.pending u) (λ g.
          let y = not_ended p w steps s c k u g in cc (over, ap has_ended y.1 ∙ y.2))
      by_state u x there awake (inr (inr free)) =
          let number = number_of p w steps s c k u x there in
          let valid' = number_is p u number.0 (omega (arith, number.1, few_made p w steps s c k)) in
          let word : stored_value (place p) (PendingOf u) (k.world.pending u) ≡ 0 =
          sym (k.shares.words.word (PendingOf u) valid') ∙ free.5 in
          outside p w k.world.made c.variable u (k.world.pending u) (s.thread u) (c.process u) (k.world.at u).point
          (k.world.at u).list (k.threads u) (λ e. exiting_runs (s.thread u) e free.0 free.1 free.2 free.3 free.4)
          ((reached_good p.version k.world c.table k.reached).pends.pend u) word

      calm : (u : ℕ) → k.world.asleep u ≡ None → IsOutside (k.world.at u).point (k.world.pending u)
      calm u awake = by_thread (s.thread u) refl
        where
          by_thread : (o : Option Thread) → s.thread u ≡ o → IsOutside (k.world.at u).point (k.world.pending u)
          by_thread (Some x) e = by_state u x e awake (others u x e)
          by_thread None e = ended_outside (k.world.at u).point (k.world.pending u) (λ g.
              let y = not_ended p w steps s c k u g in cc (e, y.1))
