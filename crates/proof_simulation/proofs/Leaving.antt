-- The steps of an exit: over the entries of the robust list, each an abandoned monitor, and to the end.
use Rattle.std.proofs.Common.{Option, ◌≡◌, ◌⊎◌, ℕ, zero, suc, ◌+◌, ◌<◌, ◌≤◌, Bool, true, false, List, [], ◌∷◌}
use Rattle.std.proofs.Common.{length, Some, None, refl, ap, sym, ◌∙◌, subst, arith, inl, inr}
use Rattle.std.specs.Prelude.{if◌then◌else◌, is_some}
use Rattle.std.proofs.lemmas.Bool.{cases_eq, eq-eqb, ne_eqb, eqb-true, false≢true}
use Rattle.words.specs.Versions.{most_of}
use Rattle.robustexit.specs.declared.phase.ExitPhase.{ExitPhase}
use Rattle.robustexit.specs.declared.phase.ExitPhase.TheVariants.{ClearId, LastWake, Ended as Ended'}
use Rattle.locals.specs.Threads.{Exits}
use Rattle.locals.specs.Looks.{Look, Leaves, look}
use Rattle.machine.specs.States.{State}
use Rattle.program.specs.Trees.{Program}
use Rattle.program.specs.WellFormed.{WellFormed}
use Rattle.lowering.specs.Pieces.{code_of}
use Rattle.meaning.specs.Labels.{Kind, End, Ended, Aborted, Label, Abandons, Ends}
use Rattle.meaning.specs.Values.{Variables}
use Rattle.meaning.specs.Processes.{Process, Dying, Over}
use Rattle.meaning.specs.Offers.{Does, Nothing, Offer, offer, TakesUp}
use Rattle.meaning.specs.States.{SourceState}
use Rattle.protocol.specs.Points.{Entry as PendingEntry, NoEntry, Owned, Unowned, Point, Walks, ClearsId, LastWakes}
use Rattle.protocol.specs.Points.{HasEnded}
use Rattle.protocol.specs.World.{World, mem, tail, Distinct}
use Rattle.protocol.specs.Carries.{Event, Acts}
use Rattle.protocol.specs.Served.{is_pending, pending_event, source_event}
use Rattle.protocol.proofs.Roles.{Knows}
use Rattle.machine.specs.AbstractServing.{shared_of}
use Rattle.proof_templates.specs.Templates.{ActsSo}
use Rattle.protocol.specs.Steps.{go_list}
use Rattle.protocol.specs.Exits.{PhaseIs}
use Rattle.protocol.proofs.Good.{Good}
use Rattle.refinement.specs.Built.{build_of}
use Rattle.proof_templates.specs.Layout.{place, valid}
use Rattle.proof_simulation.specs.Ordering.{StepsWhole, Resumes}
use Rattle.proof_simulation.specs.Killing.{IsOfProgram, last_of, left_of}
use Rattle.proof_simulation.specs.Standing.{StandsAt, walks, clears, wakes, rests, ending, IsEnding, entries_seen}
use Rattle.proof_simulation.specs.Ranks.{rank, steps_left}
use Rattle.proof_simulation.specs.Corresponding.{Corresponds}
use Rattle.proof_simulation.proofs.Worlds.{reached_good}
use Rattle.proof_simulation.proofs.Completions.{plainly}
use Rattle.proof_simulation.proofs.Moving.{Next}
use Rattle.proof_simulation.proofs.Stepped.{stepped}
use Rattle.proof_simulation.proofs.ExitServing.{LeavesOn, WalkIsShort, leaves_on, first_listed, none_listed}
use Rattle.proof_simulation.proofs.ExitServing.{next_listed}
use Rattle.proof_simulation.proofs.ExitActions.{exit_told}
use Rattle.proof_simulation.proofs.Ending.{walks_left}
use Rattle.proof_simulation.proofs.Templating.{listed_next}
use Rattle.proof_simulation.specs.Deferred.{stages, raised_at}
use Rattle.protocol.proofs.Rest.{rules_kept}
use Rattle.protocol.specs.World.{opening_world}

-- a thread in its exit takes the step of its phase
walking_look : (p : Program) (t e : ℕ) (x : PendingEntry) (end : End) (phase : ExitPhase)
    → PhaseIs (place p) (valid p) (Walks e x end) phase → look (code_of p) t (Exits phase) ≡ Leaves phase
walking_look p t zero x end phase is = ap (λ (f : ExitPhase). look (code_of p) t (Exits f)) is ∙ ap Leaves (sym is)
walking_look p t (suc m) x end phase is =
    ap (λ (f : ExitPhase). look (code_of p) t (Exits f)) is.1.1 ∙ ap Leaves (sym is.1.1)

-- the walk passes the pending entry over, whose monitor is abandoned last, and abandons another now
left_step : (x : PendingEntry) (m : ℕ) (ms : List ℕ)
    → ((is_pending x m ≡ true) × (left_of (last_of x) (m ∷ ms) ≡ left_of (last_of x) ms))
    ⊎ ((is_pending x m ≡ false) × (left_of (last_of x) (m ∷ ms) ≡ m ∷ left_of (last_of x) ms))
left_step NoEntry m ms = inr (refl, refl)
left_step (Unowned n) m ms = inr (refl, refl)
left_step (Owned n) m ms = elim (cases_eq n m) [
  | inl e ↦ inl (eq-eqb n m e, rw (eq-eqb m n (sym e)) refl)
  | inr o ↦ inr (ne_eqb n m o, rw (ne_eqb m n (λ e. o (sym e))) refl)
]

-- no entry behind the pending one is pending
not_pending : (x : PendingEntry) (m k : ℕ) → is_pending x m ≡ true → (k ≡ m → ⊥) → is_pending x k ≡ false
not_pending NoEntry m k h o = refl
not_pending (Unowned n) m k h o = refl
not_pending (Owned n) m k h o = ne_eqb n k (λ e. o (sym e ∙ eqb-true n m h))

walk_falls : (w : World) (e : ℕ) (x : PendingEntry) (end : End) → ((k : ℕ) → e ≡ suc k → is_pending x k ≡ false)
    → rank 0 w (Walks e x end) ≤ 3
walk_falls w zero x end other = omega arith
walk_falls w (suc m) x end other =
    let one = ap {B = ℕ} (λ (b : Bool). if b then 4 else 1) (other m refl) in omega (arith, one)

ending_offer : (p : Program) (v : Variables) (end : End) → offer p v (ending end [])
    ≡ Does (Ends end) Nothing (Over end)
ending_offer p v (Ended z) = refl
ending_offer p v (Aborted cause) = refl

module _ (p : Program) (w : WellFormed p) (steps : ℕ) (s : State) (c : SourceState) (k : Corresponds p w steps s c)
    (t : ℕ) (woken : List ℕ) (done raises : Bool) (deferral : Option Kind) (pauses : Bool) (s' : State) (n : ℕ)
    (number : (0 < t) × (t ≤ k.world.made))
    (few : k.world.made ≤ most_of p.version) (awake : k.world.asleep t ≡ None) where
  inv : Good k.world c.table
  inv = reached_good p.version k.world c.table k.reached

  abbrev l : List ℕ
  l = (k.world.at t).list

  abbrev Stand : ℕ → ExitPhase → Process → Point → List ℕ → Type 0
  Stand made phase q pt ms = StandsAt (build_of p w made) c.variable t (Some (Exits phase)) (Some q) pt ms

  -- a walk has no end but an abort where a monitor is left
  abandons : (end : End) (m : ℕ) (ms rest : List ℕ) → ms ≡ m ∷ rest → IsEnding end ms
      → TakesUp (offer p c.variable (ending end ms)) (Abandons m) Nothing (ending end rest) × IsEnding end rest
  abandons (Ended z) m ms rest first is = absurd (cc (is, first))
  abandons (Aborted cause) m ms rest first is = (
    subst (λ (i : List ℕ). TakesUp (offer p c.variable (Dying cause i)) (Abandons m) Nothing (Dying cause rest))
        (sym first) (refl, refl, refl),
    tt,
  )

  -- where the thread stands, by its phase, and how many steps are left
  at_phase : (later phase : ExitPhase) (q : Process) (pt : Point) (ms : List ℕ) (few' made : ℕ) → later ≡ phase
      → (stand : Stand made phase q pt ms)
      → ((world : World) → steps_left (build_of p w made) c.variable t world stand ≡ few')
      → (stand : Stand made later q pt ms)
      × ((world : World) → steps_left (build_of p w made) c.variable t world stand ≡ few')
  at_phase later phase q pt ms few' made same stand left =
      subst (λ (f : ExitPhase). (stand : Stand made f q pt ms)
      × ((world : World) → steps_left (build_of p w made) c.variable t world stand ≡ few')) (sym same) (stand, left)

  module _ (x : PendingEntry) (end : End) (of : IsOfProgram p x) where
    -- what is left to be abandoned
    abbrev left : List ℕ → List ℕ
    left ms = left_of (last_of x) ms

    -- what the step at an entry carries, by whether it is the pending one
    abbrev event : ℕ → Bool → Option Event
    event m b = if b then None else Some (Acts t (Abandons m))

    module _ (e : ℕ) (phase : ExitPhase) (is : PhaseIs (place p) (valid p) (Walks e x end) phase)
        (short : entries_seen phase + length l ≤ 64) (ends : IsEnding end (left l))
        (proc : c.process t ≡ Some (ending end (left l))) (point : (k.world.at t).point ≡ Walks e x end)
        (g : StepsWhole p done raises deferral None s t woken (Leaves phase) s') where
      on : LeavesOn p s s' k.world t (Walks e x end)
      on = leaves_on p w s k.world c.table t k.shares inv number.0 (omega (arith, number.1, few)) k.size
          (rules_kept k.reached.moves (opening_world p.version) k.world k.reached.led)
          (Walks e x end) phase woken s' tt of point (k.lists t) is (short_walk e)
          (plainly p done raises deferral None s t woken (Leaves phase) s' g)
        where
          short_walk : (i : ℕ) → WalkIsShort (Walks i x end) phase l
          short_walk zero = short
          short_walk (suc m) = short

      -- whether the step is an action
      shown : (r : ℕ) (w' : World) (e' : End)
          → done ≡ is_some (source_event k.world c.table t (Walks e x end) r w' e')
      shown r w' e' = g.4
          ∙ exit_told p w (shared_of s) k.world c.table t x end k.shares inv number.0 (omega (arith, number.1, few))
          of e phase r w' e' point is

    -- the end of the walk: what is pending is abandoned, if the thread owns it
    end_step : (phase : ExitPhase) → PhaseIs (place p) (valid p) (Walks zero x end) phase
        → entries_seen phase + length l ≤ 64 → IsEnding end (left l) → c.process t ≡ Some (ending end (left l))
        → (k.world.at t).point ≡ Walks zero x end → 3 ≤ n → StepsWhole p done raises deferral None s t woken (Leaves
        phase) s'
        → Next p w steps s' t done raises deferral pauses n c (stages k.world) (raised_at k.world)
    end_step phase is short ends proc point enough g =
        let on' = on zero phase is short ends proc point g in
        stepped p w steps s c k t done raises deferral pauses s' on'.mid n 0 (Exits on'.later) (ending end (left l))
        (Walks zero x end) number awake proc point on'.served on'.same g.5 g.6 tt
        (λ e may. shown zero phase is short ends proc point g on'.served.reply on'.served.after e)
        (λ e u label h. resumes x u label h)
        (λ e may.
        let st = at_phase on'.later ClearId (ending end []) (ClearsId end) l 2 on'.served.after.made (on'.phase e)
        clears (λ world. refl) in
        record {
          process = ending end [];
          acts = last x ends none;
          stands = st.0;
          listed = k.lists t;
          blank = λ h. absurd h;
          paced = λ h z. let few' = st.1 (go_list on'.served.after t (ClearsId end) l) in
              omega (arith, few', enough);
        })
      where
        none : l ≡ []
        none = none_listed k.world c.table t x end inv point

        last : (y : PendingEntry) → IsEnding end (left_of (last_of y) l) → l ≡ []
            → ActsSo p c.variable t (pending_event t y) (ending end (left_of (last_of y) l)) (ending end [])
        last NoEntry ends none = ap (ending end) (sym none)
        last (Unowned m) ends none = ap (ending end) (sym none)
        last (Owned m) ends none =
            let one : left_of (Some m) l ≡ m ∷ [] = ap (left_of (Some m)) none in
            (refl, (abandons end m (left_of (Some m) l) [] one ends).0)

        resumes : (y : PendingEntry) (u : ℕ) (label : Label) → pending_event t y ≡ Some (Acts u label)
            → Resumes p s' c.table label
        resumes NoEntry u label h = absurd cc
        resumes (Unowned m) u label h = absurd cc
        resumes (Owned m) u label h =
            let same : Abandons m ≡ label = cc in subst (λ (i : Label). Resumes p s' c.table i) same tt

    -- behind the pending entry
    next_falls : (m : ℕ) → (k.world.at t).point ≡ Walks (suc m) x end → l ≡ m ∷ tail l → is_pending x m ≡ true
        → (world : World) → rank 0 world (Walks (k.world.link m) x end) ≤ 3
    unfolding Knows
    next_falls m point first h world = walk_falls world (k.world.link m) x end (λ i link. not_pending x m i h (λ same.
        let apart = (subst Distinct first (inv.locks.knows t).0).0 in
        false≢true (sym apart ∙ ap (λ j. mem j (tail l)) (sym same)
        ∙ next_listed k.world c.table t m i x end inv point link)))

    -- an entry of the walk is passed over, or abandoned
    entry_step : (m : ℕ) (phase : ExitPhase) → PhaseIs (place p) (valid p) (Walks (suc m) x end) phase
        → entries_seen phase + length l ≤ 64 → IsEnding end (left l) → c.process t ≡ Some (ending end (left l))
        → (k.world.at t).point ≡ Walks (suc m) x end → (if is_pending x m then 4 else 1) ≤ n
        → StepsWhole p done raises deferral None s t woken (Leaves phase) s'
        → Next p w steps s' t done raises deferral pauses n c (stages k.world) (raised_at k.world)
    entry_step m phase is short ends proc point enough g = elim (left_step x m (tail l)) [
      | inl q ↦
          let same : left l ≡ left (tail l) = ap left first ∙ q.1 in
          let four : 4 ≤ n = subst (λ (b : Bool). (if b then 4 else 1) ≤ n) q.0 enough in
          by_event true q.0
          (ap (ending end) (sym same))
          (subst (λ (i : List ℕ). IsEnding end i) same ends)
          (λ e u label h. absurd cc)
          (λ few'. four)
      | inr q ↦
          let same : left l ≡ m ∷ left (tail l) = ap left first ∙ q.1 in
          let does = abandons end m (left l) (left (tail l)) same ends in
          by_event false q.0 (refl, does.0) does.1
          (λ e u label h. let same : Abandons m ≡ label = cc in subst (λ (i : Label). Resumes p s' c.table i) same tt)
          (λ h. absurd cc)
    ]
      where
        first : l ≡ m ∷ tail l
        first = first_listed k.world c.table t m x end inv point

        by_event : (b : Bool) → is_pending x m ≡ b
            → ActsSo p c.variable t (event m b) (ending end (left l)) (ending end (left (tail l)))
            → IsEnding end (left (tail l))
            → ((e : End) (u : ℕ) (label : Label) → event m b ≡ Some (Acts u label) → Resumes p s' c.table label)
            → (event m b ≡ None → 4 ≤ n)
            → Next p w steps s' t done raises deferral pauses n c (stages k.world) (raised_at k.world)
        by_event b is_b acts ends' resumes paced =
            let on' = on (suc m) phase is short ends proc point g in
            stepped p w steps s c k t done raises deferral pauses s' on'.mid n 0 (Exits on'.later) (ending end (left l))
            (Walks (suc m) x end) number awake proc point on'.served on'.same g.5 g.6 tt
            (λ e may. shown (suc m) phase is short ends proc point g on'.served.reply on'.served.after e)
            (λ e u label h. resumes e u label (sym (ap (event m) is_b) ∙ h))
            (λ e may. record {
              process = ending end (left (tail l));
              acts = subst (λ (i : Bool). ActsSo p c.variable t (event m i) (ending end (left l))
                  (ending end (left (tail l)))) (sym is_b) acts;
              stands = walks on'.later (on'.phase e) (on'.short e) ends' of;
              listed = listed_next (length p.monitors) (Walks (suc m) x end) l (λ i v h. absurd cc) (k.lists t);
              blank = λ h. absurd h;
              paced = λ h z. falls b is_b paced on' e ends' h;
            })
          where
            falls : (b : Bool) → is_pending x m ≡ b → (event m b ≡ None → 4 ≤ n)
                → (on' : LeavesOn p s s' k.world t (Walks (suc m) x end)) (e : End)
                (ends' : IsEnding end (left (tail l)))
                → event m (is_pending x m) ≡ None
                → steps_left (build_of p w on'.served.after.made) c.variable t
                (go_list on'.served.after t (Walks (k.world.link m) x end) (tail l))
                (walks {e = k.world.link m} {x = x} {end = end} {ms = tail l} on'.later (on'.phase e) (on'.short e)
                ends' of) < n
            falls true is_b paced on' e ends' h =
                let world = go_list on'.served.after t (Walks (k.world.link m) x end) (tail l) in
                let is' = walks_left (build_of p w on'.served.after.made) c.variable t world (k.world.link m) x end
                (tail l) on'.later (on'.phase e) (on'.short e) ends' of in
                let fall = next_falls m point first is_b world in
                let most = paced refl in
                omega (arith, is', fall, most)
            falls false is_b paced on' e ends' h = absurd (cc (h, ap (event m) is_b))

    pub walk_step : (e : ℕ) (phase : ExitPhase) → PhaseIs (place p) (valid p) (Walks e x end) phase
        → entries_seen phase + length l ≤ 64 → IsEnding end (left l) → c.process t ≡ Some (ending end (left l))
        → (k.world.at t).point ≡ Walks e x end → rank 0 k.world (Walks e x end) ≤ n
        → StepsWhole p done raises deferral None s t woken (look (code_of p) t (Exits phase)) s'
        → Next p w steps s' t done raises deferral pauses n c (stages k.world) (raised_at k.world)
    walk_step zero phase is short ends proc point enough moves =
        end_step phase is short ends proc point enough
        (subst (λ (g : Look). StepsWhole p done raises deferral None s t woken g s') (walking_look p t zero x end phase
        is) moves)
    walk_step (suc m) phase is short ends proc point enough moves =
        entry_step m phase is short ends proc point enough
        (subst (λ (g : Look). StepsWhole p done raises deferral None s t woken g s')
        (walking_look p t (suc m) x end phase is)
        moves)

  -- the id word is cleared: the process is over
  pub clear_step : (end : End) → c.process t ≡ Some (ending end []) → (k.world.at t).point ≡ ClearsId end
      → StepsWhole p done raises deferral None s t woken (look (code_of p) t (Exits ClearId)) s'
      → Next p w steps s' t done raises deferral pauses n c (stages k.world) (raised_at k.world)
  clear_step end proc point moves =
      let on = leaves_on p w s k.world c.table t k.shares inv number.0 (omega (arith, number.1, few)) k.size
      (rules_kept k.reached.moves (opening_world p.version) k.world k.reached.led)
      (ClearsId end) ClearId woken s' tt tt point (k.lists t) refl tt (plainly p done raises deferral None s t woken
      (Leaves ClearId) s' moves) in
      stepped p w steps s c k t done raises deferral pauses s' on.mid n 0 (Exits on.later) (ending end [])
      (ClearsId end) number awake
      proc point on.served on.same moves.5 moves.6 tt (λ e may. moves.4)
      (λ e u label h. let same : Ends end ≡ label = cc in subst (λ (i : Label). Resumes p s' c.table i) same tt)
      (λ e may.
      let st = at_phase on.later LastWake (Over end) (LastWakes end) l 1 on.served.after.made (on.phase e) wakes
      (λ world. refl) in
      record {
        process = Over end;
        acts = (
          refl,
          subst (λ (o : Offer). TakesUp o (Ends end) Nothing (Over end))
              (sym (ending_offer p c.variable end)) (refl, refl, refl),
        );
        stands = st.0;
        listed = k.lists t;
        blank = λ h. absurd h;
        paced = λ h z. absurd cc;
      })

  -- the last wake
  pub wake_step : (end : End) → c.process t ≡ Some (Over end) → (k.world.at t).point ≡ LastWakes end → 1 ≤ n
      → StepsWhole p done raises deferral None s t woken (look (code_of p) t (Exits LastWake)) s'
      → Next p w steps s' t done raises deferral pauses n c (stages k.world) (raised_at k.world)
  wake_step end proc point enough moves =
      let on = leaves_on p w s k.world c.table t k.shares inv number.0 (omega (arith, number.1, few)) k.size
      (rules_kept k.reached.moves (opening_world p.version) k.world k.reached.led)
      (LastWakes end) LastWake woken s' tt tt point (k.lists t) refl tt (plainly p done raises deferral None s t woken
      (Leaves LastWake) s' moves)
      in
      stepped p w steps s c k t done raises deferral pauses s' on.mid n 0 (Exits on.later) (Over end)
      (LastWakes end) number awake
      proc point on.served on.same moves.5 moves.6 tt (λ e may. moves.4)
      (λ e u label h. absurd cc)
      (λ e may.
      let st = at_phase on.later Ended' (Over end) (HasEnded end) l 0 on.served.after.made (on.phase e) rests
      (λ world. refl) in
      record {
        process = Over end;
        acts = refl;
        stands = st.0;
        listed = k.lists t;
        blank = λ h. absurd h;
        paced = λ h z. let left = st.1 (go_list on.served.after t (HasEnded end) l) in omega (arith, left, enough);
      })
