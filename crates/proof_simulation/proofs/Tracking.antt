-- The source goes on behind the machine, step by step.
use Rattle.std.proofs.Common.{inr, inl, ◌≡◌, ◌≢◌, ℕ, suc, ◌+◌, ◌<◌, ◌≤◌, Bool, true, false, List, [], ◌∷◌, Option, Some}
use Rattle.std.proofs.Common.{None, refl, ap, sym, ◌∙◌, subst, arith, length, length-append}
use Rattle.std.proofs.lemmas.Bool.{cases_eq, false≢true}
use Rattle.std.specs.Prelude.{◌^◌, ◌++◌, ◌↔◌}
use Rattle.words.specs.Updates.{put}
use Rattle.locals.specs.Looks.{look}
use Rattle.locals.specs.Threads.{Thread}
use Rattle.machine.specs.States.{State, opening_state, with_sleepers}
use Rattle.proof_commutation.proofs.Keeping.{at_still}
use Rattle.proof_simulation.specs.Next.{take_deferred}
use Rattle.proof_simulation.specs.Strays.{stray_condition, after_stray}
use Rattle.proof_simulation.specs.Tracking.{TracksStray, TracksKill, RaisedSo}
use Rattle.locals.specs.Threads.{is_dying}
use Rattle.machine.specs.Runs.{killed_to}
use Rattle.meaning.specs.Labels.{Killed}
use Rattle.meaning.specs.Processes.{Dying}
use Rattle.meaning.specs.Runs.{Leads}
use Rattle.meaning.specs.Table.{without_waiters}
use Rattle.proof_commutation.specs.Placed.{actions_of}
use Rattle.proof_commutation.proofs.Deferred.{at_equal}
use Rattle.protocol.specs.World.{World}
use Rattle.proof_simulation.specs.Killing as Killing
use Rattle.proof_simulation.specs.Kills.{killed_last, killed_resumed, held_by, after_kill}
use Rattle.proof_simulation.specs.Next.{offer_of_process}
use Rattle.proof_simulation.specs.Ordering.{raises_number}
use Rattle.proof_simulation.specs.Deferred.{Leaves, raised_at, raised_then}
use Rattle.proof_simulation.proofs.KillSteps.{killed_ties, killed_staged, killed_raised, killed_step}
use Rattle.proof_simulation.proofs.Nexts.{caught_up_behind}
use Rattle.proof_simulation.proofs.Strays.{Strayed, strayed}
use Rattle.machine.specs.Runs.{Step, IsOwnStep, is_paused}
use Rattle.program.specs.Trees.{Program}
use Rattle.program.specs.WellFormed.{WellFormed}
use Rattle.lowering.specs.Pieces.{marks_of, code_of}
use Rattle.meaning.specs.Labels.{Kind, Label, Alone, Stores, Forks, FindsFull, Claims, FindsClaimed, Joins, Enters}
use Rattle.meaning.specs.Labels.{Resumes, Exits, Waits, Notifies, Broadcasts, Abandons, Ends, kind_of, End}
use Rattle.meaning.specs.Processes.{Process, Over}
use Rattle.meaning.specs.Table.{Table, Hold, Free, Abandoned, HeldBy, Allows, enterable}
use Rattle.meaning.specs.Values.{Variables}
use Rattle.meaning.specs.Offers.{Nothing, offer, TakesUp}
use Rattle.meaning.specs.Runs.{IsAction, IsStep as IsSourceStep}
use Rattle.meaning.specs.States.{SourceState, opening}
use Rattle.meaning.proofs.Unique.{step_once}
use Rattle.proof_commutation.specs.Deferring.{is_internal, IsBehind, LeadsDeferredAt}
use Rattle.proof_commutation.proofs.Deferred.{First, at_first, at_same}
use Rattle.proof_commutation.proofs.Behind as D
use Rattle.protocol.specs.Carries.{IsByHolder}
use Rattle.protocol.specs.Points.{Point}
use Rattle.words.proofs.Updates.{put_other, at_put, put_same}
use Rattle.refinement.specs.Built.{build_of}
use Rattle.proof_thread.specs.Variables.{IsVariable, variable_address}
use Rattle.program.specs.declared.kinds.Member.{Member}
use Rattle.words.specs.Signed.{word_of}
use Rattle.refinement.specs.Seen.{machine_end, source_end, process_end}
use Rattle.proof_simulation.specs.Standing.{StandsAt}
use Rattle.proof_simulation.specs.Standing as S
use Rattle.proof_simulation.specs.Corresponding.{Corresponds}
use Rattle.proof_simulation.specs.Ordering.{StepsSo, StepsWhole, MovesSo, Places, act, state_after, Resumes as Resumes'}
use Rattle.proof_simulation.specs.Ordering as P
use Rattle.proof_simulation.specs.Tracking.{CanTake, Tracks, HasDeferred}
use Rattle.proof_simulation.proofs.Moving.{Next, left_of}
use Rattle.proof_simulation.proofs.Observing.{number_of, ends}
use Rattle.proof_simulation.proofs.Stepping.{next}
use Rattle.proof_simulation.proofs.Opening.{opens_calm, opens_quiet, opens}
use Rattle.proof_simulation.proofs.Worlds.{reached_good}
use Rattle.words.specs.declared.outcome.Fault.{Fault}
use Rattle.proof_simulation.proofs.Local.{put_again}
use Rattle.proof_simulation.proofs.Completions.{told_deferral}
use Rattle.proof_simulation.proofs.WholeCalls.{steps_whole}
use Rattle.proof_simulation.specs.Deferred.{Stage, stages, Agrees, Stays, is_failing, has_failed, deferred_then}
use Rattle.proof_simulation.specs.Deferred.{Works, Meets}
use Rattle.proof_thread.specs.Deferrals.{mark_of}
use Rattle.meaning.specs.Labels as L
use Rattle.std.specs.Prelude.{if◌then◌else◌, ◌||◌, ◌&&◌}
use Rattle.proof_thread.specs.Completing.{IsOwn}
use Rattle.proof_simulation.specs.Deferred.{AreOwn}

-- who holds a monitor keeps it by another's action
hold_other : (hold : ℕ → Hold) (n m : ℕ) (x : Hold) (u : ℕ) → (m ≡ n → hold m ≡ HeldBy u → ⊥) → hold m ≡ HeldBy u
    → put hold n x m ≡ HeldBy u
hold_other hold n m x u apart h = at_put hold n x m (λ y. y ≡ HeldBy u) (λ e. absurd (apart e h)) (λ o. h)

same_holder : (t u : ℕ) → HeldBy t ≡ HeldBy u → t ≡ u
same_holder t u e = cc

nobody_holds : (b : Bool) (u : ℕ) → enterable b ≡ HeldBy u → ⊥
nobody_holds true u e = cc
nobody_holds false u e = cc

keeps_holders : (t u m : ℕ) (label : Label) (T T' : Table) → u ≢ t → Allows t label T T' → IsByHolder t label T
    → T.hold m ≡ HeldBy u → T'.hold m ≡ HeldBy u
keeps_holders t u m (Alone kind) T T' other allows mine h = ap (λ (x : Table). x.hold m) allows ∙ h
keeps_holders t u m (Stores n) T T' other allows mine h = ap (λ (x : Table). x.hold m) allows ∙ h
keeps_holders t u m (Forks child) T T' other allows mine h = ap (λ (x : Table). x.hold m) allows.2 ∙ h
keeps_holders t u m FindsFull T T' other allows mine h = ap (λ (x : Table). x.hold m) allows.1 ∙ h
keeps_holders t u m (Claims child) T T' other allows mine h = ap (λ (x : Table). x.hold m) allows.1 ∙ h
keeps_holders t u m (FindsClaimed child) T T' other allows mine h = ap (λ (x : Table). x.hold m) allows.1 ∙ h
keeps_holders t u m (Joins child end) T T' other allows mine h = ap (λ (x : Table). x.hold m) allows.1 ∙ h
keeps_holders t u m (Enters n b) T T' other allows mine h = ap (λ (x : Table). x.hold m) allows.1
    ∙ hold_other T.hold n m (HeldBy t) u (λ e i. nobody_holds b u (sym allows.0 ∙ ap T.hold (sym e) ∙ i)) h
keeps_holders t u m (Resumes n b) T T' other allows mine h = ap (λ (x : Table). x.hold m) allows.2
    ∙ hold_other T.hold n m (HeldBy t) u (λ e i. nobody_holds b u (sym allows.1 ∙ ap T.hold (sym e) ∙ i)) h
keeps_holders t u m (Exits n) T T' other allows mine h = ap (λ (x : Table). x.hold m) allows
    ∙ hold_other T.hold n m Free u (λ e i. other (sym (same_holder t u (sym mine ∙ ap T.hold (sym e) ∙ i)))) h
keeps_holders t u m (Waits c) T T' other allows mine h = ap (λ (x : Table). x.hold m) allows
    ∙ hold_other T.hold c.monitor m Free u (λ e i. other (sym (same_holder t u (sym mine ∙ ap T.hold (sym e) ∙ i)))) h
keeps_holders t u m (Notifies c resumed) T T' other allows mine h = ap (λ (x : Table). x.hold m) allows.1 ∙ h
keeps_holders t u m (Broadcasts c resumed) T T' other allows mine h = ap (λ (x : Table). x.hold m) allows.1 ∙ h
keeps_holders t u m (Abandons n) T T' other allows mine h = ap (λ (x : Table). x.hold m) allows
    ∙ hold_other T.hold n m Abandoned u (λ e i. other (sym (same_holder t u (sym mine ∙ ap T.hold (sym e) ∙ i)))) h
keeps_holders t u m (Ends end) T T' other allows mine h = ap (λ (x : Table). x.hold m) allows ∙ h

-- a fault waits just where the stage of a thread says so, behind a step of one thread
pub agrees_next : (was : ℕ → Stage) (now : Stage) (t : ℕ) (failed : ℕ → Bool) (after : ℕ → Stage)
    → ((u : ℕ) → after u ≡ put was t now u) → ((u : ℕ) → u ≢ t → Agrees (was u) (failed u)) → Agrees now (failed t)
    → (u : ℕ) → Agrees (after u) (failed u)
agrees_next was now t failed after staged others here u =
    subst (λ (x : Stage). Agrees x (failed u)) (sym (staged u))
    (at_put was t now u (λ (x : Stage). Agrees x (failed u))
    (λ e. subst (λ v. Agrees now (failed v)) (sym e) here) (λ o. others u o))

pub stays_agreed : (was now : Stage) (failed : Bool) → Stays was now → Agrees was failed → Agrees now failed
stays_agreed was now failed (inl e) h = subst (λ (x : Stage). Agrees x failed) (sym e) h
stays_agreed was now failed (inr e) h = subst (λ (x : Stage). Agrees x failed) (sym e) tt

or_false : (b : Bool) → (b || false) ≡ b
or_false true = refl
or_false false = refl

or_on : (a b d : Bool) → ((a || b) || d) ≡ (a || (b || d))
or_on true b d = refl
or_on false b d = refl

pub and_false : (b : Bool) → (b && false) ≡ false
and_false true = refl
and_false false = refl

own_more : (ks : List Kind) (k : Kind) → AreOwn ks → IsOwn k → AreOwn (ks ++ k ∷ [])
own_more [] k h g = (g, tt)
own_more (x ∷ ks) k h g = (h.0, own_more ks k h.1 g)

-- one more that waits
pub failed_more : (ks : List Kind) (k : Kind) → has_failed (ks ++ k ∷ []) ≡ (has_failed ks || is_failing k)
failed_more [] k = or_false (is_failing k)
failed_more (x ∷ ks) k = ap (λ b. is_failing x || b) (failed_more ks k)
    ∙ sym (or_on (is_failing x) (has_failed ks) (is_failing k))

pub failed_first : (ks : List Kind) (k : Kind) → has_failed ks ≡ false → has_failed (ks ++ k ∷ []) ≡ is_failing k
failed_first ks k h = failed_more ks k ∙ ap (λ b. b || is_failing k) h

pub more_deferred : (ks : List Kind) (k : Kind) → has_failed ks ≡ false → deferred_then (Some k) ks ≡ ks ++ k ∷ []
more_deferred ks k h = ap (λ b. if is_failing k && b then ks else ks ++ k ∷ []) h
    ∙ ap (λ b. if b then ks else ks ++ k ∷ []) (and_false (is_failing k))

deferred_again : (ks : List Kind) (fault : Fault) → has_failed ks ≡ true → deferred_then (Some (L.Fails fault)) ks ≡ ks
deferred_again ks fault h = ap (λ b. if b then ks else ks ++ L.Fails fault ∷ []) h

module _ (p : Program) (w : WellFormed p) where
  pub opens_tracking : Tracks p w 0 (opening_state (code_of p)) (opening p)
  opens_tracking = record {
    deferred = λ t. [];
    ahead = opening p;
    ties = opens p w;
    behind = D.begins p (opening p);
    few = λ t. omega arith;
    agrees = λ t. subst (λ (x : Stage). Agrees x false) (sym (opens_calm p w t)) refl;
    own = λ t. tt;
  }

  pub opens_deferred : (o : Tracks p w 0 (opening_state (code_of p)) (opening p)) × (o.deferred ≡ (λ t. []))
      × ((u : ℕ) → raised_at o.ties.world u ≡ false)
  unfolding opens_tracking
  opens_deferred = (opens_tracking, refl, opens_quiet p w)

  -- no process has the next number
  fresh : (steps : ℕ) (s : State) (c : SourceState) → Corresponds p w steps s c
      → c.process (c.table.made + 1) ≡ None
  fresh steps s c k = by_thread (s.thread n) refl
    where
      n : ℕ
      n = c.table.made + 1

      unmade : (o : Option Thread) (q : Option Process) (pt : Point) (l : List ℕ)
          → StandsAt (build_of p w k.world.made) c.variable n o q pt l → o ≡ None → q ≡ None
      unmade o q pt l S.unmade e = refl
      unmade o q pt l stand e = absurd cc

      by_thread : (o : Option Thread) → s.thread n ≡ o → c.process n ≡ None
      by_thread None e = unmade (s.thread n) (c.process n) (k.world.at n).point (k.world.at n).list (k.threads n) e
      by_thread (Some x) e =
          let number = number_of p w steps s c k n x e in
          let made = (reached_good p.version k.world c.table k.reached).made in
          absurd (omega (arith, number.1, made))

  -- a step with whole calls, which is none that others learn of, or is one; and what waits behind it
  pub tracks_whole : (steps : ℕ) (s : State) (a : SourceState) (r : Tracks p w steps s a) (t : ℕ) (woken : List ℕ)
      (s' : State) (x : Thread) → s.thread t ≡ Some x → s.asleep t ≡ None → (done raises : Bool)
      (deferral : Option Kind)
      → StepsWhole p done raises deferral (mark_of (marks_of p) x) s t woken (look (code_of p) t x) s'
      → steps + 1 < 2 ^ 32
      → (done ≡ false → (n : Tracks p w (suc steps) s' a)
      × (n.deferred ≡ put r.deferred t (deferred_then deferral (r.deferred t)))
      × RaisedSo r.ties.world n.ties.world t (raised_then done raises (raised_at r.ties.world t)))
      × (done ≡ true → (o : HasDeferred p w (suc steps) s' t a (r.deferred t))
      × (o.deferred ≡ r.deferred)
      × RaisedSo r.ties.world o.ties.world t (raised_then done raises (raised_at r.ties.world t)))
  tracks_whole steps s a r t woken s' x thread awake done raises deferral moves short =
      by_places n.kinds n.places n.own
    where
      c : SourceState
      c = r.ahead

      ks : List Kind
      ks = r.deferred t

      n : Next p w steps s' t done raises deferral (is_paused s' t) (left_of p w r.ties t) r.ahead
          (stages r.ties.world) (raised_at r.ties.world)
      n = next p w steps s r.ahead r.ties t woken s' x thread awake done raises deferral moves
          (λ request go e d. let few = r.ties.numbers d in omega (arith, few, short))

      Raised : World → Type 0
      Raised w' = RaisedSo r.ties.world w' t (raised_then done raises (raised_at r.ties.world t))

      -- nothing is one more that waits
      still : n.after ≡ c → deferred_then deferral ks ≡ ks → Agrees n.stage (has_failed ks)
          → (x : Tracks p w (suc steps) s' a) × (x.deferred ≡ put r.deferred t (deferred_then deferral ks))
          × Raised x.ties.world
      still same none here = (
        record {
          deferred = r.deferred;
          ahead = n.after;
          ties = n.ties;
          behind = subst (λ (x : SourceState). IsBehind p r.deferred a x) (sym same) r.behind;
          few = λ u. let less = r.few u in omega (arith, less);
          agrees = agrees_next (stages r.ties.world) n.stage t (λ u. has_failed (r.deferred u)) (stages n.ties.world)
              n.staged (λ u o. r.agrees u) here;
          own = r.own;
        },
        put_again r.deferred t ks refl ∙ ap (λ (i : List Kind). put r.deferred t i) (sym none),
        n.raised,
      )

      met : (x : Stage) (failed : Bool) → x ≡ Meets → Agrees x failed → failed ≡ true
      met x failed e h = subst (λ (i : Stage). Agrees i failed) e h

      unmet : (x : Stage) (failed : Bool) → x ≡ Works → Agrees x failed → failed ≡ false
      unmet x failed e h = subst (λ (i : Stage). Agrees i failed) e h

      by_places : (kinds : List Kind) → Places p s' t c n.after done deferral (stages r.ties.world t) n.stage kinds
          → AreOwn kinds
          → (done ≡ false → (x : Tracks p w (suc steps) s' a)
          × (x.deferred ≡ put r.deferred t (deferred_then deferral ks)) × Raised x.ties.world)
          × (done ≡ true → (o : HasDeferred p w (suc steps) s' t a ks) × (o.deferred ≡ r.deferred)
          × Raised o.ties.world)
      by_places kinds (P.nothing none plain stays same) own = (
        λ e. still same (ap (λ (i : Option Kind). deferred_then i ks) plain)
            (stays_agreed (stages r.ties.world t) n.stage (has_failed ks) stays (r.agrees t)),
        λ e. absurd (false≢true (sym none ∙ e)),
      )
      by_places kinds (P.again fault none fails was now same) own = (
        λ e. still same
            (ap (λ (i : Option Kind). deferred_then i ks) fails
            ∙ deferred_again ks fault (met (stages r.ties.world t) (has_failed ks) was (r.agrees t)))
            (subst (λ (x : Stage). Agrees x (has_failed ks)) (sym now) tt),
        λ e. absurd (false≢true (sym none ∙ e)),
      )
      by_places kinds (P.waits q after label none told was here stands may same) own =
          let k = kind_of label in
          let first = unmet (stages r.ties.world t) (has_failed ks) was (r.agrees t) in (
            λ e. (
              record {
                deferred = put r.deferred t (ks ++ k ∷ []);
                ahead = n.after;
                ties = n.ties;
                behind = D.defers_more p r.deferred a c n.after t q after label r.behind stands may
                    (ap (λ (x : SourceState). x.table) same) (ap (λ (x : SourceState). x.variable) same)
                    (ap (λ (x : SourceState). x.printed) same) (ap (λ (x : SourceState). x.process) same);
                few = λ u. at_put r.deferred t (ks ++ k ∷ []) u (λ is. length is ≤ suc steps)
                    (λ e. let less = r.few t in let long = length-append ks (k ∷ []) in omega (arith, less, long))
                    (λ o. let less = r.few u in omega (arith, less));
                agrees = agrees_next (stages r.ties.world) n.stage t
                    (λ u. has_failed (put r.deferred t (ks ++ k ∷ []) u)) (stages n.ties.world) n.staged
                    (λ u o. subst (λ (i : List Kind). Agrees (stages r.ties.world u) (has_failed i))
                    (sym (put_other r.deferred t (ks ++ k ∷ []) u o)) (r.agrees u))
                    (subst (λ (i : List Kind). Agrees n.stage (has_failed i))
                    (sym (put_same r.deferred t (ks ++ k ∷ [])))
                    (subst (λ (i : Bool). Agrees n.stage i) (sym (failed_first ks k first)) here));
                own = λ u. at_put r.deferred t (ks ++ k ∷ []) u (λ (i : List Kind). AreOwn i)
                    (λ e. own_more ks k (r.own t) own.0) (λ o. r.own u);
              },
              ap (λ (i : List Kind). put r.deferred t i)
                  (sym (ap (λ (i : Option Kind). deferred_then i ks) told ∙ more_deferred ks k first)),
              n.raised,
            ),
            λ e. absurd (false≢true (sym none ∙ e)),
          )
      by_places kinds (P.acts q after label effect T is calm visible stands takes allows holder keeps resumes same) own
          = (
            λ e. absurd (false≢true (sym e ∙ is)),
            λ e.
                let tied = subst (λ (x : SourceState). (k : Corresponds p w (suc steps) s' x)
                × ((u : ℕ) → stages k.world u ≡ put (stages r.ties.world) t n.stage u) × Raised k.world) same
                (n.ties, n.staged, n.raised) in (
                  record {
                    deferred = r.deferred;
                    now = c;
                    behind = r.behind;
                    mine = refl;
                    few = λ u. let less = r.few u in omega (arith, less);
                    before = q;
                    after = after;
                    label = label;
                    effect = effect;
                    table = T;
                    visible = visible;
                    stands = stands;
                    takes = takes;
                    allows = allows;
                    holder = holder;
                    keeps = keeps;
                    resumes = resumes;
                    fresh = fresh steps s c r.ties;
                    ties = tied.0;
                    agrees = λ u o. subst (λ (x : Stage). Agrees x (has_failed (r.deferred u)))
                        (sym (tied.1 u ∙ put_other (stages r.ties.world) t n.stage u o)) (r.agrees u);
                    calm = subst (λ (x : Stage). Agrees x false)
                        (sym (tied.1 t ∙ put_same (stages r.ties.world) t n.stage)) calm;
                    own = r.own;
                    mine_own = own.0;
                  },
                  refl,
                  tied.2,
                ),
          )

  -- the same of a step of the machine
  pub tracks_deferred : (steps : ℕ) (s : State) (a : SourceState) (r : Tracks p w steps s a) (l : Step) (s' : State)
      (st : IsOwnStep (code_of p) s l s') (done raises : Bool)
      (deferral : Option Kind)
      → StepsSo p done raises deferral (mark_of (marks_of p) st.thread) s l.thread l.woken
      (look (code_of p) l.thread st.thread) s'
      → steps + 1 < 2 ^ 32
      → (done ≡ false → (n : Tracks p w (suc steps) s' a)
      × (n.deferred ≡ put r.deferred l.thread (deferred_then deferral (r.deferred l.thread)))
      × RaisedSo r.ties.world n.ties.world l.thread (raised_then done raises (raised_at r.ties.world l.thread)))
      × (done ≡ true → (o : HasDeferred p w (suc steps) s' l.thread a (r.deferred l.thread))
      × (o.deferred ≡ r.deferred)
      × RaisedSo r.ties.world o.ties.world l.thread (raised_then done raises (raised_at r.ties.world l.thread)))
  tracks_deferred steps s a r l s' st done raises deferral moves short =
      tracks_whole steps s a r l.thread l.woken s' st.thread st.stands st.awake done raises deferral
      (steps_whole p done raises deferral (mark_of (marks_of p) st.thread) s l.thread l.woken
      (look (code_of p) l.thread st.thread) s' moves) short

  -- a wake from outside
  pub tracks_stray : (steps : ℕ) (s : State) (a : SourceState) (r : Tracks p w steps s a) (t address : ℕ)
      → s.asleep t ≡ Some address
      → TracksStray p w steps s t a r.deferred r.ties.world (stray_condition p address (a.table.waits t))
  tracks_stray steps s a r t address sleeps =
      subst (λ (T : Table). TracksStray p w steps s t a r.deferred r.ties.world (stray_condition p address (T.waits t)))
      (sym r.behind.table) (by_condition (stray_condition p address (r.ahead.table.waits t)) refl)
    where
      c : SourceState
      c = r.ahead

      n : Strayed p w steps s r.ahead r.ties t address
      n = strayed p w steps s r.ahead r.ties t address sleeps

      Tied : Option Member → Type 0
      Tied o = (x : Corresponds p w (suc steps) (with_sleepers s (put s.asleep t None)) (after_stray t o r.ahead))
          × ((u : ℕ) → stages x.world u ≡ stages r.ties.world u)
          × ((u : ℕ) → raised_at x.world u ≡ raised_at r.ties.world u)

      tied : (o : Option Member) → stray_condition p address (r.ahead.table.waits t) ≡ o → Tied o
      tied o e = subst Tied e (n.ties, n.staged, n.raised)

      agrees : (o : Option Member) (x : Tied o) (u : ℕ) (failed : Bool)
          → Agrees (stages r.ties.world u) failed → Agrees (stages x.0.world u) failed
      agrees o x u failed h = subst (λ (i : Stage). Agrees i failed) (sym (x.1 u)) h

      by_condition : (o : Option Member) → stray_condition p address (r.ahead.table.waits t) ≡ o
          → TracksStray p w steps s t a r.deferred r.ties.world o
      by_condition None e =
          let x = tied None e in (
            record {
              deferred = r.deferred;
              ahead = r.ahead;
              ties = x.0;
              behind = r.behind;
              few = λ u. let less = r.few u in omega (arith, less);
              agrees = λ u. agrees None x u (has_failed (r.deferred u)) (r.agrees u);
              own = r.own;
            },
            refl,
            x.2,
          )
      by_condition (Some d) e =
          let x = tied (Some d) e in
          let caught_up = caught_up_behind p t r.deferred a r.ahead (r.deferred t) r.behind refl in
          let b = caught_up.1 in
          let there = take_deferred p t (r.deferred t) a in (
            caught_up.0,
            inr (inl (
              d,
              refl,
              record {
                allows = (ap (λ (T : Table). T.waits t) b.table ∙ n.waits d e, refl);
                variables = refl;
                printed = refl;
                processes = refl;
              },
            )),
            record {
              deferred = put r.deferred t [];
              ahead = after_stray t (Some d) r.ahead;
              ties = x.0;
              behind = record {
                table = ap (λ (T : Table). record T { waits = put T.waits t None }) b.table;
                variables = b.variables;
                printed = b.printed;
                processes = λ u. at_still p u r.ahead.variable r.ahead.variable r.ahead.table
                    (after_stray t (Some d) r.ahead).table (record {
                      grows = record { full = λ h. h; claimed = λ child h. h };
                      held = λ m h. h;
                      same = λ m h i j. refl;
                    }) (put r.deferred t [] u) (there.process u) (r.ahead.process u) (b.processes u);
              };
              few = λ u. at_put r.deferred t [] u (λ (i : List Kind). length i ≤ suc steps) (λ e. omega arith)
                  (λ o. let less = r.few u in omega (arith, less));
              agrees = λ u. agrees (Some d) x u (has_failed (put r.deferred t [] u))
                  (at_put r.deferred t [] u (λ (i : List Kind). Agrees (stages r.ties.world u) (has_failed i))
                  (λ e. subst (λ (i : Stage). Agrees i false) (sym (ap (stages r.ties.world) e ∙ n.works)) refl)
                  (λ o. r.agrees u));
              own = λ u. at_put r.deferred t [] u (λ (i : List Kind). AreOwn i) (λ e. tt) (λ o. r.own u);
            },
            refl,
            x.2,
          )

  -- a kill of a thread that isn't dying
  pub tracks_kill : (steps : ℕ) (s : State) (a : SourceState) (r : Tracks p w steps s a) (t : ℕ) (x : Thread)
      → s.thread t ≡ Some x → is_dying x ≡ false → TracksKill p w steps s t a r.deferred
      (raised_at r.ties.world t) r.ties.world
  tracks_kill steps s a r t x thread alive = (caught_up.0, step, tracked.0, tracked.1, tracked.2)
    where
      c : SourceState
      c = r.ahead

      there : SourceState
      there = take_deferred p t (r.deferred t) a

      caught_up : Leads p a (actions_of t (r.deferred t)) there × IsBehind p (put r.deferred t []) there c
      caught_up = caught_up_behind p t r.deferred a c (r.deferred t) r.behind refl

      b : IsBehind p (put r.deferred t []) there c
      b = caught_up.1

      process : there.process t ≡ c.process t
      process = at_equal p t c.variable c.table (there.process t) (c.process t)
          (subst (λ (ks : List Kind). LeadsDeferredAt p t c.variable c.table ks (there.process t) (c.process t))
          (put_same r.deferred t []) (b.processes t))

      last : Option ℕ
      last = killed_last p s.word t

      -- who is resumed, by the table, the variables and the process
      by : Table → Variables → Option Process → List ℕ
      by T v q = killed_resumed p (killed_to true s t) T (raised_at r.ties.world t) (offer_of_process p v q)

      resumed : List ℕ
      resumed = by c.table c.variable (c.process t)

      mine : List ℕ
      mine = by there.table there.variable (there.process t)

      same : resumed ≡ mine
      same = ap (λ (T : Table). by T c.variable (c.process t)) (sym b.table)
          ∙ ap (λ (v : Variables). by there.table v (c.process t)) (sym b.variables)
          ∙ ap (λ (q : Option Process). by there.table there.variable q) (sym process)

      step : IsSourceStep p there (act t (L.Kill mine last)) (after_kill t mine last there)
      step = subst (λ (i : List ℕ). IsSourceStep p there (act t (L.Kill i last)) (after_kill t i last there)) same
          (killed_step p w steps s c r.ties t x thread alive there b.table b.variables process)

      dead : Option Process
      dead = Some (Dying Killed (Killing.left_of last (held_by (c.process t))))

      here : (u : ℕ) → LeadsDeferredAt p u c.variable (after_kill t resumed last c).table (put r.deferred t [] u)
          (put there.process t (Some (Dying Killed (Killing.left_of last (held_by (there.process t))))) u)
          (put c.process t dead u)
      here u = elim (cases_eq u t) [
        | inl e ↦ subst (λ v. LeadsDeferredAt p v c.variable (after_kill t resumed last c).table (put r.deferred t [] v)
            (put there.process t (Some (Dying Killed (Killing.left_of last (held_by (there.process t))))) v)
            (put c.process t dead v)) (sym e)
            (rw (
              put_same r.deferred t [],
              put_same there.process t (Some (Dying Killed (Killing.left_of last (held_by (there.process t))))),
              put_same c.process t dead,
            ) (ap (λ (q : Option Process). Dying Killed (Killing.left_of last (held_by q))) process))
        | inr o ↦
            rw (
              put_other there.process t (Some (Dying Killed (Killing.left_of last (held_by (there.process t))))) u o,
              put_other c.process t dead u o,
            ) (at_still p u c.variable c.variable c.table (after_kill t resumed last c).table (record {
              grows = record { full = λ h. h; claimed = λ child h. h };
              held = λ m h. h;
              same = λ m h i j. refl;
            }) (put r.deferred t [] u) (there.process u) (c.process u) (b.processes u))
      ]

      behind : IsBehind p (put r.deferred t []) (after_kill t mine last there) (after_kill t resumed last c)
      behind = subst (λ (i : List ℕ). IsBehind p (put r.deferred t []) (after_kill t i last there)
          (after_kill t resumed last c)) same (record {
            table = ap (λ (T : Table). record T { waits = put (without_waiters resumed T.waits) t None }) b.table;
            variables = b.variables;
            printed = b.printed;
            processes = here;
          })

      ties : Corresponds p w (suc steps) (killed_to true s t) (after_kill t resumed last c)
      ties = killed_ties p w steps s c r.ties t x thread alive

      staged : (u : ℕ) → stages ties.world u ≡ put (stages r.ties.world) t Leaves u
      staged = killed_staged p w steps s c r.ties t x thread alive

      tracked : (n : Tracks p w (suc steps) (killed_to true s t) (after_kill t mine last there))
          × (n.deferred ≡ put r.deferred t []) × RaisedSo r.ties.world n.ties.world t false
      tracked = (
        record {
          deferred = put r.deferred t [];
          ahead = after_kill t resumed last c;
          ties = ties;
          behind = behind;
          few = λ u. at_put r.deferred t [] u (λ (i : List Kind). length i ≤ suc steps) (λ e. omega arith)
              (λ o. let less = r.few u in omega (arith, less));
          agrees = agrees_next (stages r.ties.world) Leaves t (λ u. has_failed (put r.deferred t [] u))
              (stages ties.world) staged
              (λ u o. subst (λ (i : List Kind). Agrees (stages r.ties.world u) (has_failed i))
              (sym (put_other r.deferred t [] u o)) (r.agrees u)) tt;
          own = λ u. at_put r.deferred t [] u (λ (i : List Kind). AreOwn i) (λ e. tt) (λ o. r.own u);
        },
        refl,
        killed_raised p w steps s c r.ties t x thread alive,
      )

  -- a step that changes nothing
  pub ties_later : (steps : ℕ) (s : State) (c : SourceState) → Corresponds p w steps s c
      → Corresponds p w (suc steps) s c
  ties_later steps s c k = record {
    world = k.world;
    reached = k.reached;
    shares = k.shares;
    size = k.size;
    most = k.most;
    made = k.made;
    output = k.output;
    variables = k.variables;
    fit = k.fit;
    threads = k.threads;
    lists = k.lists;
    words = k.words;
    blank = k.blank;
    numbers = λ d. let less = k.numbers d in omega (arith, less);
  }

  pub later_staged : (steps : ℕ) (s : State) (c : SourceState) (k : Corresponds p w steps s c) (u : ℕ)
      → stages (ties_later steps s c k).world u ≡ stages k.world u
  unfolding ties_later
  later_staged steps s c k u = refl

  pub later_left : (steps : ℕ) (s : State) (c : SourceState) (k : Corresponds p w steps s c) (u : ℕ)
      → left_of p w (ties_later steps s c k) u ≡ left_of p w k u
  unfolding ties_later
  later_left steps s c k u = refl

  pub tracks_later : (steps : ℕ) (s : State) (a : SourceState) (r : Tracks p w steps s a)
      → (n : Tracks p w (suc steps) s a) × (n.deferred ≡ r.deferred)
      × ((u : ℕ) → raised_at n.ties.world u ≡ raised_at r.ties.world u)
  unfolding ties_later
  tracks_later steps s a r = (
    record {
      deferred = r.deferred;
      ahead = r.ahead;
      ties = ties_later steps s r.ahead r.ties;
      behind = r.behind;
      few = λ u. let less = r.few u in omega (arith, less);
      agrees = r.agrees;
      own = r.own;
    },
    refl,
    λ u. refl,
  )

  pub tracks : (steps : ℕ) (s : State) (a : SourceState) → Tracks p w steps s a → (l : Step) (s' : State)
      (st : IsOwnStep (code_of p) s l s') (done : Bool)
      → MovesSo p done s l.thread l.woken (look (code_of p) l.thread st.thread) s' → steps + 1 < 2 ^ 32
      → (done ≡ false → Tracks p w (suc steps) s' a)
      × (done ≡ true → (ks : List Kind) × HasDeferred p w (suc steps) s' l.thread a ks)
  tracks steps s a r l s' st done moves short =
      let deferral = told_deferral p done (mark_of (marks_of p) st.thread) s l.thread l.woken
      (look (code_of p) l.thread st.thread) s' moves in
      let looks = look (code_of p) l.thread st.thread in
      let on = tracks_deferred steps s a r l s' st done (raises_number looks) deferral.0 deferral.1 short in
      (λ e. (on.0 e).0, λ e. (r.deferred l.thread, (on.1 e).0))

  module _ (steps : ℕ) (s : State) (t : ℕ) (a : SourceState) where
    -- the first action that waits is possible, and waits no longer behind it
    pub catches_up_deferred : (k : Kind) (ks : List Kind) (o : HasDeferred p w steps s t a (k ∷ ks))
        → (label : Label) × (k ≡ kind_of label) × (is_internal label ≡ true) × CanTake p a t label
        × ((a' : SourceState) → IsSourceStep p a (act t k) a'
        → (n : HasDeferred p w steps s t a' ks) × (n.deferred ≡ put o.deferred t ks)
        × ((u : ℕ) → raised_at n.ties.world u ≡ raised_at o.ties.world u))
    catches_up_deferred k ks o = (
      f.label,
      f.named,
      f.may.internal,
      record {
        before = f.before;
        after = f.mid;
        effect = Nothing;
        table = a.table;
        stands = f.stands;
        takes = f.may.takes a.variable (λ m h n i. ap (λ (v : Variables). v m n i) (sym o.behind.variables));
        allows = subst (λ (T : Table). Allows t f.label T T) (sym o.behind.table) f.may.allows;
      },
      λ a' step.
          let taken = D.takes p o.deferred a o.now t k ks o.behind o.mine in
          let same : a' ≡ taken.0 = step_once p (act t k) a a' taken.0 step taken.1 in (
            record {
              deferred = put o.deferred t ks;
              now = o.now;
              behind = subst (λ (x : SourceState). IsBehind p (put o.deferred t ks) x o.now) (sym same) taken.2;
              mine = put_same o.deferred t ks;
              few = λ u. at_put o.deferred t ks u (λ l. length l ≤ steps)
                  (λ e. let less = o.few t in let long = ap (λ (l : List Kind). length l) o.mine in
                  omega (arith, less, long)) (λ v. o.few u);
              before = o.before;
              after = o.after;
              label = o.label;
              effect = o.effect;
              table = o.table;
              visible = o.visible;
              stands = o.stands;
              takes = o.takes;
              allows = o.allows;
              holder = o.holder;
              keeps = o.keeps;
              resumes = o.resumes;
              fresh = o.fresh;
              ties = o.ties;
              agrees = λ u other. subst (λ (i : List Kind). Agrees (stages o.ties.world u) (has_failed i))
                  (sym (put_other o.deferred t ks u other)) (o.agrees u other);
              calm = o.calm;
              own = λ u. at_put o.deferred t ks u (λ (i : List Kind). AreOwn i)
                  (λ e. (subst (λ (i : List Kind). AreOwn i) o.mine (o.own t)).1) (λ v. o.own u);
              mine_own = o.mine_own;
            },
            refl,
            λ u. refl,
          ),
    )
      where
        f : First p t o.now.variable o.now.table k ks (a.process t) (o.now.process t)
        f = at_first p t o.now.variable o.now.table k ks (a.process t) (o.now.process t)
            (subst (λ l. LeadsDeferredAt p t o.now.variable o.now.table l (a.process t) (o.now.process t)) o.mine
            (o.behind.processes t))

    -- where none waits, the action that the step is comes next, and the source tracks the machine behind it
    pub takes_visible_deferred : (o : HasDeferred p w steps s t a [])
        → (label : Label) × (is_internal label ≡ false) × CanTake p a t label × Resumes' p s a.table label
        × ((a' : SourceState) → IsSourceStep p a (act t (kind_of label)) a'
        → (n : Tracks p w steps s a') × (n.deferred ≡ o.deferred)
        × ((u : ℕ) → raised_at n.ties.world u ≡ raised_at o.ties.world u))
    takes_visible_deferred o = (
      o.label,
      o.visible,
      record {
        before = o.before;
        after = o.after;
        effect = o.effect;
        table = o.table;
        stands = at_same p t o.now.variable o.now.table (a.process t) o.before
            (subst (λ y. LeadsDeferredAt p t o.now.variable o.now.table [] (a.process t) y) o.stands
            (subst (λ l. LeadsDeferredAt p t o.now.variable o.now.table l (a.process t) (o.now.process t)) o.mine
            (o.behind.processes t)));
        takes = subst (λ (v : Variables). TakesUp (offer p v o.before) o.label o.effect o.after)
            (sym o.behind.variables) o.takes;
        allows = subst (λ (T : Table). Allows t o.label T o.table) (sym o.behind.table) o.allows;
      },
      subst (λ (T : Table). Resumes' p s T o.label) (sym o.behind.table) o.resumes,
      λ a' step.
          let c' = state_after o.now t o.effect o.after o.table in
          let kind = kind_of o.label in
          let is : IsAction p o.now (act t kind) c' = record {
            before = o.before;
            after = o.after;
            label = o.label;
            effect = o.effect;
            stands = o.stands;
            acts = o.takes;
            named = refl;
            allows = o.allows;
            variables = refl;
            printed = refl;
            processes = refl;
          } in
          let on = D.goes_on p o.deferred a o.now c' t kind o.behind o.mine is o.keeps
          (λ u m other h. keeps_holders t u m o.label o.now.table o.table other o.allows o.holder h) o.fresh in
          let same : a' ≡ on.0 = step_once p (act t kind) a a' on.0 step on.1 in (
            record {
              deferred = o.deferred;
              ahead = c';
              ties = o.ties;
              behind = subst (λ (x : SourceState). IsBehind p o.deferred x c') (sym same) on.2;
              few = o.few;
              agrees = λ u. elim (cases_eq u t) [
                | inl e ↦ subst (λ v. Agrees (stages o.ties.world v) (has_failed (o.deferred v))) (sym e)
                    (subst (λ (i : List Kind). Agrees (stages o.ties.world t) (has_failed i)) (sym o.mine) o.calm)
                | inr other ↦ o.agrees u other
              ];
              own = o.own;
            },
            refl,
            λ u. refl,
          ),
    )

    pub takes_visible_own : (o : HasDeferred p w steps s t a []) → IsOwn (kind_of (takes_visible_deferred o).0)
    unfolding takes_visible_deferred
    takes_visible_own o = o.mine_own

    pub catches_up : (k : Kind) (ks : List Kind) → HasDeferred p w steps s t a (k ∷ ks)
        → (label : Label) × (k ≡ kind_of label) × (is_internal label ≡ true) × CanTake p a t label
        × ((a' : SourceState) → IsSourceStep p a (act t k) a' → HasDeferred p w steps s t a' ks)
    catches_up k ks o =
        let r = catches_up_deferred k ks o in (r.0, r.1, r.2, r.3, λ a' step. (r.4 a' step).0)

    pub takes_visible : HasDeferred p w steps s t a []
        → (label : Label) × (is_internal label ≡ false) × CanTake p a t label × Resumes' p s a.table label
        × ((a' : SourceState) → IsSourceStep p a (act t (kind_of label)) a' → Tracks p w steps s a')
    takes_visible o =
        let r = takes_visible_deferred o in (r.0, r.1, r.2, r.3, λ a' step. (r.4 a' step).0)

  -- the same is seen of both
  module _ (steps : ℕ) (s : State) (a : SourceState) (r : Tracks p w steps s a) where
    pub tracked_output : s.output ≡ a.printed
    tracked_output = r.ties.output ∙ sym r.behind.printed

    pub tracked_variables : (m : Member) (i : ℕ) → IsVariable p m i
        → s.word (variable_address p m i) ≡ word_of (a.variable m.monitor m.number i)
    tracked_variables m i is = r.ties.variables m i is
        ∙ ap (λ (v : Variables). word_of (v m.monitor m.number i)) (sym r.behind.variables)

    pub tracked_ends : (q : ℕ) → machine_end s q ≡ source_end a q
    tracked_ends q = ends p w steps s r.ahead r.ties q
        ∙ same_end (r.ahead.process q) (a.process q) (λ e. D.over p r.deferred a r.ahead q e r.behind)
      where
        same_end : (x y : Option Process) → ((e : End) → (y ≡ Some (Over e)) ↔ (x ≡ Some (Over e)))
            → process_end x ≡ process_end y
        same_end (Some (Over e)) y h = sym (ap process_end ((h e).1 refl))
        same_end x (Some (Over e)) h = ap process_end ((h e).0 refl)
        same_end x y h = refl
