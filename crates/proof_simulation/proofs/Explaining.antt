-- The run that explains, by the machine's steps, is one.
use Rattle.std.proofs.Common.{◌≡◌, ℕ, suc, ◌+◌, ◌<◌, Bool, true, false, List, [], ◌∷◌, length, refl, ap, Option, Some}
use Rattle.std.proofs.Common.{None, append-nil, append_assoc, sym, ◌∙◌, subst, arith}
use Rattle.std.specs.Prelude.{◌^◌, ◌++◌, is_some, if◌then◌else◌, not}
use Rattle.std.proofs.lemmas.Bool.{false≢true}
use Rattle.robustexit.specs.ExitRules.{exit_of}
use Rattle.words.specs.Updates.{put}
use Rattle.locals.specs.Looks.{look, Look}
use Rattle.machine.specs.States.{State, opening_state, with_sleepers}
use Rattle.machine.specs.Runs.{Doing, Own, Strayed, Killed, Step, GoesBy, MachineRun, IsStep, IsOwnStep, IsStrayStep}
use Rattle.machine.specs.Runs.{IsKillStep, killed_to}
use Rattle.locals.specs.Threads.{is_dying}
use Rattle.protocol.specs.World.{World}
use Rattle.program.specs.Trees.{Program}
use Rattle.program.specs.WellFormed.{WellFormed}
use Rattle.lowering.specs.Pieces.{code_of, marks_of}
use Rattle.meaning.specs.Labels.{Kind, Kill, kind_of, Action}
use Rattle.meaning.specs.Runs.{IsRun, Leads, IsStep as IsSourceStep}
use Rattle.meaning.proofs.Led.{leads_on}
use Rattle.meaning.specs.States.{SourceState, opening}
use Rattle.proof_commutation.specs.Placed.{actions_of, actions_up_to}
use Rattle.proof_thread.specs.Deferrals.{mark_of, deferred_by_step}
use Rattle.proof_simulation.specs.Corresponding.{Corresponds}
use Rattle.proof_simulation.specs.Explaining.{explanation, explanation_of_trace, IsDue, IsReached}
use Rattle.proof_commutation.specs.Deferring.{IsBehind}
use Rattle.proof_simulation.specs.Next.{after_next, next_kinds, next_visible, offer_of_process, take_deferred}
use Rattle.proof_simulation.specs.Next.{internal_next}
use Rattle.proof_simulation.specs.Ordering.{act, raises_number}
use Rattle.proof_simulation.specs.Kills.{killed_last, killed_resumed}
use Rattle.proof_simulation.specs.Progress.{answer_in, answer_whole, visible_step, Progress, progress, progress_by}
use Rattle.proof_simulation.specs.Progress.{progress_step, progress_taken, progress_whole_own, progress_whole}
use Rattle.proof_simulation.specs.Progress.{progress_stray, progress_kill, progress_traced, progress_by_trace}
use Rattle.proof_simulation.specs.Progress.{progress_of_trace}
use Rattle.proof_pieces.specs.WholeCalls.{IsWholeStep, IsWholeDone}
use Rattle.proof_pieces.specs.Traces.{TraceStep, Loud, Silent, Trace, none_taken}
use Rattle.program.specs.declared.kinds.Member.{Member}
use Rattle.meaning.specs.Table.{Table}
use Rattle.proof_thread.specs.Completing.{IsOwn}
use Rattle.refinement.specs.Outside.{is_condition_word, killed_threads, stray_threads}
use Rattle.proof_simulation.specs.Strays.{stray_condition, stray_kinds, after_stray}
use Rattle.proof_simulation.proofs.Strays.{strayed}
use Rattle.proof_simulation.specs.Progress.{opening_progress}
use Rattle.proof_simulation.specs.Tracking.{CanTake, Tracks, TracksStray, TracksKill, RaisedSo, HasDeferred}
use Rattle.proof_simulation.specs.Deferred.{deferred_then, raised_at, raised_then, Stage, Agrees, AreOwn}
use Rattle.proof_simulation.proofs.WholeCalls.{whole_own, answer_same, whole_so}
use Rattle.proof_simulation.proofs.Traces.{trace_of, progress_same}
use Rattle.proof_simulation.proofs.Nexts.{catches_up_behind, visible_is, visible_so}
use Rattle.proof_simulation.proofs.Finishing.{finishes, finishes_counted, finishes_own}
use Rattle.proof_simulation.proofs.Local.{put_again}
use Rattle.proof_simulation.proofs.Sourcing.{action}
use Rattle.proof_simulation.proofs.Tracking.{tracks_stray, tracks_kill, tracks_later, opens_deferred, tracks_whole}
use Rattle.proof_simulation.proofs.Tracking.{catches_up_deferred}
use Rattle.proof_simulation.proofs.Tracking.{takes_visible_deferred, takes_visible_own}
use Rattle.proof_simulation.proofs.Whole.{AllOwn, come_along, come_pace, own_kinds, own_none}
use Rattle.proof_simulation.proofs.Whole.{none_from_outside}
use Rattle.proof_simulation.proofs.Whole.{processes_append, threads_append, strays_of, one_stray, stray_told}
use Rattle.proof_simulation.proofs.Whole.{kills_append, kills_of, one_kill}
use Rattle.proof_simulation.proofs.Worlds.{put_put}
use Rattle.proof_simulation.proofs.Observing.{ends, sound}
use Rattle.proof_simulation.proofs.Resting.{at_rest, sleepers}
use Rattle.proof_simulation.proofs.Sleeping.{made, locks, asleep}
use Rattle.proof_simulation.proofs.Paces.{count_by-append}
use Rattle.proof_simulation.proofs.Counting.{count, counts, count_map, count_one, count_stray, count_kill, of_none}
use Rattle.proof_simulation.proofs.Counting.{done_count, traced_count, traced_behind}
use Rattle.proof_simulation.proofs.Counting.{done_behind, of_one, step_count, behind, length_waits}
use Rattle.proof_simulation.proofs.Counting.{length_taken}
use Rattle.proof_simulation.proofs.Opening.{opens_calm}
use Rattle.refinement.specs.Pace.{is_action_of}
use Rattle.refinement.specs.Refines.{Explained, processes_of, is_stray_kind, is_kill_kind}

-- a run of the machine goes on by a step
pub goes_on_by : (p : Program) (g : Progress) (ls : List Step) (s mid : State) (run : GoesBy (code_of p) s ls mid)
    (l : Step) (s' : State) (st : IsStep (code_of p) mid l s') → (r : GoesBy (code_of p) s (ls ++ l ∷ []) s')
    × (progress_by p g (ls ++ l ∷ []) s s' r ≡ progress_taken p mid s' l st (progress_by p g ls s mid run))
goes_on_by p g [] s mid run l s' st =
    subst (λ (x : State). (i : IsStep (code_of p) x l s') → (r : GoesBy (code_of p) s (l ∷ []) s')
    × (progress_by p g (l ∷ []) s s' r ≡ progress_taken p x s' l i g)) run (λ i. ((s', i, refl), refl)) st
goes_on_by p g (x ∷ ls) s mid run l s' st =
    let more = goes_on_by p (progress_taken p s run.0 x run.1 g) ls run.0 mid run.2 l s' st in
    ((run.0, run.1, more.0), more.1)

module _ (p : Program) (w : WellFormed p) where
  -- all that waits of a process is taken
  pay_all : (steps : ℕ) (s : State) (t : ℕ) (ks : List Kind) (a : SourceState) (o : HasDeferred p w steps s t a ks)
      → Leads p a (actions_of t ks) (take_deferred p t ks a)
      × ((n : HasDeferred p w steps s t (take_deferred p t ks a) []) × (n.deferred ≡ put o.deferred t [])
      × ((u : ℕ) → raised_at n.ties.world u ≡ raised_at o.ties.world u))
  pay_all steps s t [] a o = (refl, (o, put_again o.deferred t [] o.mine, λ u. refl))
  pay_all steps s t (k ∷ ks) a o =
      let catches_up = catches_up_deferred p w steps s t a k ks o in
      let step = (catches_up_behind p t o.deferred a o.now k ks o.behind o.mine).4 in
      let there = after_next t (internal_next (offer_of_process p a.variable (a.process t))) a in
      let next = catches_up.4 there step in
      let more = pay_all steps s t ks there next.0 in (
        (there, step, more.0),
        (
          more.1.0,
          more.1.1 ∙ ap (λ (f : ℕ → List Kind). put f t []) next.1 ∙ put_put o.deferred t ks [],
          λ u. more.1.2 u ∙ next.2 u,
        ),
      )

  -- as many actions of each process more, taken or waiting
  abbrev pub SameOutside : Progress → Progress → Type 0
  SameOutside g g' = (test : Kind → Bool) → ((k : Kind) → IsOwn k → test k ≡ false)
      → processes_of test g'.actions ≡ processes_of test g.actions

  abbrev pub Adds : Progress → Progress → (ℕ → ℕ) → Type 0
  Adds g g' more = (t : ℕ) → count t g'.actions + length (g'.deferred t)
      ≡ count t g.actions + length (g.deferred t) + more t

  -- a step of thread t with whole calls
  module _ (taken : ℕ) (s : State) (g : Progress) (r : IsReached p w taken s g) (t : ℕ) (woken : List ℕ) (s' : State)
      (st : IsWholeStep (code_of p) s t woken s') (short : taken + 1 < 2 ^ 32) where
    abbrev looks : Look
    looks = look (code_of p) t st.thread

    abbrev answer : ℕ
    answer = answer_whole (exit_of p.version) s s' t woken looks st.moves

    abbrev deferral : Option Kind
    deferral = deferred_by_step (mark_of (marks_of p) st.thread) looks answer

    -- whether the thread has raised a number then
    abbrev has : Bool
    has = raised_then (visible_step p s.word t looks answer) (raises_number looks) (raised_at
        r.tracks.ties.world t)

    raised_so : (v : World) → RaisedSo r.tracks.ties.world v t has → (b : Bool)
        → visible_step p s.word t looks answer ≡ b → (u : ℕ)
        → raised_at v u ≡ put g.raised t (raised_then b (raises_number looks) (g.raised t)) u
    raised_so v h b e u = h u
        ∙ ap (λ (f : ℕ → Bool). put f t (raised_then (visible_step p s.word t looks answer) (raises_number looks)
        (f t)) u) (λ i v. r.raises v i)
        ∙ ap (λ x. put g.raised t (raised_then x (raises_number looks) (g.raised t)) u) e

    on : (visible_step p s.word t looks answer ≡ false → (n : Tracks p w (suc taken) s' g.source)
        × (n.deferred ≡ put r.tracks.deferred t (deferred_then deferral (r.tracks.deferred t)))
        × RaisedSo r.tracks.ties.world n.ties.world t has)
        × (visible_step p s.word t looks answer ≡ true
        → (o : HasDeferred p w (suc taken) s' t g.source (r.tracks.deferred t))
        × (o.deferred ≡ r.tracks.deferred) × RaisedSo r.tracks.ties.world o.ties.world t has)
    on = tracks_whole p w taken s g.source r.tracks t woken s' st.thread st.stands st.awake
        (visible_step p s.word t looks answer) (raises_number looks) deferral
        (whole_so p (mark_of (marks_of p) st.thread) s s' t woken looks st.moves) short

    owes : visible_step p s.word t looks answer ≡ true
        → (o : HasDeferred p w (suc taken) s' t g.source (g.deferred t)) × (o.deferred ≡ g.deferred)
        × RaisedSo r.tracks.ties.world o.ties.world t has
    owes e =
        let o = on.1 e in
        let same = subst (λ (f : ℕ → List Kind). (i : HasDeferred p w (suc taken) s' t g.source (f t))
        × (i.deferred ≡ r.tracks.deferred) × RaisedSo r.tracks.ties.world i.ties.world t has) r.deferred o in
        (same.0, same.1 ∙ r.deferred, same.2)

    pub whole_due : visible_step p s.word t looks answer ≡ true → IsDue p s' t g
    whole_due e =
        let o = owes e in
        let paying = pay_all (suc taken) s' t (g.deferred t) g.source o.0 in
        let last = takes_visible_deferred p w (suc taken) s' t (take_deferred p t (g.deferred t) g.source) paying.1.0 in
        record {
          ahead = o.0.now;
          behind = subst (λ (f : ℕ → List Kind). IsBehind p f g.source o.0.now) o.1 o.0.behind;
          label = last.0;
          visible = last.1;
          can = last.2;
          resumes = last.3;
        }

    by_visible : (b : Bool) → visible_step p s.word t looks answer ≡ b
        → IsReached p w (suc taken) s' (progress_step p b deferral (raises_number looks) s' t g)
        × SameOutside g (progress_step p b deferral (raises_number looks) s' t g)
        × Adds g (progress_step p b deferral (raises_number looks) s' t g) (λ u. of_one t u (step_count b deferral
        (g.deferred t)))
    by_visible false e =
        let n = on.0 e in (
          record {
            run = r.run;
            tracks = n.0;
            deferred = n.1 ∙ ap (λ (f : ℕ → List Kind). put f t (deferred_then deferral (f t))) r.deferred;
            raises = raised_so n.0.ties.world n.2 false e;
          },
          λ test none. refl,
          λ u. let long = length_waits g.deferred t u deferral in omega (arith, long),
        )
    by_visible true e =
        let ks = g.deferred t in
        let own : AreOwn ks = subst (λ (f : ℕ → List Kind). AreOwn (f t)) r.deferred (r.tracks.own t) in
        let o = owes e in
        let paying = pay_all (suc taken) s' t ks g.source o.0 in
        let a = take_deferred p t ks g.source in
        let last = takes_visible_deferred p w (suc taken) s' t a paying.1.0 in
        let can : CanTake p a t last.0 = last.2 in
        let kind = kind_of last.0 in
        let there = after_next t (next_visible p s' t a) a in
        let step : IsSourceStep p a (act t kind) there =
        subst (λ (x : SourceState). IsSourceStep p a (act t kind) x)
        (sym (visible_so p a t last.0 can s' last.1 last.3))
        (action p a t can.before can.after last.0 can.effect can.table can.stands can.takes can.allows) in
        let next = last.4 there step in
        let name : actions_of t (next_kinds (next_visible p s' t a)) ≡ act t kind ∷ [] =
        ap (λ n. actions_of t (next_kinds n)) (visible_is p a t last.0 can s' last.1 last.3) in
        let led : Leads p a (actions_of t (next_kinds (next_visible p s' t a))) there =
        subst (λ (l : List Action). Leads p a l there) (sym name) (there, step, refl) in
        let caught_up_run : IsRun p (g.actions ++ actions_of t ks) a =
        leads_on p (opening p) g.source a g.actions (actions_of t ks) r.run paying.0 in (
          record {
            run = leads_on p (opening p) a there (g.actions ++ actions_of t ks)
                (actions_of t (next_kinds (next_visible p s' t a))) caught_up_run led;
            tracks = next.0;
            deferred = next.1 ∙ paying.1.1 ∙ ap (λ (f : ℕ → List Kind). put f t []) o.1;
            raises = λ u. next.2 u ∙ paying.1.2 u ∙ raised_so o.0.ties.world o.2 true e u;
          },
          λ test none. processes_append test (g.actions ++ actions_of t ks) (actions_of t (next_kinds
              (next_visible p s' t a)))
              ∙ ap (λ (i : List ℕ). processes_of test (g.actions ++ actions_of t ks) ++ i)
              (ap (processes_of test) name ∙ own_none test none t (kind ∷ []) (
                takes_visible_own p w (suc taken) s' t a
                    paying.1.0,
                tt,
              )) ∙ append-nil _
              ∙ processes_append test g.actions (actions_of t ks)
              ∙ ap (λ (i : List ℕ). processes_of test g.actions ++ i) (own_none test none t ks own) ∙ append-nil _,
          λ u.
              let all = count_by-append (is_action_of u) (g.actions ++ actions_of t ks)
              (actions_of t (next_kinds (next_visible p s' t a))) in
              let both = count_by-append (is_action_of u) g.actions (actions_of t ks) in
              let first = count_map t u ks own in
              let one = ap (count u) name
              ∙ count_one t u kind [] (takes_visible_own p w (suc taken) s' t a paying.1.0) in
              let none = length_taken g.deferred t u in
              omega (arith, all, both, first, one, none),
        )

    step_so : IsReached p w (suc taken) s' (progress_whole_own p s s' t woken st g)
        × SameOutside g (progress_whole_own p s s' t woken st g)
        × Adds g (progress_whole_own p s s' t woken st g)
        (λ u. of_one t u (step_count (visible_step p s.word t looks answer) deferral (g.deferred t)))
    step_so = by_visible (visible_step p s.word t looks answer) refl

  -- the same of a step of the machine
  pub due : (taken : ℕ) (s : State) (g : Progress) → IsReached p w taken s g → (l : Step) (s' : State)
      (st : IsOwnStep (code_of p) s l s') → taken + 1 < 2 ^ 32
      → visible_step p s.word l.thread (look (code_of p) l.thread st.thread)
      (answer_in (exit_of p.version) s s' l.thread l.woken (look (code_of p) l.thread st.thread) st.moves) ≡ true
      → IsDue p s' l.thread g
  due taken s g r l s' st short e =
      let looks = look (code_of p) l.thread st.thread in
      whole_due taken s g r l.thread l.woken s' (whole_own p s l s' st) short
      (ap (visible_step p s.word l.thread looks) (answer_same (exit_of p.version) s s' l.thread l.woken looks
      st.moves) ∙ e)

  deferred_behind : (b : Bool) (k : Option Kind) (raises : Bool) (s : State) (u : ℕ) (g : Progress)
      → (progress_step p b k raises s u g).deferred ≡ put g.deferred u (behind b k (g.deferred u))
  deferred_behind true k raises s u g = refl
  deferred_behind false k raises s u g = refl

  -- what belongs to the source behind one step with whole calls
  pub record Reaches (taken : ℕ) (s : State) (g : Progress) (l : Step) (s' : State) (d : Doing)
      (st : IsWholeDone (code_of p) s l s' d) : Type 0 where
    pub is : IsReached p w (suc taken) s' (progress_whole p s s' l d st g)
    pub strays : processes_of is_stray_kind (progress_whole p s s' l d st g).actions
        ≡ processes_of is_stray_kind g.actions ++ strays_of p l d
    pub kills : processes_of is_kill_kind (progress_whole p s s' l d st g).actions
        ≡ processes_of is_kill_kind g.actions ++ kills_of l d
    pub adds : Adds g (progress_whole p s s' l d st g)
        (λ u. of_one l.thread u (done_count p s s' l d st (g.deferred l.thread)))
    pub deferred : (progress_whole p s s' l d st g).deferred
        ≡ put g.deferred l.thread (done_behind p s s' l d st (g.deferred l.thread))

  -- a wake from outside
  module _ (taken : ℕ) (s : State) (g : Progress) (r : IsReached p w taken s g) (l : Step) (s' : State) (a : ℕ)
      (st : IsStrayStep a s l s') where
    abbrev woken : State
    woken = with_sleepers s (put s.asleep l.thread None)

    -- with the condition that the process waits on no longer, if it has one
    abbrev Strays : Option Member → Type 0
    Strays o = IsReached p w (suc taken) woken (progress_stray p o l.thread g)
        × (processes_of is_stray_kind (progress_stray p o l.thread g).actions
        ≡ processes_of is_stray_kind g.actions ++ strays_of p l (Strayed a))
        × (processes_of is_kill_kind (progress_stray p o l.thread g).actions ≡ processes_of is_kill_kind g.actions)
        × Adds g (progress_stray p o l.thread g) (λ u. of_one l.thread u 0)
        × ((progress_stray p o l.thread g).deferred
        ≡ put g.deferred l.thread (if is_condition_word p a then [] else g.deferred l.thread))

    by_tracks : (o : Option Member) → is_condition_word p a ≡ is_some o
        → TracksStray p w taken s l.thread g.source g.deferred r.tracks.ties.world o → Strays o
    by_tracks None e n = (
      record { run = r.run; tracks = n.0; deferred = n.1; raises = λ u. n.2 u ∙ r.raises u },
      sym (append-nil (processes_of is_stray_kind g.actions))
          ∙ ap (λ (i : List ℕ). processes_of is_stray_kind g.actions ++ i)
          (sym (ap (λ b. if b then l.thread ∷ [] else []) e)),
      refl,
      λ u. let none = of_none l.thread u in omega (arith, none),
      put_again g.deferred l.thread (g.deferred l.thread) refl
          ∙ ap (λ b. put g.deferred l.thread (if b then [] else g.deferred l.thread)) (sym e),
    )
    by_tracks (Some c) e n =
        let t = l.thread in
        let ks = g.deferred t in
        let own : AreOwn ks = subst (λ (f : ℕ → List Kind). AreOwn (f t)) r.deferred (r.tracks.own t) in
        let a' = take_deferred p t ks g.source in
        let caught_up_run : IsRun p (g.actions ++ actions_of t ks) a' =
        leads_on p (opening p) g.source a' g.actions (actions_of t ks) r.run n.0 in
        let all : (test : Kind → Bool) → ((k : Kind) → IsOwn k → test k ≡ false)
        → processes_of test ((g.actions ++ actions_of t ks) ++ actions_of t (stray_kinds (Some c)))
        ≡ processes_of test g.actions ++ processes_of test (actions_of t (stray_kinds (Some c))) =
        λ test none. processes_append test (g.actions ++ actions_of t ks) (actions_of t (stray_kinds (Some c)))
        ∙ ap (λ (i : List ℕ). i ++ processes_of test (actions_of t (stray_kinds (Some c))))
        (processes_append test g.actions (actions_of t ks)
        ∙ ap (λ (i : List ℕ). processes_of test g.actions ++ i) (own_none test none t ks own) ∙ append-nil _) in (
          record {
            run = leads_on p (opening p) a' (after_stray t (Some c) a') (g.actions ++ actions_of t ks)
                (actions_of t (stray_kinds (Some c))) caught_up_run (after_stray t (Some c) a', n.1, refl);
            tracks = n.2;
            deferred = n.3;
            raises = λ u. n.4 u ∙ r.raises u;
          },
          all is_stray_kind (λ i h. (own_kinds i h).0)
              ∙ ap (λ (i : List ℕ). processes_of is_stray_kind g.actions ++ i) (stray_told p t a (Some c) l refl e),
          all is_kill_kind (λ i h. (own_kinds i h).1) ∙ append-nil _,
          λ u.
              let whole = count_by-append (is_action_of u) (g.actions ++ actions_of t ks)
              (actions_of t (stray_kinds (Some c))) in
              let both = count_by-append (is_action_of u) g.actions (actions_of t ks) in
              let first = count_map t u ks own in
              let last = count_stray t u (Some c) in
              let none = length_taken g.deferred t u in
              let zero = of_none t u in
              omega (arith, whole, both, first, last, none, zero),
          ap (λ b. put g.deferred t (if b then [] else g.deferred t)) (sym e),
        )

    strays_so : Reaches taken s g l s' (Strayed a) st
    strays_so =
        let o = stray_condition p a (g.source.table.waits l.thread) in
        let n = tracks_stray p w taken s g.source r.tracks l.thread a st.sleeps in
        let m = subst (λ (f : ℕ → List Kind). TracksStray p w taken s l.thread g.source f
        r.tracks.ties.world o) r.deferred n in
        let ahead = r.tracks.ahead in
        let word = (strayed p w taken s ahead r.tracks.ties l.thread a st.sleeps).word in
        let here : is_condition_word p a ≡ is_some o = word
        ∙ ap (λ (T : Table). is_some (stray_condition p a (T.waits l.thread))) (sym r.tracks.behind.table) in
        let x = by_tracks o here m in
        subst (λ (y : State). (i : IsStrayStep a s l y) → Reaches taken s g l y (Strayed a) i) (sym st.after)
        (λ i. record { is = x.0; strays = x.1; kills = x.2 ∙ sym (append-nil _); adds = x.3; deferred = x.4 }) st

  -- a kill of a thread that isn't dying
  module _ (taken : ℕ) (s : State) (g : Progress) (r : IsReached p w taken s g) (l : Step) (s' : State)
      (st : IsKillStep true s l s') where
    abbrev killed : State
    killed = killed_to true s l.thread

    not_so : (b : Bool) → true ≡ not b → b ≡ false
    not_so true e = absurd (false≢true (sym e))
    not_so false e = refl

    -- the bit is that of the world
    kill_tracked : TracksKill p w taken s l.thread g.source g.deferred (g.raised l.thread) r.tracks.ties.world
    kill_tracked =
        let n = tracks_kill p w taken s g.source r.tracks l.thread st.thread st.stands
        (not_so (is_dying st.thread) st.begins_so) in
        subst (λ b. TracksKill p w taken s l.thread g.source g.deferred b r.tracks.ties.world) (r.raises l.thread)
        (subst (λ (f : ℕ → List Kind). TracksKill p w taken s l.thread g.source f
        (raised_at r.tracks.ties.world l.thread) r.tracks.ties.world) r.deferred n)

    abbrev there : SourceState
    there = take_deferred p l.thread (g.deferred l.thread) g.source

    abbrev last : Option ℕ
    last = killed_last p s.word l.thread

    abbrev resumed : List ℕ
    resumed = killed_resumed p killed there.table (g.raised l.thread)
        (offer_of_process p there.variable (there.process l.thread))

    abbrev g' : Progress
    g' = progress_kill p s.word killed l.thread g

    kill_reached : IsReached p w (suc taken) killed g'
    kill_reached = record {
      run = leads_on p (opening p) there g'.source (g.actions ++ actions_of l.thread (g.deferred l.thread))
          (act l.thread (Kill resumed last) ∷ [])
          (leads_on p (opening p) g.source there g.actions (actions_of l.thread (g.deferred l.thread)) r.run
          kill_tracked.0) (g'.source, kill_tracked.1, refl);
      tracks = kill_tracked.2;
      deferred = kill_tracked.3;
      raises = λ u. kill_tracked.4 u
          ∙ ap (λ (f : ℕ → Bool). put f l.thread false u) (λ i v. r.raises v i);
    }

    kill_all : (test : Kind → Bool) → ((k : Kind) → IsOwn k → test k ≡ false)
        → processes_of test ((g.actions ++ actions_of l.thread (g.deferred l.thread))
        ++ act l.thread (Kill resumed last) ∷ [])
        ≡ processes_of test g.actions ++ processes_of test (act l.thread (Kill resumed last) ∷ [])
    kill_all test none =
        let ks = g.deferred l.thread in
        let own : AreOwn ks = subst (λ (f : ℕ → List Kind). AreOwn (f l.thread)) r.deferred (r.tracks.own l.thread) in
        processes_append test (g.actions ++ actions_of l.thread ks) (act l.thread (Kill resumed last) ∷ [])
        ∙ ap (λ (i : List ℕ). i ++ processes_of test (act l.thread (Kill resumed last) ∷ []))
        (processes_append test g.actions (actions_of l.thread ks)
        ∙ ap (λ (i : List ℕ). processes_of test g.actions ++ i) (own_none test none l.thread ks own) ∙ append-nil _)

    kill_adds : Adds g g' (λ u. of_one l.thread u 0)
    kill_adds u =
        let t = l.thread in
        let ks = g.deferred t in
        let own : AreOwn ks = subst (λ (f : ℕ → List Kind). AreOwn (f t)) r.deferred (r.tracks.own t) in
        let whole = count_by-append (is_action_of u) (g.actions ++ actions_of t ks) (act t (Kill resumed last) ∷ []) in
        let both = count_by-append (is_action_of u) g.actions (actions_of t ks) in
        let first = count_map t u ks own in
        let final = count_kill t u resumed last in
        let none = length_taken g.deferred t u in
        let zero = of_none t u in
        omega (arith, whole, both, first, final, none, zero)

    kills_so : Reaches taken s g l s' (Killed true) st
    kills_so =
        subst (λ (y : State). (i : IsKillStep true s l y) → Reaches taken s g l y (Killed true) i) (sym st.after)
        (λ i. record {
          is = kill_reached;
          strays = kill_all is_stray_kind (λ i h. (own_kinds i h).0);
          kills = kill_all is_kill_kind (λ i h. (own_kinds i h).1);
          adds = kill_adds;
          deferred = refl;
        }) st

  -- one of a thread that is dying already
  again_so : (taken : ℕ) (s : State) (g : Progress) (r : IsReached p w taken s g) (l : Step) (s' : State)
      (st : IsKillStep false s l s') → Reaches taken s g l s' (Killed false) st
  again_so taken s g r l s' st =
      let n = tracks_later p w taken s g.source r.tracks in
      subst (λ (y : State). (i : IsKillStep false s l y) → Reaches taken s g l y (Killed false) i) (sym st.after)
      (λ i. record {
        is = record { run = r.run; tracks = n.0; deferred = n.1 ∙ r.deferred; raises = λ u. n.2 u ∙ r.raises u };
        strays = sym (append-nil _);
        kills = sym (append-nil _);
        adds = λ u. let none = of_none l.thread u in omega (arith, none);
        deferred = put_again g.deferred l.thread (g.deferred l.thread) refl;
      }) st

  reaches : (taken : ℕ) (s : State) (g : Progress) → IsReached p w taken s g → (l : Step) (s' : State) (d : Doing)
      (st : IsWholeDone (code_of p) s l s' d) → taken + 1 < 2 ^ 32 → Reaches taken s g l s' d st
  reaches taken s g r l s' Own st short =
      let x = step_so taken s g r l.thread l.woken s' st short in
      let looks = look (code_of p) l.thread st.thread in
      let answer = answer_whole (exit_of p.version) s s' l.thread l.woken looks st.moves in
      record {
        is = x.0;
        strays = x.1 is_stray_kind (λ i h. (own_kinds i h).0) ∙ sym (append-nil _);
        kills = x.1 is_kill_kind (λ i h. (own_kinds i h).1) ∙ sym (append-nil _);
        adds = x.2;
        deferred = deferred_behind (visible_step p s.word l.thread looks answer)
            (deferred_by_step (mark_of (marks_of p) st.thread) looks answer) (raises_number looks) s' l.thread g;
      }
  reaches taken s g r l s' (Strayed a) st short = strays_so taken s g r l s' a st
  reaches taken s g r l s' (Killed true) st short = kills_so taken s g r l s' st
  reaches taken s g r l s' (Killed false) st short = again_so taken s g r l s' st

  -- what belongs to it behind one step of a trace
  record TracedReaches (many : ℕ) (s : State) (g : Progress) (taken : ℕ → ℕ) (l : Step) (s' : State) (next : ℕ → ℕ)
      (step : TraceStep (code_of p) s taken l s' next) : Type 0 where
    is : IsReached p w (suc many) s' (progress_traced p s s' l taken next step g)
    strays : processes_of is_stray_kind (progress_traced p s s' l taken next step g).actions
        ≡ processes_of is_stray_kind g.actions ++ strays_of p l l.doing
    kills : processes_of is_kill_kind (progress_traced p s s' l taken next step g).actions
        ≡ processes_of is_kill_kind g.actions ++ kills_of l l.doing
    adds : Adds g (progress_traced p s s' l taken next step g)
        (λ u. of_one l.thread u (traced_count p s s' l taken next step (g.deferred l.thread)))
    deferred : (progress_traced p s s' l taken next step g).deferred
        ≡ put g.deferred l.thread (traced_behind p s s' l taken next step (g.deferred l.thread))

  traced_reaches : (many : ℕ) (s : State) (g : Progress) → IsReached p w many s g → (taken : ℕ → ℕ) (l : Step)
      (s' : State) (next : ℕ → ℕ) (step : TraceStep (code_of p) s taken l s' next) → many + 1 < 2 ^ 32
      → TracedReaches many s g taken l s' next step
  traced_reaches many s g r taken l s' next (Loud st time) short =
      let x = reaches many s g r l s' l.doing st short in
      record { is = x.is; strays = x.strays; kills = x.kills; adds = x.adds; deferred = x.deferred }
  traced_reaches many s g r taken l s' next (Silent own same piece) short =
      let n = tracks_later p w many s g.source r.tracks in
      subst (λ (x : State). (i : x ≡ s) → TracedReaches many s g taken l x next (Silent own i piece)) (sym same)
      (λ i. record {
        is = record { run = r.run; tracks = n.0; deferred = n.1 ∙ r.deferred; raises = λ u. n.2 u ∙ r.raises u };
        strays = sym (ap (λ (d : Doing). processes_of is_stray_kind g.actions ++ strays_of p l d) own
            ∙ append-nil (processes_of is_stray_kind g.actions));
        kills = sym (ap (λ (d : Doing). processes_of is_kill_kind g.actions ++ kills_of l d) own
            ∙ append-nil (processes_of is_kill_kind g.actions));
        adds = λ u. let none = of_none l.thread u in omega (arith, none);
        deferred = put_again g.deferred l.thread (g.deferred l.thread) refl;
      }) same

  pub reaches_by : (steps : List Step) (many : ℕ) (s : State) (taken : ℕ → ℕ) (s' : State) (g : Progress)
      → IsReached p w many s g → (run : Trace (code_of p) s taken steps s') → many + length steps < 2 ^ 32
      → IsReached p w (many + length steps) s' (progress_by_trace p g steps s taken s' run)
      × (processes_of is_stray_kind (progress_by_trace p g steps s taken s' run).actions
      ≡ processes_of is_stray_kind g.actions ++ stray_threads p steps)
      × (processes_of is_kill_kind (progress_by_trace p g steps s taken s' run).actions
      ≡ processes_of is_kill_kind g.actions ++ killed_threads steps)
      × Adds g (progress_by_trace p g steps s taken s' run) (λ t. counts p g.deferred steps s taken s' run t)
  reaches_by [] many s taken s' g r run short =
      let same : many ≡ many + 0 = omega arith in (
        subst (λ n. IsReached p w n s' g) same (subst (λ (x : State). IsReached p w many x g) run r),
        sym (append-nil (processes_of is_stray_kind g.actions)),
        sym (append-nil (processes_of is_kill_kind g.actions)),
        λ t. omega arith,
      )
  reaches_by (l ∷ ls) many s taken s' g r run short =
      let first = traced_reaches many s g r taken l run.0 run.1 run.2 (omega (arith, short)) in
      let there = progress_traced p s run.0 l taken run.1 run.2 g in
      let more = reaches_by ls (suc many) run.0 run.1 s' there first.is run.3 (omega (arith, short)) in
      let last = progress_by_trace p there ls run.0 run.1 s' run.3 in
      let total : suc many + length ls ≡ many + suc (length ls) = omega arith in (
        subst (λ n. IsReached p w n s' last) total more.0,
        more.1 ∙ ap (λ (i : List ℕ). i ++ stray_threads p ls) first.strays
            ∙ append_assoc (processes_of is_stray_kind g.actions) (strays_of p l l.doing) (stray_threads p ls)
            ∙ ap (λ (i : List ℕ). processes_of is_stray_kind g.actions ++ i)
            (ap (λ (i : List ℕ). i ++ stray_threads p ls) (sym (one_stray p l)) ∙ sym (threads_append p (l ∷ []) ls)),
        more.2 ∙ ap (λ (i : List ℕ). i ++ killed_threads ls) first.kills
            ∙ append_assoc (processes_of is_kill_kind g.actions) (kills_of l l.doing) (killed_threads ls)
            ∙ ap (λ (i : List ℕ). processes_of is_kill_kind g.actions ++ i)
            (ap (λ (i : List ℕ). i ++ killed_threads ls) (sym (one_kill l)) ∙ sym (kills_append (l ∷ []) ls)),
        λ t.
            let one = first.adds t in
            let rest = subst (λ (f : ℕ → List Kind). count t last.actions + length (last.deferred t)
            ≡ count t there.actions + length (there.deferred t) + counts p f ls run.0 run.1 s' run.3 t)
            first.deferred (more.3 t) in
            omega (arith, one, rest),
      )

  pub opens_reached : IsReached p w 0 (opening_state (code_of p)) (opening_progress p)
  opens_reached =
      let o = opens_deferred p w in record { run = refl; tracks = o.0; deferred = o.1; raises = λ u. o.2 u }

  module _ (steps : List Step) (s : State) (run : Trace (code_of p) (opening_state (code_of p)) none_taken steps s)
      (short : length steps < 2 ^ 32) where
    abbrev g : Progress
    g = progress_of_trace p steps s run

    whole : IsReached p w (0 + length steps) s g
        × (processes_of is_stray_kind g.actions ≡ [] ++ stray_threads p steps)
        × (processes_of is_kill_kind g.actions ≡ [] ++ killed_threads steps)
        × Adds (opening_progress p) g
        (λ t. counts p (λ u. []) steps (opening_state (code_of p)) none_taken s run t)
    whole = reaches_by steps 0 (opening_state (code_of p)) none_taken s (opening_progress p) opens_reached run
        (omega (arith, short))

    pub reached_along : IsReached p w (length steps) s (progress_of_trace p steps s run)
    reached_along =
        let same : 0 + length steps ≡ length steps = omega arith in
        subst (λ n. IsReached p w n s g) same whole.0

    pub explained_along : (e : Explained p (code_of p) steps s) × (e.actions ≡ explanation_of_trace p steps s run)
    explained_along =
        let r = whole.0.tracks in
        let done = finishes p w (0 + length steps) s g.source r in
        let n = 0 + length steps in
        let source = done.0 in
        let k : Corresponds p w n s source = done.2 in
        let up : actions_up_to s.made r.deferred ≡ actions_up_to s.made g.deferred =
        ap (λ (f : ℕ → List Kind). actions_up_to s.made f) whole.0.deferred in
        let rest : Leads p g.source (actions_up_to s.made g.deferred) source =
        subst (λ (l : List Action). Leads p g.source l source) up done.1 in
        let c = come_along p w steps s run short in
        let pace = come_pace p w steps s _ c in
        let actions = explanation_of_trace p steps s run in
        let last = actions_up_to s.made g.deferred in
        let last_own : AllOwn last = subst (λ (l : List Action). AllOwn l) up (finishes_own p w n s g.source r) in (
          record {
            sound = sound p w n s source k;
            actions = actions;
            source = source;
            run = leads_on p (opening p) g.source source g.actions
                (actions_up_to s.made g.deferred) whole.0.run rest;
            output = k.output;
            variables = k.variables;
            ends = ends p w n s source k;
            made = made p w n s source k;
            locks = locks p w n s source k;
            asleep = asleep p w n s source k;
            at_rest = at_rest p w n s source k;
            sleepers = sleepers p w n s source k;
            pace = λ t parts e.
                let less = pace t parts e in
                let first = c.counted (λ t. [])
                (λ u. subst (λ (x : Stage). Agrees x false) (sym (opens_calm p w u)) refl) t in
                let second = whole.3 t in
                let both = count_by-append (is_action_of t) g.actions (actions_up_to s.made g.deferred) in
                let last = subst (λ (f : ℕ → List Kind). count t (actions_up_to s.made f) ≡ length (f t))
                whole.0.deferred (finishes_counted p w n s g.source r t) in
                omega (arith, less, first, second, both, last);
            strays = processes_append is_stray_kind g.actions last
                ∙ ap (λ (i : List ℕ). processes_of is_stray_kind g.actions ++ i)
                (none_from_outside is_stray_kind (λ i h. (own_kinds i h).0) last last_own) ∙ append-nil _ ∙ whole.1;
            kills = processes_append is_kill_kind g.actions last
                ∙ ap (λ (i : List ℕ). processes_of is_kill_kind g.actions ++ i)
                (none_from_outside is_kill_kind (λ i h. (own_kinds i h).1) last last_own) ∙ append-nil _ ∙ whole.2;
          },
          refl,
        )

  -- a run of the machine is a trace
  module _ (steps : List Step) (s : State) (run : MachineRun (code_of p) steps s) (short : length steps < 2 ^ 32) where
    abbrev trace : Trace (code_of p) (opening_state (code_of p)) none_taken steps s
    trace = trace_of p steps (opening_state (code_of p)) s run

    same : progress_of_trace p steps s trace ≡ progress p steps s run
    same = progress_same p (opening_progress p) steps (opening_state (code_of p)) s run

    pub reached : IsReached p w (length steps) s (progress p steps s run)
    reached = subst (λ (g : Progress). IsReached p w (length steps) s g) same (reached_along steps s trace short)

    pub explained_so : (e : Explained p (code_of p) steps s) × (e.actions ≡ explanation p steps s run)
    explained_so =
        let e = explained_along steps s trace short in
        (e.0, e.1 ∙ ap (λ (g : Progress). g.actions ++ actions_up_to s.made g.deferred) same)
