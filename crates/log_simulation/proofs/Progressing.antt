-- What the source has come to behind the entries of a log.
use Rattle.std.proofs.Common.{◌≡◌, ℕ, zero, suc, ◌+◌, ◌<◌, true, List, [], ◌∷◌, Option, Some, None, Ok, refl, ap}
use Rattle.std.proofs.Common.{sym, ◌∙◌, subst, arith, length, length-append, Bool, false, inl, inr, ◌==◌}
use Rattle.std.proofs.lemmas.Bool.{eq-eqb}
use Rattle.std.specs.Prelude.{◌^◌, ◌++◌, not, replicate}
use Rattle.std.proofs.lemmas.List.{append-nil, append_assoc, length-replicate, replicate_more}
use Rattle.words.specs.Limits.{run_buckets}
use Rattle.words.specs.Updates.{put}
use Rattle.words.proofs.Updates.{put_same}
use Rattle.locals.specs.Threads.{Thread, is_dying}
use Rattle.locals.specs.Looks.{Look, Goes, look}
use Rattle.locals.specs.Steps.{local_after, and_step}
use Rattle.machine.specs.declared.event.Entry.{Entry}
use Rattle.machine.specs.declared.event.Event.{Event}
use Rattle.machine.specs.declared.event.EventName.TheVariants as name
use Rattle.machine.specs.ConcretePieces.{is_piece}
use Rattle.machine.specs.ConcreteServing.{plain}
use Rattle.machine.specs.FrontRuns.{EventStep, doing_of}
use Rattle.machine.specs.Runs.{Doing, Killed, IsKillStep}
use Rattle.machine.specs.States.{State, thread_of, state_of}
use Rattle.machine.proofs.Placing.{thread_at-put}
use Rattle.piece_machine.specs.PieceConcrete.{PieceConcrete, kill_piece, piece_of, stray_piece, with_local}
use Rattle.piece_machine.specs.PieceFronts.{OutsidePiece}
use Rattle.runner.specs.LogRuns.{local_step_of, shared_step_of}
use Rattle.runner.specs.Logs.{EntersOwn, EntersOutside, Ends, opening}
use Rattle.runner.proofs.Handing.{IsUp, piece_goes, up}
use Rattle.runner.proofs.Owning.{piece_kill_told, piece_stray_told}
use Rattle.runner.proofs.Unrolling.{put_back, put_twice}
use Rattle.program.specs.Trees.{Program}
use Rattle.program.specs.WellFormed.{WellFormed}
use Rattle.program.specs.declared.kinds.Member.{Member}
use Rattle.lowering.specs.Pieces.{code_of, marks_of}
use Rattle.proof_thread.specs.Deferrals.{mark_of, deferred_by_step}
use Rattle.meaning.specs.Labels.{Kind, Stray}
use Rattle.meaning.specs.Runs.{IsStep as IsSourceStep}
use Rattle.proof_commutation.specs.Deferring.{IsBehind}
use Rattle.proof_explaining.specs.Events.{progress_told, whole_of}
use Rattle.proof_explaining.proofs.Told.{opens, one_step, one_due, tied, killed_whole, strayed_whole}
use Rattle.proof_explaining.proofs.Told.{one_stray as stray_step, one_kill as kill_step}
use Rattle.proof_simulation.specs.Explaining.{IsDue}
use Rattle.proof_simulation.specs.Kills.{killed_last}
use Rattle.proof_simulation.specs.Next.{take_deferred}
use Rattle.proof_simulation.specs.Ordering.{act, raises_number}
use Rattle.proof_simulation.specs.Progress.{Progress, progress_step, opening_progress}
use Rattle.proof_simulation.specs.Strays.{after_stray, stray_condition}
use Rattle.proof_simulation.specs.Tracking.{TracksKill, TracksStray}
use Rattle.proof_simulation.proofs.Local.{put_again}
use Rattle.proof_simulation.proofs.Tracking.{tracks_kill, tracks_stray}
use Rattle.proof_simulation.proofs.Whole.{goes_by}
use Rattle.proof_simulation.proofs.Worlds.{put_put}
use Rattle.log_simulation.specs.Entries.{is_visible, deferred_at, deferred_locally, progress_locally}
use Rattle.log_simulation.specs.Entries.{progress_shared, progress_end, progress_outside, progress_killed}
use Rattle.log_simulation.specs.Entries.{progress_strayed}
use Rattle.log_simulation.specs.Entries.{entry_steps, progress_entry, ComesTo}
use Rattle.log_simulation.specs.Going.{IsKillDue, IsStrayDue}

abbrev step_by : ℕ → Event → EventStep
step_by t event = record { thread = t; event = event }

module _ (p : Program) where
  -- the local steps of an entry
  locals : (n : List EventStep) (more : ℕ) (k : PieceConcrete) (t : ℕ) (o here : Thread) (g : Progress)
      → ComesTo p n k g
      → k.concrete.common.asleep t ≡ None → thread_of k.concrete t ≡ Some o → local_after (code_of p) t more o ≡ Some here
      → ComesTo p (n ++ replicate more (local_step_of t)) (with_local k t here) (progress_locally p t more o g)
  locals n zero k t o here g h awake stands after =
      let e : o ≡ here = cc in
      let same : n ≡ n ++ [] = sym (append-nil n) in
      subst (λ (x : PieceConcrete). ComesTo p (n ++ []) x (progress_locally p t zero o g))
      (sym (put_back k t here (stands ∙ ap Some e)))
      (subst (λ i. ComesTo p i k (progress_locally p t zero o g)) same
      (subst (λ (f : ℕ → List Kind). ComesTo p n k (record g { deferred = f }))
      (put_again g.deferred t (g.deferred t) refl) h))
  locals n (suc more) k t o here g h awake stands after =
      by_mid (local_after (code_of p) t more o) (λ m is. locals n more k t o m g h awake stands is) after
    where
      ks : List Kind
      ks = deferred_locally p t more o (g.deferred t)

      by_mid : (mid : Option Thread)
          → ((m : Thread) → mid ≡ Some m
          → ComesTo p (n ++ replicate more (local_step_of t)) (with_local k t m)
          (record g { deferred = put g.deferred t ks }))
          → and_step (code_of p) t mid ≡ Some here
          → ComesTo p (n ++ replicate (suc more) (local_step_of t)) (with_local k t here)
          (record g { deferred = put g.deferred t (deferred_at (marks_of p) mid ks) })
      by_mid None before e = absurd cc
      by_mid (Some m) before e =
          let there = with_local k t m in
          let local : look (code_of p) t m ≡ Goes here = goes_by (look (code_of p) t m) here e in
          let takes : piece_of (code_of p) there t ≡ Ok (with_local there t here, plain name.Local 0) =
          piece_goes (code_of p) k t o m here awake stands e in
          let on = one_step p run_buckets (n ++ replicate more (local_step_of t)) there (with_local there t here) t
          (plain name.Local 0) (record g { deferred = put g.deferred t ks }) (before m refl) m
          (thread_at-put k.concrete.threads t o m stands) takes in
          let all = n ++ replicate (suc more) (local_step_of t) in
          let one : more + 1 ≡ suc more = omega arith in
          let last = (n ++ replicate more (local_step_of t)) ++ local_step_of t ∷ [] in
          let many : last ≡ all = append_assoc n (replicate more (local_step_of t)) (local_step_of t ∷ [])
          ∙ ap (λ i. n ++ i) (replicate_more more (local_step_of t)
          ∙ ap (λ (j : ℕ). replicate j (local_step_of t)) one) in
          let word = (state_of there.concrete).word in
          let told : progress_shared p t m word 0 (whole_of p (with_local there t here)) (record g {
            deferred = put g.deferred t ks;
          })
          ≡ record g {
            deferred = put (put g.deferred t ks) t
                (deferred_at (marks_of p) (Some m) (put g.deferred t ks t));
            raised = put g.raised t (g.raised t);
          } =
          ap (λ (l : Look). progress_step p (is_visible p word t l 0) (deferred_by_step (mark_of (marks_of p) m) l 0)
          (raises_number l) (whole_of p (with_local there t here)) t (record g { deferred = put g.deferred t ks })) local in
          let waits : put (put g.deferred t ks) t (deferred_at (marks_of p) (Some m) (put g.deferred t ks t))
          ≡ put g.deferred t (deferred_at (marks_of p) (Some m) ks) =
          put_put g.deferred t ks _ ∙ ap (λ (i : List Kind). put g.deferred t (deferred_at (marks_of p) (Some m) i))
          (put_same g.deferred t ks) in
          subst (λ (x : PieceConcrete). ComesTo p all x
          (record g { deferred = put g.deferred t (deferred_at (marks_of p) (Some m) ks) })) (put_twice k t m here)
          (subst (λ i. ComesTo p i (with_local there t here)
          (record g { deferred = put g.deferred t (deferred_at (marks_of p) (Some m) ks) })) many
          (subst (λ (x : Progress). ComesTo p last (with_local there t here) x)
          (told ∙ ap (λ (f : ℕ → List Kind). record g { deferred = f; raised = put g.raised t (g.raised t) }) waits
          ∙ ap (λ (b : ℕ → Bool). record g {
            deferred = put g.deferred t (deferred_at (marks_of p) (Some m) ks);
            raised = b;
          }) (sym (put_again g.raised t (g.raised t) refl))) on))

  module _ (n : List EventStep) (k k' : PieceConcrete) (e : Entry) (g : Progress) (h : ComesTo p n k g)
      (enters : EntersOwn (code_of p) k e k') where
    abbrev there : PieceConcrete
    there = with_local k e.thread enters.here

    u : IsUp k.concrete e.thread
    u = up k.concrete e.thread enters.moves

    -- before the shared step, if there is one
    pub came : ComesTo p (n ++ replicate e.local (local_step_of e.thread)) (with_local k e.thread enters.here)
        (progress_locally p e.thread e.local enters.origin g)
    came = locals n e.local k e.thread enters.origin enters.here g h u.awake enters.stands enters.goes

    abbrev mine : List EventStep
    mine = replicate e.local (local_step_of e.thread)

    pub enters_so : ComesTo p (n ++ entry_steps e) k'
        (progress_entry p e enters.origin enters.here (state_of k.concrete).word k' g)
    enters_so = by_end e.event enters.ends
      where
        by_end : (event : Option Event) → Ends (code_of p) there e.thread enters.here event k'
            → ComesTo p (n ++ (mine ++ shared_step_of e.thread event)) k'
            (progress_end p e.thread enters.here (state_of k.concrete).word event k'
            (progress_locally p e.thread e.local enters.origin g))
        by_end None ends =
            let same : n ++ mine ≡ n ++ (mine ++ []) = ap (λ i. n ++ i) (sym (append-nil mine)) in
            subst (λ i. ComesTo p i k' (progress_locally p e.thread e.local enters.origin g)) same
            (subst (λ (x : PieceConcrete). ComesTo p (n ++ mine) x
            (progress_locally p e.thread e.local enters.origin g)) (sym ends) came)
        by_end (Some event) ends =
            let same = append_assoc n mine (step_by e.thread event ∷ []) in
            let local = progress_locally p e.thread e.local enters.origin g in
            subst (λ i. ComesTo p i k' (progress_told p e.thread enters.here (state_of k.concrete).word event (whole_of p k')
            local)) same
            (one_step p run_buckets (n ++ mine) there k' e.thread event local came enters.here
            (thread_at-put k.concrete.threads e.thread enters.origin enters.here enters.stands) ends.1)

    pub due_so : WellFormed p → (event : Event) → e.event ≡ Some event → is_piece event.name ≡ false
        → is_visible p (state_of k.concrete).word e.thread (look (code_of p) e.thread enters.here) event.value ≡ true
        → length n + e.local + 1 < 2 ^ 32
        → IsDue p (whole_of p k') e.thread (progress_locally p e.thread e.local enters.origin g)
    due_so w event is whole is_so short =
        let ends = subst (λ (o : Option Event). Ends (code_of p) there e.thread enters.here o k') is enters.ends in
        let long = length-append n mine in
        let locals_long = length-replicate e.local (local_step_of e.thread) in
        one_due p run_buckets (n ++ mine) there k' e.thread event
        (progress_locally p e.thread e.local enters.origin g) came enters.here
        (thread_at-put k.concrete.threads e.thread enters.origin enters.here enters.stands) ends.1 w whole is_so
        (omega (arith, short, long, locals_long))

  -- a wake from outside
  pub one_stray : (n : List EventStep) (k k' : PieceConcrete) (t : ℕ) (event : Event) (g : Progress)
      → ComesTo p n k g → stray_piece k t ≡ Ok (k', event)
      → ComesTo p (n ++ step_by t event ∷ []) k' (progress_strayed p t event.value g)
  one_stray n k k' t event g h gives = stray_step p run_buckets n k k' t event g h gives

  -- a kill, by which the thread begins to die or doesn't
  pub one_kill : (n : List EventStep) (k k' : PieceConcrete) (t : ℕ) (event : Event) (begins : Bool) (g : Progress)
      → ComesTo p n k g → kill_piece (code_of p) k t ≡ Ok (k', event) → (event.value == 1) ≡ begins
      → ComesTo p (n ++ step_by t event ∷ []) k' (progress_killed p begins (state_of k.concrete).word (whole_of p k') t g)
  one_kill n k k' t event begins g h gives begun =
      subst (λ b. ComesTo p (n ++ step_by t event ∷ []) k'
      (progress_killed p b (state_of k.concrete).word (whole_of p k') t g)) begun
      (kill_step p run_buckets n k k' t event g h gives)

  -- what came from outside
  pub one_outside : (n : List EventStep) (k k' : PieceConcrete) (t : ℕ) (event : Event) (g : Progress)
      → ComesTo p n k g → OutsidePiece (code_of p) k t event k'
      → ComesTo p (n ++ step_by t event ∷ []) k'
      (progress_outside p t (doing_of event.name event.value) (state_of k.concrete).word (whole_of p k') g)
  one_outside n k k' t event g h (inl gives) =
      subst (λ (d : Doing). ComesTo p (n ++ step_by t event ∷ []) k'
      (progress_outside p t d (state_of k.concrete).word (whole_of p k') g)) (sym (piece_stray_told k k' t event gives))
      (one_stray n k k' t event g h gives)
  one_outside n k k' t event g h (inr gives) =
      subst (λ (d : Doing). ComesTo p (n ++ step_by t event ∷ []) k'
      (progress_outside p t d (state_of k.concrete).word (whole_of p k') g))
      (sym (piece_kill_told (code_of p) k k' t event gives))
      (one_kill n k k' t event (event.value == 1) g h gives refl)

  module _ (n : List EventStep) (k k' : PieceConcrete) (e : Entry) (g : Progress) (h : ComesTo p n k g)
      (outside : EntersOutside (code_of p) k e k') where
    pub outside_so : ComesTo p (n ++ entry_steps e) k'
        (progress_outside p e.thread (doing_of outside.event.name outside.event.value) (state_of k.concrete).word (whole_of p k') g)
    outside_so =
        let g' = progress_outside p e.thread (doing_of outside.event.name outside.event.value) (state_of k.concrete).word
        (whole_of p k') g in
        subst (λ j. ComesTo p (n ++ (replicate j (local_step_of e.thread) ++ shared_step_of e.thread e.event)) k' g')
        (sym outside.alone)
        (subst (λ (o : Option Event). ComesTo p (n ++ shared_step_of e.thread o) k' g') (sym outside.is)
        (one_outside n k k' e.thread outside.event g h outside.gives))

  -- what is due of a process whose thread is woken from outside, where it waits on the condition
  pub stray_due : (w : WellFormed p) (n : List EventStep) (k k' : PieceConcrete) (t : ℕ) (event : Event) (g : Progress)
      → ComesTo p n k g → stray_piece k t ≡ Ok (k', event) → length n + 1 < 2 ^ 32 → (c : Member)
      → stray_condition p event.value (g.source.table.waits t) ≡ Some c → IsStrayDue p t c g
  stray_due w n k k' t event g h gives short c is =
      let r = tied p run_buckets n k g h w (omega (arith, short)) in
      let found = subst (λ (o : Option Member). TracksStray p w (length h.steps) (whole_of p k) t g.source
      r.tracks.deferred r.tracks.ties.world o) is
      (tracks_stray p w (length h.steps) (whole_of p k) g.source r.tracks t event.value
      (strayed_whole p run_buckets n k k' t event g h gives)) in
      record {
        ahead = r.tracks.ahead;
        behind = subst (λ (f : ℕ → List Kind). IsBehind p f g.source r.tracks.ahead) r.deferred r.tracks.behind;
        step = subst (λ (f : ℕ → List Kind). IsSourceStep p (take_deferred p t (f t) g.source) (act t (Stray c))
            (after_stray t (Some c) (take_deferred p t (f t) g.source))) r.deferred found.1;
      }

  -- and of one whose thread is killed
  pub kill_due_so : (w : WellFormed p) (n : List EventStep) (k k' : PieceConcrete) (t : ℕ) (event : Event)
      (g : Progress)
      → ComesTo p n k g → kill_piece (code_of p) k t ≡ Ok (k', event) → length n + 1 < 2 ^ 32 → event.value ≡ 1
      → IsKillDue p (whole_of p k') t (killed_last p (state_of k.concrete).word t) g
  kill_due_so w n k k' t event g h gives short begins =
      let r = tied p run_buckets n k g h w (omega (arith, short)) in
      let st = subst (λ b. IsKillStep b (whole_of p k) (record {
        thread = t;
        woken = [];
        pauses = false;
        doing = Killed (event.value == 1);
      }) (whole_of p k')) (eq-eqb event.value 1 begins)
      (killed_whole p run_buckets n k k' t event g h gives) in
      let n = tracks_kill p w (length h.steps) (whole_of p k) g.source r.tracks t st.thread st.stands
      (alive (is_dying st.thread) st.begins_so) in
      let told = subst (λ b. TracksKill p w (length h.steps) (whole_of p k) t g.source r.tracks.deferred b
      r.tracks.ties.world) (r.raises t) n in
      let found = subst (λ (f : ℕ → List Kind). TracksKill p w (length h.steps) (whole_of p k) t g.source f
      (g.raised t) r.tracks.ties.world) r.deferred told in
      subst (λ (x : State). IsKillDue p x t (killed_last p (state_of k.concrete).word t) g) (sym st.after) (record {
        ahead = r.tracks.ahead;
        behind = subst (λ (f : ℕ → List Kind). IsBehind p f g.source r.tracks.ahead) r.deferred r.tracks.behind;
        step = found.1;
      })
    where
      alive : (b : Bool) → true ≡ not b → b ≡ false
      alive true e = absurd cc
      alive false e = refl

  pub opens_so : ComesTo p [] (opening (code_of p)) (opening_progress p)
  opens_so = opens p run_buckets (omega arith)
