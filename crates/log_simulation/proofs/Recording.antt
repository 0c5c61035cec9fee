-- A recorder records what the source comes to, step by step.
use Rattle.std.proofs.Common.{◌≡◌, ◌+◌, ◌<◌, ◌≤◌, ℕ, zero, suc, Bool, true, false, List, [], length, Option, Some, None}
use Rattle.std.proofs.Common.{refl, ap, sym, ◌∙◌, arith, subst}
use Rattle.std.specs.Prelude.{◌^◌, ◌++◌, ◌||◌, MatchBool, map}
use Rattle.std.proofs.lemmas.List.{append-nil, append_assoc}
use Rattle.words.specs.Updates.{put}
use Rattle.locals.specs.Threads.{Thread}
use Rattle.locals.specs.Looks.{look}
use Rattle.locals.specs.Steps.{local_after}
use Rattle.locals.specs.Requests.{next_step_of}
use Rattle.locals.specs.declared.request.NextStep.{NextStep}
use Rattle.isa.specs.Programs.{Program as Image}
use Rattle.lowering.specs.declared.mark.Mark.{Mark}
use Rattle.lowering.specs.Layout.{layout_of}
use Rattle.lowering.specs.Pieces.{code_of, marks_of}
use Rattle.proof_commutation.specs.Deferring.{IsBehind}
use Rattle.proof_commutation.specs.Placed.{actions_of, actions_up_to}
use Rattle.proof_thread.specs.Deferrals.{deferred_by_mark, deferred_by_step, mark_of}
use Rattle.machine.specs.FrontRuns.{EventStep}
use Rattle.machine.specs.States.{State}
use Rattle.piece_machine.specs.PieceConcrete.{PieceConcrete}
use Rattle.words.specs.Limits.{run_buckets}
use Rattle.meaning.specs.Labels.{Kind, Action}
use Rattle.meaning.specs.States.{SourceState}
use Rattle.program.specs.Trees.{Program}
use Rattle.program.specs.declared.kinds.Member.{Member}
use Rattle.program.specs.WellFormed.{WellFormed}
use Rattle.words.proofs.Updates.{at_put, put_same, put_other}
use Rattle.proof_explaining.proofs.Told.{tied, explained}
use Rattle.proof_simulation.specs.Explaining.{IsDue}
use Rattle.proof_simulation.specs.Kills.{killed_last}
use Rattle.proof_simulation.specs.Ordering.{raises_number}
use Rattle.proof_simulation.specs.Progress.{Progress, progress_next, progress_caught_up, progress_step, progress_stray}
use Rattle.proof_simulation.specs.Deferred.{deferred_then}
use Rattle.proof_simulation.proofs.Nexts.{caught_up_behind}
use Rattle.proof_simulation.proofs.Worlds.{put_put}
use Rattle.source_states.specs.Actions.{action_of}
use Rattle.source_states.specs.States.{state_of}
use Rattle.proof_simulation.specs.Strays.{stray_condition}
use Rattle.log_simulation.specs.declared.deferred.Deferred.{Deferred}
use Rattle.log_simulation.specs.Entries.{is_visible, progress_locally, progress_strayed, progress_shared, deferred_at}
use Rattle.log_simulation.specs.Entries.{deferred_locally}
use Rattle.log_simulation.specs.declared.follower.Follower.{Follower}
use Rattle.log_simulation.specs.Going.{Follows, FollowsKill, FollowsStray, IsKillDue, IsStrayDue, Matches, CatchesUp}
use Rattle.log_simulation.specs.Going.{followed, progress_left}
use Rattle.log_simulation.specs.Requests.{visible_step}
use Rattle.log_simulation.proofs.Visible.{visible_so}
use Rattle.log_simulation.specs.declared.recorder.Recorder.{Recorder}
use Rattle.log_simulation.specs.Explanations.{IsExplanationOf}
use Rattle.log_simulation.proofs.Verdicts.{verdict_so}
use Rattle.log_simulation.specs.Recording.{Counts, IsAlong, IsOf, Records, RecordsUnlessLong, progress_rest}
use Rattle.log_simulation.specs.Deferred.{deferral_of, deferred_by_next_step, CountsDeferred, Raises}
use Rattle.log_simulation.specs.declared.deferral.Deferral.{Deferral}
use Rattle.log_simulation.proofs.Versions.{same_followed}
use Rattle.log_simulation.proofs.Records.{deferral_so, when_false, when_true, few_deferred, then_few}

-- what is told behind more steps
pub tells_on : (more n : ℕ) (g g' : Progress) (r r' last : Recorder) → Counts more r r' → RecordsUnlessLong n g r
    → last.is_whole ≡ r'.is_whole
    → (Records n g r → r'.steps ≡ n + more → n + more < 2 ^ 32 → Records (n + more) g' last)
    → RecordsUnlessLong (n + more) g' last
tells_on more n g g' r r' last counts tells same on = by_whole last.is_whole refl
  where
    past : (b : Bool) → r.is_whole ≡ b → r'.is_whole ≡ false → 2 ^ 32 ≤ n + more
    past true was none =
        let over = when_false _ _ r'.is_whole counts none was in
        let steps = (when_true _ _ r.is_whole tells was).counted in
        omega (arith, over, steps)
    past false was none = let over = when_false _ _ r.is_whole tells was in omega (arith, over)

    by_whole : (b : Bool) → last.is_whole ≡ b → MatchBool b (Records (n + more) g' last) (2 ^ 32 ≤ n + more)
    by_whole true is =
        let d = when_true _ _ r'.is_whole counts (sym same ∙ is) in
        let h = when_true _ _ r.is_whole tells d.0 in
        let steps = h.counted in
        on h (omega (arith, d.2, steps)) (omega (arith, d.1, steps))
    by_whole false is = past r.is_whole refl (sym same ∙ is)

-- the same program's
pub still_of : (p : Program) (r r' : Recorder) → IsOf p r → r'.follower.checked ≡ r.follower.checked
    → r'.follower.layout ≡ r.follower.layout → r'.marks ≡ r.marks → length r'.deferred.items ≡ length r.deferred.items
    → length r'.raised.items ≡ length r.raised.items → IsOf p r'
still_of p r r' of checked layout marks places bits = record {
  program = same_followed r'.follower r.follower checked layout ∙ of.program;
  layout = layout ∙ of.layout;
  marks = ap (λ x. x.items) marks ∙ of.marks;
  places = places ∙ of.places;
  bits = bits ∙ of.bits;
}

-- what is heard of a step
pub is_visible_so : (p : Program) (f : Follower) (word : ℕ → ℕ) (t : ℕ) (here : Thread) (step : NextStep) (v : ℕ)
    (b : Bool) → followed f ≡ p → f.layout ≡ layout_of p → step ≡ next_step_of (look (code_of p) t here)
    → (f.layout ≡ layout_of (followed f) → b ≡ visible_step (followed f) word t step v)
    → b ≡ is_visible p word t (look (code_of p) t here) v
is_visible_so p f word t here step v b program layout is is_visible =
    let told : b ≡ visible_step p word t step v =
    subst (λ (q : Program). f.layout ≡ layout_of q → b ≡ visible_step q word t step v) program is_visible layout in
    told ∙ ap (λ s. visible_step p word t s v) is ∙ visible_so p word t (look (code_of p) t here) v

-- the monitor that is found to come last
pub last_so : (p : Program) (f : Follower) (word : ℕ → ℕ) (t : ℕ) (o : Option ℕ) → followed f ≡ p
    → f.layout ≡ layout_of p
    → (f.layout ≡ layout_of (followed f) → o ≡ killed_last (followed f) word t)
    → o ≡ killed_last p word t
last_so p f word t o program layout finds =
    subst (λ (q : Program). f.layout ≡ layout_of q → o ≡ killed_last q word t) program finds layout

bounded_put : (f : ℕ → List Kind) (t n m : ℕ) (ks : List Kind) → ((u : ℕ) → length (f u) ≤ n) → length ks ≤ n + m
    → (u : ℕ) → length (put f t ks u) ≤ n + m
bounded_put f t n m ks few here u = at_put f t ks u (λ l. length l ≤ n + m) (λ e. here)
    (λ o. let less = few u in omega (arith, less))

-- as many bits as before
still_raised : (r last : Recorder) (f : ℕ → Bool) → last.raised ≡ r.raised → Raises r.raised.items f
    → Raises last.raised.items f
still_raised r last f same h = subst (λ (bits : List Bool). Raises bits f) (sym (ap (λ v. v.items) same)) h

-- behind local steps
pub locally : (p : Program) (n more t : ℕ) (origin : Thread) (g : Progress) (r last : Recorder)
    → Records n g r → last.steps ≡ n + more → n + more < 2 ^ 32 → last.follower ≡ r.follower → last.raised ≡ r.raised
    → CountsDeferred last.deferred.items (put g.deferred t (deferred_locally p t more origin (g.deferred t)))
    → Records (n + more) (progress_locally p t more origin g) last
locally p n more t origin g r last h steps few follower raised deferred = record {
  few = few;
  counted = steps;
  matches = subst (λ (f : Follower). Matches f (progress_locally p t more origin g)) (sym follower)
      (record { actions = h.matches.actions; source = h.matches.source });
  deferred = deferred;
  raised = still_raised r last g.raised raised h.raised;
  bounded = bounded_put g.deferred t n more _ h.bounded
      (let long = few_deferred p t more origin (g.deferred t) in let less = h.bounded t in omega (arith, long, less));
}

module _ (p : Program) (n t v : ℕ) (here : Thread) (word : ℕ → ℕ) (s : State) (g : Progress) where
  abbrev action : Option Kind
  action = deferred_by_step (mark_of (marks_of p) here) (look (code_of p) t here) v

  abbrev raising : Bool
  raising = raises_number (look (code_of p) t here)

  -- behind a step that others don't learn of
  pub internally : (r last : Recorder) → Records n g r → is_visible p word t (look (code_of p) t here) v ≡ false
      → last.steps ≡ n + 1 → n + 1 < 2 ^ 32 → last.follower ≡ r.follower
      → CountsDeferred last.deferred.items
      (put g.deferred t (deferred_then (deferred_by_step (mark_of (marks_of p) here)
      (look (code_of p) t here) v) (g.deferred t)))
      → Raises last.raised.items (put g.raised t (raises_number (look (code_of p) t here) || g.raised t))
      → Records (n + 1) (progress_shared p t here word v s g) last
  internally r last h none steps few follower waits raised =
      subst (λ b. Records (n + 1) (progress_step p b action raising s t g) last) (sym none) (record {
        few = few;
        counted = steps;
        matches = subst (λ (f : Follower). Matches f (progress_step p false action raising s t g))
            (sym follower)
            (record { actions = h.matches.actions; source = h.matches.source });
        deferred = waits;
        raised = raised;
        bounded = bounded_put g.deferred t n 1 _ h.bounded
            (let long = then_few action (g.deferred t) in let less = h.bounded t in omega (arith, long, less));
      })

  -- behind one that they learn of
  pub loudly : (last : Recorder) → is_visible p word t (look (code_of p) t here) v ≡ true
      → ((u : ℕ) → length (g.deferred u) ≤ n) → last.steps ≡ n + 1 → n + 1 < 2 ^ 32
      → Matches last.follower (progress_next p s t (progress_caught_up p t g))
      → CountsDeferred last.deferred.items (put g.deferred t []) → Raises last.raised.items (put g.raised t false)
      → Records (n + 1) (progress_shared p t here word v s g) last
  loudly last is bounded steps few matches waits raised =
      subst (λ b. Records (n + 1) (progress_step p b action raising s t g) last) (sym is) (record {
        few = few;
        counted = steps;
        matches = record { actions = matches.actions; source = matches.source };
        deferred = waits;
        raised = raised;
        bounded = bounded_put g.deferred t n 1 [] bounded (omega arith);
      })

-- behind a wake from outside
module _ (p : Program) (n t a : ℕ) (g : Progress) where
  -- that is no action
  pub unheard : (r last : Recorder) → Records n g r → stray_condition p a (g.source.table.waits t) ≡ None
      → last.steps ≡ n + 1 → n + 1 < 2 ^ 32 → last.follower ≡ r.follower → last.deferred ≡ r.deferred
      → last.raised ≡ r.raised → Records (n + 1) (progress_strayed p t a g) last
  unheard r last h none steps few follower deferred raised =
      subst (λ (o : Option Member). Records (n + 1) (progress_stray p o t g) last) (sym none) (record {
        few = few;
        counted = steps;
        matches = subst (λ (f : Follower). Matches f g) (sym follower) h.matches;
        deferred = subst (λ (w : List Deferred). CountsDeferred w g.deferred) (sym (ap (λ v. v.items) deferred)) h.deferred;
        raised = still_raised r last g.raised raised h.raised;
        bounded = λ u. let less = h.bounded u in omega (arith, less);
      })

  -- by which the process waits no longer
  pub stops_waiting : (c : Member) (r last : Recorder) → Records n g r
      → stray_condition p a (g.source.table.waits t) ≡ Some c → last.steps ≡ n + 1 → n + 1 < 2 ^ 32
      → Matches last.follower (progress_stray p (Some c) t g) → CountsDeferred last.deferred.items (put g.deferred t [])
      → last.raised ≡ r.raised → Records (n + 1) (progress_strayed p t a g) last
  stops_waiting c r last h is steps few matches waits raised =
      subst (λ (o : Option Member). Records (n + 1) (progress_stray p o t g) last) (sym is) (record {
        few = few;
        counted = steps;
        matches = matches;
        deferred = waits;
        raised = still_raised r last g.raised raised h.raised;
        bounded = bounded_put g.deferred t n 1 [] h.bounded (omega arith);
      })

  -- the condition that the follower finds
  pub condition_so : (f : Follower) (o : Option Member) → followed f ≡ p → f.layout ≡ layout_of p
      → Matches f g
      → (f.layout ≡ layout_of (followed f)
      → o ≡ stray_condition (followed f) a ((state_of f.state).table.waits t))
      → o ≡ stray_condition p a (g.source.table.waits t)
  condition_so f o program layout matches finds =
      subst
      (λ (q : Program). f.layout ≡ layout_of q → o ≡ stray_condition q a ((state_of f.state).table.waits t))
      program finds layout
      ∙ ap (λ (x : SourceState). stray_condition p a (x.table.waits t)) matches.source

-- the follower follows the wake of a process that waits
pub follows_stray_due : (p : Program) (f f' : Follower) (t count : ℕ) (c : Member) (b : Bool) (g : Progress)
    → followed f ≡ p → Matches f g → IsStrayDue p t c g → count ≡ length (g.deferred t)
    → FollowsStray f t c count b f' → (b ≡ true) × Matches f' (progress_stray p (Some c) t g)
follows_stray_due p f f' t count c b g program matches due many follows =
    subst (λ q. IsStrayDue q t c g → (b ≡ true) × Matches f' (progress_stray q (Some c) t g)) program
    (λ d. follows g matches (sym many) d) due

-- behind a kill
pub killed_so : (p : Program) (n t : ℕ) (s : State) (m : Option ℕ) (g : Progress) (last : Recorder)
    → ((u : ℕ) → length (g.deferred u) ≤ n) → last.steps ≡ n + 1 → n + 1 < 2 ^ 32
    → Matches last.follower (progress_left p s t m g) → CountsDeferred last.deferred.items (put g.deferred t [])
    → Raises last.raised.items (put g.raised t false) → Records (n + 1) (progress_left p s t m g) last
killed_so p n t s m g last bounded steps few matches waits raised = record {
  few = few;
  counted = steps;
  matches = matches;
  deferred = waits;
  raised = raised;
  bounded = bounded_put g.deferred t n 1 [] bounded (omega arith);
}

-- behind a step that is nothing
pub nothing_so : (n : ℕ) (g : Progress) (r last : Recorder) → Records n g r → last.steps ≡ n + 1 → n + 1 < 2 ^ 32
    → last.follower ≡ r.follower → last.deferred ≡ r.deferred → last.raised ≡ r.raised → Records (n + 1) g last
nothing_so n g r last h steps few follower deferred raised = record {
  few = few;
  counted = steps;
  matches = subst (λ (f : Follower). Matches f g) (sym follower) h.matches;
  deferred = subst (λ (w : List Deferred). CountsDeferred w g.deferred) (sym (ap (λ v. v.items) deferred)) h.deferred;
  raised = still_raised r last g.raised raised h.raised;
  bounded = λ u. let less = h.bounded u in omega (arith, less);
}

-- the follower follows the kill of a process
pub follows_kill_due : (p : Program) (f f' : Follower) (s : State) (t count : ℕ) (raised : Bool) (m : Option ℕ)
    (b : Bool) (g : Progress)
    → followed f ≡ p → f.layout ≡ layout_of p → Matches f g → IsKillDue p s t m g
    → count ≡ length (g.deferred t) → raised ≡ g.raised t → FollowsKill f s t count raised m b f'
    → (b ≡ true) × Matches f' (progress_left p s t m g)
follows_kill_due p f f' s t count raised m b g program layout matches due many bit follows =
    subst (λ q. IsKillDue q s t m g → f.layout ≡ layout_of q → (b ≡ true) × Matches f' (progress_left q s t m g))
    program (λ d own. follows g own matches (sym many) (sym bit) d) due layout

-- the follower follows what is due
pub follows_due : (p : Program) (f f' : Follower) (s : State) (t count : ℕ) (b : Bool) (g : Progress)
    → followed f ≡ p → f.layout ≡ layout_of p → Matches f g → IsDue p s t g
    → count ≡ length (g.deferred t) → Follows f s t count b f'
    → (b ≡ true) × Matches f' (progress_next p s t (progress_caught_up p t g))
follows_due p f f' s t count b g program layout matches due many follows =
    subst (λ q. IsDue q s t g
    → f.layout ≡ layout_of q
    → (b ≡ true) × Matches f' (progress_next q s t (progress_caught_up q t g))) program
    (λ d own. follows g d.ahead d.label own matches d.behind (sym many) d.can d.visible d.resumes) due layout

-- what is left is taken, process by process
module _ (p : Program) where
  rest_other : (n u : ℕ) (g : Progress) → n < u → (progress_rest p n g).deferred u ≡ g.deferred u
  rest_other zero u g less = refl
  rest_other (suc n) u g less =
      put_other (progress_rest p n g).deferred (suc n) [] u (λ e. absurd (omega (arith, less, e)))
      ∙ rest_other n u g (omega (arith, less))

  rest_actions : (n : ℕ) (g : Progress) → (progress_rest p n g).actions ≡ g.actions ++ actions_up_to n g.deferred
  rest_actions zero g = sym (append-nil g.actions)
  rest_actions (suc n) g =
      ap (λ as'. as' ++ actions_of (suc n) ((progress_rest p n g).deferred (suc n))) (rest_actions n g)
      ∙ ap (λ ks. (g.actions ++ actions_up_to n g.deferred) ++ actions_of (suc n) ks)
      (rest_other n (suc n) g (omega arith))
      ∙ append_assoc g.actions (actions_up_to n g.deferred) (actions_of (suc n) (g.deferred (suc n)))

  -- one process more
  pub rest_more : (n : ℕ) (g : Progress) → progress_rest p (n + 1) g
      ≡ progress_caught_up p (n + 1) (progress_rest p n g)
  rest_more n g =
      let one : suc n ≡ n + 1 = omega arith in
      subst (λ m. progress_rest p m g ≡ progress_caught_up p m (progress_rest p n g)) one refl

  -- the next process pays
  pub catches_up_next : (f f' : Follower) (t count : ℕ) (b : Bool) (g : Progress) (ahead : SourceState)
      → followed f ≡ p → Matches f g → IsBehind p g.deferred g.source ahead → count ≡ length (g.deferred t)
      → CatchesUp f t count b f'
      → (b ≡ true) × Matches f' (progress_caught_up p t g)
      × IsBehind p (progress_caught_up p t g).deferred (progress_caught_up p t g).source ahead
  catches_up_next f f' t count b g ahead program matches behind many catches_up =
      let caught_up = subst (λ q. IsBehind q g.deferred g.source ahead
      → (b ≡ true) × Matches f' (progress_caught_up q t g)) program
      (λ h. catches_up g ahead matches h (sym many)) behind in
      (caught_up.0, caught_up.1, (caught_up_behind p t g.deferred g.source ahead (g.deferred t) behind refl).1)

  -- the whole
  pub finishes : (w : WellFormed p) (events : List EventStep) (k : PieceConcrete) (r : Recorder) (f : Follower)
      (actions : List Action) → (along : IsAlong p events k r) → r.is_whole ≡ true
      → ((g : Progress) (ahead : SourceState) → Matches r.follower g → CountsDeferred r.deferred.items g.deferred
      → IsBehind p g.deferred g.source ahead → Matches f (progress_rest p (length k.concrete.threads) g))
      → actions ≡ map action_of f.actions.items → IsExplanationOf p events k actions
  finishes w events k r f actions along whole rest is =
      let h = when_true _ _ r.is_whole along.told whole in
      let c = along.comes in
      let i = tied p run_buckets events k along.source c w h.few in
      let g = along.source in
      let behind = subst (λ (x : ℕ → List Kind). IsBehind p x g.source i.tracks.ahead) i.deferred i.tracks.behind in
      let e = explained p run_buckets events k g c w h.few in
      let told : actions ≡ g.actions ++ actions_up_to (length k.concrete.threads) g.deferred =
      is ∙ (rest g i.tracks.ahead h.matches h.deferred behind).actions ∙ rest_actions (length k.concrete.threads) g in
      record {
        steps = c.steps;
        run = c.run;
        labels = c.labels;
        explains = told
            ∙ ap (λ (x : Progress). x.actions ++ actions_up_to (length k.concrete.threads) x.deferred) (sym c.comes);
        explained = e.0;
        same = e.1 ∙ sym told;
        says = verdict_so p c.steps k e.0;
      }

-- one local step more
pub local_more : (p : Program) (image : Image) (t n : ℕ) (o h : Thread) (f : ℕ → List Kind) (marks : List Mark)
    → image ≡ code_of p → marks ≡ marks_of p → local_after image t n o ≡ Some h
    → put (put f t (deferred_locally p t n o (f t))) t (deferred_then (deferred_by_mark (mark_of marks h))
    (put f t (deferred_locally p t n o (f t)) t)) ≡ put f t (deferred_locally p t (n + 1) o (f t))
local_more p image t n o h f marks own same goes =
    let ks = deferred_locally p t n o (f t) in
    let one : suc n ≡ n + 1 = omega arith in
    let there : local_after (code_of p) t n o ≡ Some h = subst (λ (i : Image). local_after i t n o ≡ Some h) own goes in
    put_put f t ks _ ∙ ap (λ (i : List Kind). put f t i)
    (ap (λ (i : List Kind). deferred_then (deferred_by_mark (mark_of marks h)) i) (put_same f t ks)
    ∙ ap (λ (m : List Mark). deferred_then (deferred_by_mark (mark_of m h)) ks) same
    ∙ sym (ap (λ (x : Option Thread). deferred_at (marks_of p) x ks) there)
    ∙ ap (λ j. deferred_locally p t j o (f t)) one)

-- what is deferred behind a step, as the code tells it
pub deferral_told : (p : Program) (t v : ℕ) (here : Thread) (marks : List Mark) (mark : Option Mark)
    (step : NextStep) (l : Deferral) → marks ≡ marks_of p → mark ≡ mark_of marks here
    → step ≡ next_step_of (look (code_of p) t here) → l ≡ deferral_of (deferred_by_next_step mark step v)
    → l ≡ deferral_of (deferred_by_step (mark_of (marks_of p) here) (look (code_of p) t here) v)
deferral_told p t v here marks mark step l same is there told =
    told ∙ ap (λ m. deferral_of (deferred_by_next_step m step v)) (is ∙ ap (λ (m : List Mark). mark_of m here) same)
    ∙ ap (λ s. deferral_of (deferred_by_next_step (mark_of (marks_of p) here) s v)) there
    ∙ ap deferral_of (deferral_so (mark_of (marks_of p) here) (look (code_of p) t here) v)
