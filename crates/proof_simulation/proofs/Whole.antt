-- Each run of the machine on the code of a program is explained by a run of the program.
use Rattle.std.proofs.Common.{◌≡◌, ◌⊎◌, ℕ, zero, suc, ◌+◌, ◌<◌, ◌≤◌, Bool, true, false, List, [], ◌∷◌, ◌++◌, length}
use Rattle.std.proofs.Common.{refl, sym, subst, arith, Option, Some, None, ◌∙◌, inl, inr}
use Rattle.std.specs.Prelude.{map, filter, is_some, if◌then◌else◌, ◌^◌, not}
use Rattle.locals.specs.Threads.{Thread, is_dying}
use Rattle.robustexit.specs.ExitRules.{exit_of}
use Rattle.locals.specs.Looks.{Look, Goes, Asks, Leaves, Breaks, Rests, look}
use Rattle.locals.specs.Steps.{local_next, and_step, local_after}
use Rattle.machine.specs.States.{State, opening_state, with_thread}
use Rattle.machine.specs.Runs.{Doing, Own, Strayed, Killed, is_own, is_paused, Step, MachineRun, IsStrayStep}
use Rattle.machine.specs.Runs.{IsKillStep, killed_to, Moves, NextIsBroken}
use Rattle.program.specs.Trees.{Program}
use Rattle.program.specs.WellFormed.{WellFormed}
use Rattle.lowering.specs.Pieces.{marks_of, code_of}
use Rattle.meaning.specs.Labels.{Kind, Action}
use Rattle.meaning.specs.Labels as L
use Rattle.meaning.specs.States.{SourceState, opening}
use Rattle.meaning.specs.Runs.{Leads}
use Rattle.meaning.proofs.Led.{leads_on}
use Rattle.words.proofs.Updates.{put_same}
use Rattle.proof_thread.specs.Completing.{IsOwn}
use Rattle.refinement.specs.Pace.{KeepsPace, stretch_length}
use Rattle.refinement.specs.Refines.{is_stray_kind, is_kill_kind, processes_of, Sleeps, Explained, Refines}
use Rattle.refinement.specs.Built.{build_of}
use Rattle.proof_simulation.specs.Corresponding.{Corresponds}
use Rattle.proof_simulation.specs.Ranks.{most_left}
use Rattle.proof_simulation.proofs.Sourcing.{act}
use Rattle.proof_simulation.proofs.Worlds.{put_put}
use Rattle.proof_simulation.proofs.Local.{put_again}
use Rattle.proof_simulation.proofs.Moving.{AreOwn, IsSome, left_of}
use Rattle.proof_simulation.proofs.Completions.{told_deferral, told_apart}
use Rattle.proof_simulation.proofs.WholeCalls.{steps_whole, whole_so}
use Rattle.proof_simulation.proofs.Stepping.{next, next_spared}
use Rattle.proof_simulation.proofs.Ranking.{spare_step}
use Rattle.proof_simulation.proofs.Spares.{few_pieces, spared_at, spares, left_in_trace, trace_few, trace_less}
use Rattle.proof_simulation.proofs.Spares.{trace_none, trace_one}
use Rattle.proof_simulation.proofs.Traces.{trace_of}
use Rattle.proof_pieces.specs.WholeCalls.{IsWholeDone}
use Rattle.proof_pieces.specs.Traces.{pieces_of, KeepsTime, TakesPiece, TraceStep, Loud, Silent, Trace, none_taken}
use Rattle.proof_simulation.proofs.Bounds.{left_few, left_short}
use Rattle.proof_simulation.proofs.Paces.{Trail, rests, goes, keeps_pace}
use Rattle.proof_simulation.proofs.Opening.{opens}
use Rattle.proof_simulation.proofs.Observing.{sound, ends}
use Rattle.proof_simulation.proofs.Resting.{at_rest, sleepers}
use Rattle.proof_simulation.proofs.Sleeping.{made, locks, asleep}
use Rattle.proof_thread.specs.Deferrals.{mark_of}
use Rattle.proof_simulation.specs.Deferred.{Stage, Works, Leaves as Leaves', stages, raised_at, Agrees, has_failed}
use Rattle.proof_simulation.specs.Progress.{answer_whole, visible_step}
use Rattle.proof_thread.specs.Deferrals.{deferred_by_step}
use Rattle.proof_simulation.proofs.Tracking.{agrees_next, ties_later, later_left, later_staged}
use Rattle.proof_simulation.proofs.KillSteps.{killed_ties, killed_staged, killed_step}
use Rattle.proof_simulation.specs.Kills.{killed_last, killed_resumed, after_kill}
use Rattle.proof_simulation.specs.Next.{offer_of_process}
use Rattle.proof_simulation.specs.Ordering.{raises_number}
use Rattle.proof_simulation.proofs.Paces.{count_by-append}
use Rattle.proof_simulation.proofs.Counting.{count, counts, count_map, count_stray, count_kill, of_one, of_none}
use Rattle.proof_simulation.proofs.Counting.{done_count, done_behind, traced_count, traced_behind}
use Rattle.proof_simulation.proofs.Counting.{placed_count}
use Rattle.proof_simulation.specs.Strays.{stray_condition, stray_kinds, after_stray}
use Rattle.proof_simulation.proofs.Strays.{strayed}
use Rattle.proof_simulation.proofs.Strays.{Strayed as Strayed'}
use Rattle.refinement.specs.Outside.{is_condition_word, is_condition_stray, is_kill, killed_threads, stray_threads}
use Rattle.std.proofs.lemmas.List.Elements.{filter-append}
use Rattle.std.proofs.lemmas.List.{map-append}
use Rattle.std.proofs.lemmas.Bool.{false≢true}
use Rattle.program.specs.declared.kinds.Member.{Member}
use Rattle.refinement.specs.Pace.{is_action_of}
use Rattle.meaning.specs.Labels.{Kind}
use Rattle.words.proofs.Updates.{put_other}
use Rattle.words.specs.Updates.{put}
use Rattle.std.proofs.Common.{ap}

abbrev pub AllOwn : List Action → Type 0
AllOwn [] = Unit {0}
AllOwn (a ∷ as') = IsOwn a.kind × AllOwn as'

pub all_own : (t : ℕ) (ks : List Kind) (as' : List Action) → AreOwn ks → AllOwn as' → AllOwn (map (act t) ks ++ as')
all_own t [] as' h g = g
all_own t (k ∷ ks) as' h g = (h.0, all_own t ks as' h.1 g)

-- a process's own action is neither a stray nor a kill
pub own_kinds : (k : Kind) → IsOwn k → (is_stray_kind k ≡ false) × (is_kill_kind k ≡ false)
own_kinds (L.Stray c) h = absurd h
own_kinds (L.Kill r last) h = absurd h
own_kinds k h = (refl, refl)

-- the processes of two lists of actions; and of steps
pub processes_append : (test : Kind → Bool) (xs ys : List Action)
    → processes_of test (xs ++ ys) ≡ processes_of test xs ++ processes_of test ys
processes_append test xs ys =
    ap (λ (l : List Action). map (λ a. a.process) l) (filter-append (λ a. test a.kind) xs ys)
    ∙ map-append (λ (a : Action). a.process) (filter (λ a. test a.kind) xs) (filter (λ a. test a.kind) ys)

pub threads_append : (p : Program) (xs ys : List Step)
    → stray_threads p (xs ++ ys) ≡ stray_threads p xs ++ stray_threads p ys
threads_append p xs ys =
    ap (λ (l : List Step). map (λ x. x.thread) l) (filter-append (λ x. is_condition_stray p x.doing) xs ys)
    ∙ map-append (λ (x : Step). x.thread) (filter (λ x. is_condition_stray p x.doing) xs)
    (filter (λ x. is_condition_stray p x.doing) ys)

pub kills_append : (xs ys : List Step) → killed_threads (xs ++ ys) ≡ killed_threads xs ++ killed_threads ys
kills_append xs ys =
    ap (λ (l : List Step). map (λ x. x.thread) l) (filter-append (λ x. is_kill x.doing) xs ys)
    ∙ map-append (λ (x : Step). x.thread) (filter (λ x. is_kill x.doing) xs) (filter (λ x. is_kill x.doing) ys)

-- the kills of one step
abbrev pub kills_of : Step → Doing → List ℕ
kills_of l d = if is_kill d then l.thread ∷ [] else []

pub one_kill : (l : Step) → killed_threads (l ∷ []) ≡ kills_of l l.doing
one_kill l = by_test (is_kill l.doing) refl
  where
    by_test : (b : Bool) → is_kill l.doing ≡ b → killed_threads (l ∷ []) ≡ kills_of l l.doing
    by_test true e = rw e refl
    by_test false e = rw e refl

-- the strays of one step
abbrev pub strays_of : Program → Step → Doing → List ℕ
strays_of p l d = if is_condition_stray p d then l.thread ∷ [] else []

pub one_stray : (p : Program) (l : Step) → stray_threads p (l ∷ []) ≡ strays_of p l l.doing
one_stray p l = by_test (is_condition_stray p l.doing) refl
  where
    by_test : (b : Bool) → is_condition_stray p l.doing ≡ b → stray_threads p (l ∷ []) ≡ strays_of p l l.doing
    by_test true e = rw e refl
    by_test false e = rw e refl

-- what a stray is to the source
pub stray_told : (p : Program) (t a : ℕ) (o : Option Member) (l : Step) → l.thread ≡ t
    → is_condition_word p a ≡ is_some o
    → processes_of is_stray_kind (map (act t) (stray_kinds o)) ≡ strays_of p l (Strayed a)
stray_told p t a None l here e = sym (ap (λ b. if b then l.thread ∷ [] else []) e)
stray_told p t a (Some c) l here e = ap (λ u. u ∷ []) (sym here) ∙ sym (ap (λ b. if b then l.thread ∷ [] else []) e)

pub stray_kills : (t : ℕ) (o : Option Member) → processes_of is_kill_kind (map (act t) (stray_kinds o)) ≡ []
stray_kills t None = refl
stray_kills t (Some c) = refl

pub own_none : (test : Kind → Bool) → ((k : Kind) → IsOwn k → test k ≡ false) → (t : ℕ) (ks : List Kind) → AreOwn ks
    → processes_of test (map (act t) ks) ≡ []
own_none test none t [] h = refl
own_none test none t (k ∷ ks) h = rw (none k h.0) (own_none test none t ks h.1)

failed_if : (b : Bool) (ks : List Kind) → has_failed ks ≡ false → has_failed (if b then [] else ks) ≡ false
failed_if true ks h = refl
failed_if false ks h = h

pub none_from_outside : (test : Kind → Bool) → ((k : Kind) → IsOwn k → test k ≡ false) → (as' : List Action)
    → AllOwn as'
    → processes_of test as' ≡ []
none_from_outside test own_none [] h = refl
none_from_outside test own_none (a ∷ as') h = rw (own_none a.kind h.0) (none_from_outside test own_none as' h.1)

-- a local step is one of a thread that goes
pub goes_by : (l : Look) (y : Thread) → local_next l ≡ Some y → l ≡ Goes y
goes_by (Goes z) y e = cc
goes_by (Asks request go) y e = absurd cc
goes_by (Leaves phase) y e = absurd cc
goes_by Breaks y e = absurd cc
goes_by Rests y e = absurd cc

module _ (p : Program) (w : WellFormed p) where
  abbrev pub most : ℕ
  most = most_left (build_of p w 0)

  pub few : (steps : ℕ) (s : State) (c : SourceState) (k : Corresponds p w steps s c) (u : ℕ) → left_of p w k u ≤ most
  few steps s c k u = left_few (build_of p w k.world.made) c.variable u k.world (k.threads u)

  -- how many steps each thread has left, where each has taken so many pieces of its call
  abbrev pub left_along : {steps : ℕ} {s : State} {c : SourceState} → Corresponds p w steps s c → (ℕ → ℕ) → ℕ → ℕ
  left_along {s = s} k taken u = left_in_trace (s.asleep u) (left_of p w k u) (taken u)

  pub few_along : (steps : ℕ) (s : State) (c : SourceState) (k : Corresponds p w steps s c) (taken : ℕ → ℕ) (u : ℕ)
      → left_along k taken u ≤ most
  few_along steps s c k taken u = trace_few (s.asleep u) (left_of p w k u) (taken u) most (few steps s c k u)

  -- what belongs to the state behind one step with whole calls
  pub record StepCome (steps : ℕ) (s : State) (c : SourceState) (k : Corresponds p w steps s c) (l : Step) (s' : State)
      (d : Doing) (st : IsWholeDone (code_of p) s l s' d) : Type 0 where
    pub after : SourceState
    pub ties : Corresponds p w (suc steps) s' after
    pub kinds : List Kind
    pub leads : Leads p c (map (act l.thread) kinds) after
    -- where it doesn't pause it takes an action, or so many steps more are spent as its call has pieces before it
    pub paced : is_own d ≡ true → (s.asleep l.thread ≡ None) × AreOwn kinds
        × (is_paused s' l.thread ≡ false → IsSome kinds
        ⊎ (left_of p w ties l.thread + pieces_of (code_of p) l.thread (s.thread l.thread) < left_of p w k l.thread))
    pub stage : Stage
    pub staged : (u : ℕ) → stages ties.world u ≡ put (stages k.world) l.thread stage u
    pub counted : (ks : List Kind) → Agrees (stages k.world l.thread) (has_failed ks)
        → ((u : ℕ) → count u (map (act l.thread) kinds) ≡ of_one l.thread u (done_count p s s' l d st ks))
        × Agrees stage (has_failed (done_behind p s s' l d st ks))
    pub strays : processes_of is_stray_kind (map (act l.thread) kinds) ≡ strays_of p l d
    pub kills : processes_of is_kill_kind (map (act l.thread) kinds) ≡ kills_of l d

  step_come : (steps : ℕ) (s : State) (c : SourceState) (k : Corresponds p w steps s c) (l : Step) (s' : State)
      (d : Doing) (st : IsWholeDone (code_of p) s l s' d) → steps + 1 < 2 ^ 32 → StepCome steps s c k l s' d st
  step_come steps s c k l s' Own st short =
      let t = l.thread in
      let looks = look (code_of p) t st.thread in
      let mark = mark_of (marks_of p) st.thread in
      let answer = answer_whole (exit_of p.version) s s' t l.woken looks st.moves in
      let done = visible_step p s.word t looks answer in
      let deferral = deferred_by_step mark looks answer in
      let n = next_spared p w steps s c k t l.woken s' st.thread st.stands st.awake done (raises_number looks) deferral
      (whole_so p mark s s' t l.woken looks st.moves)
      (λ request go e d. let few = k.numbers d in omega (arith, few, short)) in
      let room : pieces_of (code_of p) t (s.thread t) ≤ spare_step looks (k.world.at t).point =
      spared_at p w steps s c k t st.thread st.stands in
      record {
        after = n.after;
        ties = n.ties;
        kinds = n.kinds;
        leads = n.leads;
        paced = λ own. (
          st.awake,
          n.own,
          λ awake. elim (n.paced awake) [ inl some ↦ inl some | inr less ↦ inr (omega (arith, less, room)) ],
        );
        stage = n.stage;
        staged = n.staged;
        counted = λ ks agrees.
            let one = placed_count p s' t c n.after done deferral (stages k.world t) n.stage n.kinds ks
            n.places agrees in
            (λ u. count_map t u n.kinds n.own ∙ ap (λ i. of_one t u i) one.0, one.1);
        strays = own_none is_stray_kind (λ i h. (own_kinds i h).0) t n.kinds n.own;
        kills = own_none is_kill_kind (λ i h. (own_kinds i h).1) t n.kinds n.own;
      }
  step_come steps s c k l s' (Strayed a) st short =
      subst (λ (x : State). (i : IsStrayStep a s l x) → StepCome steps s c k l x (Strayed a) i) (sym st.after)
      (λ i. record {
        after = after_stray l.thread o c;
        ties = n.ties;
        kinds = stray_kinds o;
        leads = n.leads;
        paced = λ own. absurd (false≢true own);
        stage = Works;
        staged = λ u. n.staged u ∙ ap (λ (f : ℕ → Stage). f u) (put_again (stages k.world) l.thread Works n.works);
        counted = λ ks agrees. (
          λ u. count_stray l.thread u o ∙ sym (of_none l.thread u),
          failed_if (is_condition_word p a) ks (subst (λ (x : Stage). Agrees x (has_failed ks)) n.works agrees),
        );
        strays = stray_told p l.thread a o l refl n.word;
        kills = stray_kills l.thread o;
      }) st
    where
      o : Option Member
      o = stray_condition p a (c.table.waits l.thread)

      n : Strayed' p w steps s c k l.thread a
      n = strayed p w steps s c k l.thread a st.sleeps
  step_come steps s c k l s' (Killed true) st short =
      subst (λ (x : State). (i : IsKillStep true s l x) → StepCome steps s c k l x (Killed true) i) (sym st.after)
      (λ i. record {
        after = after_kill t resumed last c;
        ties = killed_ties p w steps s c k t st.thread st.stands alive;
        kinds = L.Kill resumed last ∷ [];
        leads = (
          after_kill t resumed last c,
          killed_step p w steps s c k t st.thread st.stands alive c refl refl refl,
          refl,
        );
        paced = λ own. absurd (false≢true own);
        stage = Leaves';
        staged = killed_staged p w steps s c k t st.thread st.stands alive;
        counted = λ ks agrees. (λ u. count_kill t u resumed last ∙ sym (of_none t u), tt);
        strays = refl;
        kills = refl;
      }) st
    where
      t : ℕ
      t = l.thread

      not_so : (b : Bool) → true ≡ not b → b ≡ false
      not_so true e = absurd (false≢true (sym e))
      not_so false e = refl

      alive : is_dying st.thread ≡ false
      alive = not_so (is_dying st.thread) st.begins_so

      last : Option ℕ
      last = killed_last p s.word t

      resumed : List ℕ
      resumed = killed_resumed p (killed_to true s t) c.table (raised_at k.world t)
          (offer_of_process p c.variable (c.process t))
  step_come steps s c k l s' (Killed false) st short =
      subst (λ (x : State). (i : IsKillStep false s l x) → StepCome steps s c k l x (Killed false) i) (sym st.after)
      (λ i. record {
        after = c;
        ties = ties_later p w steps s c k;
        kinds = [];
        leads = refl;
        paced = λ own. absurd (false≢true own);
        stage = stages k.world l.thread;
        staged = λ u. later_staged p w steps s c k u
            ∙ ap (λ (f : ℕ → Stage). f u) (put_again (stages k.world) l.thread (stages k.world l.thread) refl);
        counted = λ ks agrees. (λ u. sym (of_none l.thread u), agrees);
        strays = refl;
        kills = refl;
      }) st

  -- what belongs to the state behind one step of a trace
  record TracedCome (steps : ℕ) (s : State) (c : SourceState) (k : Corresponds p w steps s c) (taken : ℕ → ℕ) (l : Step)
      (s' : State) (next : ℕ → ℕ) (step : TraceStep (code_of p) s taken l s' next) : Type 0 where
    after : SourceState
    ties : Corresponds p w (suc steps) s' after
    kinds : List Kind
    leads : Leads p c (map (act l.thread) kinds) after
    paced : l.pauses ≡ false → is_own l.doing ≡ true
        → AreOwn kinds × (IsSome kinds ⊎ (left_along ties next l.thread < left_along k taken l.thread))
    stage : Stage
    staged : (u : ℕ) → stages ties.world u ≡ put (stages k.world) l.thread stage u
    counted : (ks : List Kind) → Agrees (stages k.world l.thread) (has_failed ks)
        → ((u : ℕ) → count u (map (act l.thread) kinds)
        ≡ of_one l.thread u (traced_count p s s' l taken next step ks))
        × Agrees stage (has_failed (traced_behind p s s' l taken next step ks))
    strays : processes_of is_stray_kind (map (act l.thread) kinds) ≡ strays_of p l l.doing
    kills : processes_of is_kill_kind (map (act l.thread) kinds) ≡ kills_of l l.doing

  -- fewer steps are left behind a loud one, where it has no action
  loud_paced : (steps : ℕ) (s : State) (c : SourceState) (k : Corresponds p w steps s c) (taken : ℕ → ℕ) (l : Step)
      (s' : State) (next : ℕ → ℕ) (st : IsWholeDone (code_of p) s l s' l.doing)
      (n : StepCome steps s c k l s' l.doing st) → KeepsTime (code_of p) s taken l s' → l.pauses ≡ false
      → is_own l.doing ≡ true
      → AreOwn n.kinds × (IsSome n.kinds ⊎ (left_along n.ties next l.thread < left_along k taken l.thread))
  loud_paced steps s c k taken l s' next st n time awake own = ((n.paced own).1, by_time (told (time.goes_on awake)))
    where
      t : ℕ
      t = l.thread

      pieces : ℕ
      pieces = pieces_of (code_of p) t (s.thread t)

      told : (is_paused s' t ≡ false) ⊎ ((0 < pieces) × (a : ℕ) × (s'.asleep t ≡ Some a))
          → (is_paused s' t ≡ false) ⊎ ((0 < pieces) × Sleeps s' t)
      told (inl e) = inl e
      told (inr (some, a, is)) = inr (some, (a, is))

      by_time : (is_paused s' t ≡ false) ⊎ ((0 < pieces) × Sleeps s' t)
          → IsSome n.kinds ⊎ (left_along n.ties next t < left_along k taken t)
      by_time (inl on) = elim ((n.paced own).2 on) [
        | inl some ↦ inl some
        | inr less ↦ inr (trace_less (s.asleep t) (s'.asleep t) (left_of p w k t) (left_of p w n.ties t) (taken t)
            (next t) pieces (n.paced own).0 time.few less)
      ]
      by_time (inr (some, sleeps)) =
          let room = (spares p w steps s c k t some).1 in
          let most_pieces = few_pieces (code_of p) t (s.thread t) in
          let few = time.few in
          inr (trace_none (s.asleep t) (s'.asleep t) (left_of p w k t) (left_of p w n.ties t) (taken t) (next t)
          sleeps.0 (n.paced own).0 sleeps.1 (omega (arith, few, most_pieces, room)))

  -- and behind a silent one
  silent_paced : (steps : ℕ) (s : State) (c : SourceState) (k : Corresponds p w steps s c) (taken : ℕ → ℕ) (l : Step)
      (next : ℕ → ℕ) → TakesPiece (code_of p) s taken l next
      → left_along (ties_later p w steps s c k) next l.thread < left_along k taken l.thread
  silent_paced steps s c k taken l next piece =
      let t = l.thread in
      let few = piece.few in
      let room = (spares p w steps s c k t (omega (arith, few))).1 in
      let most_pieces = few_pieces (code_of p) t (s.thread t) in
      subst (λ n. left_in_trace (s.asleep t) n (next t) < left_in_trace (s.asleep t) (left_of p w k t) (taken t))
      (sym (later_left p w steps s c k t))
      (trace_one (s.asleep t) (left_of p w k t) (taken t) (next t) piece.awake piece.more
      (omega (arith, few, most_pieces, room)))

  traced_come : (steps : ℕ) (s : State) (c : SourceState) (k : Corresponds p w steps s c) (taken : ℕ → ℕ) (l : Step)
      (s' : State) (next : ℕ → ℕ) (step : TraceStep (code_of p) s taken l s' next) → steps + 1 < 2 ^ 32
      → TracedCome steps s c k taken l s' next step
  traced_come steps s c k taken l s' next (Loud st time) short =
      let n = step_come steps s c k l s' l.doing st short in
      record {
        after = n.after;
        ties = n.ties;
        kinds = n.kinds;
        leads = n.leads;
        paced = λ awake own. loud_paced steps s c k taken l s' next st n (time own) awake own;
        stage = n.stage;
        staged = n.staged;
        counted = n.counted;
        strays = n.strays;
        kills = n.kills;
      }
  traced_come steps s c k taken l s' next (Silent own same piece) short =
      subst (λ (x : State). (i : x ≡ s) → TracedCome steps s c k taken l x next (Silent own i piece)) (sym same)
      (λ i. record {
        after = c;
        ties = ties_later p w steps s c k;
        kinds = [];
        leads = refl;
        paced = λ awake is. (tt, inr (silent_paced steps s c k taken l next (piece awake)));
        stage = stages k.world l.thread;
        staged = λ u. later_staged p w steps s c k u
            ∙ ap (λ (f : ℕ → Stage). f u) (put_again (stages k.world) l.thread (stages k.world l.thread) refl);
        counted = λ ks agrees. (λ u. sym (of_none l.thread u), agrees);
        strays = sym (ap (strays_of p l) own);
        kills = sym (ap (kills_of l) own);
      }) same

  -- what belongs to the state that a trace comes to
  pub record Come (s : State) (c : SourceState) (left : ℕ → ℕ) (was : ℕ → Stage) (steps : List Step) (s' : State)
      (number : (ℕ → List Kind) → ℕ → ℕ) : Type 0 where
    pub many : ℕ
    pub source : SourceState
    pub ties : Corresponds p w many s' source
    pub taken : ℕ → ℕ
    pub actions : List Action
    pub leads : Leads p c actions source
    pub trail : Trail most left steps actions (left_along ties taken)
    pub strays : processes_of is_stray_kind actions ≡ stray_threads p steps
    pub kills : processes_of is_kill_kind actions ≡ killed_threads steps
    -- as many as the code's marks tell
    pub counted : (deferred : ℕ → List Kind) → ((u : ℕ) → Agrees (was u) (has_failed (deferred u))) → (t : ℕ)
        → count t actions ≡ number deferred t

  pub come : (many : ℕ) (s : State) (c : SourceState) (k : Corresponds p w many s c) (taken : ℕ → ℕ)
      (steps : List Step) (s' : State) → many + length steps < 2 ^ 32 → (run : Trace (code_of p) s taken steps s')
      → Come s c (left_along k taken) (stages k.world) steps s' (λ deferred t. counts p deferred steps s taken s' run t)
  come many s c k taken [] s' short run =
      subst (λ (x : State). Come s c (left_along k taken) (stages k.world) [] x (λ deferred t. 0)) run (record {
        many = many;
        source = c;
        ties = k;
        taken = taken;
        actions = [];
        leads = refl;
        trail = rests;
        strays = refl;
        kills = refl;
        counted = λ deferred agrees t. refl;
      })
  come many s c k taken (l ∷ ls) s' short run =
      let n = traced_come many s c k taken l run.0 run.1 run.2 (omega (arith, short)) in
      let r = come (suc many) run.0 n.after n.ties run.1 ls s' (omega (arith, short)) run.3 in
      let first = map (act l.thread) n.kinds in
      record {
        many = r.many;
        source = r.source;
        ties = r.ties;
        taken = r.taken;
        actions = first ++ r.actions;
        leads = leads_on p c n.after r.source first r.actions n.leads r.leads;
        trail = goes (left_along n.ties run.1) l n.kinds n.paced (few_along (suc many) run.0 n.after n.ties run.1)
            r.trail;
        strays = processes_append is_stray_kind first r.actions
            ∙ ap (λ (i : List ℕ). i ++ processes_of is_stray_kind r.actions) (n.strays ∙ sym (one_stray p l))
            ∙ ap (λ (i : List ℕ). stray_threads p (l ∷ []) ++ i) r.strays ∙ sym (threads_append p (l ∷ []) ls);
        kills = processes_append is_kill_kind first r.actions
            ∙ ap (λ (i : List ℕ). i ++ processes_of is_kill_kind r.actions) (n.kills ∙ sym (one_kill l))
            ∙ ap (λ (i : List ℕ). killed_threads (l ∷ []) ++ i) r.kills ∙ sym (kills_append (l ∷ []) ls);
        counted = λ deferred agrees t.
            let ks = deferred l.thread in
            let after = traced_behind p s run.0 l taken run.1 run.2 ks in
            let one = n.counted ks (agrees l.thread) in
            let later = agrees_next (stages k.world) n.stage l.thread
            (λ u. has_failed (put deferred l.thread after u)) (stages n.ties.world) n.staged
            (λ u o. subst (λ (i : List Kind). Agrees (stages k.world u) (has_failed i))
            (sym (put_other deferred l.thread after u o)) (agrees u))
            (subst (λ (i : List Kind). Agrees n.stage (has_failed i)) (sym (put_same deferred l.thread after)) one.1) in
            count_by-append (is_action_of t) first r.actions ∙ ap (λ i. i + count t r.actions) (one.0 t)
            ∙ ap (λ i. of_one l.thread t (traced_count p s run.0 l taken run.1 run.2 ks) + i)
            (r.counted (put deferred l.thread after) later t);
      }

  -- what belongs to the state in which a thread stands elsewhere, to where it came by local steps
  record Stays (s : State) (t : ℕ) (y : Thread) : Type 0 where
    taken : ℕ
    source : SourceState
    ties : Corresponds p w taken (with_thread s t y) source

  -- one local step more
  goes_on : (s : State) (t : ℕ) (m y : Thread) → s.asleep t ≡ None → look (code_of p) t m ≡ Goes y → Stays s t m
      → Stays s t y
  goes_on s t m y awake h r =
      let mid = with_thread s t m in
      let after = with_thread mid t y in
      let looks = look (code_of p) t m in
      let mark = mark_of (marks_of p) m in
      let moves : Moves (exit_of p.version) mid t [] looks after =
      subst (λ (l : Look). Moves (exit_of p.version) mid t [] l after) (sym h) (refl, refl) in
      let so = told_apart p mid t [] looks after moves in
      let deferral = told_deferral p so.0 mark mid t [] looks after so.1 in
      let n = next p w r.taken mid r.source r.ties t [] after m (put_same s.thread t (Some m)) awake so.0
      (raises_number looks) deferral.0
      (steps_whole p so.0 (raises_number looks) deferral.0 mark mid t [] looks after deferral.1)
      (λ request go e d. absurd (cc (h, e))) in
      record {
        taken = suc r.taken;
        source = n.after;
        ties = subst (λ (f : ℕ → Option Thread). Corresponds p w (suc r.taken) (record s { thread = f }) n.after)
            (put_put s.thread t (Some m) (Some y)) n.ties;
      }

  stays : (taken : ℕ) (s : State) (c : SourceState) (k : Corresponds p w taken s c) (t : ℕ) (x : Thread)
      → s.thread t ≡ Some x → s.asleep t ≡ None → (n : ℕ) (y : Thread) → local_after (code_of p) t n x ≡ Some y
      → Stays s t y
  stays taken s c k t x stands awake zero y e = record {
    taken = taken;
    source = c;
    ties = subst (λ (f : ℕ → Option Thread). Corresponds p w taken (record s { thread = f }) c)
        (put_again s.thread t (Some y) (stands ∙ e)) k;
  }
  stays taken s c k t x stands awake (suc n) y e =
      by_mid (local_after (code_of p) t n x) (λ m is. stays taken s c k t x stands awake n m is) e
    where
      by_mid : (o : Option Thread) → ((m : Thread) → o ≡ Some m → Stays s t m) → and_step (code_of p) t o ≡ Some y
          → Stays s t y
      by_mid None before e = absurd cc
      by_mid (Some m) before e = goes_on s t m y awake (goes_by (look (code_of p) t m) y e) (before m refl)

  -- from the opening state
  pub come_along : (steps : List Step) (s : State)
      (run : Trace (code_of p) (opening_state (code_of p)) none_taken steps s) → length steps < 2 ^ 32
      → Come (opening_state (code_of p)) (opening p) (left_along (opens p w) none_taken) (stages (opens p w).world)
      steps s (λ deferred t. counts p deferred steps (opening_state (code_of p)) none_taken s run t)
  come_along steps s run short =
      come 0 (opening_state (code_of p)) (opening p) (opens p w) none_taken steps s (omega (arith, short)) run

  -- with its actions it keeps pace
  pub come_pace : (steps : List Step) (s : State) (number : (ℕ → List Kind) → ℕ → ℕ)
      (r : Come (opening_state (code_of p)) (opening p) (left_along (opens p w) none_taken) (stages (opens p w).world)
      steps s number) → KeepsPace (stretch_length p) steps r.actions
  come_pace steps s number r = keeps_pace most (stretch_length p) (left_along (opens p w) none_taken)
      (left_along r.ties r.taken) steps r.actions (left_short p w 0)
      (few_along 0 (opening_state (code_of p)) (opening p) (opens p w) none_taken) r.trail

  explained : (steps : List Step) (s : State)
      → Trace (code_of p) (opening_state (code_of p)) none_taken steps s → length steps < 2 ^ 32
      → Explained p (code_of p) steps s
  explained steps s run short =
      let r = come_along steps s run short in
      record {
        sound = sound p w r.many s r.source r.ties;
        actions = r.actions;
        source = r.source;
        run = r.leads;
        output = r.ties.output;
        variables = r.ties.variables;
        ends = ends p w r.many s r.source r.ties;
        made = made p w r.many s r.source r.ties;
        locks = locks p w r.many s r.source r.ties;
        asleep = asleep p w r.many s r.source r.ties;
        at_rest = at_rest p w r.many s r.source r.ties;
        sleepers = sleepers p w r.many s r.source r.ties;
        pace = come_pace steps s _ r;
        strays = r.strays;
        kills = r.kills;
      }

  pub fine_locally : (steps : List Step) (s : State)
      → Trace (code_of p) (opening_state (code_of p)) none_taken steps s → length steps < 2 ^ 32
      → (t n : ℕ) (x y : Thread) → s.thread t ≡ Some x → s.asleep t ≡ None → local_after (code_of p) t n x ≡ Some y
      → NextIsBroken (code_of p) (with_thread s t y) t → ⊥
  fine_locally steps s run short t n x y stands awake local =
      let r = come_along steps s run short in
      let on = stays r.many s r.source r.ties t x stands awake n y local in
      sound p w on.taken (with_thread s t y) on.source on.ties t

  -- a run of the machine is a trace
  traced : (steps : List Step) (s : State) → MachineRun (code_of p) steps s
      → Trace (code_of p) (opening_state (code_of p)) none_taken steps s
  traced steps s run = trace_of p steps (opening_state (code_of p)) s run

  pub refines : Refines p (code_of p)
  refines = record {
    follows = λ steps s run short. explained steps s (traced steps s run) short;
    locally = λ steps s run short t n x y stands awake local.
        fine_locally steps s (traced steps s run) short t n x y stands awake local;
  }
