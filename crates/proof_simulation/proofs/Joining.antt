-- The steps of a JOIN: the reading of the id word, the sleep on it, and what is learned of the child's end.
use Rattle.std.proofs.Common.{◌≡◌, ◌≢◌, ℕ, zero, suc, ◌+◌, ◌<◌, ◌≤◌, ◌==◌, Bool, true, false, List, Option, Some, None}
use Rattle.std.proofs.Common.{ℤ, refl, ap, sym, ◌∙◌, subst, arith, inl, inr, ◌⊎◌}
use Rattle.std.specs.Prelude.{if◌then◌else◌, is_some}
use Rattle.std.proofs.lemmas.Bool.{cond-true, cond-false, eq-eqb, ne_eqb}
use Rattle.words.specs.declared.outcome.Fault.TheVariants.{ResultOutOfRange, DivisionByZero, IndexOutOfRange}
use Rattle.words.specs.declared.outcome.Fault.TheVariants.{HandleNotJoinable, ProcessTableFull, AbortStatement}
use Rattle.words.specs.declared.outcome.Fault.TheVariants.{AbandonedMonitor, JoinedAborted}
use Rattle.words.specs.Outcomes.{cause_number}
use Rattle.words.specs.Process.{process_word}
use Rattle.locals.specs.Threads.{Thread, Dies as Dies'}
use Rattle.locals.specs.Looks.{Request, Look, Asks, AskLoad, AskWait, look}
use Rattle.machine.specs.States.{State, with_thread}
use Rattle.machine.specs.Runs.{is_paused, has_ended}
use Rattle.program.specs.Trees.{Part, NoPart, SomePart, followed_by, Program}
use Rattle.program.specs.WellFormed.{WellFormed}
use Rattle.lowering.specs.Pieces.{marks_of, code_of}
use Rattle.meaning.specs.Labels.{Kind, Cause, Faulted, Killed, End, Ended, Aborted, Joins}
use Rattle.meaning.specs.Processes.{Frame, Caller, Process, Joining, Failing, goes_on, with_result, all_monitors}
use Rattle.meaning.specs.Offers.{after_join, joined_part}
use Rattle.meaning.specs.States.{SourceState}
use Rattle.protocol.specs.Points.{OnId, Point, Unmade, Runs, JoinReads, JoinSleeps, JoinLearns, JoinTakes, LastWakes}
use Rattle.protocol.specs.Points.{HasEnded}
use Rattle.protocol.specs.World.{World, mem}
use Rattle.protocol.specs.Finds.{CarriesFinding}
use Rattle.protocol.specs.Steps.{go_list}
use Rattle.protocol.specs.Requests.{request}
use Rattle.protocol.specs.Answers.{next, next_list}
use Rattle.protocol.specs.Runs.{HasJoined}
use Rattle.protocol.specs.Served.{MayAnswer, source_event}
use Rattle.protocol.proofs.Good.{Good}
use Rattle.protocol.proofs.Rest.{matches}
use Rattle.protocol.proofs.Joins.{IdAt}
use Rattle.words.proofs.Updates.{put_same}
use Rattle.proof_thread.specs.Following.{Build, Stands}
use Rattle.proof_thread.specs.Completing.{Awaits, GoesAborted, join_steps, view_of}
use Rattle.proof_thread.specs.Completing as F
use Rattle.proof_thread.specs.Builds.{most_steps}
use Rattle.proof_thread.specs.Walks.{stays}
use Rattle.proof_thread.proofs.Walking.{seen}
use Rattle.refinement.specs.Built.{build_of}
use Rattle.proof_templates.specs.Layout.{place, is_process}
use Rattle.proof_templates.specs.Asking.{machine_request, machine_answer, template_steps}
use Rattle.proof_templates.specs.Templates.{ActsSo}
use Rattle.protocol.specs.Carries.{Event, Acts}
use Rattle.words.specs.Updates.{put}
use Rattle.words.specs.Versions.{most_of}
use Rattle.proof_templates.proofs.Layouts.{number_is}
use Rattle.proof_simulation.specs.Ordering.{StepsWhole, completes, is_raise}
use Rattle.proof_simulation.specs.Standing.{StandsAt, works, reads, sleeps, learns, takes, IsLast, IsChild}
use Rattle.proof_simulation.specs.Ranks.{rank, steps_left, more_steps, before_template}
use Rattle.proof_simulation.specs.Corresponding.{Corresponds, IsBefore}
use Rattle.proof_simulation.specs.Serving.{IsServed, IsAskable}
use Rattle.proof_simulation.proofs.Worlds.{reached_good}
use Rattle.proof_simulation.proofs.Completions.{point_deferral, point_completes, point_raises, listed_at}
use Rattle.proof_simulation.proofs.Resumed.{who_resumes}
use Rattle.proof_simulation.proofs.Moving.{IsLow, Next}
use Rattle.proof_simulation.proofs.Stepped.{Arrives, stepped}
use Rattle.proof_simulation.proofs.Serving.{fresh_at, served}
use Rattle.proof_simulation.proofs.Templating.{awake_at, not_paused, works_on}
use Rattle.proof_simulation.proofs.Keeping.{goes_on_keeps, faults_keep}
use Rattle.proof_simulation.proofs.Acting.{held_of}
use Rattle.proof_simulation.specs.Deferred.{Stage, stages, stage_of, Agrees, Works, raised_at}
use Rattle.proof_thread.specs.Deferrals.{mark_of, deferred_by_request}
use Rattle.protocol.specs.Rules.{release_of}
use Rattle.proof_templates.proofs.Negated.{most_few}

cause_small : (cause : Cause) → cause_number cause ≢ 16
cause_small (Faulted ResultOutOfRange) e = absurd cc
cause_small (Faulted DivisionByZero) e = absurd cc
cause_small (Faulted IndexOutOfRange) e = absurd cc
cause_small (Faulted HandleNotJoinable) e = absurd cc
cause_small (Faulted ProcessTableFull) e = absurd cc
cause_small (Faulted AbortStatement) e = absurd cc
cause_small (Faulted AbandonedMonitor) e = absurd cc
cause_small (Faulted JoinedAborted) e = absurd cc
cause_small Killed e = absurd cc

-- an id word is its process's number, or 0
id_zero : (pt : Point) (q v : ℕ) → IdAt pt q v → v ≢ q → v ≡ 0
id_zero Unmade q v h other = h
id_zero (LastWakes end) q v h other = h
id_zero (HasEnded end) q v h other = h
id_zero pt q v h other = absurd (other h)

-- how many steps are left before the id word is read, by that word
abbrev ranks : ℕ → ℕ
ranks v = if v == 0 then 4 else 35

yes : {A : Type 0} (a b : ℕ) (x y : A) → a ≡ b → (if a == b then x else y) ≡ x
yes a b x y h = cond-true (a == b) x y (eq-eqb a b h)

no : {A : Type 0} (a b : ℕ) (x y : A) → a ≢ b → (if a == b then x else y) ≡ y
no a b x y h = cond-false (a == b) x y (ne_eqb a b h)

module _ (p : Program) (w : WellFormed p) (steps : ℕ) (s : State) (c : SourceState) (k : Corresponds p w steps s c)
    (t : ℕ) (woken : List ℕ) (done raises : Bool) (deferral : Option Kind) (pauses : Bool) (s' : State) (n : ℕ)
    (number : (0 < t) × (t ≤ k.world.made))
    (few : k.world.made ≤ most_of p.version) (awake : k.world.asleep t ≡ None) (paused : pauses ≡ is_paused s' t)
    (child : ℕ)
    (into : Option ℕ) (part : Part) (f : Frame) (cs : List Caller)
    (is : IsChild (build_of p w k.world.made) child f cs)
    (j : Awaits (build_of p w k.world.made) t child into part f cs)
    (list : (k.world.at t).list ≡ all_monitors f cs) where
  abbrev b : Build
  b = build_of p w k.world.made

  abbrev l : List ℕ
  l = (k.world.at t).list

  inv : Good k.world c.table
  inv = reached_good p.version k.world c.table k.reached

  valid_child : is_process p child ≡ true
  valid_child = let made = is.made in number_is p child is.some (omega (arith, made, few))

  -- a request of a point of the JOIN, as it is served
  module _ (pt : Point) (q : Process) (x : Thread) (asks : Request) (go : ℕ → Thread)
      (proc : c.process t ≡ Some q) (point : (k.world.at t).point ≡ pt) (looks : look (code_of p) t x ≡ Asks asks go)
      (askable : IsAskable p (request (release_of p.version) t pt)) (same : machine_request p (request (release_of
      p.version) t pt) ≡ Some asks)
      (before : IsBefore pt) (working : stage_of pt ≡ Works) (stays' : (o : ℕ)
      → machine_answer p (request (release_of p.version) t pt) o ≡ o) (on : next_list pt l ≡ l) where
    module _ (answer : ℕ) (mid : State) (sv : IsServed p s mid k.world t pt answer)
        (e' : s' ≡ with_thread mid t (go answer)) where
      abbrev y : Thread
      y = go sv.reply

      came : s' ≡ with_thread mid t y
      came = e' ∙ ap (λ a. with_thread mid t (go a)) (sv.told ∙ stays' sv.reply)

      pub after_awake : pauses ≡ false → sv.after.asleep t ≡ None
      after_awake z = awake_at (place p) (mid.asleep t) (sv.after.asleep t) (sv.shares.sleeps t)
          (sym (ap (λ (x : State). x.asleep t) came)
          ∙ not_paused (s'.asleep t) (has_ended (s'.thread t)) pauses paused z)

      -- where the thread comes: the point, the process, and fewer steps left where it does nothing
      pub record Goes (e : End) : Type 0 where
        pub to : Point
        pub leads : next k.world e pt sv.reply ≡ to
        pub thread : Thread
        pub goes : y ≡ thread
        pub process : Process
        pub acts : ActsSo p c.variable t (source_event k.world c.table t pt sv.reply sv.after e) q process
        pub stands : StandsAt b c.variable t (Some thread) (Some process) to (all_monitors f cs)
        pub paced : source_event k.world c.table t pt sv.reply sv.after e ≡ None → pauses ≡ false
            → steps_left b c.variable t (go_list sv.after t to l) stands < n

      abbrev Fine : End → ℕ → Thread → Process → Point → List ℕ → Type 0
      Fine e made x r to ms = (stand : StandsAt (build_of p w made) c.variable t (Some x) (Some r) to ms)
          × (source_event k.world c.table t pt sv.reply sv.after e ≡ None → pauses ≡ false
          → steps_left (build_of p w made) c.variable t (go_list sv.after t to ms) stand < n)

      arrives : ((e : End) → Goes e) → (e : End) → MayAnswer pt sv.reply
          → Arrives p w steps s c k t done raises deferral pauses s' mid n answer y q pt number awake proc point sv
          came e
      arrives goes e may =
          let g = goes e in
          let mine : Fine e k.world.made g.thread g.process g.to l =
          subst (λ (ms : List ℕ). (stand : StandsAt b c.variable t (Some g.thread) (Some g.process) g.to ms)
          × (source_event k.world c.table t pt sv.reply sv.after e ≡ None → pauses ≡ false
          → steps_left b c.variable t (go_list sv.after t g.to l) stand < n)) (sym list) (g.stands, g.paced) in
          let now : Fine e sv.after.made y g.process (next k.world e pt sv.reply) (next_list pt l) =
          subst (λ made. Fine e made y g.process (next k.world e pt sv.reply) (next_list pt l)) (sym sv.made)
          (subst (λ (z : Thread). Fine e k.world.made z g.process (next k.world e pt sv.reply) (next_list pt l))
          (sym g.goes) (subst (λ (z : Point). Fine e k.world.made g.thread g.process z (next_list pt l)) (sym g.leads)
          (subst (λ (ms : List ℕ). Fine e k.world.made g.thread g.process g.to ms) (sym on) mine))) in
          record {
            process = g.process;
            acts = g.acts;
            stands = now.0;
            listed = λ m h. k.lists t m (subst (λ (ms : List ℕ). mem m ms ≡ true) on h);
            blank = λ h. k.blank t (subst (λ (i : Point). IsBefore i) (sym point) before);
            paced = now.1;
          }

      shown : done ≡ completes p asks answer → (e : End) → MayAnswer pt sv.reply
          → done ≡ is_some (source_event k.world c.table t pt sv.reply sv.after e)
      shown seen e may = seen ∙ ap (λ a. completes p asks a) sv.told
          ∙ point_completes p k.world c.table t pt sv.reply sv.after e (k.world.at t).list asks
          (number_is p t number.0 (omega (arith, number.1, few)))
          (listed_at k.world c.table t pt inv point) may askable same

      went : done ≡ completes p asks answer → deferral ≡ deferred_by_request (mark_of (marks_of p) x) asks answer
          → raises ≡ is_raise asks → ((e : End) → Goes e)
          → Next p w steps s' t done raises deferral pauses n c (stages k.world) (raised_at k.world)
      went seen told_of raise goes =
          stepped p w steps s c k t done raises deferral pauses s' mid n answer y q pt number awake proc point sv came
          (told_of ∙ point_deferral p (mark_of (marks_of p) x) t pt answer asks working same)
          (raise ∙ point_raises p t (let h = most_few p.version in omega (arith, number.1, few, h)) pt asks same)
          (subst (λ (i : Stage). Agrees i false) (sym working) refl)
          (shown seen)
          (λ e u label h. who_resumes p s' k.world c.table t pt sv.reply sv.after e u label
          (ap (λ (x : State). x.made) came ∙ sv.keeps.made ∙ k.made)
          (λ v. ap (λ (x : State). x.asleep v) came ∙ sv.shares.sleeps v) sv.shares.spots askable h) (arrives goes)

    join_step : ((answer : ℕ) (mid : State) (sv : IsServed p s mid k.world t pt answer)
        (e' : s' ≡ with_thread mid t (go answer)) (e : End) → Goes answer mid sv e' e)
        → IsLow k.world.sequence (look (code_of p) t x)
        → StepsWhole p done raises deferral (mark_of (marks_of p) x) s t woken (look (code_of p) t x) s'
        → Next p w steps s' t done raises deferral pauses n c (stages k.world) (raised_at k.world)
    join_step goes low moves =
        let g : StepsWhole p done raises deferral (mark_of (marks_of p) x) s t woken (Asks asks go) s' =
        subst (λ (i : Look). StepsWhole p done raises deferral (mark_of (marks_of p) x) s t woken i s') looks moves in
        let sv = served p s k.world c.table t pt asks woken g.0 g.1 k.shares inv number.0
        (omega (arith, number.1, few)) (low asks go looks) (fresh_at k.world c.table inv t pt point) askable same g.2 in
        went g.0 g.1 sv g.3 g.4 g.5 g.6 (goes g.0 g.1 sv g.3)

  -- the id word is read: the child is over, or the thread is to sleep
  pub read_step : (x : Thread) → x ≡ j.reads → c.process t ≡ Some (Joining child into part f cs)
      → (k.world.at t).point ≡ JoinReads child → rank (more_steps b) k.world (JoinReads child) ≤ n
      → IsLow k.world.sequence (look (code_of p) t x)
      → StepsWhole p done raises deferral (mark_of (marks_of p) x) s t woken (look (code_of p) t x) s'
      → Next p w steps s' t done raises deferral pauses n c (stages k.world) (raised_at k.world)
  read_step x there proc point enough low moves =
      join_step (JoinReads child) (Joining child into part f cs) x (AskLoad (process_word child 2)) j.after_read proc
      point (ap (look (code_of p) t) there ∙ j.read) valid_child refl tt refl (λ o. refl) refl
      (λ answer mid sv e' e. by_reply answer mid sv e' e sv.reply refl) low moves
    where
      by_reply : (answer : ℕ) (mid : State) (sv : IsServed p s mid k.world t (JoinReads child) answer)
          (e' : s' ≡ with_thread mid t (j.after_read answer)) (e : End) (v : ℕ) → sv.reply ≡ v
          → Goes (JoinReads child) (Joining child into part f cs) x (AskLoad (process_word child 2)) j.after_read proc
          point (ap (look (code_of p) t) there ∙ j.read) valid_child refl tt refl (λ o. refl) refl answer mid sv e' e
      by_reply answer mid sv e' e zero z = record {
        to = JoinLearns child e;
        leads = yes sv.reply 0 _ _ z;
        thread = j.after_read 0;
        goes = ap j.after_read z;
        process = after_join into part f cs e;
        acts = subst (λ (o : Option Event). ActsSo p c.variable t o (Joining child into part f cs)
            (after_join into part f cs e)) (sym (yes sv.reply 0 (Some (Acts t (Joins child e))) None z))
            (refl, (e, refl, refl, refl));
        stands = learns join_steps (omega arith) is j j.gone;
        paced = λ none i. let some = yes sv.reply 0 (Some (Acts t (Joins child e))) None z in absurd (cc (none, some));
      }
      by_reply answer mid sv e' e (suc v) z =
          let other : sv.reply ≢ 0 = λ i. absurd (omega (arith, z, i)) in
          let id : k.world.id child ≢ 0 = λ i. other (sv.serves.0 ∙ i) in
          let ranked : rank (more_steps b) k.world (JoinReads child) ≡ 35 = no {A = ℕ} (k.world.id child) 0 4 35 id in
          record {
            to = JoinSleeps child;
            leads = no sv.reply 0 _ _ other;
            thread = j.after_read (suc v);
            goes = ap j.after_read z;
            process = Joining child into part f cs;
            acts = subst (λ (o : Option Event). ActsSo p c.variable t o (Joining child into part f cs)
                (Joining child into part f cs)) (sym (no sv.reply 0 (Some (Acts t (Joins child e))) None other)) refl;
            stands = sleeps join_steps (omega arith) is j (j.there v);
            paced = λ none i. omega (arith, ranked, enough);
          }

  -- the thread sleeps, or the child is over by now
  pub sleep_step : (x : Thread) → x ≡ j.sleeps → c.process t ≡ Some (Joining child into part f cs)
      → (k.world.at t).point ≡ JoinSleeps child → 18 ≤ n + 3
      → IsLow k.world.sequence (look (code_of p) t x)
      → StepsWhole p done raises deferral (mark_of (marks_of p) x) s t woken (look (code_of p) t x) s'
      → Next p w steps s' t done raises deferral pauses n c (stages k.world) (raised_at k.world)
  sleep_step x there proc point enough low moves =
      join_step (JoinSleeps child) (Joining child into part f cs) x (AskWait (process_word child 2) child) j.after_sleep
      proc point (ap (look (code_of p) t) there ∙ j.sleep) valid_child refl tt refl (λ o. refl) refl
      (λ answer mid sv e' e. record {
        to = JoinReads child;
        leads = refl;
        thread = j.after_sleep sv.reply;
        goes = refl;
        process = Joining child into part f cs;
        acts = refl;
        stands = reads join_steps (omega arith) is j (j.again sv.reply);
        paced = λ none i. omega (
          arith,
          fewer sv.after (after_awake (JoinSleeps child) (Joining child into part f cs) x
              (AskWait (process_word child 2) child) j.after_sleep proc point (ap (look (code_of p) t) there ∙ j.sleep)
              valid_child refl tt refl (λ o. refl) refl answer mid sv e' i) sv.serves,
        );
      }) low moves
    where
      fewer : (world : World) → world.asleep t ≡ None
          → ((k.world.id child ≡ child) × (world ≡ record k.world
          { asleep = put k.world.asleep t (Some (OnId child)) }))
          ⊎ ((k.world.id child ≢ child) × (world ≡ k.world))
          → join_steps + ranks (world.id child) < n
      fewer world up (inl h) =
          let asleep = ap (λ (x : World). x.asleep t) h.1 ∙ put_same k.world.asleep t (Some (OnId child)) in
          absurd (cc (up, asleep))
      fewer world up (inr h) =
          let gone = id_zero (k.world.at child).point child (k.world.id child) (inv.joiners.ids child) h.0 in
          let ranked : ranks (world.id child) ≡ 4 = yes {A = ℕ} (world.id child) 0 4 35
          (ap (λ (x : World). x.id child) h.1 ∙ gone) in
          omega (arith, ranked, enough)

  -- the end that the thread learns of is the child's
  tells : (pt : Point) (end : End) → (k.world.at t).point ≡ pt → HasJoined pt child end
      → CarriesFinding end (k.world.outcome child) (k.world.result child)
  tells pt end point has =
      let over = matches k.world c.table inv in
      (over.over child end (over.joined t child end (subst (λ (i : Point). HasJoined i child end) (sym point) has))).1

  -- what is done after an abort
  aborted : (y : Part) (v : ℕ) → GoesAborted b t (j.after_outcome v) y f cs
      → (stand : StandsAt b c.variable t (Some (j.after_outcome v)) (Some (joined_part y f cs)) Runs
      (all_monitors f cs))
      × ((world : World) → steps_left b c.variable t world stand ≤ template_steps + most_steps b + before_template)
  aborted NoPart v h = (
    works join_steps (omega arith) (record {
      last = Dies' (Faulted JoinedAborted);
      walk = seen b.code t p (view_of b (Failing JoinedAborted None f cs) c.variable) join_steps (j.after_outcome v)
          (Dies' (Faulted JoinedAborted)) h;
      completes = F.faults JoinedAborted refl refl;
    }) (record {
      steady = record { first = λ m e. absurd cc; same = λ v' h. refl };
      keeps = λ label effect r keeps takes. faults_keep JoinedAborted f cs label effect r keeps takes;
    }),
    λ world. omega arith,
  )
  aborted (SomePart body) v h =
      let q = goes_on None (record f { rest = followed_by body f.rest }) cs in
      let held = held_of (all_monitors f cs) q (goes_on_keeps b None (record f { rest = followed_by body f.rest }) cs
      is.last) in
      let stand = works_on p w k.world.made c.variable t (j.after_outcome v) (j.after_outcome v) q k.fit (record {
        count = 0;
        few = omega arith;
        walk = stays;
      }) h in
      subst (λ (ms : List ℕ). (stand : StandsAt b c.variable t (Some (j.after_outcome v)) (Some q) Runs ms)
      × ((world : World) → steps_left b c.variable t world stand ≤ template_steps + most_steps b + before_template))
      held (stand.0, λ world. let same = stand.1 world in omega (arith, same))

  -- the outcome is read: the child's result is taken, or the process goes on after its abort
  pub learn_step : (x : Thread) (end : End) → x ≡ j.learns → c.process t ≡ Some (after_join into part f cs end)
      → (k.world.at t).point ≡ JoinLearns child end → more_steps b + 34 ≤ n
      → IsLow k.world.sequence (look (code_of p) t x)
      → StepsWhole p done raises deferral (mark_of (marks_of p) x) s t woken (look (code_of p) t x) s'
      → Next p w steps s' t done raises deferral pauses n c (stages k.world) (raised_at k.world)
  learn_step x (Ended z) there proc point enough low moves =
      let tell = tells (JoinLearns child (Ended z)) (Ended z) point (refl, refl) in
      join_step (JoinLearns child (Ended z)) (after_join into part f cs (Ended z)) x (AskLoad (process_word child 5))
      j.after_outcome proc point (ap (look (code_of p) t) there ∙ j.outcome) valid_child refl tt refl (λ o. refl) refl
      (λ answer mid sv e' e. record {
        to = JoinTakes child (Ended z);
        leads = yes sv.reply 16 _ _ (sv.serves.0 ∙ tell.0);
        thread = j.after_outcome 16;
        goes = ap j.after_outcome (sv.serves.0 ∙ tell.0);
        process = goes_on None (with_result into z f) cs;
        acts = refl;
        stands = takes join_steps (omega arith) is j j.ended;
        paced = λ none i. omega (arith, enough);
      }) low moves
  learn_step x (Aborted cause) there proc point enough low moves =
      let tell = tells (JoinLearns child (Aborted cause)) (Aborted cause) point (refl, refl) in
      let v = cause_number cause in
      let go = aborted part v (j.aborted v (cause_small cause)) in
      join_step (JoinLearns child (Aborted cause)) (after_join into part f cs (Aborted cause)) x
      (AskLoad (process_word child 5)) j.after_outcome proc point (ap (look (code_of p) t) there ∙ j.outcome)
      valid_child
      refl tt refl (λ o. refl) refl
      (λ answer mid sv e' e. record {
        to = Runs;
        leads = no sv.reply 16 _ _ (λ i. cause_small cause (sym (sv.serves.0 ∙ tell) ∙ i));
        thread = j.after_outcome v;
        goes = ap j.after_outcome (sv.serves.0 ∙ tell);
        process = joined_part part f cs;
        acts = refl;
        stands = go.0;
        paced = λ none i. let left = go.1 (go_list sv.after t Runs l) in omega (arith, left, enough);
      }) low moves

  -- a result changes neither which monitors a procedure holds nor whether it is the last
  result_last : (into : Option ℕ) (z : ℤ) → IsLast (with_result into z f) cs
  result_last None z = is.last
  result_last (Some slot) z = is.last

  result_monitors : (into : Option ℕ) (z : ℤ) → all_monitors (with_result into z f) cs ≡ all_monitors f cs
  result_monitors None z = refl
  result_monitors (Some slot) z = refl

  -- the result is read, and taken
  pub take_step : (x : Thread) (z : ℤ) → x ≡ j.takes → c.process t ≡ Some (goes_on None (with_result into z f) cs)
      → (k.world.at t).point ≡ JoinTakes child (Ended z) → more_steps b + 17 ≤ n
      → IsLow k.world.sequence (look (code_of p) t x)
      → StepsWhole p done raises deferral (mark_of (marks_of p) x) s t woken (look (code_of p) t x) s'
      → Next p w steps s' t done raises deferral pauses n c (stages k.world) (raised_at k.world)
  take_step x z there proc point enough low moves =
      let tell = tells (JoinTakes child (Ended z)) (Ended z) point (refl, refl) in
      let v = k.world.result child in
      let q = goes_on None (with_result into z f) cs in
      let taken : Stands b t (j.after_result v) q =
      subst (λ (y : ℤ). Stands b t (j.after_result v) (goes_on None (with_result into y f) cs)) tell.1
      (j.taken v (k.words child)) in
      let stand = works_on p w k.world.made c.variable t (j.after_result v) (j.after_result v) q k.fit (record {
        count = 0;
        few = omega arith;
        walk = stays;
      }) taken in
      let held = held_of (all_monitors (with_result into z f) cs) q (goes_on_keeps b None (with_result into z f) cs
      (result_last into z)) ∙ result_monitors into z in
      let go = subst (λ (ms : List ℕ). (stand : StandsAt b c.variable t (Some (j.after_result v)) (Some q) Runs ms)
      × ((world : World) → steps_left b c.variable t world stand ≡ template_steps + most_steps b + before_template))
      held stand in
      join_step (JoinTakes child (Ended z)) q x (AskLoad (process_word child 4)) j.after_result proc point
      (ap (look (code_of p) t) there ∙ j.result) valid_child refl tt refl (λ o. refl) refl
      (λ answer mid sv e' e. record {
        to = Runs;
        leads = refl;
        thread = j.after_result v;
        goes = ap j.after_result sv.serves.0;
        process = q;
        acts = refl;
        stands = go.0;
        paced = λ none i. let left = go.1 (go_list sv.after t Runs l) in omega (arith, left, enough);
      }) low moves
