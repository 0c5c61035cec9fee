-- A step of a thread inside a template.
use Rattle.std.proofs.Common.{◌≡◌, ◌≢◌, ℕ, suc, ◌+◌, ◌<◌, ◌≤◌, ◌==◌, Bool, true, false, List, [], ◌∷◌, length, Option}
use Rattle.std.proofs.Common.{Some, None, refl, ap, sym, ◌∙◌, subst, arith, inl, inr}
use Rattle.std.specs.Prelude.{◌||◌, is_some}
use Rattle.std.proofs.lemmas.Bool.{or_right, cases_eq, ne_eqb}
use Rattle.words.specs.Versions.{most_of}
use Rattle.locals.specs.Threads.{Thread}
use Rattle.locals.specs.Looks.{Look, Asks, look}
use Rattle.machine.specs.States.{State, with_thread}
use Rattle.machine.specs.Runs.{is_paused, has_ended}
use Rattle.program.specs.Trees.{Program}
use Rattle.program.specs.WellFormed.{WellFormed}
use Rattle.lowering.specs.Pieces.{marks_of, code_of}
use Rattle.meaning.specs.Labels.{Kind, End}
use Rattle.meaning.specs.Values.{Variables}
use Rattle.meaning.specs.Processes.{Process, holds}
use Rattle.meaning.specs.States.{SourceState}
use Rattle.protocol.specs.Points.{Dies, Spot, Point, Runs, GotHeads, LeaveHeads, Walks, ClearsId, LastWakes, HasEnded}
use Rattle.protocol.specs.World.{World, mem, tail}
use Rattle.protocol.specs.Cells.{Cell}
use Rattle.protocol.specs.Exits.{sleep_address}
use Rattle.protocol.specs.Steps.{go_list}
use Rattle.protocol.specs.Requests.{request}
use Rattle.protocol.specs.Answers.{next, next_list}
use Rattle.protocol.specs.Served.{MayAnswer, source_event}
use Rattle.protocol.proofs.Good.{Good}
use Rattle.proof_thread.specs.Following.{Build, StepsWithin, Stands}
use Rattle.proof_thread.specs.Completing.{view_of}
use Rattle.proof_thread.specs.Builds.{most_steps}
use Rattle.proof_thread.specs.Variables.{VariablesFit}
use Rattle.proof_thread.proofs.Followed.{followed}
use Rattle.proof_thread.proofs.Settling.{settled}
use Rattle.proof_thread.proofs.Holding.{held}
use Rattle.proof_thread.proofs.Walking.{seen}
use Rattle.proof_thread.proofs.Contexts.{proceeds_on}
use Rattle.refinement.specs.Built.{build_of}
use Rattle.refinement.proofs.Building.{is_build}
use Rattle.proof_templates.specs.Layout.{place}
use Rattle.proof_templates.specs.Asking.{machine_answer, template_steps}
use Rattle.proof_templates.specs.Inside.{Template, process_at, list_at, StandsIn, TemplateFits, SameBefore, IsSteady}
use Rattle.proof_templates.specs.Templates.{Follows, StandsOn}
use Rattle.proof_templates.proofs.Follows.{follows}
use Rattle.proof_simulation.specs.Ordering.{StepsWhole, completes, is_raise}
use Rattle.proof_simulation.specs.Standing.{IsAtWork, StandsAt, works, inside}
use Rattle.proof_simulation.specs.Ranks.{rank, steps_left, more_steps, before_template}
use Rattle.proof_simulation.specs.Corresponding.{Corresponds, IsBefore}
use Rattle.proof_simulation.specs.Serving.{IsServed}
use Rattle.proof_simulation.proofs.Keeping.{kept_monitors}
use Rattle.proof_simulation.proofs.Worlds.{reached_good}
use Rattle.proof_templates.proofs.Layouts.{number_is}
use Rattle.proof_simulation.proofs.Completions.{point_deferral, point_completes, point_raises, listed_at}
use Rattle.proof_simulation.proofs.Resumed.{who_resumes}
use Rattle.proof_simulation.proofs.Moving.{IsLow, Next}
use Rattle.proof_simulation.proofs.Stepped.{Arrives, stepped}
use Rattle.proof_simulation.proofs.Serving.{fresh_at, served}
use Rattle.proof_simulation.proofs.Ranking.{IsTemplate, rank_falls, rank_ends, spare_at}
use Rattle.proof_simulation.proofs.Points.{InTemplate, in_template}
use Rattle.proof_simulation.proofs.Offering.{acts_now, same_next}
use Rattle.proof_simulation.specs.Deferred.{Stage, stages, stage_of, Agrees, raised_at}
use Rattle.proof_thread.specs.Deferrals.{mark_of, deferred_by_request}
use Rattle.proof_simulation.specs.Deferred as W
use Rattle.protocol.specs.Rules.{release_of}
use Rattle.proof_templates.proofs.Negated.{most_few}

-- a thread that comes within a few steps to where it stands for a process works at what the process offers
pub works_on : (p : Program) (w : WellFormed p) (made : ℕ) (v : Variables) (t : ℕ) (x y : Thread) (q : Process)
    → ((m : ℕ) → VariablesFit made p m v) → StepsWithin (build_of p w made) t template_steps x y
    → Stands (build_of p w made) t y q
    → (stand : StandsAt (build_of p w made) v t (Some x) (Some q) Runs (holds q))
    × ((world : World) → steps_left (build_of p w made) v t world stand
    ≡ template_steps + most_steps (build_of p w made)
    + before_template)
works_on p w made v t x y q fit walk stands =
    let b = build_of p w made in
    let is = is_build p w made in
    let goes = followed b is t v y q stands (λ m e. fit m) in
    let steady : IsSteady p q v = record {
      first = λ m e. held b is t y q stands m e;
      same = λ v' h. sym (settled b is t v v' y q stands h);
    } in
    let whole = proceeds_on b t v template_steps (most_steps b) x y q
    (seen b.code t p (view_of b q v) template_steps x y walk) goes in
    let work : IsAtWork p q v = record { steady = steady; keeps = kept_monitors b v t y q stands } in
    (works (template_steps + most_steps b) (omega arith) whole work, λ world. refl)

-- a thread at one works
template_works : (pt : Point) → IsTemplate pt → stage_of pt ≡ W.Works
template_works (Dies cause x) is = absurd is
template_works (Walks e x end) is = absurd is
template_works (ClearsId end) is = absurd is
template_works (LastWakes end) is = absurd is
template_works (HasEnded end) is = absurd is
template_works pt is = refl

-- a point of a template comes before the exit
before_exit : (pt : Point) → IsTemplate pt → IsBefore pt
before_exit (Walks e x end) is = absurd is
before_exit (ClearsId end) is = absurd is
before_exit (LastWakes end) is = absurd is
before_exit (HasEnded end) is = absurd is
before_exit pt is = tt

in_tail : (m : ℕ) (l : List ℕ) → mem m (tail l) ≡ true → mem m l ≡ true
in_tail m [] h = h
in_tail m (x ∷ xs) h = or_right (m == x) (mem m xs) h

-- a list grows by a monitor of the program alone
pub listed_next : (n : ℕ) (pt : Point) (l : List ℕ) → ((m v : ℕ) → pt ≡ GotHeads m v → m < n)
    → ((m : ℕ) → mem m l ≡ true → m < n) → (m : ℕ) → mem m (next_list pt l) ≡ true → m < n
listed_next n (GotHeads k v) l got all m h = on_list m (got k v refl) h
  where
    on_list : (m : ℕ) → k < n → mem m (k ∷ l) ≡ true → m < n
    on_list m less h = elim (cases_eq m k) [
      | inl e ↦ subst (λ i. i < n) (sym e) less
      | inr o ↦ all m (sym (ap (λ b. b || mem m l) (ne_eqb m k o)) ∙ h)
    ]
listed_next n (LeaveHeads k v r) l got all m h = all m (in_tail m l h)
listed_next n (Walks (suc k) x end) l got all m h = all m (in_tail m l h)
listed_next n pt l got all m h = all m h

-- a thread that doesn't sleep in the machine doesn't in the world
pub not_paused : (asleep : Option ℕ) (b pauses : Bool) → pauses ≡ (is_some asleep || b) → pauses ≡ false → asleep ≡ None
not_paused None b pauses e h = refl
not_paused (Some a) b pauses e h = absurd (cc (e, h))

pub awake_at : (at : Cell → ℕ) (a : Option ℕ) (o : Option Spot) → a ≡ sleep_address at o → a ≡ None → o ≡ None
awake_at at a None e h = refl
awake_at at a (Some x) e h = absurd (cc (e, h))

module _ (p : Program) (w : WellFormed p) (steps : ℕ) (s : State) (c : SourceState) (k : Corresponds p w steps s c)
    (t : ℕ) (woken : List ℕ) (done raises : Bool) (deferral : Option Kind) (pauses : Bool) (s' : State) (n : ℕ)
    (number : (0 < t) × (t ≤ k.world.made))
    (few : k.world.made ≤ most_of p.version) (awake : k.world.asleep t ≡ None) (paused : pauses ≡ is_paused s' t) where
  abbrev b : Build
  b = build_of p w k.world.made

  inv : Good k.world c.table
  inv = reached_good p.version k.world c.table k.reached

  module _ (kind : Template) (u : Variables) (pt : Point) (x : Thread) (fits : TemplateFits b u t kind)
      (same : SameBefore kind pt u c.variable) (ne : pt ≢ Runs) (stands : StandsIn p t kind pt x)
      (proc : c.process t ≡ Some (process_at p kind pt)) (point : (k.world.at t).point ≡ pt)
      (list : (k.world.at t).list ≡ list_at kind pt) (enough : rank (more_steps b) k.world pt ≤ n + spare_at pt) where
    within : InTemplate p t number.0 (omega (arith, number.1, few)) pt
    within = in_template p t number.0 (omega (arith, number.1, few)) b refl u kind pt x fits ne stands

    goes : Follows b u t kind pt x
    goes = follows b u t kind (is_build p w k.world.made) number.0 (omega (arith, number.1, few)) fits pt x ne stands

    module _ (answer : ℕ) (mid : State) (sv : IsServed p s mid k.world t pt answer)
        (e' : s' ≡ with_thread mid t (goes.go answer)) (seen : done ≡ completes p goes.asks answer)
        (told_of : deferral ≡ deferred_by_request (mark_of (marks_of p) x) goes.asks answer)
        (raise : raises ≡ is_raise goes.asks) where
      abbrev y : Thread
      y = goes.go (machine_answer p (request (release_of p.version) t pt) sv.reply)

      came : s' ≡ with_thread mid t y
      came = e' ∙ ap (λ a. with_thread mid t (goes.go a)) sv.told

      abbrev Arrives' : End → Type 0
      Arrives' e = Arrives p w steps s c k t done raises deferral pauses s' mid n answer y
          (process_at p kind pt) pt number awake proc
          point sv
          came e

      after_awake : pauses ≡ false → sv.after.asleep t ≡ None
      after_awake z = awake_at (place p) (mid.asleep t) (sv.after.asleep t) (sv.shares.sleeps t)
          (sym (ap (λ (x : State). x.asleep t) came)
          ∙ not_paused (s'.asleep t) (has_ended (s'.thread t)) pauses paused z)

      -- where the thread stands then, and that fewer steps are left where it did nothing and doesn't sleep
      abbrev Fine : End → ℕ → Process → List ℕ → Type 0
      Fine e made q l =
          (stand : StandsAt (build_of p w made) c.variable t (Some y) (Some q) (next k.world e pt sv.reply) l)
          × (source_event k.world c.table t pt sv.reply sv.after e ≡ None → pauses ≡ false
          → steps_left (build_of p w made) c.variable t
          (go_list sv.after t (next k.world e pt sv.reply) (next_list pt (k.world.at t).list)) stand < n)

      fine : (e : End) → MayAnswer pt sv.reply → (q : Process) (l : List ℕ)
          (z : Thread) → StepsWithin b t template_steps y z
          → StandsOn b t kind (next k.world e pt sv.reply) l z q → Fine e k.world.made q l
      fine e may q l z walk (inl (off, at, is, on)) =
          subst (λ (r : Process). Fine e k.world.made r l) (sym is)
          (subst (λ (i : List ℕ). Fine e k.world.made (process_at p kind (next k.world e pt sv.reply)) i) (sym on) (
            inside template_steps kind u (omega arith) walk fits
                (same_next k.world e kind pt sv.reply u c.variable within.template same) off at,
            λ none z.
                let less = rank_falls (more_steps b) k.world c.table t sv.reply sv.after e (next k.world e pt sv.reply)
                (next_list pt (k.world.at t).list) (after_awake z) (release_of p.version) pt within.template sv.serves
                may none off in
                omega (arith, less, enough),
          ))
      fine e may q l z walk (inr (off, at, on)) =
          let works = works_on p w k.world.made c.variable t y z q k.fit walk at in
          subst (λ (i : List ℕ). Fine e k.world.made q i) (sym on)
          (behind (next k.world e pt sv.reply) off works.0 works.1 (λ none z. rank_ends (more_steps b) k.world c.table t
          sv.reply sv.after e (next k.world e pt sv.reply) (next_list pt (k.world.at t).list) (after_awake z) pt
          within.template none off))
        where
          behind : (to : Point) → to ≡ Runs
              → (stand : StandsAt b c.variable t (Some y) (Some q) Runs (holds q))
              → ((world : World) → steps_left b c.variable t world stand
              ≡ template_steps + most_steps b + before_template)
              → (source_event k.world c.table t pt sv.reply sv.after e ≡ None → pauses ≡ false
              → more_steps b + 12 + spare_at pt < rank (more_steps b) k.world pt)
              → (stand : StandsAt b c.variable t (Some y) (Some q) to (holds q))
              × (source_event k.world c.table t pt sv.reply sv.after e ≡ None → pauses ≡ false
              → steps_left b c.variable t (go_list sv.after t to (next_list pt (k.world.at t).list)) stand < n)
          behind to is stand left ends =
              subst (λ (i : Point). (stand : StandsAt b c.variable t (Some y) (Some q) i (holds q))
              × (source_event k.world c.table t pt sv.reply sv.after e ≡ None → pauses ≡ false
              → steps_left b c.variable t (go_list sv.after t i (next_list pt (k.world.at t).list)) stand < n))
              (sym is) (
                stand,
                λ none z.
                    let all = left (go_list sv.after t Runs (next_list pt (k.world.at t).list)) in
                    let less = ends none z in omega (arith, all, less, enough),
              )

      arrives : (e : End) → MayAnswer pt sv.reply → Arrives' e
      arrives e may =
          let to = goes.goes k.world c.table e sv.reply sv.after may in
          let l = next_list pt (k.world.at t).list in
          let stand = fine e may to.process (next_list pt (list_at kind pt)) to.thread to.walk to.stands in
          let now : Fine e sv.after.made to.process l =
          subst (λ made. Fine e made to.process l) (sym sv.made)
          (subst (λ (i : List ℕ). Fine e k.world.made to.process i) (sym (ap (next_list pt) list)) stand) in
          record {
            process = to.process;
            acts = acts_now k.world c.table t sv.reply sv.after e b u c.variable kind pt x to.process fits same stands
                to.acts;
            stands = now.0;
            listed = listed_next (length p.monitors) pt (k.world.at t).list within.got (k.lists t);
            blank = λ h. k.blank t (subst (λ (i : Point). IsBefore i) (sym point) (before_exit pt within.template));
            paced = now.1;
          }

      shown : (e : End) → MayAnswer pt sv.reply
          → done ≡ is_some (source_event k.world c.table t pt sv.reply sv.after e)
      shown e may = seen ∙ ap (λ a. completes p goes.asks a) sv.told
          ∙ point_completes p k.world c.table t pt sv.reply sv.after e (k.world.at t).list goes.asks
          (number_is p t number.0 (omega (arith, number.1, few))) (listed_at k.world c.table t pt inv point) may
          within.askable goes.same

      answered : Next p w steps s' t done raises deferral pauses n c (stages k.world) (raised_at k.world)
      answered = stepped p w steps s c k t done raises deferral pauses s' mid n answer y
          (process_at p kind pt) pt number awake proc point sv
          came
          (told_of ∙ point_deferral p (mark_of (marks_of p) x) t pt answer goes.asks
          (template_works pt within.template) goes.same)
          (raise ∙ point_raises p t (let h = most_few p.version in omega (arith, number.1, few, h)) pt goes.asks
          goes.same)
          (subst (λ (i : Stage). Agrees i false) (sym (template_works pt within.template)) refl)
          shown (λ e u label h. who_resumes p s' k.world c.table t pt sv.reply sv.after e u label
          (ap (λ (x : State). x.made) came ∙ sv.keeps.made ∙ k.made)
          (λ v. ap (λ (x : State). x.asleep v) came ∙ sv.shares.sleeps v) sv.shares.spots within.askable h) arrives

    pub inside_step : IsLow k.world.sequence (look (code_of p) t x)
        → StepsWhole p done raises deferral (mark_of (marks_of p) x) s t woken (look (code_of p) t x) s'
        → Next p w steps s' t done raises deferral pauses n c (stages k.world) (raised_at k.world)
    inside_step low moves =
        let g : StepsWhole p done raises deferral (mark_of (marks_of p) x) s t woken (Asks goes.asks goes.go) s' =
        subst (λ (l : Look). StepsWhole p done raises deferral (mark_of (marks_of p) x) s t woken l s') goes.look
        moves in
        answered g.0 g.1 (served p s k.world c.table t pt goes.asks woken g.0 g.1 k.shares inv number.0
        (omega (arith, number.1, few)) (low goes.asks goes.go goes.look) (fresh_at k.world c.table inv t pt point)
        within.askable goes.same g.2) g.3 g.4 g.5 g.6
