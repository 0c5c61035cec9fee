-- A thread takes up a template of its code.
use Rattle.std.proofs.Common.{◌≡◌, ◌≢◌, ℕ, suc, ◌+◌, ◌<◌, ◌≤◌, Bool, true, false, List, ◌∷◌, Option, Some, None, refl}
use Rattle.std.proofs.Common.{ap, sym, ◌∙◌, subst, arith, inl, inr, ◌⊎◌}
use Rattle.std.proofs.lemmas.Bool.{cases_eq}
use Rattle.words.specs.Updates.{put}
use Rattle.words.specs.Versions.{most_of}
use Rattle.locals.specs.Threads.{Thread}
use Rattle.locals.specs.Looks.{Goes, look}
use Rattle.machine.specs.States.{State}
use Rattle.machine.specs.AbstractServing.{shared_of}
use Rattle.machine.specs.Runs.{is_paused}
use Rattle.program.specs.Trees.{Program}
use Rattle.program.specs.WellFormed.{WellFormed}
use Rattle.lowering.specs.Pieces.{code_of, marks_of}
use Rattle.proof_thread.specs.Deferrals.{deferred_by_mark, mark_of}
use Rattle.meaning.specs.Values.{Variables}
use Rattle.meaning.specs.Table.{Table}
use Rattle.meaning.specs.Processes.{Process, Entering, holds}
use Rattle.meaning.specs.States.{SourceState}
use Rattle.protocol.specs.Points.{Point, Runs, Thread as Place, thread_at}
use Rattle.protocol.specs.World.{World, mem, tail}
use Rattle.protocol.specs.Moves.{Move, Begin, Rebegin, Leave, Wait, Notify, Broadcast}
use Rattle.protocol.specs.Steps.{Can, after, go}
use Rattle.protocol.specs.Carries.{table_after}
use Rattle.words.proofs.Updates.{at_put, put_same, put_other}
use Rattle.proof_thread.specs.Following.{Build, StepsWithin}
use Rattle.refinement.specs.Built.{build_of, marked_image}
use Rattle.proof_templates.specs.Layout.{place, valid}
use Rattle.proof_templates.specs.Asking.{template_steps}
use Rattle.proof_templates.specs.Inside.{Template, Enters, Exits, Waits, Notifies, Broadcasts, process_at, list_at}
use Rattle.proof_templates.specs.Inside.{StandsIn}
use Rattle.proof_templates.specs.Inside.{TemplateFits, SameBefore, first_thread, first_point}
use Rattle.proof_templates.specs.Templates.{Begins}
use Rattle.proof_templates.proofs.Begins.{begins}
use Rattle.proof_simulation.specs.Ordering.{StepsWhole}
use Rattle.proof_simulation.specs.Standing.{StandsAt, inside}
use Rattle.proof_simulation.specs.Ranks.{rank, more_steps, before_template}
use Rattle.proof_simulation.specs.Corresponding.{Reached, Corresponds, IsBefore}
use Rattle.proof_simulation.proofs.Worlds.{reached_on, shares_at}
use Rattle.proof_simulation.proofs.Moving.{put_stage, put_raised, IsLow, Next}
use Rattle.proof_simulation.proofs.Local.{first_step, goes_local}
use Rattle.proof_simulation.proofs.Ranking.{spare_step, spare_most, spare_goes}
use Rattle.proof_simulation.proofs.Templating.{inside_step}
use Rattle.proof_simulation.specs.Deferred.{Stage, stages, stage_of, notified_at, raised_at}
use Rattle.std.specs.Prelude.{is_some}
use Rattle.meaning.specs.Labels.{Kind}
use Rattle.proof_simulation.specs.Deferred as W

module _ (p : Program) (w : WellFormed p) (steps : ℕ) (s : State) (c : SourceState) (k : Corresponds p w steps s c)
    (t : ℕ) (woken : List ℕ) (done raises : Bool) (deferral : Option Kind) (pauses : Bool) (s' : State) (n : ℕ)
    (number : (0 < t) × (t ≤ k.world.made))
    (few : k.world.made ≤ most_of p.version) (awake : k.world.asleep t ≡ None) (paused : pauses ≡ is_paused s' t) where
  -- a thread on the way to the request of its point
  pub inside_any : (kind : Template) (u : Variables) (pt : Point) (left : ℕ) (x y : Thread) → left ≤ template_steps
      → StepsWithin (build_of p w k.world.made) t left x y → TemplateFits (build_of p w k.world.made) u t kind
      → SameBefore kind pt u c.variable → pt ≢ Runs → StandsIn p t kind pt y
      → c.process t ≡ Some (process_at p kind pt) → (k.world.at t).point ≡ pt
      → (k.world.at t).list ≡ list_at kind pt → left + rank (more_steps (build_of p w k.world.made)) k.world pt
      ≤ n + spare_step (look (code_of p) t x) pt
      → IsLow k.world.sequence (look (code_of p) t x)
      → StepsWhole p done raises deferral (mark_of (marks_of p) x) s t woken (look (code_of p) t x) s'
      → Next p w steps s' t done raises deferral pauses n c (stages k.world) (raised_at k.world)
  inside_any kind u pt left x y small walk fits same ne stands proc point list enough low moves =
      by_step (first_step p (marked_image p) t left x y walk)
    where
      by_step : (x ≡ y) ⊎ ((z : Thread) × (m : ℕ) × (look (code_of p) t x ≡ Goes z)
          × (deferred_by_mark (mark_of (marks_of p) x) ≡ None) × (suc m ≤ left)
          × StepsWithin (build_of p w k.world.made) t m z y)
          → Next p w steps s' t done raises deferral pauses n c (stages k.world) (raised_at k.world)
      by_step (inl e) =
          inside_step p w steps s c k t woken done raises deferral pauses s' n number few awake paused kind u pt y fits
          same ne
          stands
          proc point list (omega (arith, enough, spare_most (look (code_of p) t x) pt))
          (subst (λ (z : Thread). IsLow k.world.sequence (look (code_of p) t z)) e low)
          (subst (λ (z : Thread). StepsWhole p done raises deferral (mark_of (marks_of p) z) s t woken (look
          (code_of p) t z) s') e moves)
      by_step (inr (z, m, h, plain, le, more)) =
          goes_local p w steps s c k t woken done raises deferral pauses s' n x z (process_at p kind pt) pt
          (list_at kind pt) proc point list
          (inside m kind u (omega (arith, le, small)) more fits same ne stands) (omega
          (arith, le, enough, spare_goes (look (code_of p) t x) z pt h)) h plain moves

-- a thread at the first point of one works
first_works : (held : Bool) (kind : Template) → stage_of (first_point held kind) ≡ W.Works
first_works true (Enters m base l fs f cs) = refl
first_works false (Enters m base l fs f cs) = refl
first_works held (Exits m base shown l fs before z cs) = refl
first_works held (Waits c base l fs before f cs ms) = refl
first_works held (Notifies c base l fs before after ms) = refl
first_works held (Broadcasts c base l fs before after ms) = refl

-- and hasn't raised a number
first_quiet : (held : Bool) (kind : Template) → is_some (notified_at (first_point held kind)) ≡ false
first_quiet true (Enters m base l fs f cs) = refl
first_quiet false (Enters m base l fs f cs) = refl
first_quiet held (Exits m base shown l fs before z cs) = refl
first_quiet held (Waits c base l fs before f cs ms) = refl
first_quiet held (Notifies c base l fs before after ms) = refl
first_quiet held (Broadcasts c base l fs before after ms) = refl

-- the process before a template
abbrev pub before_of : Template → Process
before_of (Enters m base l fs f cs) = Entering m f cs
before_of (Exits m base shown l fs before z cs) = before
before_of (Waits c base l fs before f cs ms) = before
before_of (Notifies c base l fs before after ms) = before
before_of (Broadcasts c base l fs before after ms) = before

module _ (p : Program) (w : WellFormed p) (steps : ℕ) (s : State) (c : SourceState) (k : Corresponds p w steps s c)
    (t : ℕ) (number : (0 < t) × (t ≤ k.world.made)) (few : k.world.made ≤ most_of p.version)
    (awake : k.world.asleep t ≡ None)
    (point : (k.world.at t).point ≡ Runs) where
  abbrev b : Build
  b = build_of p w k.world.made

  -- the move with which the thread takes up the template
  record Starts (kind : Template) (held : Bool) : Type 0 where
    process : process_at p kind (first_point held kind) ≡ before_of kind
    list : (k.world.at t).list ≡ list_at kind (first_point held kind)
    move : Move
    can : Can k.world t move
    done : after k.world t move ≡ go k.world t (first_point held kind)
    table : table_after k.world c.table t move ≡ c.table
    ne : first_point held kind ≢ Runs
    before : IsBefore (first_point held kind)
    ranked : rank (more_steps b) (go k.world t (first_point held kind)) (first_point held kind) ≤ 69
    same : SameBefore kind (first_point held kind) c.variable c.variable

  first_of : (m : ℕ) (ms : List ℕ) → (k.world.at t).list ≡ m ∷ ms → (k.world.at t).list ≡ m ∷ tail (k.world.at t).list
  first_of m ms e = e ∙ ap (λ (l : List ℕ). m ∷ tail l) (sym e)

  starts : (kind : Template) → TemplateFits b c.variable t kind → (k.world.at t).list ≡ holds (before_of kind)
      → (held : Bool) × Starts kind held
  starts (Enters m base l fs f cs) fits list = by_list (mem m (k.world.at t).list) refl
    where
      by_list : (held : Bool) → mem m (k.world.at t).list ≡ held → (h : Bool) × Starts (Enters m base l fs f cs) h
      by_list true has = (
        true,
        record {
          process = refl;
          list = list;
          move = Rebegin m;
          can = record { number = number; awake = awake; stands = point; finds = has };
          done = refl;
          table = refl;
          ne = λ e. absurd cc;
          before = tt;
          ranked = omega arith;
          same = tt;
        },
      )
      by_list false has = (
        false,
        record {
          process = refl;
          list = list;
          move = Begin m;
          can = record { number = number; awake = awake; stands = point; finds = has };
          done = refl;
          table = refl;
          ne = λ e. absurd cc;
          before = tt;
          ranked = omega arith;
          same = tt;
        },
      )
  starts (Exits m base shown l fs before z cs) fits list = (
    false,
    record {
      process = refl;
      list = list ∙ fits.held;
      move = Leave m;
      can = record { number = number; awake = awake; stands = point; finds = first_of m _ (list ∙ fits.held) };
      done = refl;
      table = refl;
      ne = λ e. absurd cc;
      before = tt;
      ranked = omega arith;
      same = λ r m e n i. refl;
    },
  )
  starts (Waits d base l fs before f cs ms) fits list = (
    false,
    record {
      process = refl;
      list = list ∙ fits.had;
      move = Wait d;
      can = record { number = number; awake = awake; stands = point; finds = first_of d.monitor ms (list ∙ fits.had) };
      done = refl;
      table = refl;
      ne = λ e. absurd cc;
      before = tt;
      ranked = omega arith;
      same = λ r m e n i. refl;
    },
  )
  starts (Notifies d base l fs before after ms) fits list = (
    false,
    record {
      process = refl;
      list = list ∙ fits.held;
      move = Notify d;
      can = record { number = number; awake = awake; stands = point; finds = first_of d.monitor ms (list ∙ fits.held) };
      done = refl;
      table = refl;
      ne = λ e. absurd cc;
      before = tt;
      ranked = omega arith;
      same = λ m e n i. refl;
    },
  )
  starts (Broadcasts d base l fs before after ms) fits list = (
    false,
    record {
      process = refl;
      list = list ∙ fits.held;
      move = Broadcast d;
      can = record { number = number; awake = awake; stands = point; finds = first_of d.monitor ms (list ∙ fits.held) };
      done = refl;
      table = refl;
      ne = λ e. absurd cc;
      before = tt;
      ranked = omega arith;
      same = λ m e n i. refl;
    },
  )

  -- the same states with the thread at the template's first point
  module _ (kind : Template) (x : Thread) (fits : TemplateFits b c.variable t kind) (thread : s.thread t ≡ Some x)
      (proc : c.process t ≡ Some (before_of kind)) (held : Bool) (st : Starts kind held)
      (bg : Begins b t held kind) (is : x ≡ first_thread kind) where
    abbrev pt : Point
    pt = first_point held kind

    abbrev world : World
    world = go k.world t pt

    now : c.process t ≡ Some (process_at p kind pt)
    now = proc ∙ ap Some (sym st.process)

    abbrev Here : ℕ → Place → Type 0
    Here u z = StandsAt b c.variable u (s.thread u) (c.process u) z.point z.list

    mine : Here t (thread_at pt (k.world.at t).list)
    mine =
        subst (λ (o : Option Thread). StandsAt b c.variable t o (c.process t) pt (k.world.at t).list) (sym thread)
        (subst (λ (o : Option Process). StandsAt b c.variable t (Some x) o pt (k.world.at t).list) (sym now)
        (subst (λ (l : List ℕ). StandsAt b c.variable t (Some x) (Some (process_at p kind pt)) pt l) (sym st.list)
        (inside template_steps kind c.variable (omega arith)
        (subst (λ (z : Thread). StepsWithin b t template_steps z bg.thread) (sym is) bg.walk) fits st.same st.ne
        bg.stands)))

    here : (u : ℕ) → Here u (world.at u)
    here u = elim (cases_eq u t) [
      | inl e ↦ subst (λ v. Here v (put k.world.at t (thread_at pt (k.world.at t).list) v)) (sym e)
          (subst (λ (z : Place). Here t z) (sym (put_same k.world.at t (thread_at pt (k.world.at t).list))) mine)
      | inr o ↦ subst (λ (z : Place). Here u z) (sym (put_other k.world.at t (thread_at pt (k.world.at t).list) u o))
          (k.threads u)
    ]

    started : Corresponds p w steps s c
    started = record {
      world = world;
      reached = subst (λ (x : World). Reached p.version x c.table) st.done
          (subst (λ (T : Table). Reached p.version (after k.world t st.move) T) st.table
          (reached_on p.version k.world c.table t st.move k.reached st.can));
      shares = shares_at (place p) (valid p) (shared_of s) k.world _ k.world.made k.shares;
      size = k.size;
      most = k.most;
      made = k.made;
      output = k.output;
      variables = k.variables;
      fit = k.fit;
      threads = here;
      lists = λ u m h. k.lists u m (at_put k.world.at t (thread_at pt (k.world.at t).list) u
          (λ (z : Place). mem m z.list ≡ true → mem m (k.world.at u).list ≡ true)
          (λ e i. subst (λ v. mem m (k.world.at v).list ≡ true) (sym e) i) (λ o i. i) h);
      words = k.words;
      blank = λ u. at_put k.world.at t (thread_at pt (k.world.at t).list) u
          (λ (z : Place). IsBefore z.point → k.world.result u ≡ 0)
          (λ e i. ap k.world.result e ∙ k.blank t (subst (λ (y : Point). IsBefore y) (sym point) tt)) (λ o. k.blank u);
      numbers = k.numbers;
    }

    same_stages : stages world ≡ stages k.world
    same_stages = λ i u. each u i
      where
        each : (u : ℕ) → stages world u ≡ stages k.world u
        each u = put_stage k.world.at t pt (k.world.at t).list u
            ∙ at_put (stages k.world) t (stage_of pt) u (λ (y : Stage). y ≡ stages k.world u)
            (λ e. first_works held kind ∙ ap stage_of (sym point) ∙ ap (stages k.world) (sym e)) (λ o. refl)

    same_raised : raised_at world ≡ raised_at k.world
    same_raised = λ i u. each u i
      where
        each : (u : ℕ) → raised_at world u ≡ raised_at k.world u
        each u = put_raised k.world.at t pt (k.world.at t).list u
            ∙ at_put (raised_at k.world) t (is_some (notified_at pt)) u (λ (y : Bool). y ≡ raised_at k.world u)
            (λ e. first_quiet held kind ∙ ap (λ (i : Point). is_some (notified_at i)) (sym point)
            ∙ ap (raised_at k.world) (sym e)) (λ o. refl)

    start_step : (low : IsLow k.world.sequence (look (code_of p) t x)) (woken : List ℕ) (done raises : Bool)
        (deferral : Option Kind) (pauses : Bool) (s' : State)
        (n : ℕ) → pauses ≡ is_paused s' t → before_template ≤ n
        → StepsWhole p done raises deferral (mark_of (marks_of p) x) s t woken (look (code_of p) t x) s'
        → Next p w steps s' t done raises deferral pauses n c (stages k.world) (raised_at k.world)
    unfolding started
    start_step low woken done raises deferral pauses s' n paused enough moves =
        let placed : world.at t ≡ thread_at pt (k.world.at t).list =
        put_same k.world.at t (thread_at pt (k.world.at t).list) in
        let ranked = st.ranked in
        subst (λ (had : ℕ → Bool). Next p w steps s' t done raises deferral pauses n c (stages k.world) had) same_raised
        (subst (λ (was : ℕ → Stage). Next p w steps s' t done raises deferral pauses n c was (raised_at world))
        same_stages
        (inside_any p w steps s c started t woken done raises deferral pauses s' n number few awake paused kind
        c.variable pt
        template_steps x bg.thread (omega arith)
        (subst (λ (z : Thread). StepsWithin b t template_steps z bg.thread) (sym is) bg.walk) fits st.same st.ne
        bg.stands now (ap (λ (z : Place). z.point) placed) (ap (λ (z : Place). z.list) placed ∙ st.list)
        (omega (arith, ranked, enough)) low moves))

  -- a thread before a template that does what its process offers
  pub template_step : (kind : Template) (x : Thread) → TemplateFits b c.variable t kind → s.thread t ≡ Some x
      → c.process t ≡ Some (before_of kind) → (k.world.at t).list ≡ holds (before_of kind) → x ≡ first_thread kind
      → (low : IsLow k.world.sequence (look (code_of p) t x)) (woken : List ℕ) (done raises : Bool) (deferral : Option
      Kind)
      (pauses : Bool) (s' : State) (n : ℕ)
      → pauses ≡ is_paused s' t → before_template ≤ n
      → StepsWhole p done raises deferral (mark_of (marks_of p) x) s t woken (look (code_of p) t x) s'
      → Next p w steps s' t done raises deferral pauses n c (stages k.world) (raised_at k.world)
  template_step kind x fits thread proc list is low woken done raises deferral pauses s' n paused enough moves =
      let st = starts kind fits list in
      start_step kind x fits thread proc st.0 st.1
      (begins b c.variable t st.0 kind number.0 (omega
      (arith, number.1, few)) fits) is low woken done raises deferral pauses s' n paused
      enough moves
