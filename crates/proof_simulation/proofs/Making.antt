-- A FORK: a thread more, or a fault where no more can be made.
use Rattle.std.proofs.Common.{◌≡◌, ◌≢◌, ℕ, suc, ◌<◌, ◌≤◌, Bool, true, List, [], ◌∷◌, length, Option, Some, None, refl}
use Rattle.std.proofs.Common.{false}
use Rattle.std.proofs.Common.{ap, sym, ◌∙◌, subst, arith, inl, inr}
use Rattle.std.proofs.lemmas.Bool.{cases_eq, false≢true, ne_eqb}
use Rattle.std.specs.Prelude.{not, ◌==◌, is_some}
use Rattle.words.specs.Updates.{put}
use Rattle.words.specs.Process.{process_word}
use Rattle.words.specs.Versions.{most_of}
use Rattle.words.specs.declared.outcome.Fault.TheVariants.{ProcessTableFull}
use Rattle.locals.specs.Threads.{Thread, Dies as Dies', opening_thread}
use Rattle.locals.specs.Looks.{Look, Asks, AskFork, look}
use Rattle.machine.specs.States.{State, with_thread}
use Rattle.machine.specs.AbstractServing.{shared_of}
use Rattle.program.specs.Trees.{Program}
use Rattle.program.specs.WellFormed.{WellFormed}
use Rattle.lowering.specs.Pieces.{marks_of, code_of}
use Rattle.meaning.specs.Labels.{Kind, Forks, FindsFull, Faulted}
use Rattle.meaning.specs.Labels as L
use Rattle.meaning.specs.Processes.{Process, Dying, holds}
use Rattle.meaning.specs.Offers.{MakesOne, Nothing, Makes, Offer, offer, TakesUp}
use Rattle.meaning.specs.States.{SourceState}
use Rattle.protocol.specs.Points.{NoEntry, Point, Runs, Dies, Thread as Place, thread_at}
use Rattle.protocol.specs.World.{World, mem}
use Rattle.protocol.specs.Moves.{Fork, ForkFull}
use Rattle.protocol.specs.Steps.{Can, go_list}
use Rattle.protocol.specs.Carries.{table_after}
use Rattle.protocol.specs.Cells.{IdOf, write}
use Rattle.protocol.proofs.Starts.{every_start_is_a_move}
use Rattle.protocol.proofs.Kept.{permitted}
use Rattle.words.proofs.Updates.{at_put, put_same, put_other}
use Rattle.proof_thread.specs.Variables.{VariablesFit, variable_address}
use Rattle.proof_thread.specs.Following.{Stands}
use Rattle.proof_thread.proofs.Growing.{fitting_grows}
use Rattle.proof_templates.specs.Layout.{place, valid, is_process}
use Rattle.proof_templates.proofs.Layouts.{apart, number_is}
use Rattle.proof_templates.proofs.Addresses.{variable_apart}
use Rattle.proof_thread.specs.Walks.{stays}
use Rattle.refinement.specs.Built.{build_of}
use Rattle.proof_templates.specs.Inside.{IsSteady}
use Rattle.proof_simulation.specs.Ordering.{StepsWhole, waits, acts}
use Rattle.proof_simulation.specs.Standing.{StandsAt, IsAtWork, faults}
use Rattle.proof_simulation.specs.Corresponding.{Corresponds, IsBefore}
use Rattle.proof_simulation.proofs.Moving.{Next, raised_none}
use Rattle.proof_simulation.proofs.Claiming.{starts}
use Rattle.proof_simulation.proofs.Deferred.{may_defer}
use Rattle.proof_simulation.proofs.Acting.{held_of}
use Rattle.proof_simulation.proofs.Templating.{works_on}
use Rattle.proof_simulation.proofs.Standings.{stand_moves}
use Rattle.proof_simulation.proofs.Sourcing.{action, state_after}
use Rattle.proof_simulation.proofs.Worlds.{reached_on, reached_good, reached_most, shares_at, shares_stored}
use Rattle.proof_simulation.specs.Deferred.{Stage, stages, stage_of, Works, notified_at, raised_then, raised_at}
use Rattle.proof_thread.specs.Deferrals.{mark_of}
use Rattle.std.specs.Prelude.{if◌then◌else◌}

module _ (p : Program) (w : WellFormed p) (steps : ℕ) (s : State) (c : SourceState) (k : Corresponds p w steps s c)
    (t : ℕ) (woken : List ℕ) (done raises : Bool) (deferral : Option Kind) (pauses : Bool) (s' : State) (n : ℕ)
    (number : (0 < t) × (t ≤ k.world.made))
    (few : k.world.made ≤ most_of p.version) (awake : k.world.asleep t ≡ None) (q : Process)
    (proc : c.process t ≡ Some q)
    (point : (k.world.at t).point ≡ Runs) (list : (k.world.at t).list ≡ holds q) where
  -- how many there can be
  all : k.world.most ≡ most_of p.version
  all = reached_most p.version k.world c.table k.reached

  idle : raised_at k.world t ≡ false
  idle = ap (λ (i : Point). is_some (notified_at i)) point

  -- no more can be made
  pub full_step : (go' : ℕ → Thread) (child : Process) (later : ℕ → Process) → go' 0 ≡ Dies' (Faulted ProcessTableFull)
      → offer p c.variable q ≡ MakesOne child later (Dying (Faulted ProcessTableFull) (holds q))
      → k.world.most ≤ k.world.made → done ≡ false → raises ≡ false → deferral ≡ Some (L.Fails ProcessTableFull)
      → IsSteady p q c.variable → s' ≡ with_thread s t (go' 0)
      → Next p w steps s' t done raises deferral pauses n c (stages k.world) (raised_at k.world)
  full_step go' child later full o many none low fails steady same =
      let can : Can k.world t ForkFull = record { number = number; awake = awake; stands = point; finds = many } in
      let takes : TakesUp (offer p c.variable q) FindsFull Nothing (Dying (Faulted ProcessTableFull) (holds q)) =
      subst (λ (i : Offer). TakesUp i FindsFull Nothing (Dying (Faulted ProcessTableFull) (holds q))) (sym o)
      (inr (refl, refl, refl)) in
      starts p w steps s c k t woken done raises deferral pauses s' n number few awake q proc point list ForkFull
      FindsFull s
      k.world (go' 0)
      (Dying (Faulted ProcessTableFull) (holds q)) (Dies (Faulted ProcessTableFull) NoEntry) (holds q)
      can refl refl takes tt refl
      (subst (λ (y : Thread). StandsAt (build_of p w k.world.made) c.variable t (Some y)
      (Some (Dying (Faulted ProcessTableFull) (holds q))) (Dies (Faulted ProcessTableFull) NoEntry) (holds q))
      (sym full) (faults ProcessTableFull))
      k.shares
      (record { size = refl; most = refl; made = refl; output = refl; thread = refl; variables = λ m i is. refl })
      refl refl refl refl
      (waits _ _ FindsFull none fails (ap stage_of point) refl proc
      (may_defer p w steps s c k t q _ FindsFull list steady refl takes
      ((permitted k.world c.table t ForkFull (reached_good p.version k.world c.table k.reached) can).0)
      (λ end h. cc)) refl) (raised_none done raises (raised_at k.world t) low idle) same

  module _ (child : Process) (later : ℕ → Process) (go' : ℕ → Thread) (entry : ℕ) (arguments : List ℕ)
      (work : IsAtWork p q c.variable) (more : k.world.made < k.world.most)
      (o : offer p c.variable q ≡ MakesOne child later (Dying (Faulted ProcessTableFull) (holds q)))
      (empty : holds child ≡ [])
      (mine : Stands (build_of p w (suc k.world.made)) t (go' (suc k.world.made)) (later (suc k.world.made)))
      (its : Stands (build_of p w (suc k.world.made)) (suc k.world.made) (opening_thread entry arguments) child) where
    abbrev made : ℕ
    made = suc k.world.made

    can_fork : Can k.world made (Fork t)
    can_fork = (every_start_is_a_move p.version k.reached.moves k.world k.reached.led).forks t
        (record { number = number; awake = awake; stands = point }) more

    takes : TakesUp (offer p c.variable q) (Forks made) (Makes made child) (later made)
    takes = subst (λ (y : Offer). TakesUp y (Forks made) (Makes made child) (later made)) (sym o)
        (inl (made, refl, refl, refl))

    abbrev w1 : World
    w1 = go_list (record k.world { id = put k.world.id made made; made = made }) made Runs []

    abbrev c1 : SourceState
    c1 = state_after c t (Makes made child) (later made) (table_after k.world c.table made (Fork t))

    abbrev grown : State
    grown = record s {
      word = put s.word (process_word made 2) made;
      thread = put (put s.thread made (Some (opening_thread entry arguments))) t (Some (go' made));
      made = made;
    }

    differs : made ≢ t
    differs e = omega (arith, number.1, e)

    valid_made : is_process p made ≡ true
    valid_made = number_is p made (omega arith) (omega (arith, more, all))

    fits : (m : ℕ) → VariablesFit made p m c.variable
    fits m d i home there =
        fitting_grows (most_of p.version) k.world.made made (omega arith) _ _ (k.fit m d i home there)

    abbrev Here : ℕ → Option Thread → Option Process → Place → Type 0
    Here u x r z = StandsAt (build_of p w made) c.variable u x r z.point z.list

    at_parent : Here t (Some (go' made)) (Some (later made)) (k.world.at t)
    at_parent =
        let stand = works_on p w made c.variable t (go' made) (go' made) (later made) fits
        (record { count = 0; few = omega arith; walk = stays }) mine in
        let kept = held_of (holds q) (later made) (work.keeps (Forks made) (Makes made child) (later made) tt takes) in
        subst (λ (i : Point). StandsAt (build_of p w made) c.variable t (Some (go' made)) (Some (later made)) i
        (k.world.at t).list) (sym point)
        (subst (λ (i : List ℕ). StandsAt (build_of p w made) c.variable t (Some (go' made)) (Some (later made)) Runs i)
        (kept ∙ sym list) stand.0)

    at_child : Here made (Some (opening_thread entry arguments)) (Some child) (thread_at Runs [])
    at_child =
        subst (λ (i : List ℕ). StandsAt (build_of p w made) c.variable made (Some (opening_thread entry arguments))
        (Some child) Runs i) empty
        (works_on p w made c.variable made (opening_thread entry arguments) (opening_thread entry arguments) child fits
        (record { count = 0; few = omega arith; walk = stays }) its).0

    at_other : (u : ℕ) → Here u (s.thread u) (c.process u) (k.world.at u)
    at_other u = stand_moves (build_of p w k.world.made) made (omega arith) c.variable c.variable u (s.thread u)
        (c.process u) (k.world.at u).point (k.world.at u).list (λ m h i j. refl) (k.threads u)

    at_all : (u : ℕ) → Here u (grown.thread u) (c1.process u) (w1.at u)
    at_all u = elim (cases_eq u t) [
      | inl e ↦ subst (λ v. Here v (grown.thread v) (c1.process v) (w1.at v)) (sym e)
          (rw (
            put_same (put s.thread made (Some (opening_thread entry arguments))) t (Some (go' made)),
            put_same (put c.process made (Some child)) t (Some (later made)),
            put_other k.world.at made (thread_at Runs []) t (λ i. differs (sym i)),
          ) at_parent)
      | inr d ↦ elim (cases_eq u made) [
        | inl e ↦ subst (λ v. Here v (grown.thread v) (c1.process v) (w1.at v)) (sym e)
            (rw (
              put_other (put s.thread made (Some (opening_thread entry arguments))) t (Some (go' made)) made differs,
              put_same s.thread made (Some (opening_thread entry arguments)),
              put_other (put c.process made (Some child)) t (Some (later made)) made differs,
              put_same c.process made (Some child),
              put_same k.world.at made (thread_at Runs []),
            ) at_child)
        | inr e ↦
            rw (
              put_other (put s.thread made (Some (opening_thread entry arguments))) t (Some (go' made)) u d,
              put_other s.thread made (Some (opening_thread entry arguments)) u e,
              put_other (put c.process made (Some child)) t (Some (later made)) u d,
              put_other c.process made (Some child) u e,
              put_other k.world.at made (thread_at Runs []) u e,
            ) (at_other u)
      ]
    ]

    calm_done : (d r : Bool) (had : Bool) → d ≡ true → false ≡ raised_then d r had
    calm_done true r had e = refl
    calm_done false r had e = absurd cc

    pub forked : done ≡ true → s' ≡ grown
        → Next p w steps s' t done raises deferral pauses n c (stages k.world) (raised_at k.world)
    forked is same =
        let calm : false ≡ raised_then done raises (raised_at k.world t) =
        calm_done done raises (raised_at k.world t) is in
        subst (λ (x : State). Next p w steps x t done raises deferral pauses n c (stages k.world) (raised_at k.world))
        (sym same)
        (record {
          after = c1;
          ties = record {
            world = w1;
            reached = reached_on p.version k.world c.table made (Fork t) k.reached can_fork;
            shares = shares_at (place p) (valid p) _ (write k.world (IdOf made) made) _ made
                (shares_stored (place p) (valid p) (apart p) (shared_of s) k.world
                (IdOf made) made valid_made k.shares);
            size = k.size;
            most = k.most;
            made = refl;
            output = k.output;
            variables = λ m i h. put_other s.word (process_word made 2) made (variable_address p m i)
                (λ e. variable_apart p m i (IdOf made) h valid_made e) ∙ k.variables m i h;
            fit = fits;
            threads = at_all;
            lists = λ u m. at_put k.world.at made (thread_at Runs []) u
                (λ (z : Place). mem m z.list ≡ true → m < length p.monitors) (λ e h. absurd (false≢true h))
                (λ e. k.lists u m);
            words = k.words;
            blank = λ u. at_put k.world.at made (thread_at Runs []) u (λ (z : Place). IsBefore z.point
                → k.world.result u ≡ 0)
                (λ e h. ap k.world.result e
                ∙ k.blank made (subst (λ (y : Point). IsBefore y) (sym can_fork.stands) tt)) (λ e. k.blank u);
            numbers = λ d. omega (arith, k.numbers d);
          };
          kinds = L.Fork made ∷ [];
          own = (tt, tt);
          leads = (
            c1,
            action p c t q (later made) (Forks made) (Makes made child) (table_after k.world c.table made (Fork t))
                proc takes (permitted k.world c.table made (Fork t)
                (reached_good p.version k.world c.table k.reached) can_fork).0,
            refl,
          );
          stage = Works;
          staged = λ u. at_put k.world.at made (thread_at Runs []) u (λ (z : Place). stage_of z.point
              ≡ put (stages k.world) t Works u)
              (λ e. at_put (stages k.world) t Works u (λ (x : Stage). Works ≡ x) (λ i. refl)
              (λ i. sym (ap stage_of (ap (λ v. (k.world.at v).point) e ∙ can_fork.stands))))
              (λ e. at_put (stages k.world) t Works u (λ (x : Stage). stages k.world u ≡ x)
              (λ i. ap (stages k.world) i ∙ ap stage_of point) (λ i. refl));
          raised = λ u. at_put k.world.at made (thread_at Runs []) u (λ (z : Place). is_some (notified_at z.point)
              ≡ put (raised_at k.world) t (raised_then done raises (raised_at k.world t)) u)
              (λ e. at_put (raised_at k.world) t (raised_then done raises (raised_at k.world t)) u (λ (x : Bool). false
              ≡ x)
              (λ i. calm)
              (λ i. sym (ap (λ (i : Point). is_some (notified_at i)) (ap (λ v. (k.world.at v).point) e
              ∙ can_fork.stands))))
              (λ e. at_put (raised_at k.world) t (raised_then done raises (raised_at k.world t)) u
              (λ (x : Bool). raised_at k.world u ≡ x) (λ i. ap (raised_at k.world) i ∙ idle ∙ calm) (λ i. refl));
          places = acts _ _ (Forks made) (Makes made child) (table_after k.world c.table made
              (Fork t)) is refl refl proc takes
              ((permitted k.world c.table made (Fork t) (reached_good p.version k.world c.table k.reached) can_fork).0)
              tt
              (λ m j i other. refl) tt refl;
          paced = λ z. inl tt;
        })

  -- the machine's step, whether a process was made or not
  pub forks_step : (child : Process) (later : ℕ → Process) (go' : ℕ → Thread) (entry : ℕ) (arguments : List ℕ)
      (x : Thread) → IsAtWork p q c.variable → look (code_of p) t x ≡ Asks (AskFork entry arguments true) go'
      → go' 0 ≡ Dies' (Faulted ProcessTableFull)
      → offer p c.variable q ≡ MakesOne child later (Dying (Faulted ProcessTableFull) (holds q)) → holds child ≡ []
      → ((m : ℕ) → k.world.made ≤ suc m → suc m ≤ most_of p.version
      → Stands (build_of p w (suc m)) t (go' (suc m)) (later (suc m)))
      → ((m u : ℕ) → k.world.made ≤ m → Stands (build_of p w m) u (opening_thread entry arguments) child)
      → StepsWhole p done raises deferral (mark_of (marks_of p) x) s t woken (look (code_of p) t x) s'
      → Next p w steps s' t done raises deferral pauses n c (stages k.world) (raised_at k.world)
  forks_step child later go' entry arguments x work h full o empty mine its moves =
      by_answer
      (subst (λ (l : Look). StepsWhole p done raises deferral (mark_of (marks_of p) x) s t woken l s') h moves)
    where
      by_answer : StepsWhole p done raises deferral (mark_of (marks_of p) x) s t woken (Asks
          (AskFork entry arguments true) go') s'
          → Next p w steps s' t done raises deferral pauses n c (stages k.world) (raised_at k.world)
      by_answer (answer, mid, (nobody, inl (many, is, same)), e, d, f, low) =
          full_step go' child later full o (omega (arith, many, k.made, k.most, all))
          (d ∙ ap (λ (a : ℕ). not (a == 0)) is) low
          (f ∙ ap (λ (a : ℕ). if a == 0 then Some (L.Fails ProcessTableFull) else None) is) work.steady
          (e ∙ ap (λ (m : State). with_thread m t (go' answer)) same ∙ ap (λ a. with_thread s t (go' a)) is)
      by_answer (answer, mid, (nobody, inr (less, room, is, same)), e, d, f, low) =
          forked child later go' entry arguments work (omega (arith, less, k.made, k.most, all)) o empty
          (mine k.world.made (omega arith) (omega (arith, less, k.made, k.most)))
          (its (suc k.world.made) (suc k.world.made)
          (omega arith)) (d ∙ ap (λ (a : ℕ). not (a == 0)) is ∙ ap not (ne_eqb (suc s.made) 0 (λ i. absurd cc)))
          (e ∙ ap (λ (m : State). with_thread m t (go' answer)) same
          ∙ ap (λ a. with_thread (record s {
            word = put s.word (process_word (suc s.made) 2) (suc s.made);
            thread = put s.thread (suc s.made) (Some (opening_thread entry arguments));
            made = suc s.made;
          }) t (go' a)) is ∙ ap (λ (m : ℕ). record s {
            word = put s.word (process_word (suc m) 2) (suc m);
            thread = put (put s.thread (suc m) (Some (opening_thread entry arguments))) t (Some (go' (suc m)));
            made = suc m;
          }) k.made)
