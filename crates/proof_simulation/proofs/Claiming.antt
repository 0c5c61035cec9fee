-- The claim of a JOIN, and the steps of a JOIN after it.
use Rattle.std.proofs.Common.{◌≡◌, ◌≢◌, ℕ, zero, suc, ◌<◌, ◌≤◌, Bool, true, List, [], ◌∷◌, Option, Some, None, refl, ap}
use Rattle.std.proofs.Common.{sym, ◌∙◌, subst, arith, ◌+◌, ◌⊎◌, inl, inr}
use Rattle.std.specs.Prelude.{◌^◌, ◌==◌, map}
use Rattle.std.proofs.lemmas.Bool.{cases_eq, ne_eqb}
use Rattle.words.specs.Updates.{put}
use Rattle.words.specs.Process.{process_word}
use Rattle.words.specs.declared.outcome.Fault.TheVariants.{HandleNotJoinable}
use Rattle.words.specs.Versions.{most_of}
use Rattle.locals.specs.Threads.{Thread, Dies as Dies'}
use Rattle.locals.specs.Looks.{Look, Asks, AskSwap, look}
use Rattle.machine.specs.States.{State, with_thread, with_word}
use Rattle.machine.specs.AbstractServing.{shared_of}
use Rattle.program.specs.declared.kinds.Member.{Member}
use Rattle.program.specs.Trees.{Program, Part}
use Rattle.program.specs.WellFormed.{WellFormed}
use Rattle.lowering.specs.Pieces.{marks_of, code_of}
use Rattle.meaning.specs.Labels.{Kind, Label, Claims, Faulted, kind_of}
use Rattle.meaning.specs.Processes.{Frame, Caller, Process, Joining, Dying, holds, all_monitors}
use Rattle.meaning.specs.Offers.{ClaimsOne, Nothing, Offer, offer, TakesUp}
use Rattle.meaning.specs.States.{SourceState}
use Rattle.meaning.specs.Runs.{Leads}
use Rattle.protocol.specs.Points.{Point, Runs, JoinReads, MeetsClaimed, Thread as Place, thread_at}
use Rattle.protocol.specs.World.{World, mem}
use Rattle.protocol.specs.Moves.{Move, Claim, ReadClaimed}
use Rattle.protocol.specs.Steps.{Can, after, go, go_list}
use Rattle.protocol.specs.Carries.{Event, Acts, PermitsMove, event_of, table_after}
use Rattle.protocol.specs.Cells.{ClaimOf, write}
use Rattle.protocol.specs.Exits.{Shares}
use Rattle.protocol.proofs.Good.{Good}
use Rattle.protocol.proofs.Kept.{permitted}
use Rattle.words.proofs.Updates.{at_put, put_other}
use Rattle.proof_thread.specs.Variables.{variable_address, VariablesFit}
use Rattle.proof_thread.specs.Completing.{IsOwn, Awaits, join_steps}
use Rattle.proof_thread.specs.Following.{Build, StepsWithin}
use Rattle.refinement.specs.Built.{build_of}
use Rattle.proof_templates.specs.Layout.{place, valid, is_process}
use Rattle.proof_templates.proofs.Layouts.{apart, number_is}
use Rattle.proof_templates.proofs.Addresses.{variable_apart}
use Rattle.proof_simulation.specs.Ordering.{StepsWhole, Places, nothing, acts}
use Rattle.proof_simulation.specs.Standing.{StandsAt, IsAtWork, reads, refused as refused'}
use Rattle.proof_simulation.specs.Ranks.{steps_left}
use Rattle.proof_simulation.specs.Serving.{Keeps}
use Rattle.proof_simulation.specs.Corresponding.{Reached, IsBefore, Corresponds}
use Rattle.proof_simulation.proofs.Moving.{Puts, put_puts, same_puts, AreOwn, IsSome, Next, moved, raised_none}
use Rattle.proof_simulation.proofs.Sourcing.{act, action, state_after}
use Rattle.proof_simulation.proofs.Worlds.{reached_on, reached_good, shares_at, shares_stored}
use Rattle.proof_simulation.specs.Deferred.{stages, stage_of, notified_at, raised_then, raised_at}
use Rattle.std.proofs.Common.{is_some, false}
use Rattle.proof_thread.specs.Deferrals.{mark_of}

module _ (p : Program) (w : WellFormed p) (steps : ℕ) (s : State) (c : SourceState) (k : Corresponds p w steps s c)
    (t : ℕ) (woken : List ℕ) (done raises : Bool) (deferral : Option Kind) (pauses : Bool) (s' : State) (n : ℕ)
    (number : (0 < t) × (t ≤ k.world.made))
    (few : k.world.made ≤ most_of p.version) (awake : k.world.asleep t ≡ None) (q : Process)
    (proc : c.process t ≡ Some q)
    (point : (k.world.at t).point ≡ Runs) (list : (k.world.at t).list ≡ holds q) where
  abbrev b : Build
  b = build_of p w k.world.made

  inv : Good k.world c.table
  inv = reached_good p.version k.world c.table k.reached

  -- a move to another point, over these words, with these actions
  reaches : (move : Move) (f : ℕ → Option Process) (kinds : List Kind) (mid : State) (w2 : World) (y : Thread)
      (r : Process) (pt : Point) (l : List ℕ) → Can k.world t move → after k.world t move ≡ go w2 t pt → l ≡ holds q
      → Puts c.process f t (Some r) → AreOwn kinds
      → Leads p c (map (act t) kinds) (record c { table = table_after k.world c.table t move; process = f })
      → (stands : StandsAt (build_of p w w2.made) c.variable t (Some y) (Some r) pt l)
      → Shares (place p) (valid p) (shared_of mid) w2 → Keeps p s mid → w2.made ≡ k.world.made
      → w2.at ≡ k.world.at → w2.result ≡ k.world.result → w2.sequence ≡ k.world.sequence
      → Places p (with_thread mid t y) t c (record c {
        table = table_after k.world c.table t move;
        process = f;
      }) done deferral (stages k.world t) (stage_of pt) kinds
      → IsSome kinds ⊎ (steps_left (build_of p w w2.made) c.variable t (go_list w2 t pt l) stands < n)
      → is_some (notified_at pt) ≡ raised_then done raises (raised_at k.world t)
      → s' ≡ with_thread mid t y
      → Next p w steps s' t done raises deferral pauses n c (stages k.world) (raised_at k.world)
  reaches move f kinds mid w2 y r pt l can comes has ps own leads stands shares keeps made at result sequence places
      paced has_raised same =
      let T = table_after k.world c.table t move in
      let c' = record c { table = T; process = f } in
      let w' = go_list w2 t pt l in
      let listed : (k.world.at t).list ≡ l = list ∙ sym has in
      let is : after k.world t move ≡ w' =
      comes ∙ ap (λ (i : List ℕ). go_list w2 t pt i) (ap (λ (f : ℕ → Place). (f t).list) at ∙ listed) in
      let m = moved p w steps s c k t (with_thread mid t y) c' y r pt l w' (record {
        reached = subst (λ (x : World). Reached p.version x T) is
            (reached_on p.version k.world c.table t move k.reached can);
        shares = shares_at (place p) (valid p) (shared_of mid) w2 _ w2.made shares;
        size = keeps.size;
        most = keeps.most;
        made = keeps.made ∙ k.made ∙ sym made;
        more = omega (arith, made);
        output = keeps.output ∙ k.output;
        variables = λ d i h. keeps.variables d i h ∙ k.variables d i h;
        fit = subst (λ (a : ℕ). (d : ℕ) → VariablesFit a p d c.variable) (sym made) k.fit;
        same = λ u d o h i j. refl;
        threads = subst (λ (g : ℕ → Option Thread). Puts s.thread (put g t (Some y)) t (Some y))
            (sym keeps.thread) (put_puts s.thread t (Some y));
        processes = ps;
        at = ap (λ (g : ℕ → Place). put g t (thread_at pt l)) at;
        stands = stands;
        listed = λ i h. k.lists t i (subst (λ (e : List ℕ). mem i e ≡ true) (sym listed) h);
        words = λ u. subst (λ (f : ℕ → ℕ). f u < 2 ^ 32) (sym result) (k.words u);
        blank = λ u h. ap (λ (f : ℕ → ℕ). f u) result ∙ at_put k.world.at t (thread_at pt l) u
            (λ (z : Place). IsBefore z.point → k.world.result u ≡ 0)
            (λ e i. ap k.world.result e ∙ k.blank t (subst (λ (i : Point). IsBefore i) (sym point) tt))
            (λ o i. k.blank u i) h;
        numbers = λ d. omega (arith, k.numbers d, ap (λ (g : Member → ℕ). g d) sequence);
      }) in
      subst (λ (x : State). Next p w steps x t done raises deferral pauses n c (stages k.world) (raised_at k.world))
      (sym same) (record {
        after = c';
        ties = m.ties;
        kinds = kinds;
        own = own;
        leads = leads;
        stage = stage_of pt;
        staged = m.staged;
        raised = λ u. m.raised u ∙ ap (λ b. put (raised_at k.world) t b u) has_raised;
        places = places;
        paced = λ z. elim paced [ inl h ↦ inl h | inr h ↦ inr (omega (arith, m.is, h)) ];
      })

  -- an action that is such a move
  pub starts : (move : Move) (label : Label) (mid : State) (w2 : World) (y : Thread) (r : Process) (pt : Point)
      (l : List ℕ) → Can k.world t move → after k.world t move ≡ go w2 t pt
      → event_of k.world c.table t move ≡ Some (Acts t label) → TakesUp (offer p c.variable q) label Nothing r
      → IsOwn (kind_of label) → l ≡ holds q → StandsAt b c.variable t (Some y) (Some r) pt l
      → Shares (place p) (valid p) (shared_of mid) w2 → Keeps p s mid → w2.made ≡ k.world.made
      → w2.at ≡ k.world.at → w2.result ≡ k.world.result → w2.sequence ≡ k.world.sequence
      → Places p (with_thread mid t y) t c
      (state_after c t Nothing r (table_after k.world c.table t move)) done deferral
      (stages k.world t) (stage_of pt) (kind_of label ∷ [])
      → is_some (notified_at pt) ≡ raised_then done raises (raised_at k.world t)
      → s' ≡ with_thread mid t y
      → Next p w steps s' t done raises deferral pauses n c (stages k.world) (raised_at k.world)
  starts move label mid w2 y r pt l can comes carries takes own has stands shares keeps made at result sequence places
      has_raised same =
      let T = table_after k.world c.table t move in
      let permits = subst (λ (e : Option Event). PermitsMove e c.table T) carries
      (permitted k.world c.table t move inv can) in
      reaches move (put c.process t (Some r)) (kind_of label ∷ []) mid w2 y r pt l can comes has
      (put_puts c.process t (Some r)) (own, tt)
      (state_after c t Nothing r T, action p c t q r label Nothing T proc takes permits.0, refl)
      (subst (λ (a : ℕ). StandsAt (build_of p w a) c.variable t (Some y) (Some r) pt l) (sym made) stands)
      shares keeps made at result sequence places (inl tt) has_raised same

  module _ (x : Thread) (work : IsAtWork p q c.variable) (moves : StepsWhole p done raises deferral (mark_of
      (marks_of p) x) s t woken (look (code_of p) t x) s') where
    pub claims_step : {into : Option ℕ} {part : Part} {f : Frame} {cs : List Caller} (child : ℕ) (go' : ℕ → Thread)
        → 0 < child → child ≤ k.world.made → join_steps + 5 < n
        → look (code_of p) t x ≡ Asks (AskSwap (process_word child 3) 1) go'
        → offer p c.variable q ≡ ClaimsOne child (Joining child into part f cs)
        (Dying (Faulted HandleNotJoinable) (holds q)) → (j : Awaits b t child into part f cs)
        → StepsWithin b t join_steps (go' 0) j.reads
        → ((m : ℕ) → StepsWithin b t join_steps (go' (suc m)) (Dies' (Faulted HandleNotJoinable)))
        → Next p w steps s' t done raises deferral pauses n c (stages k.world) (raised_at k.world)
    claims_step {into = into} {part = part} {f = f} {cs = cs} child go' some below enough h o j free taken =
        elim (cases_eq (k.world.claim child) 0) [ inl z ↦ claimed z | inr z ↦ refused z ]
      where
        g : StepsWhole p done raises deferral (mark_of (marks_of p) x) s t woken (Asks
            (AskSwap (process_word child 3) 1)
            go') s'
        g = subst (λ (l : Look). StepsWhole p done raises deferral (mark_of (marks_of p) x) s t woken l s') h moves

        calm : false ≡ raised_then done raises (raised_at k.world t)
        calm = raised_none done raises (raised_at k.world t) g.6 (ap (λ (i : Point). is_some (notified_at i)) point)

        valid_child : is_process p child ≡ true
        valid_child = number_is p child some (omega (arith, below, few))

        mid : State
        mid = with_word s (process_word child 3) 1

        answer : g.0 ≡ k.world.claim child
        answer = g.2.1.1.0 ∙ k.shares.words.word (ClaimOf child) valid_child

        same : (v : ℕ) → k.world.claim child ≡ v → s' ≡ with_thread (with_word s (process_word child 3) 1) t (go' v)
        same v e = g.3 ∙ ap (λ (i : State). with_thread i t (go' g.0)) g.2.1.1.1
            ∙ ap (λ i. with_thread (with_word s (process_word child 3) 1) t (go' i)) (answer ∙ e)

        shares : Shares (place p) (valid p) (shared_of (with_word s (process_word child 3) 1))
            (write k.world (ClaimOf child) 1)
        shares = shares_stored (place p) (valid p) (apart p) (shared_of s) k.world (ClaimOf child) 1 valid_child
            k.shares

        keeps : Keeps p s (with_word s (process_word child 3) 1)
        keeps = record {
          size = refl;
          most = refl;
          made = refl;
          output = refl;
          thread = refl;
          variables = λ m i is. put_other s.word (process_word child 3) 1 (variable_address p m i)
              (λ e. variable_apart p m i (ClaimOf child) is valid_child e);
        }

        takes : TakesUp (offer p c.variable q) (Claims child) Nothing (Joining child into part f cs)
        takes = subst (λ (i : Offer). TakesUp i (Claims child) Nothing (Joining child into part f cs)) (sym o)
            (inl (refl, refl, refl))

        free_to_claim : k.world.claim child ≡ 0 → Can k.world t (Claim child)
        free_to_claim z = record { number = number; awake = awake; stands = point; finds = (some, below, z) }

        not_free : k.world.claim child ≢ 0 → Can k.world t (ReadClaimed child)
        not_free z = record { number = number; awake = awake; stands = point; finds = (some, below, z) }

        claimed : k.world.claim child ≡ 0
            → Next p w steps s' t done raises deferral pauses n c (stages k.world) (raised_at k.world)
        claimed z =
            let had = work.keeps (Claims child) Nothing (Joining child into part f cs) tt takes in
            starts (Claim child) (Claims child) (with_word s (process_word child 3) 1) (write k.world (ClaimOf child) 1)
            (go' 0) (Joining child into part f cs) (JoinReads child) (all_monitors f cs)
            (free_to_claim z) refl refl takes tt
            had.0 (reads join_steps (omega arith) (record { some = some; made = below; last = had.1 }) j free)
            shares keeps refl refl refl refl
            (acts _ _ (Claims child) Nothing _ (g.4 ∙ ap (λ (i : ℕ). i == 0) (answer ∙ z)) refl refl proc takes
            ((permitted k.world c.table t (Claim child) inv (free_to_claim z)).0) tt (λ m j i other. refl) tt refl)
            calm (same 0 z)

        refused : k.world.claim child ≢ 0
            → Next p w steps s' t done raises deferral pauses n c (stages k.world) (raised_at k.world)
        refused z = by_word (k.world.claim child) refl
          where
            by_word : (v : ℕ) → k.world.claim child ≡ v
                → Next p w steps s' t done raises deferral pauses n c (stages k.world) (raised_at k.world)
            by_word zero e = absurd (z e)
            by_word (suc v) e =
                reaches (ReadClaimed child) c.process [] (with_word s (process_word child 3) 1)
                (write k.world (ClaimOf child) 1) (go' (suc v)) q (MeetsClaimed child) (holds q) (not_free z) refl refl
                (same_puts c.process t _ proc) tt refl (refused' join_steps (omega arith) (taken v) o work.steady)
                shares keeps refl refl refl refl
                (nothing (g.4 ∙ ap (λ (i : ℕ). i == 0) (answer ∙ e) ∙ ne_eqb (suc v) 0 (λ i. absurd cc)) g.5
                (inl (ap stage_of (sym point))) refl) (inr (omega (arith, enough))) calm (same (suc v) e)
