-- Steps of a thread's own code: local ones, loads of variables, and those that complete an action of its process.
use Rattle.std.proofs.Common.{◌≡◌, ◌≢◌, ℕ, suc, ◌+◌, ◌<◌, ◌≤◌, ◌==◌, ◌&&◌, Bool, true, false, List, [], ◌∷◌, ◌++◌}
use Rattle.std.proofs.Common.{Option, Some, None, refl, ap, sym, ◌∙◌, subst, arith, inl, inr, ◌⊎◌, ℤ, if◌then◌else◌}
use Rattle.std.proofs.lemmas.Bool.{eq-eqb, eqb-true, false≢true, or_left, or_right}
use Rattle.words.specs.Updates.{put}
use Rattle.words.specs.Signed.{word_of, signed_of}
use Rattle.words.specs.Versions.{most_of}
use Rattle.proof_thread.specs.Deferrals.{MarkedImage, mark_of, deferred_by_mark}
use Rattle.locals.specs.Threads.{Thread}
use Rattle.locals.specs.Looks.{Look, Goes, Asks, AskLoad, AskStore, AskPrint, look}
use Rattle.machine.specs.States.{State, with_thread, with_word}
use Rattle.machine.specs.AbstractServing.{shared_of}
use Rattle.program.specs.declared.kinds.Member.{Member}
use Rattle.program.specs.Trees.{Program}
use Rattle.program.specs.Scope.{member_type}
use Rattle.program.specs.WellFormed.{WellFormed}
use Rattle.lowering.specs.Pieces.{marks_of, code_of}
use Rattle.meaning.specs.Labels.{Kind, Label, Alone, Stores, kind_of}
use Rattle.meaning.specs.Labels as L
use Rattle.meaning.specs.Values.{Variables, with_variable}
use Rattle.meaning.specs.Processes.{Process, Entering, Before, Suspended, Joining, Returning, Failing, Dying, Leaving}
use Rattle.meaning.specs.Processes.{Over, holds}
use Rattle.meaning.specs.Offers.{Effect, Does, Nothing, Puts as Puts', Writes, Offer, offer, TakesUp}
use Rattle.meaning.specs.States.{SourceState, variables_after, printed_after, processes_after}
use Rattle.protocol.specs.Points.{Point, Runs, Thread as Place, thread_at, entry_at}
use Rattle.protocol.specs.World.{World, mem}
use Rattle.protocol.specs.Exits.{Shares}
use Rattle.protocol.specs.Moves.{Own}
use Rattle.protocol.specs.Finds.{IsOwn as IsAlone}
use Rattle.protocol.specs.Steps.{Can, go_list}
use Rattle.protocol.proofs.Roles.{own, holds as has}
use Rattle.protocol.proofs.Good.{Good, one_owner}
use Rattle.protocol.proofs.Kept.{permitted}
use Rattle.words.proofs.Updates.{at_put, put_same, put_other}
use Rattle.proof_thread.specs.Variables.{IsVariable, variable_address, ValueFits, VariablesFit}
use Rattle.proof_thread.specs.Walks.{View, Reads, Walks, WalksWithin, stays, goes, loads}
use Rattle.proof_thread.specs.Following.{Build, Stands}
use Rattle.proof_thread.specs.Completing.{IsOwn, IsInternal, HasFirst, Proceeds, view_of}
use Rattle.proof_thread.specs.Builds.{most_steps}
use Rattle.refinement.specs.Built.{build_of, marked_image}
use Rattle.proof_templates.specs.Layout.{place, valid}
use Rattle.proof_templates.specs.Asking.{template_steps}
use Rattle.proof_templates.proofs.Addresses.{variables_apart, variable_apart}
use Rattle.proof_simulation.specs.Ordering.{StepsWhole, Places, nothing, waits, acts}
use Rattle.proof_simulation.specs.Standing.{StandsAt, works, IsAtWork, Holds}
use Rattle.proof_simulation.specs.Ranks.{steps_left, before_template}
use Rattle.proof_simulation.specs.Corresponding.{Corresponds, IsBefore, Reached}
use Rattle.proof_simulation.proofs.Sourcing.{action, state_after}
use Rattle.proof_simulation.proofs.Standings.{first_in}
use Rattle.proof_simulation.proofs.Worlds.{reached_on, reached_good, shares_at}
use Rattle.proof_simulation.proofs.Moving.{Puts, put_puts, same_puts, HasNow, Next, moved, raised_still, raised_none}
use Rattle.proof_simulation.proofs.Completions.{variable_loaded, variable_stored}
use Rattle.proof_simulation.proofs.Deferred.{own_kind, internal_kind, stands_open, holder, may_defer}
use Rattle.proof_simulation.proofs.Templating.{works_on}
use Rattle.lowering.specs.declared.mark.Mark.TheVariants.{AssignLocal, Test, Call, Return}
use Rattle.proof_simulation.specs.Deferred.{stages, stage_of, is_failing, Works, notified_at, raised_at}
use Rattle.lowering.specs.declared.mark.Mark.{Mark}
use Rattle.std.specs.Prelude.{is_some}

-- a thread is where it goes, takes a local step towards it, or loads a variable in view
pub data FirstStep (image : MarkedImage) (t : ℕ) (s : View) (n : ℕ) (x z : Thread) : Type 0 where
  at_end : x ≡ z → FirstStep image t s n x z
  goes_on : (y : Thread) (m : ℕ) → look image.image t x ≡ Goes y → deferred_by_mark (mark_of image.marks x) ≡ None
      → suc m ≤ n → WalksWithin image t s m y z
      → FirstStep image t s n x z
  loads_on : (a word : ℕ) (go : ℕ → Thread) (m : ℕ) → look image.image t x ≡ Asks (AskLoad a) go → Reads s a word
      → suc m ≤ n
      → WalksWithin image t s m (go word) z → FirstStep image t s n x z

pub first_step : (image : MarkedImage) (t : ℕ) (s : View) (n : ℕ) (x z : Thread) → WalksWithin image t s n x z
    → FirstStep image t s n x z
first_step image t s n x z walk = by_walk walk.few walk.walk
  where
    by_walk : {k : ℕ} {x z : Thread} → k ≤ n → Walks image t s k x z → FirstStep image t s n x z
    by_walk few stays = at_end refl
    by_walk few (goes {n = m} {y = y} h plain more) =
        goes_on y m h plain (omega (arith, few)) (record { count = m; few = omega arith; walk = more })
    by_walk few (loads {n = m} {a = a} {v = v} {k = go} h shown more) =
        loads_on a v go m h shown (omega (arith, few)) (record { count = m; few = omega arith; walk = more })

-- an action at a local step is no fault
no_fault : (mark : Option Mark) (kind : Kind) → deferred_by_mark mark ≡ Some kind → is_failing kind ≡ false
no_fault (Some AssignLocal) kind h = let same : L.Assign ≡ kind = cc in sym (ap is_failing same)
no_fault (Some Test) kind h = let same : L.Test ≡ kind = cc in sym (ap is_failing same)
no_fault (Some Call) kind h = let same : L.Call ≡ kind = cc in sym (ap is_failing same)
no_fault (Some Return) kind h = let same : L.Return ≡ kind = cc in sym (ap is_failing same)
no_fault mark kind h = absurd cc

-- the monitors that a process holds
pub held_of : (ms : List ℕ) (r : Process) → Holds ms r → holds r ≡ ms
held_of ms (Entering m f cs) h = h
held_of ms (Before entered f cs) h = h
held_of ms (Suspended c f cs) h = h
held_of ms (Joining child into part f cs) h = h.0
held_of ms (Returning z cs) h = h
held_of ms (Failing fault entered f cs) h = h
held_of ms (Dying cause l) h = h
held_of ms (Leaving z) h = h
held_of ms (Over end) h = h

-- a value that is there
pub put_here : {A : Type 0} (f : ℕ → A) (t : ℕ) (v : A) → f t ≡ v → f ≡ put f t v
put_here f t v h = λ i u. same u i
  where
    same : (u : ℕ) → f u ≡ put f t v u
    same u = sym (at_put f t v u (λ x. x ≡ f u) (λ e. sym h ∙ ap f (sym e)) (λ o. refl))

-- a variable that was changed, and every other
by_three : (P : ℤ → Type 0) (a b d : Bool) (z x : ℤ) → (a ≡ true → b ≡ true → d ≡ true → P z)
    → ((a ≡ true → b ≡ true → d ≡ true → ⊥) → P x) → P (if a && b && d then z else x)
by_three P true true true z x h g = h refl refl refl
by_three P true true false z x h g = g (λ i j e. false≢true e)
by_three P true false d z x h g = g (λ i e j. false≢true e)
by_three P false b d z x h g = g (λ e i j. false≢true e)

variable_at : (P : ℤ → Type 0) (v : Variables) (a b d : ℕ) (z : ℤ) (m n i : ℕ)
    → (m ≡ a → n ≡ b → i ≡ d → P z) → ((m ≡ a → n ≡ b → i ≡ d → ⊥) → P (v m n i))
    → P (with_variable v a b d z m n i)
variable_at P v a b d z m n i h g =
    by_three P (m == a) (n == b) (i == d) z (v m n i)
    (λ e f j. h (eqb-true m a e) (eqb-true n b f) (eqb-true i d j))
    (λ no. g (λ e f j. no (eq-eqb m a e) (eq-eqb n b f) (eq-eqb i d j)))

has_now : (w : World) (u m : ℕ) → HasNow w u m → has (w.at u) m ≡ true
unfolding has
has_now w u m (inl h) = or_left (mem m (w.at u).list) (own (entry_at (w.at u).point) m) h
has_now w u m (inr e) =
    or_right (mem m (w.at u).list) (own (entry_at (w.at u).point) m) (ap (λ y. own y m) e ∙ eq-eqb m m refl)

module _ (p : Program) (w : WellFormed p) (steps : ℕ) (s : State) (c : SourceState) (k : Corresponds p w steps s c)
    (t : ℕ) (woken : List ℕ) (done raises : Bool) (deferral : Option Kind) (pauses : Bool) (s' : State) (n : ℕ) where
  abbrev b : Build
  b = build_of p w k.world.made

  pub next_at : (mid : State) → s' ≡ mid → Next p w steps mid t done raises deferral pauses n c (stages k.world)
      (raised_at k.world)
      → Next p w steps s' t done raises deferral pauses n c (stages k.world) (raised_at k.world)
  next_at mid same next =
      subst (λ (x : State). Next p w steps x t done raises deferral pauses n c (stages k.world) (raised_at k.world))
      (sym same) next

  -- a local step, and no move: a thread stands where it stood, with fewer steps left
  pub remains : done ≡ false → deferral ≡ None → raises ≡ false → (y : Thread) (q : Process) (pt : Point) (l : List ℕ)
      → c.process t ≡ Some q
      → (k.world.at t).point ≡ pt → (k.world.at t).list ≡ l → s' ≡ with_thread s t y
      → (stand : StandsAt b c.variable t (Some y) (Some q) pt l)
      → steps_left b c.variable t k.world stand < n
      → Next p w steps s' t done raises deferral pauses n c (stages k.world) (raised_at k.world)
  remains none plain low y q pt l proc point list same stand less =
      let here : k.world.at t ≡ thread_at pt l =
      ap (λ (i : Point). thread_at i (k.world.at t).list) point ∙ ap (λ (i : List ℕ). thread_at pt i) list in
      let at = put_here k.world.at t (thread_at pt l) here in
      let m = moved p w steps s c k t (with_thread s t y) c y q pt l k.world (record {
        reached = k.reached;
        shares = k.shares;
        size = refl;
        most = refl;
        made = k.made;
        more = omega arith;
        output = k.output;
        variables = k.variables;
        fit = k.fit;
        same = λ u i o h j d. refl;
        threads = put_puts s.thread t (Some y);
        processes = same_puts c.process t (Some q) proc;
        at = at;
        stands = stand;
        listed = λ i h. k.lists t i (subst (λ (e : List ℕ). mem i e ≡ true) (sym list) h);
        words = k.words;
        blank = λ u h. k.blank u (subst (λ (f : ℕ → Place). IsBefore (f u).point) (sym at) h);
        numbers = λ d. omega (arith, k.numbers d);
      }) in
      next_at (with_thread s t y) same (record {
        after = c;
        ties = m.ties;
        kinds = [];
        own = tt;
        leads = refl;
        stage = stage_of pt;
        staged = m.staged;
        raised = λ u. m.raised u ∙ ap (λ b. put (raised_at k.world) t b u)
            (ap (λ (i : Point). is_some (notified_at i)) (sym point) ∙ raised_still done raises (raised_at k.world t)
            none low);
        places = nothing none plain (inl (ap stage_of (sym point))) refl;
        paced = λ z. inr (subst (λ (i : ℕ). i < n) (sym m.is) less);
      })

  module _ (number : (0 < t) × (t ≤ k.world.made)) (awake : k.world.asleep t ≡ None) (q : Process)
      (proc : c.process t ≡ Some q) (point : (k.world.at t).point ≡ Runs) (list : (k.world.at t).list ≡ holds q) where
    inv : Good k.world c.table
    inv = reached_good p.version k.world c.table k.reached

    -- a thread on its way to what its process does next
    pub works_step : (x : Thread) (left : ℕ) → left ≤ most_steps b + template_steps
        → (h : Proceeds b t c.variable left x q) → IsAtWork p q c.variable → left + before_template ≤ n
        → StepsWhole p done raises deferral (mark_of (marks_of p) x) s t woken (look (code_of p) t x) s'
        → (x ≡ h.last) ⊎ Next p w steps s' t done raises deferral pauses n c (stages k.world) (raised_at k.world)
    works_step x left few h work enough moves =
        by_step (first_step (marked_image p) t (view_of b q c.variable) left x h.last h.walk)
      where
        on : done ≡ false → deferral ≡ None → raises ≡ false → (y : Thread) (m : ℕ) → suc m ≤ left
            → WalksWithin (marked_image p) t (view_of b q c.variable) m y h.last
            → s' ≡ with_thread s t y
            → Next p w steps s' t done raises deferral pauses n c (stages k.world) (raised_at k.world)
        on none plain low y m less walk same = remains none plain low y q Runs (holds q) proc point list same
            (works m (omega (arith, less, few)) (record { last = h.last; walk = walk; completes = h.completes }) work)
            (omega (arith, less, enough))

        by_step : FirstStep (marked_image p) t (view_of b q c.variable) left x h.last
            → (x ≡ h.last) ⊎ Next p w steps s' t done raises deferral pauses n c (stages k.world) (raised_at k.world)
        by_step (at_end e) = inl e
        by_step (goes_on y m e plain less walk) =
            let g : StepsWhole p done raises deferral (mark_of (marks_of p) x) s t woken (Goes y) s' =
            subst (λ (l : Look). StepsWhole p done raises deferral (mark_of (marks_of p) x) s t woken l s') e moves in
            inr (on g.2 (g.3 ∙ plain) g.4 y m less walk g.1)
        by_step (loads_on a word go m e shown less walk) =
            let g : StepsWhole p done raises deferral (mark_of (marks_of p) x) s t woken (Asks (AskLoad a) go) s' =
            subst (λ (l : Look). StepsWhole p done raises deferral (mark_of (marks_of p) x) s t woken l s') e moves in
            let value : g.0 ≡ word =
            g.2.1.1.0 ∙ ap s.word shown.there ∙ k.variables shown.member shown.index shown.variable ∙ sym shown.shown in
            inr (on (g.4 ∙ variable_loaded p shown.member shown.index a g.0 shown.variable shown.there) g.5 g.6
            (go word) m less
            walk (g.3 ∙ ap (λ (i : State). with_thread i t (go g.0)) g.2.1.1.1
            ∙ ap (λ i. with_thread s t (go i)) value))

    own_move : (l : Label) → IsAlone (k.world.at t) l → Can k.world t (Own l)
    own_move l h = record { number = number; awake = awake; stands = point; finds = h }

    -- an action of the process: the machine's state is another by its effect
    pub does : (mid : State) (label : Label) (effect : Effect) (y : Thread) (r : Process)
        → TakesUp (offer p c.variable q) label effect r → IsAlone (k.world.at t) label → IsOwn (kind_of label)
        → processes_after effect c.process ≡ c.process → holds r ≡ holds q → Stands b t y r → mid.size ≡ s.size
        → mid.most ≡ s.most → mid.made ≡ s.made → mid.thread ≡ s.thread → mid.output ≡ printed_after effect c.printed
        → Shares (place p) (valid p) (shared_of mid) k.world
        → ((m : Member) (i : ℕ) → IsVariable p m i → mid.word (variable_address p m i)
        ≡ word_of (variables_after effect c.variable m.monitor m.number i))
        → ((m : ℕ) → VariablesFit k.world.made p m (variables_after effect c.variable))
        → ((u m : ℕ) → u ≢ t → HasNow k.world u m → (i j : ℕ)
        → c.variable m i j ≡ variables_after effect c.variable m i j)
        → Places p (with_thread mid t y) t c (state_after c t effect r c.table) done deferral (stages k.world t) Works
        (kind_of label ∷ [])
        → raises ≡ false → s' ≡ with_thread mid t y
        → Next p w steps s' t done raises deferral pauses n c (stages k.world) (raised_at k.world)
    does mid label effect y r takes alone mine others kept stands size most made thread output shares variables fit same
        places low e =
        let c' = state_after c t effect r c.table in
        let stand = works_on p w k.world.made c'.variable t y y r fit
        (record { count = 0; few = omega arith; walk = stays }) stands in
        let l = holds r in
        let is : (k.world.at t).list ≡ l = list ∙ sym kept in
        let w' = go_list k.world t Runs l in
        let can = own_move label alone in
        let m = moved p w steps s c k t (with_thread mid t y) c' y r Runs l w' (record {
          reached = subst (λ (i : List ℕ). Reached p.version (go_list k.world t Runs i) c.table) is
              (reached_on p.version k.world c.table t (Own label) k.reached can);
          shares = shares_at (place p) (valid p) (shared_of mid) k.world _ k.world.made shares;
          size = size;
          most = most;
          made = made ∙ k.made;
          more = omega arith;
          output = output;
          variables = variables;
          fit = fit;
          same = same;
          threads = subst (λ (f : ℕ → Option Thread). Puts s.thread (put f t (Some y)) t (Some y)) (sym thread)
              (put_puts s.thread t (Some y));
          processes = subst (λ (f : ℕ → Option Process). Puts c.process (put f t (Some r)) t (Some r)) (sym others)
              (put_puts c.process t (Some r));
          at = refl;
          stands = stand.0;
          listed = λ i h. k.lists t i (subst (λ (e : List ℕ). mem i e ≡ true) (sym is) h);
          words = k.words;
          blank = λ u h. at_put k.world.at t (thread_at Runs l) u
              (λ (z : Place). IsBefore z.point → k.world.result u ≡ 0)
              (λ e i. ap k.world.result e ∙ k.blank t (subst (λ (i : Point). IsBefore i) (sym point) tt))
              (λ o i. k.blank u i) h;
          numbers = λ d. omega (arith, k.numbers d);
        }) in
        next_at (with_thread mid t y) e (record {
          after = c';
          ties = m.ties;
          kinds = kind_of label ∷ [];
          own = (mine, tt);
          leads = (
            c',
            action p c t q r label effect c.table proc takes (permitted k.world c.table t (Own label) inv can).0,
            refl,
          );
          stage = Works;
          staged = m.staged;
          raised = λ u. m.raised u ∙ ap (λ b. put (raised_at k.world) t b u)
              (raised_none done raises (raised_at k.world t) low (ap (λ (i : Point). is_some (notified_at i)) point));
          places = places;
          paced = λ z. inl tt;
        })

    module _ (x : Thread) (work : IsAtWork p q c.variable) (moves : StepsWhole p done raises deferral (mark_of
        (marks_of p) x) s t woken (look (code_of p) t x) s') where
      takes_up : (l : Label) (effect : Effect) (r : Process) → offer p c.variable q ≡ Does l effect r
          → TakesUp (offer p c.variable q) l effect r
      takes_up l effect r o = subst (λ (i : Offer). TakesUp i l effect r) (sym o) (refl, refl, refl)

      pub acts_step : (kind : Kind) (y : Thread) (r : Process) → IsInternal kind → look (code_of p) t x ≡ Goes y
          → deferred_by_mark (mark_of (marks_of p) x) ≡ Some kind
          → offer p c.variable q ≡ Does (Alone kind) Nothing r → Stands b t y r
          → Next p w steps s' t done raises deferral pauses n c (stages k.world) (raised_at k.world)
      acts_step kind y r mine h mark o stands =
          let g : StepsWhole p done raises deferral (mark_of (marks_of p) x) s t woken (Goes y) s' =
          subst (λ (l : Look). StepsWhole p done raises deferral (mark_of (marks_of p) x) s t woken l s') h moves in
          let takes = takes_up (Alone kind) Nothing r o in
          does s (Alone kind) Nothing y r takes tt (own_kind kind mine) refl
          (held_of (holds q) r (work.keeps (Alone kind) Nothing r tt takes)) stands refl refl refl refl k.output
          k.shares k.variables k.fit (λ u m d i j e. refl)
          (waits _ _ (Alone kind) g.2 (g.3 ∙ mark) (ap stage_of point) (no_fault (mark_of
          (marks_of p) x) kind mark) proc
          (may_defer p w steps s c k t q r (Alone kind) list work.steady
          (internal_kind kind mine) takes refl (stands_open b t y r stands)) refl) g.4 g.1

      pub prints_step : (v : ℕ) (go : ℕ → Thread) (r : Process) → look (code_of p) t x ≡ Asks (AskPrint v) go
          → offer p c.variable q ≡ Does (Alone (L.Print (signed_of v))) (Writes (signed_of v)) r
          → ((answer : ℕ) → Stands b t (go answer) r)
          → Next p w steps s' t done raises deferral pauses n c (stages k.world) (raised_at k.world)
      prints_step v go r h o stands =
          let g : StepsWhole p done raises deferral (mark_of (marks_of p) x) s t woken (Asks (AskPrint v) go) s' =
          subst (λ (l : Look). StepsWhole p done raises deferral (mark_of (marks_of p) x) s t woken l s') h moves in
          let z = signed_of v in
          let takes = takes_up (Alone (L.Print z)) (Writes z) r o in
          does (record s { output = s.output ++ z ∷ [] }) (Alone (L.Print z)) (Writes z) (go g.0) r takes tt tt refl
          (held_of (holds q) r (work.keeps (Alone (L.Print z)) (Writes z) r tt takes)) (stands g.0) refl refl refl refl
          (ap (λ (zs : List ℤ). zs ++ z ∷ []) k.output) k.shares k.variables k.fit (λ u m d i j e. refl)
          (acts _ _ (Alone (L.Print z)) (Writes z) c.table g.4 refl refl proc takes refl tt
          (λ m j i other. refl) tt refl)
          g.6 (g.3 ∙ ap (λ (m : State). with_thread m t (go g.0)) g.2.1.1)

      module _ (m : Member) (i : ℕ) (z : ℤ) (first : HasFirst q m.monitor) (is : IsVariable p m i)
          (fits : ValueFits (most_of p.version) k.world.made (member_type p m) z) where
        abbrev changed : Variables
        changed = with_variable c.variable m.monitor m.number i z

        listed : mem m.monitor (k.world.at t).list ≡ true
        listed = first_in m.monitor first.0 (k.world.at t).list (list ∙ first.1)

        -- no word of the protocol lies there
        stored_shares : Shares (place p) (valid p) (shared_of (with_word s (variable_address p m i) (word_of z)))
            k.world
        stored_shares = record {
          words = record {
            word = λ a ok. put_other s.word (variable_address p m i) (word_of z) (place p a)
                (λ e. variable_apart p m i a is ok (sym e)) ∙ k.shares.words.word a ok;
          };
          sleeps = k.shares.sleeps;
          spots = k.shares.spots;
        }

        stored_words : (d : Member) (j : ℕ) → IsVariable p d j
            → put s.word (variable_address p m i) (word_of z) (variable_address p d j)
            ≡ word_of (changed d.monitor d.number j)
        stored_words d j there = variable_at (λ (e : ℤ). put s.word (variable_address p m i) (word_of z)
            (variable_address p d j) ≡ word_of e) c.variable m.monitor m.number i z d.monitor d.number j
            (λ a e f. ap (put s.word (variable_address p m i) (word_of z)) (same_address a e f)
            ∙ put_same s.word (variable_address p m i) (word_of z))
            (λ no. put_other s.word (variable_address p m i) (word_of z) (variable_address p d j)
            (λ e. let at = variables_apart p d m j i there is e in
            no (ap (λ (f : Member). f.monitor) at.0) (ap (λ (f : Member). f.number) at.0) at.1)
            ∙ k.variables d j there)
          where
            same_address : d.monitor ≡ m.monitor → d.number ≡ m.number → j ≡ i
                → variable_address p d j ≡ variable_address p m i
            same_address a e f = λ h. variable_address p (record { monitor = a h; number = e h }) (f h)

        stored_fit : (d : ℕ) → VariablesFit k.world.made p d changed
        stored_fit d e j home there = variable_at
            (λ (v : ℤ). ValueFits (most_of p.version) k.world.made (member_type p e) v) c.variable
            m.monitor m.number i z d e.number j
            (λ a f g. subst (λ (h : Member). ValueFits (most_of p.version) k.world.made (member_type p h) z)
            (sym (same_member a f)) fits)
            (λ no. k.fit d e j home there)
          where
            same_member : d ≡ m.monitor → e.number ≡ m.number → e ≡ m
            same_member a f = λ h. record { monitor = (home ∙ a) h; number = f h }

        -- no other thread has the monitor
        stored_same : (u d : ℕ) → u ≢ t → HasNow k.world u d → (a j : ℕ) → c.variable d a j ≡ changed d a j
        stored_same u d other now a j = variable_at (λ (v : ℤ). c.variable d a j ≡ v) c.variable m.monitor m.number i z
            d a j
            (λ e f g. absurd (other (one_owner k.world c.table m.monitor t u inv
            (has_now k.world t m.monitor (inl listed))
            (has_now k.world u m.monitor (subst (λ (h : ℕ). HasNow k.world u h) e now)))))
            (λ no. refl)

        pub stores_step : (go : ℕ → Thread) (r : Process)
            → look (code_of p) t x ≡ Asks (AskStore (variable_address p m i) (word_of z)) go
            → offer p c.variable q ≡ Does (Stores m.monitor) (Puts' m.monitor m.number i z) r
            → ((answer : ℕ) → Stands b t (go answer) r)
            → Next p w steps s' t done raises deferral pauses n c (stages k.world) (raised_at k.world)
        stores_step go r h o stands =
            let a = variable_address p m i in
            let g : StepsWhole p done raises deferral (mark_of (marks_of p) x) s t woken (Asks (AskStore a (word_of z))
            go) s' =
            subst (λ (l : Look). StepsWhole p done raises deferral (mark_of (marks_of p) x) s t woken l s') h moves in
            let effect = Puts' m.monitor m.number i z in
            let mine = holder p w steps s c k t m.monitor listed in
            let takes = takes_up (Stores m.monitor) effect r o in
            does (with_word s a (word_of z)) (Stores m.monitor) effect (go g.0) r takes listed tt refl
            (held_of (holds q) r (work.keeps (Stores m.monitor) effect r tt takes)) (stands g.0) refl refl refl refl
            k.output
            stored_shares stored_words stored_fit stored_same
            (acts _ _ (Stores m.monitor) effect c.table (g.4 ∙ variable_stored p m i
            (word_of z) g.0 is) refl refl proc takes refl
            mine (λ d j a other. variable_at (λ (v : ℤ). v ≡ c.variable d j a) c.variable m.monitor m.number i z d j a
            (λ e f h. absurd (other (ap c.table.hold e ∙ mine))) (λ no. refl)) tt refl)
            g.6 (g.3 ∙ ap (λ (e : State). with_thread e t (go g.0)) g.2.1.1.1)
