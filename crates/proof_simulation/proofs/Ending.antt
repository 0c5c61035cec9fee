-- From a fault or the return of a thread's first procedure into its exit.
use Rattle.std.proofs.Common.{◌≡◌, ◌≢◌, ℕ, zero, suc, ◌+◌, ◌<◌, ◌≤◌, Bool, true, List, [], ◌∷◌, length, Option, Some}
use Rattle.std.proofs.Common.{false}
use Rattle.std.proofs.Common.{None, refl, ap, sym, ◌∙◌, subst, arith, inl, inr, ◌⊎◌}
use Rattle.std.specs.Prelude.{◌^◌, map, if◌then◌else◌, is_some}
use Rattle.words.specs.Updates.{put}
use Rattle.words.specs.declared.outcome.Fault.{Fault}
use Rattle.words.specs.declared.outcome.Fault.TheVariants.{HandleNotJoinable}
use Rattle.words.specs.Outcomes.{cause_number}
use Rattle.words.specs.Process.{process_word}
use Rattle.words.specs.Signed.{signed_of}
use Rattle.words.specs.Versions.{most_of}
use Rattle.robustexit.specs.declared.phase.ExitPhase.{ExitPhase}
use Rattle.robustexit.specs.Phases.{next_entry}
use Rattle.locals.specs.Threads.{Thread, Exits, Dies as Dies'}
use Rattle.locals.specs.Looks.{Look, Asks, look, first_exit}
use Rattle.machine.specs.States.{State, with_thread, with_word}
use Rattle.machine.specs.AbstractServing.{with_outcome, shared_of}
use Rattle.program.specs.declared.kinds.Member.{Member}
use Rattle.program.specs.Trees.{Program}
use Rattle.program.specs.WellFormed.{WellFormed}
use Rattle.lowering.specs.Pieces.{marks_of, code_of}
use Rattle.meaning.specs.Labels.{Kind, Label, Alone, FindsClaimed, Cause, End, Ended, Aborted, Faulted}
use Rattle.meaning.specs.Labels.{Killed, kind_of}
use Rattle.meaning.specs.Table.{Allows}
use Rattle.meaning.specs.Labels as L
use Rattle.meaning.specs.Values.{Variables}
use Rattle.meaning.specs.Processes.{Process, Dying, Leaving, holds}
use Rattle.meaning.specs.Offers.{Does, ClaimsOne, Nothing, Offer, offer, TakesUp}
use Rattle.meaning.specs.States.{SourceState}
use Rattle.meaning.specs.Runs.{Leads}
use Rattle.proof_commutation.specs.Deferring.{is_internal}
use Rattle.protocol.specs.Points.{Entry as PendingEntry, NoEntry, Point, Runs, MeetsClaimed, Dies, Walks}
use Rattle.protocol.specs.Points.{Thread as Place, thread_at}
use Rattle.protocol.specs.Served.{is_pending}
use Rattle.protocol.specs.World.{World}
use Rattle.protocol.specs.Moves.{Own, Raise, ClaimTaken, WriteFault, Return}
use Rattle.protocol.specs.Steps.{Can, after, go_list, result_after, returned_end}
use Rattle.protocol.specs.Cells.{HeadOf, ResultOf, OutcomeOf, write}
use Rattle.protocol.specs.Exits.{Shares, PhaseIs}
use Rattle.protocol.specs.Memory.{entry_address}
use Rattle.protocol.proofs.Chains.{Chain}
use Rattle.protocol.proofs.Good.{Good}
use Rattle.protocol.proofs.Kept.{permitted}
use Rattle.words.proofs.Updates.{at_put, put_same, put_other}
use Rattle.proof_thread.specs.Variables.{IsVariable, variable_address, VariablesFit}
use Rattle.proof_thread.specs.Completing.{IsOwn, left_value, IsResult, return_request}
use Rattle.proof_thread.specs.Following.{Build}
use Rattle.refinement.specs.Built.{build_of}
use Rattle.proof_templates.specs.Layout.{place, valid, is_process}
use Rattle.proof_templates.proofs.Layouts.{apart, number_is}
use Rattle.proof_templates.specs.Inside.{IsSteady}
use Rattle.proof_templates.proofs.Addresses.{variable_apart}
use Rattle.proof_simulation.specs.Ordering.{StepsWhole, Places, nothing, again, waits}
use Rattle.proof_simulation.specs.Killing.{IsOfProgram, last_of, left_of}
use Rattle.proof_simulation.specs.Standing.{StandsAt, IsAtWork, IsEnding, ending, entries_seen, walks}
use Rattle.proof_simulation.specs.Ranks.{rank, steps_left}
use Rattle.proof_simulation.specs.Corresponding.{Reached, IsBefore, Corresponds}
use Rattle.proof_simulation.proofs.ExitServing.{running_chain, refused_chain, dying_chain, first_phase, first_short}
use Rattle.proof_simulation.proofs.Moving.{Puts, put_puts, same_puts, AreOwn, IsSome, Next, moved, raised_none}
use Rattle.proof_simulation.proofs.Sourcing.{act, action, state_after}
use Rattle.proof_simulation.proofs.Deferred.{may_defer}
use Rattle.proof_simulation.proofs.Worlds.{reached_on, reached_good, shares_at, shares_stored, shares_result, put_put}
use Rattle.proof_simulation.specs.Deferred.{stages, stage_of, notified_at, raised_then, raised_at}
use Rattle.lowering.specs.declared.mark.Mark.{Mark}
use Rattle.proof_thread.specs.Deferrals.{last_mark, mark_of}
use Rattle.proof_simulation.specs.Deferred as W

-- few steps are left at the beginning of an exit
pub walks_left : (b : Build) (v : Variables) (t : ℕ) (w : World) (e : ℕ) (x : PendingEntry) (end : End) (ms : List ℕ)
    (phase : ExitPhase) (is : PhaseIs (place b.program) (valid b.program) (Walks e x end) phase)
    (short : entries_seen phase + length ms ≤ 64) (ends : IsEnding end (left_of (last_of x) ms))
    (of : IsOfProgram b.program x)
    → steps_left b v t w (walks {e = e} {x = x} {end = end} {ms = ms} phase is short ends of)
    ≡ rank 0 w (Walks e x end)
walks_left b v t w zero x end ms phase is short ends of = refl
walks_left b v t w (suc m) x end ms phase is short ends of = refl

walk_few : (w : World) (e : ℕ) (x : PendingEntry) (end : End) → rank 0 w (Walks e x end) ≤ 4
walk_few w zero x end = omega arith
walk_few w (suc m) x end = either (is_pending x m)
  where
    either : (b : Bool) → (if b then 4 else 1) ≤ 4
    either true = omega arith
    either false = omega arith

module _ (p : Program) (w : WellFormed p) (steps : ℕ) (s : State) (c : SourceState) (k : Corresponds p w steps s c)
    (t : ℕ) (woken : List ℕ) (done raises : Bool) (deferral : Option Kind) (pauses : Bool) (s' : State) (n : ℕ)
    (number : (0 < t) × (t ≤ k.world.made))
    (few : k.world.made ≤ most_of p.version) (awake : k.world.asleep t ≡ None) where
  abbrev b : Build
  b = build_of p w k.world.made

  -- its list, and the first entry
  abbrev l : List ℕ
  l = (k.world.at t).list

  abbrev first : ℕ
  first = k.world.head t

  abbrev phase : ExitPhase
  phase = next_entry (entry_address (place p) first) 0

  inv : Good k.world c.table
  inv = reached_good p.version k.world c.table k.reached

  valid_t : is_process p t ≡ true
  valid_t = number_is p t number.0 (omega (arith, number.1, few))

  head_word : s.word (process_word t 0) ≡ entry_address (place p) first
  head_word = k.shares.words.word (HeadOf t) valid_t

  before_walk : (e : ℕ) (x : PendingEntry) (end : End) (f : ℕ → ℕ) → ((u : ℕ) → u ≢ t → f u ≡ k.world.result u)
      → (u : ℕ) → IsBefore (put k.world.at t (thread_at (Walks e x end) l) u).point → f u ≡ 0
  before_walk e x end f same u = at_put k.world.at t (thread_at (Walks e x end) l) u
      (λ (z : Place). IsBefore z.point → f u ≡ 0) (λ i h. absurd h) (λ o h. same u o ∙ k.blank u h)

  -- the exit begins, over these words
  begins_exit : (end : End) (x : PendingEntry) (mid : State) (w2 : World) (f : ℕ → Option Process) (kinds : List Kind)
      → IsEnding end (left_of (last_of x) l) → IsOfProgram p x → Chain k.world.link first l
      → Reached p.version (go_list w2 t (Walks first x end) l) c.table
      → Shares (place p) (valid p) (shared_of mid) w2 → mid.size ≡ s.size → mid.most ≡ s.most
      → mid.made ≡ w2.made
      → w2.made ≡ k.world.made → mid.output ≡ s.output → mid.thread ≡ s.thread
      → ((m : Member) (i : ℕ) → IsVariable p m i
      → mid.word (variable_address p m i) ≡ s.word (variable_address p m i))
      → w2.at ≡ k.world.at → ((u : ℕ) → w2.result u < 2 ^ 32) → ((u : ℕ) → u ≢ t → w2.result u ≡ k.world.result u)
      → w2.sequence ≡ k.world.sequence → Puts c.process f t (Some (ending end (left_of (last_of x) l)))
      → AreOwn kinds
      → Leads p c (map (act t) kinds) (record c { process = f })
      → Places p s' t c (record c { process = f }) done deferral (stages k.world t) W.Leaves kinds
      → IsSome kinds ⊎ (4 < n) → false ≡ raised_then done raises (raised_at k.world t)
      → s' ≡ with_thread mid t (Exits phase)
      → Next p w steps s' t done raises deferral pauses n c (stages k.world) (raised_at k.world)
  begins_exit end x mid w2 f kinds ends of chain reached shares size most made same_made output thread words at results
      others
      numbers ps own leads places paced calm same =
      let pt = Walks first x end in
      let q = ending end (left_of (last_of x) l) in
      let at_entry = first_phase p w k.world t x end (λ m h. k.lists t m h) chain in
      let short = first_short p w k.world c.table t (entry_address (place p) first) inv (λ m h. k.lists t m h) in
      let stand : StandsAt (build_of p w w2.made) c.variable t (Some (Exits phase)) (Some q) pt l =
      walks phase at_entry short ends of in
      let w' = go_list w2 t pt l in
      let c1 = record c { process = f } in
      let m = moved p w steps s c k t (with_thread mid t (Exits phase)) c1 (Exits phase) q pt l w'
      (record {
        reached = reached;
        shares = shares_at (place p) (valid p) (shared_of mid) w2 _ w2.made shares;
        size = size;
        most = most;
        made = made;
        more = omega (arith, same_made);
        output = output ∙ k.output;
        variables = λ m i is. words m i is ∙ k.variables m i is;
        fit = subst (λ (a : ℕ). (m : ℕ) → Fit a m) (sym same_made) k.fit;
        same = λ u m o h i j. refl;
        threads = subst (λ (g : ℕ → Option Thread). Puts s.thread (put g t (Some (Exits phase))) t (Some (Exits phase)))
            (sym thread) (put_puts s.thread t (Some (Exits phase)));
        processes = ps;
        at = ap (λ (g : ℕ → Place). put g t (thread_at pt l)) at;
        stands = stand;
        listed = λ m h. k.lists t m h;
        words = results;
        blank = λ u h. before_walk first x end w2.result others u h;
        numbers = λ d. omega (arith, k.numbers d, ap (λ (g : Member → ℕ). g d) numbers);
      }) in
      let left = walks_left (build_of p w w2.made) c.variable t w' first x end l phase at_entry short ends of in
      let less = walk_few w' first x end in
      subst (λ (x : State). Next p w steps x t done raises deferral pauses n c (stages k.world) (raised_at k.world))
      (sym same) (record {
        after = c1;
        ties = m.ties;
        kinds = kinds;
        own = own;
        leads = leads;
        stage = W.Leaves;
        staged = m.staged;
        raised = λ u. m.raised u ∙ ap (λ b. put (raised_at k.world) t b u) calm;
        places = subst (λ (x : State). Places p x t c (record c {
          process =
              f;
        }) done deferral (stages k.world t) W.Leaves kinds) same places;
        paced = λ z. elim paced [
          | inl h ↦ inl h
          | inr h ↦ inr (omega (arith, left, less, m.is, h))
        ];
      })
    where
      Fit : ℕ → ℕ → Type 0
      Fit a m = VariablesFit a p m c.variable

  -- a word of the process is no variable
  other_word : (word : ℕ → ℕ) (v : ℕ) (m : Member) (i : ℕ) → IsVariable p m i
      → put word (process_word t 5) v (variable_address p m i) ≡ word (variable_address p m i)
  other_word word v m i is = put_other word (process_word t 5) v (variable_address p m i)
      (λ e. variable_apart p m i (OutcomeOf t) is valid_t e)

  other_result : (word : ℕ → ℕ) (v : ℕ) (m : Member) (i : ℕ) → IsVariable p m i
      → put word (process_word t 4) v (variable_address p m i) ≡ word (variable_address p m i)
  other_result word v m i is = put_other word (process_word t 4) v (variable_address p m i)
      (λ e. variable_apart p m i (ResultOf t) is valid_t e)

  -- the cause of its death is written, and the exit begins; threads stand as `at` says before that
  by_fault : (cause : Cause) (x : PendingEntry) (at : ℕ → Place) (f : ℕ → Option Process) (kinds : List Kind)
      → IsOfProgram p x → Reached p.version (record k.world { at = at }) c.table → (at t).point ≡ Dies cause x
      → (at t).list ≡ l
      → ((y : Place) → put at t y ≡ put k.world.at t y) → Chain k.world.link first l
      → Puts c.process f t (Some (Dying cause (left_of (last_of x) l))) → AreOwn kinds
      → Leads p c (map (act t) kinds) (record c { process = f })
      → Places p s' t c (record c { process = f }) done deferral (stages k.world t) W.Leaves kinds
      → IsSome kinds ⊎ (4 < n) → raised_at k.world t ≡ false
      → StepsWhole p done raises deferral (mark_of (marks_of p) (Dies' cause)) s t woken (look (code_of p) t (Dies'
      cause)) s'
      → Next p w steps s' t done raises deferral pauses n c (stages k.world) (raised_at k.world)
  by_fault cause x at f kinds of reached stands list same chain ps own leads places paced idle g =
      let end = Aborted cause in
      let pt = Walks first x end in
      let v = cause_number cause in
      let w1 = record k.world { at = at } in
      let m = WriteFault cause x in
      let can : Can w1 t m = record { number = number; awake = awake; stands = stands; finds = tt } in
      let w2 = write k.world (OutcomeOf t) v in
      let is : after w1 t m ≡ go_list w2 t pt l =
      ap (λ (h : List ℕ). go_list (record w1 { outcome = put k.world.outcome t v }) t pt h) list
      ∙ ap (λ (h : ℕ → Place). record k.world { outcome = put k.world.outcome t v; at = h }) (same (thread_at pt l)) in
      begins_exit end x (with_outcome s t v) w2 f kinds tt of chain
      (subst (λ (i : World). Reached p.version i c.table) is (reached_on p.version w1 c.table t m reached can))
      (shares_stored (place p) (valid p) (apart p) (shared_of s) k.world (OutcomeOf t) v valid_t k.shares)
      refl refl k.made refl refl refl (λ d i h. other_word s.word v d i h) refl k.words
      (λ u o. refl) refl ps own leads places paced (raised_none done raises (raised_at k.world t) g.6 idle)
      (g.3 ∙ ap (λ (i : State). with_thread i t (first_exit g.0)) g.2.1.1
      ∙ ap (λ a. with_thread (with_outcome s t v) t (first_exit a)) (g.2.1.0 ∙ head_word))

  -- a thread that comes to a fault which it met in the source already
  pub dies_step : (fault : Fault) → (k.world.at t).point ≡ Dies (Faulted fault) NoEntry
      → c.process t ≡ Some (Dying (Faulted fault) l) → 4 < n
      → StepsWhole p done raises deferral (mark_of (marks_of p) (Dies' (Faulted fault))) s t woken (look (code_of p) t
      (Dies' (Faulted fault))) s'
      → Next p w steps s' t done raises deferral pauses n c (stages k.world) (raised_at k.world)
  dies_step fault point proc enough moves =
      by_fault (Faulted fault) NoEntry k.world.at c.process [] tt k.reached point refl (λ y. refl)
      (dying_chain k.world c.table t (Faulted fault) NoEntry inv point) (same_puts c.process t _ proc) tt refl
      (again fault moves.4 moves.5 (ap stage_of point) refl refl)
      (inr enough) (ap (λ (i : Point). is_some (notified_at i)) point) moves

  -- a thread that was killed, as its process was
  pub killed_step : (x : PendingEntry) → IsOfProgram p x → (k.world.at t).point ≡ Dies Killed x
      → c.process t ≡ Some (Dying Killed (left_of (last_of x) l)) → 4 < n
      → StepsWhole p done raises deferral (mark_of (marks_of p) (Dies' Killed)) s t woken (look (code_of p) t (Dies'
      Killed)) s'
      → Next p w steps s' t done raises deferral pauses n c (stages k.world) (raised_at k.world)
  killed_step x of point proc enough moves =
      by_fault Killed x k.world.at c.process [] of k.reached point refl (λ y. refl)
      (dying_chain k.world c.table t Killed x inv point) (same_puts c.process t _ proc) tt refl
      (nothing moves.4 moves.5 (inr refl) refl) (inr enough) (ap (λ (i : Point). is_some (notified_at i)) point) moves

  -- a thread that meets a fault, as its process does by this action
  fault_met : (q : Process) (fault : Fault) (label : Label) (x : Thread) → c.process t ≡ Some q → l ≡ holds q
      → IsSteady p q c.variable → x ≡ Dies' (Faulted fault) → stages k.world t ≡ W.Works → raised_at k.world t ≡ false
      → Chain k.world.link first l
      → Reached p.version (go_list k.world t (Dies (Faulted fault) NoEntry) l) c.table
      → kind_of label ≡ L.Fails fault → is_internal label ≡ true
      → TakesUp (offer p c.variable q) label Nothing (Dying (Faulted fault) l) → Allows t label c.table c.table
      → StepsWhole p done raises deferral (mark_of (marks_of p) x) s t woken (look (code_of p) t x) s'
      → Next p w steps s' t done raises deferral pauses n c (stages k.world) (raised_at k.world)
  fault_met q fault label x proc list steady e works idle chain reached kind internal takes allowed moves =
      let r = Dying (Faulted fault) l in
      let z = thread_at (Dies (Faulted fault) NoEntry) l in
      let g : StepsWhole p done raises deferral (mark_of (marks_of p) (Dies' (Faulted fault))) s t woken
      (look (code_of p) t (Dies' (Faulted fault))) s' =
      subst (λ (i : Thread). StepsWhole p done raises deferral (mark_of (marks_of p) i) s t woken
      (look (code_of p) t i) s') e moves
      in
      by_fault (Faulted fault) NoEntry (put k.world.at t z) (put c.process t (Some r)) (kind_of label ∷ []) tt reached
      (ap (λ (i : Place). i.point) (put_same k.world.at t z))
      (ap (λ (i : Place). i.list) (put_same k.world.at t z)) (λ y. put_put k.world.at t z y) chain
      (put_puts c.process t (Some r)) (subst (λ (i : Kind). IsOwn i) (sym kind) tt, tt)
      (state_after c t Nothing r c.table, action p c t q r label Nothing c.table proc takes allowed, refl)
      (waits _ _ label g.4 (g.5 ∙ ap Some (sym kind)) works tt proc
      (may_defer p w steps s c k t q r label list steady internal takes allowed (λ end h. cc)) refl)
      (inl tt) idle g

  -- a thread that was refused a process
  pub refused_step : (child : ℕ) (q joining : Process) (x : Thread) → c.process t ≡ Some q → l ≡ holds q
      → (k.world.at t).point ≡ MeetsClaimed child → IsSteady p q c.variable
      → offer p c.variable q ≡ ClaimsOne child joining (Dying (Faulted HandleNotJoinable) (holds q))
      → x ≡ Dies' (Faulted HandleNotJoinable)
      → StepsWhole p done raises deferral (mark_of (marks_of p) x) s t woken (look (code_of p) t x) s'
      → Next p w steps s' t done raises deferral pauses n c (stages k.world) (raised_at k.world)
  refused_step child q joining x proc list point steady o e moves =
      let move = ClaimTaken child in
      let can : Can k.world t move = record { number = number; awake = awake; stands = point; finds = tt } in
      let r = Dying (Faulted HandleNotJoinable) l in
      let o' : offer p c.variable q ≡ ClaimsOne child joining r =
      o ∙ ap (λ (i : List ℕ). ClaimsOne child joining (Dying (Faulted HandleNotJoinable) i)) (sym list) in
      fault_met q HandleNotJoinable (FindsClaimed child) x proc list steady e (ap stage_of point)
      (ap (λ (i : Point). is_some (notified_at i)) point)
      (refused_chain k.world c.table t child inv point) (reached_on p.version k.world c.table t move k.reached can)
      refl refl
      (subst (λ (i : Offer). TakesUp i (FindsClaimed child) Nothing r) (sym o') (inr (refl, refl, refl)))
      (permitted k.world c.table t move inv can).0 moves

  -- the state of the machine, and the words of the world, after a return
  abbrev returned_state : Option ℕ → State
  returned_state None = with_outcome s t 16
  returned_state (Some v) = with_outcome (with_word s (process_word t 4) v) t 16

  abbrev returned_world : Option ℕ → World
  returned_world r = record k.world {
    result = put k.world.result t (result_after r (k.world.result t));
    outcome = put k.world.outcome t 16;
  }

  returned_shares : (r : Option ℕ) → Shares (place p) (valid p) (shared_of (returned_state r)) (returned_world r)
  returned_shares None =
      shares_stored (place p) (valid p) (apart p) (shared_of s) (record k.world {
        result = put k.world.result t (k.world.result t);
      }) (OutcomeOf t) 16 valid_t (shares_result (place p) (valid p) (shared_of s) k.world t k.shares)
  returned_shares (Some v) =
      shares_stored (place p) (valid p) (apart p) (shared_of (with_word s (process_word t 4) v))
      (write k.world (ResultOf t) v) (OutcomeOf t) 16 valid_t
      (shares_stored (place p) (valid p) (apart p) (shared_of s) k.world (ResultOf t) v valid_t k.shares)

  returned_words : (r : Option ℕ) (m : Member) (i : ℕ) → IsVariable p m i
      → (returned_state r).word (variable_address p m i) ≡ s.word (variable_address p m i)
  returned_words None m i is = other_word s.word 16 m i is
  returned_words (Some v) m i is =
      other_word (put s.word (process_word t 4) v) 16 m i is ∙ other_result s.word v m i is

  returned_size : (r : Option ℕ) → (returned_state r).size ≡ s.size
  returned_size None = refl
  returned_size (Some v) = refl

  returned_most : (r : Option ℕ) → (returned_state r).most ≡ s.most
  returned_most None = refl
  returned_most (Some v) = refl

  returned_made : (r : Option ℕ) → (returned_state r).made ≡ s.made
  returned_made None = refl
  returned_made (Some v) = refl

  returned_output : (r : Option ℕ) → (returned_state r).output ≡ s.output
  returned_output None = refl
  returned_output (Some v) = refl

  returned_thread : (r : Option ℕ) → (returned_state r).thread ≡ s.thread
  returned_thread None = refl
  returned_thread (Some v) = refl

  result_fits : (r : Option ℕ) → IsResult r → (u : ℕ)
      → put k.world.result t (result_after r (k.world.result t)) u < 2 ^ 32
  result_fits None fits u = at_put k.world.result t (k.world.result t) u (λ x. x < 2 ^ 32) (λ e. k.words t)
      (λ o. k.words u)
  result_fits (Some v) fits u = at_put k.world.result t v u (λ x. x < 2 ^ 32) (λ e. fits) (λ o. k.words u)

  -- the machine's answer is the head, whatever is returned
  return_moves : (mark : Option Mark) (r : Option ℕ)
      → StepsWhole p done raises deferral mark s t woken (Asks (return_request r) first_exit) s'
      → s' ≡ with_thread (returned_state r) t (Exits phase)
  return_moves mark None g = g.3 ∙ ap (λ (x : State). with_thread x t (first_exit g.0)) g.2.1.1
      ∙ ap (λ a. with_thread (returned_state None) t (first_exit a)) (g.2.1.0 ∙ head_word)
  return_moves mark (Some v) g = g.3 ∙ ap (λ (x : State). with_thread x t (first_exit g.0)) g.2.1.1
      ∙ ap (λ a. with_thread (returned_state (Some v)) t (first_exit a)) (g.2.1.0 ∙ head_word)

  result_end : (r : Option ℕ) → k.world.result t ≡ 0 → returned_end k.world t r ≡ Ended (left_value r)
  result_end None e = ap (λ (x : ℕ). Ended (signed_of x)) e
  result_end (Some v) e = refl

  -- which raises no number
  returns_raise : (mark : Option Mark) (r : Option ℕ)
      → StepsWhole p done raises deferral mark s t woken (Asks (return_request r) first_exit) s' → raises ≡ false
  returns_raise mark None g = g.6
  returns_raise mark (Some v) g = g.6

  -- the first procedure returns, and the exit begins; threads stand as `at` says before that
  by_return : (mark : Option Mark) (r : Option ℕ) (at : ℕ → Place) (f : ℕ → Option Process) (kinds : List Kind)
      → IsResult r → l ≡ []
      → Reached p.version (record k.world { at = at }) c.table → (at t).point ≡ Runs → (at t).list ≡ l
      → ((y : Place) → put at t y ≡ put k.world.at t y) → (k.world.at t).point ≡ Runs
      → Puts c.process f t (Some (Leaving (left_value r))) → AreOwn kinds
      → Leads p c (map (act t) kinds) (record c { process = f })
      → Places p s' t c (record c { process = f }) done deferral (stages k.world t) W.Leaves kinds
      → IsSome kinds ⊎ (4 < n)
      → StepsWhole p done raises deferral mark s t woken (Asks (return_request r) first_exit) s'
      → Next p w steps s' t done raises deferral pauses n c (stages k.world) (raised_at k.world)
  by_return mark r at f kinds fits none reached stands list same point ps own leads places paced g =
      let end = Ended (left_value r) in
      let pt = Walks first NoEntry end in
      let w1 = record k.world { at = at } in
      let m = Return r in
      let can : Can w1 t m = record { number = number; awake = awake; stands = stands; finds = tt } in
      let w2 = returned_world r in
      let blank : k.world.result t ≡ 0 = k.blank t (subst (λ (i : Point). IsBefore i) (sym point) tt) in
      let is : after w1 t m ≡ go_list w2 t pt l =
      ap (λ (h : List ℕ). go_list (record w2 { at = at }) t (Walks first NoEntry (returned_end k.world t r)) h) list
      ∙ ap (λ (h : End). go_list (record w2 { at = at }) t (Walks first NoEntry h) l) (result_end r blank)
      ∙ ap (λ (h : ℕ → Place). record w2 { at = h }) (same (thread_at pt l)) in
      begins_exit end NoEntry (returned_state r) w2 f kinds none tt (running_chain k.world c.table t inv point)
      (subst (λ (x : World). Reached p.version x c.table) is (reached_on p.version w1 c.table t m reached can))
      (returned_shares r) (returned_size r) (returned_most r) (returned_made r ∙ k.made) refl (returned_output r)
      (returned_thread r)
      (λ d i h. returned_words r d i h) refl (result_fits r fits)
      (λ u o. put_other k.world.result t (result_after r (k.world.result t)) u o) refl ps own leads places paced
      (raised_none done raises (raised_at k.world t) (returns_raise mark r g)
      (ap (λ (i : Point). is_some (notified_at i)) point)) (return_moves mark r g)

  -- a return is no action that others learn of
  returns_done : (mark : Option Mark) (r : Option ℕ)
      → StepsWhole p done raises deferral mark s t woken (Asks (return_request r) first_exit) s' → done ≡ false
  returns_done mark None g = g.4
  returns_done mark (Some v) g = g.4

  -- it is an action that waits, by its mark
  returns_deferral : (mark : Option Mark) (r : Option ℕ)
      → StepsWhole p done raises deferral mark s t woken (Asks (return_request r) first_exit) s' → deferral ≡ last_mark
      mark
  returns_deferral mark None g = g.5
  returns_deferral mark (Some v) g = g.5

  -- a thread whose process leaves already
  pub returns_step : (r : Option ℕ) (x : Thread) → IsResult r → (k.world.at t).point ≡ Runs → l ≡ []
      → c.process t ≡ Some (Leaving (left_value r)) → look (code_of p) t x ≡ Asks (return_request r) first_exit
      → last_mark (mark_of (marks_of p) x) ≡ None → 4 < n
      → StepsWhole p done raises deferral (mark_of (marks_of p) x) s t woken (look (code_of p) t x) s'
      → Next p w steps s' t done raises deferral pauses n c (stages k.world) (raised_at k.world)
  returns_step r x fits point none proc h mark enough moves =
      by_return (mark_of (marks_of p) x) r k.world.at c.process [] fits none k.reached point
      refl (λ y. refl) point (same_puts c.process t _ proc) tt refl
      (nothing (returns_done (mark_of (marks_of p) x) r (subst (λ (i : Look). StepsWhole p done raises deferral (mark_of
      (marks_of p) x) s t woken i s') h moves))
      (returns_deferral (mark_of (marks_of p) x) r (subst (λ (i : Look). StepsWhole p done raises deferral (mark_of
      (marks_of p) x) s t woken i s') h moves) ∙ mark)
      (inr refl) refl) (inr enough)
      (subst (λ (i : Look). StepsWhole p done raises deferral (mark_of (marks_of p) x) s t woken i s') h moves)

  module _ (q : Process) (proc : c.process t ≡ Some q) (point : (k.world.at t).point ≡ Runs) (list : l ≡ holds q) where
    takes_up : (label : Label) (r : Process) → offer p c.variable q ≡ Does label Nothing r
        → TakesUp (offer p c.variable q) label Nothing r
    takes_up label r o = subst (λ (i : Offer). TakesUp i label Nothing r) (sym o) (refl, refl, refl)

    -- a thread that meets a fault
    pub faults_step : (fault : Fault) (x : Thread) → IsAtWork p q c.variable → x ≡ Dies' (Faulted fault)
        → offer p c.variable q ≡ Does (Alone (L.Fails fault)) Nothing (Dying (Faulted fault) (holds q))
        → StepsWhole p done raises deferral (mark_of (marks_of p) x) s t woken (look (code_of p) t x) s'
        → Next p w steps s' t done raises deferral pauses n c (stages k.world) (raised_at k.world)
    faults_step fault x work e o moves =
        let move = Raise fault in
        let can : Can k.world t move = record { number = number; awake = awake; stands = point; finds = tt } in
        let r = Dying (Faulted fault) l in
        let o' : offer p c.variable q ≡ Does (Alone (L.Fails fault)) Nothing r =
        o ∙ ap (λ (i : List ℕ). Does (Alone (L.Fails fault)) Nothing (Dying (Faulted fault) i)) (sym list) in
        fault_met q fault (Alone (L.Fails fault)) x proc list work.steady e (ap stage_of point)
        (ap (λ (i : Point). is_some (notified_at i)) point)
        (running_chain k.world c.table t inv point) (reached_on p.version k.world c.table t move k.reached can) refl
        refl
        (takes_up (Alone (L.Fails fault)) r o') refl moves

    -- a thread whose process leaves with this step
    pub leaves_step : (r : Option ℕ) (x : Thread) → IsAtWork p q c.variable → IsResult r
        → look (code_of p) t x ≡ Asks (return_request r) first_exit
        → last_mark (mark_of (marks_of p) x) ≡ Some L.Return
        → offer p c.variable q ≡ Does (Alone L.Return) Nothing (Leaving (left_value r))
        → StepsWhole p done raises deferral (mark_of (marks_of p) x) s t woken (look (code_of p) t x) s'
        → Next p w steps s' t done raises deferral pauses n c (stages k.world) (raised_at k.world)
    leaves_step r x work fits h mark o moves =
        let move = Own (Alone L.Return) in
        let can : Can k.world t move = record { number = number; awake = awake; stands = point; finds = tt } in
        let after' = Leaving (left_value r) in
        let takes = takes_up (Alone L.Return) after' o in
        let none : l ≡ [] = list ∙ sym (work.keeps (Alone L.Return) Nothing after' tt takes) in
        let z = thread_at Runs l in
        by_return (mark_of (marks_of p) x) r (put k.world.at t z) (put c.process t (Some after'))
        (L.Return ∷ []) fits none
        (reached_on p.version k.world c.table t move k.reached can)
        (ap (λ (i : Place). i.point) (put_same k.world.at t z))
        (ap (λ (i : Place). i.list) (put_same k.world.at t z)) (λ y. put_put k.world.at t z y) point
        (put_puts c.process t (Some after')) (tt, tt) (
          state_after c t Nothing after' c.table,
          action p c t q after' (Alone L.Return) Nothing c.table proc takes
              (permitted k.world c.table t move inv can).0,
          refl,
        )
        (waits _ _ (Alone L.Return)
        (returns_done (mark_of (marks_of p) x) r (subst (λ (i : Look). StepsWhole p done raises deferral (mark_of
        (marks_of p) x) s t woken i s') h moves))
        (returns_deferral (mark_of (marks_of p) x) r (subst (λ (i : Look). StepsWhole p done raises deferral (mark_of
        (marks_of p) x) s t woken i s') h moves) ∙ mark)
        (ap stage_of point) tt proc
        (may_defer p w steps s c k t q after' (Alone L.Return) list work.steady refl takes refl
        (λ end h. cc)) refl)
        (inl tt)
        (subst (λ (i : Look). StepsWhole p done raises deferral (mark_of (marks_of p) x) s t woken i s') h moves)
