-- Each step of the machine leads from states that belong together to such states, with actions of the source.
use Rattle.std.proofs.Common.{◌≡◌, ℕ, zero, suc, ◌+◌, ◌-◌, ◌<◌, ◌≤◌, Bool, List, length, Option, Some, None, refl, ap}
use Rattle.std.proofs.Common.{sym, ◌∙◌, subst, arith, inl, inr, ◌⊎◌}
use Rattle.locals.specs.Threads.{Thread, Dies as Dies'}
use Rattle.locals.specs.Looks.{Goes, look}
use Rattle.machine.specs.States.{State}
use Rattle.machine.specs.Runs.{is_paused}
use Rattle.program.specs.Trees.{Program}
use Rattle.program.specs.WellFormed.{WellFormed}
use Rattle.lowering.specs.Pieces.{code_of, marks_of}
use Rattle.proof_thread.specs.Deferrals.{last_mark, deferred_by_mark, mark_of}
use Rattle.words.specs.declared.outcome.Fault.TheVariants.{HandleNotJoinable}
use Rattle.words.specs.Versions.{most_of}
use Rattle.meaning.specs.Labels.{Kind, Ended, Faulted, Killed}
use Rattle.meaning.specs.Processes.{Process, Dying, holds}
use Rattle.meaning.specs.States.{SourceState}
use Rattle.protocol.specs.Points.{Point, Runs, JoinReads, JoinSleeps, JoinLearns, JoinTakes, MeetsClaimed, Walks}
use Rattle.protocol.specs.Points.{LastWakes, NoEntry}
use Rattle.protocol.specs.Points as P
use Rattle.proof_thread.specs.Following.{Build, StepsWithin}
use Rattle.proof_thread.specs.Completing.{Completes}
use Rattle.proof_thread.specs.Completing as F
use Rattle.refinement.specs.Built.{build_of, marked_image}
use Rattle.proof_templates.specs.Layout.{place}
use Rattle.proof_templates.specs.Inside.{Enters, Exits, Waits, Notifies, Broadcasts}
use Rattle.proof_simulation.specs.Ordering.{StepsWhole}
use Rattle.proof_simulation.specs.Killing.{last_of, left_of as monitors_left}
use Rattle.proof_simulation.specs.Standing.{StandsAt, unmade, works, returns, inside, faults, killed, refused, reads}
use Rattle.proof_simulation.specs.Standing.{sleeps, learns, takes, walks, clears, wakes, rests, IsAtWork, IsEnding}
use Rattle.proof_simulation.specs.Standing.{ending, entries_seen}
use Rattle.proof_simulation.specs.Ranks.{steps_left, before_template}
use Rattle.proof_simulation.specs.Corresponding.{Corresponds}
use Rattle.proof_simulation.proofs.Standings.{first_in}
use Rattle.proof_simulation.proofs.Moving.{IsLow, Next, left_of}
use Rattle.proof_simulation.proofs.Templating.{awake_at}
use Rattle.proof_simulation.proofs.Local.{first_step, goes_local}
use Rattle.proof_simulation.proofs.Acting.{works_step, acts_step, prints_step, stores_step}
use Rattle.proof_simulation.proofs.Ending.{dies_step, killed_step, refused_step, returns_step, faults_step, leaves_step}
use Rattle.proof_simulation.proofs.Claiming.{claims_step}
use Rattle.proof_simulation.proofs.Making.{forks_step}
use Rattle.proof_simulation.proofs.Joining.{read_step, sleep_step, learn_step, take_step}
use Rattle.proof_simulation.proofs.Leaving.{walk_step, clear_step, wake_step}
use Rattle.proof_simulation.proofs.Ranking.{spare_at, spare_step, spare_none, spare_most, spare_goes}
use Rattle.proof_simulation.proofs.Starting.{inside_any, template_step}
use Rattle.proof_simulation.proofs.Observing.{number_of, few_made}
use Rattle.proof_simulation.specs.Deferred.{stages, raised_at}

same_thread : {x y : Thread} → Some y ≡ Some x → x ≡ y
same_thread e = cc

module _ (p : Program) (w : WellFormed p) (steps : ℕ) (s : State) (c : SourceState) (k : Corresponds p w steps s c)
    (t : ℕ) (woken : List ℕ) (done raises : Bool) (deferral : Option Kind) (pauses : Bool) (s' : State) (n : ℕ)
    (number : (0 < t) × (t ≤ k.world.made))
    (few : k.world.made ≤ most_of p.version) (awake : k.world.asleep t ≡ None) (paused : pauses ≡ is_paused s' t) where
  abbrev b : Build
  b = build_of p w k.world.made

  abbrev Goes' : Thread → Type 0
  Goes' x = StepsWhole p done raises deferral (mark_of (marks_of p) x) s t woken (look (code_of p) t x) s'

  abbrev IsLow' : Thread → Type 0
  IsLow' x = IsLow k.world.sequence (look (code_of p) t x)

  -- the step that does what the process offers, or the first of the template that does
  completed : (x : Thread) (q : Process) → s.thread t ≡ Some x → c.process t ≡ Some q → (k.world.at t).point ≡ Runs
      → (k.world.at t).list ≡ holds q → IsAtWork p q c.variable → before_template ≤ n → Completes b t c.variable x q
      → IsLow' x → Goes' x → Next p w steps s' t done raises deferral pauses n c (stages k.world) (raised_at k.world)
  completed x q thread proc point list work enough (F.acts {y = y} {r = r} kind own h mark o stands) low moves =
      acts_step p w steps s c k t woken done raises deferral pauses s' n number awake q proc point list x work moves
      kind y r
      own h mark o
      stands
  completed x q thread proc point list work enough (F.prints {r = r} v go h o stands) low moves =
      prints_step p w steps s c k t woken done raises deferral pauses s' n number awake q proc point list x work moves
      v go r h
      o stands
  completed x q thread proc point list work enough (F.stores {r = r} m i z go own first is fits h o stands) low moves =
      stores_step p w steps s c k t woken done raises deferral pauses s' n number awake q proc point list x work moves
      m i z
      first is fits go
      r h o stands
  completed x q thread proc point list work enough (F.returns h mark e) low moves =
      returns_step p w steps s c k t woken done raises deferral pauses s' n number few awake None x tt point (list
      ∙ ap holds e)
      (proc ∙ ap Some e) h mark (omega (arith, enough)) moves
  completed x q thread proc point list work enough (F.leaves r fits h mark o) low moves =
      leaves_step p w steps s c k t woken done raises deferral pauses s' n number few awake q proc point list r x work
      fits h
      mark o moves
  completed x q thread proc point list work enough (F.forks {child = child} {after = later} entry arguments go h full o
      mine its empty) low moves =
      forks_step p w steps s c k t woken done raises deferral pauses s' n number few awake q proc point list child
      later go
      entry arguments x
      work h full o empty mine its moves
  completed x q thread proc point list work enough (F.claims {into = i} {part = y} {f = f} {callers = cs} child go some
      made most h o j to bad) low moves =
      claims_step p w steps s c k t woken done raises deferral pauses s' n number few awake q proc point list x work
      moves
      child
      go some made (omega (arith, enough))
      h o j to bad
  completed x q thread proc point list work enough (F.faults fault e o) low moves =
      faults_step p w steps s c k t woken done raises deferral pauses s' n number few awake q proc point list fault x
      work e o
      moves
  completed x q thread proc point list work enough (F.enters {m = m} {f = f} {cs = cs} {l = l} {fs = fs} base e is below
      held code after) low moves =
      template_step p w steps s c k t number few awake point (Enters m base l fs f cs) x (record {
        monitor = below;
        held = held;
        code = code;
        after = after;
      }) thread (proc ∙ ap Some e) (list ∙ ap holds e) is low woken done raises deferral pauses s' n paused enough moves
  completed x q thread proc point list work enough (F.exits {z = z} {cs = cs} {l = l} {fs = fs} m base shown o held is
      code after) low moves =
      template_step p w steps s c k t number few awake point (Exits m base shown l fs q z cs) x (record {
        monitor = k.lists t m (first_in m _ (k.world.at t).list (list ∙ held));
        offers = o;
        steady = work.steady;
        held = held;
        code = code;
        after = after;
      }) thread proc list is low woken done raises deferral pauses s' n paused enough moves
  completed x q thread proc point list work enough (F.waits {f = f} {cs = cs} {l = l} {fs = fs} {ms = ms} d base is o
      had
      own held e code after) low moves =
      template_step p w steps s c k t number few awake point (Waits d base l fs q f cs ms) x (record {
        condition = is;
        offers = o;
        steady = work.steady;
        had = had;
        own = own;
        held = held;
        code = code;
        after = after;
      }) thread proc list e low woken done raises deferral pauses s' n paused enough moves
  completed x q thread proc point list work enough (F.notifies {r = r} {l = l} {fs = fs} d base is o has keeps e code
      after) low moves =
      template_step p w steps s c k t number few awake point (Notifies d base l fs q r has.0) x (record {
        condition = is;
        offers = o;
        steady = work.steady;
        held = has.1;
        keeps = keeps;
        code = code;
        goes = after;
      }) thread proc list e low woken done raises deferral pauses s' n paused enough moves
  completed x q thread proc point list work enough (F.broadcasts {r = r} {l = l} {fs = fs} d base is o has keeps e code
      after) low moves =
      template_step p w steps s c k t number few awake point (Broadcasts d base l fs q r has.0) x (record {
        condition = is;
        offers = o;
        steady = work.steady;
        held = has.1;
        keeps = keeps;
        code = code;
        goes = after;
      }) thread proc list e low woken done raises deferral pauses s' n paused enough moves

  -- a thread on its way to another takes a local step, or is there
  walking : (x y z : Thread) (left : ℕ) → x ≡ y → StepsWithin b t left y z
      → (x ≡ z → Next p w steps s' t done raises deferral pauses n c (stages k.world) (raised_at k.world))
      → ((y' : Thread) (m : ℕ) → look (code_of p) t x ≡ Goes y' → deferred_by_mark (mark_of (marks_of p) x) ≡ None
      → suc m ≤ left
      → StepsWithin b t m y' z
      → Next p w steps s' t done raises deferral pauses n c (stages k.world) (raised_at k.world))
      → Next p w steps s' t done raises deferral pauses n c (stages k.world) (raised_at k.world)
  walking x y z left same walk there on = by_step (first_step p (marked_image p) t left x z
      (subst (λ (v : Thread). StepsWithin b t left v z) (sym same) walk))
    where
      by_step : (x ≡ z) ⊎ ((y' : Thread) × (m : ℕ) × (look (code_of p) t x ≡ Goes y')
          × (deferred_by_mark (mark_of (marks_of p) x) ≡ None) × (suc m ≤ left)
          × StepsWithin b t m y' z)
          → Next p w steps s' t done raises deferral pauses n c (stages k.world) (raised_at k.world)
      by_step (inl e) = there e
      by_step (inr (y', m, g, plain, le, more)) = on y' m g plain le more

  -- nothing is to spare at a point that asks no call
  all : (x : Thread) (pt : Point) (m : ℕ) → spare_at pt ≡ 0 → m ≤ n + spare_step (look (code_of p) t x) pt → m ≤ n
  all x pt m none h = omega (arith, h, spare_none (look (code_of p) t x) pt none)

  from_stand : (o : Option Thread) (q : Option Process) (pt : Point) (l : List ℕ)
      → (stand : StandsAt b c.variable t o q pt l) → c.process t ≡ q → (k.world.at t).point ≡ pt
      → (k.world.at t).list ≡ l → (x : Thread)
      → steps_left b c.variable t k.world stand ≤ n + spare_step (look (code_of p) t x) pt → s.thread t ≡ Some x
      → o ≡ Some x → IsLow' x → Goes' x
      → Next p w steps s' t done raises deferral pauses n c (stages k.world) (raised_at k.world)
  from_stand o q pt l unmade proc point list x enough thread e low moves = absurd cc
  from_stand o q pt l (works {x = y} {q = r} left few' h work) proc point list x enough thread e low moves =
      by_step (works_step p w steps s c k t woken done raises deferral pauses s' n number awake r proc point list x
      left few'
      (subst (λ (z : Thread). F.Proceeds b t c.variable left z r) (sym (same_thread e)) h) work
      (all x Runs _ refl enough) moves)
    where
      h' : F.Proceeds b t c.variable left x r
      h' = subst (λ (z : Thread). F.Proceeds b t c.variable left z r) (sym (same_thread e)) h

      by_step : (x ≡ h'.last) ⊎ Next p w steps s' t done raises deferral pauses n c (stages k.world) (raised_at k.world)
          → Next p w steps s' t done raises deferral pauses n c (stages k.world) (raised_at k.world)
      by_step (inl there) =
          completed x r thread proc point list work (omega (arith, all x Runs _ refl enough))
          (subst (λ (z : Thread). Completes b t c.variable z r) (sym there) h'.completes) low moves
      by_step (inr next) = next
  from_stand o q pt l (returns {x = y} r fits h mark) proc point list x enough thread e low moves =
      returns_step p w steps s c k t woken done raises deferral pauses s' n number few awake r x fits point list proc
      (ap (look (code_of p) t) (same_thread e) ∙ h)
      (ap (λ (i : Thread). last_mark (mark_of (marks_of p) i)) (same_thread e) ∙ mark) (omega
      (arith, all x Runs _ refl enough)) moves
  from_stand o q pt l (inside {x = x'} {y = y} {pt = at} left kind u few' walk fits same ne stands) proc point list
      x enough thread e low moves =
      inside_any p w steps s c k t woken done raises deferral pauses s' n number few awake paused kind u at left x y
      few'
      (subst (λ (v : Thread). StepsWithin b t left v y) (sym (same_thread e)) walk) fits same ne stands proc point list
      enough low moves
  from_stand o q pt l (faults fault) proc point list x enough thread e low moves =
      dies_step p w steps s c k t woken done raises deferral pauses s' n number few awake fault point
      (proc ∙ ap (λ (i : List ℕ). Some (Dying (Faulted fault) i)) (sym list))
      (omega (arith, all x (P.Dies (Faulted fault) NoEntry) _ refl enough))
      (subst (λ (v : Thread). StepsWhole p done raises deferral (mark_of (marks_of p) v) s t woken (look
      (code_of p) t v) s') (same_thread e) moves)
  from_stand o q pt l (killed {x = pending} of) proc point list x enough thread e low moves =
      killed_step p w steps s c k t woken done raises deferral pauses s' n number few awake pending of point
      (proc ∙ ap (λ (i : List ℕ). Some (Dying Killed (monitors_left (last_of pending) i))) (sym list))
      (omega (arith, all x (P.Dies Killed pending) _ refl enough))
      (subst (λ (v : Thread). StepsWhole p done raises deferral (mark_of (marks_of p) v) s t woken (look
      (code_of p) t v) s') (same_thread e) moves)
  from_stand o q pt l (refused {child = child} {x = y} {q = r} {joining = joining} left few' h o' steady) proc point
      list x enough thread e low moves =
      walking x y (Dies' (Faulted HandleNotJoinable)) left (same_thread e) h
      (λ there. refused_step p w steps s c k t woken done raises deferral pauses s' n number few awake child r joining
      x proc
      list
      point steady o' there moves)
      (λ z m g plain le more. goes_local p w steps s c k t woken done raises deferral pauses s' n x z _ _ _ proc point
      list
      (refused m (omega (arith, le, few')) more o' steady)
      (omega (arith, le, all x (MeetsClaimed child) _ refl enough)) g plain moves)
  from_stand o q pt l (reads {child = child} {x = y} {into = i} {part = part} {f = f} {cs = cs} left few' is j h) proc
      point list x enough thread e low moves =
      walking x y j.reads left (same_thread e) h
      (λ there. read_step p w steps s c k t woken done raises deferral pauses s' n number few awake paused child i part
      f cs is
      j list x
      there proc point (omega (arith, all x (JoinReads child) _ refl enough)) low moves)
      (λ z m g plain le more. goes_local p w steps s c k t woken done raises deferral pauses s' n x z _ _ _ proc point
      list
      (reads m (omega (arith, le, few')) is j more)
      (omega (arith, le, all x (JoinReads child) _ refl enough)) g plain moves)
  from_stand o q pt l (sleeps {child = child} {x = y} {into = i} {part = part} {f = f} {cs = cs} left few' is j h) proc
      point list x enough thread e low moves =
      walking x y j.sleeps left (same_thread e) h
      (λ there. sleep_step p w steps s c k t woken done raises deferral pauses s' n number few awake paused child i
      part f cs
      is
      j list x
      there proc point (omega (arith, enough, spare_most (look (code_of p) t x) (JoinSleeps child))) low moves)
      (λ z m g plain le more. goes_local p w steps s c k t woken done raises deferral pauses s' n x z _ _ _ proc point
      list
      (sleeps m (omega (arith, le, few')) is j more) (omega
      (arith, le, enough, spare_goes (look (code_of p) t x) z (JoinSleeps child) g)) g plain moves)
  from_stand o q pt l (learns {child = child} {end = end} {x = y} {into = i} {part = part} {f = f} {cs = cs} left few'
      is
      j h) proc point list x enough thread e low moves =
      walking x y j.learns left (same_thread e) h
      (λ there. learn_step p w steps s c k t woken done raises deferral pauses s' n number few awake paused child i
      part f cs
      is
      j list x
      end there proc point (omega (arith, all x (JoinLearns child end) _ refl enough)) low moves)
      (λ z m g plain le more. goes_local p w steps s c k t woken done raises deferral pauses s' n x z _ _ _ proc point
      list
      (learns m (omega (arith, le, few')) is j more)
      (omega (arith, le, all x (JoinLearns child end) _ refl enough)) g plain moves)
  from_stand o q pt l (takes {child = child} {z = z} {x = y} {into = i} {part = part} {f = f} {cs = cs} left few' is j
      h)
      proc point list x enough thread e low moves =
      walking x y j.takes left (same_thread e) h
      (λ there. take_step p w steps s c k t woken done raises deferral pauses s' n number few awake paused child i part
      f cs is
      j list x
      z there proc point (omega (arith, all x (JoinTakes child (Ended z)) _ refl enough)) low moves)
      (λ v m g plain le more. goes_local p w steps s c k t woken done raises deferral pauses s' n x v _ _ _ proc point
      list
      (takes m (omega (arith, le, few')) is j more)
      (omega (arith, le, all x (JoinTakes child (Ended z)) _ refl enough)) g plain moves)
  from_stand o q pt l (walks {e = zero} {x = pending} {end = end} phase is short ends of) proc point list x enough
      thread e low moves =
      walk_step p w steps s c k t woken done raises deferral pauses s' n number few awake pending end of zero phase is
      (subst (λ (i : List ℕ). entries_seen phase + length i ≤ 64) (sym list) short)
      (subst (λ (i : List ℕ). IsEnding end (monitors_left (last_of pending) i)) (sym list) ends)
      (proc ∙ ap (λ (i : List ℕ). Some (ending end (monitors_left (last_of pending) i))) (sym list)) point
      (all x (Walks zero pending end) _ refl enough)
      (subst (λ (v : Thread). StepsWhole p done raises deferral (mark_of (marks_of p) v) s t woken
      (look (code_of p) t v) s')
      (same_thread e) moves)
  from_stand o q pt l (walks {e = suc m} {x = pending} {end = end} phase is short ends of) proc point list x enough
      thread e low moves =
      walk_step p w steps s c k t woken done raises deferral pauses s' n number few awake pending end of (suc m) phase
      is
      (subst (λ (i : List ℕ). entries_seen phase + length i ≤ 64) (sym list) short)
      (subst (λ (i : List ℕ). IsEnding end (monitors_left (last_of pending) i)) (sym list) ends)
      (proc ∙ ap (λ (i : List ℕ). Some (ending end (monitors_left (last_of pending) i))) (sym list)) point
      (all x (Walks (suc m) pending end) _ refl enough)
      (subst (λ (v : Thread). StepsWhole p done raises deferral (mark_of (marks_of p) v) s t woken
      (look (code_of p) t v) s')
      (same_thread e) moves)
  from_stand o q pt l (clears {end = end}) proc point list x enough thread e low moves =
      clear_step p w steps s c k t woken done raises deferral pauses s' n number few awake end proc point
      (subst (λ (v : Thread). StepsWhole p done raises deferral (mark_of (marks_of p) v) s t woken
      (look (code_of p) t v) s')
      (same_thread e) moves)
  from_stand o q pt l (wakes {end = end}) proc point list x enough thread e low moves =
      wake_step p w steps s c k t woken done raises deferral pauses s' n number few awake end proc point
      (all x (LastWakes end) _ refl enough)
      (subst (λ (v : Thread). StepsWhole p done raises deferral (mark_of (marks_of p) v) s t woken
      (look (code_of p) t v) s')
      (same_thread e) moves)
  from_stand o q pt l rests proc point list x enough thread e low moves =
      absurd (subst (λ (v : Thread). StepsWhole p done raises deferral (mark_of (marks_of p) v) s t woken (look
      (code_of p) t v) s') (same_thread e) moves)

module _ (p : Program) (w : WellFormed p) (steps : ℕ) (s : State) (c : SourceState) (k : Corresponds p w steps s c)
    (t : ℕ) (woken : List ℕ) (s' : State) (x : Thread) (thread : s.thread t ≡ Some x) (awake : s.asleep t ≡ None)
    (done raises : Bool) (deferral : Option Kind)
    (moves : StepsWhole p done raises deferral (mark_of (marks_of p) x) s t woken (look (code_of p) t x) s')
    (low : IsLow k.world.sequence (look (code_of p) t x)) where
  -- with as many steps to spare as a call has pieces before its last
  pub next_spared : Next p w steps s' t done raises deferral (is_paused s' t)
      (left_of p w k t - spare_step (look (code_of p) t x) (k.world.at t).point) c (stages k.world) (raised_at k.world)
  next_spared =
      from_stand p w steps s c k t woken done raises deferral (is_paused s' t) s'
      (left_of p w k t - spare_step (look (code_of p) t x) (k.world.at t).point)
      (number_of p w steps s c k t x thread) (few_made p w steps s c k)
      (awake_at (place p) (s.asleep t) (k.world.asleep t) (k.shares.sleeps t) awake) refl (s.thread t)
      (c.process t) (k.world.at t).point (k.world.at t).list (k.threads t) refl refl refl x (omega arith)
      thread thread low moves

  pub next : Next p w steps s' t done raises deferral (is_paused s' t) (left_of p w k t) c (stages k.world) (raised_at
      k.world)
  next =
      let n = next_spared in
      record {
        after = n.after;
        ties = n.ties;
        kinds = n.kinds;
        own = n.own;
        leads = n.leads;
        stage = n.stage;
        staged = n.staged;
        raised = n.raised;
        places = n.places;
        paced = λ goes. elim (n.paced goes) [ inl some ↦ inl some | inr less ↦ inr (omega (arith, less)) ];
      }
