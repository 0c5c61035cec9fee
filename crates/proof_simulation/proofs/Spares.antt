-- A thread before a futex call has more steps left than the call has pieces; and how many it has left along a trace.
use Rattle.std.proofs.Common.{◌≡◌, ◌≢◌, ℕ, zero, suc, ◌+◌, ◌-◌, ◌<◌, ◌≤◌, true, false, List, length, Option, Some, None}
use Rattle.std.proofs.Common.{refl, ap, sym, ◌∙◌, subst, arith, pos}
use Rattle.words.specs.declared.outcome.Fault.TheVariants.{HandleNotJoinable}
use Rattle.words.specs.Versions.{most_of}
use Rattle.robustexit.specs.declared.phase.ExitPhase.{ExitPhase}
use Rattle.robustexit.specs.declared.phase.ExitPhase.TheVariants.{Entry, Pending, ClearId, LastWake, Ended}
use Rattle.isa.specs.Programs.{Program as Image}
use Rattle.locals.specs.Threads.{Thread, Dies as Dies'}
use Rattle.locals.specs.Looks.{Request, AskWait, AskWake, AskRequeue, Look, Asks, exit_look, look}
use Rattle.machine.specs.States.{State}
use Rattle.program.specs.Trees.{Program}
use Rattle.program.specs.WellFormed.{WellFormed}
use Rattle.lowering.specs.Pieces.{code_of}
use Rattle.meaning.specs.Labels.{Faulted}
use Rattle.meaning.specs.Values.{Variables}
use Rattle.meaning.specs.Processes.{Process, holds, callers_monitors}
use Rattle.meaning.specs.States.{SourceState}
use Rattle.protocol.specs.Points.{Point, Runs}
use Rattle.protocol.specs.World.{World, mem}
use Rattle.protocol.specs.Requests.{request}
use Rattle.proof_thread.specs.Walks.{View, WalksWithin, Walks as WalkData, stays, goes, loads, empty_view}
use Rattle.proof_thread.specs.Following.{Build, own_of}
use Rattle.proof_thread.specs.Completing.{Completes}
use Rattle.proof_thread.specs.Completing as F
use Rattle.refinement.specs.Built.{build_of, marked_image}
use Rattle.refinement.proofs.Building.{is_build}
use Rattle.proof_templates.specs.Asking.{template_steps}
use Rattle.proof_templates.specs.Inside.{Template, Enters, Exits, Waits, Notifies, Broadcasts, StandsIn, first_thread}
use Rattle.proof_templates.specs.Inside.{first_point, TemplateFits, IsSteady}
use Rattle.proof_templates.proofs.Follows.{follows}
use Rattle.proof_templates.proofs.Begins.{begins}
use Rattle.proof_simulation.specs.Standing as S
use Rattle.proof_simulation.specs.Standing.{StandsAt}
use Rattle.proof_simulation.specs.Ranks.{more_steps, steps_left}
use Rattle.proof_simulation.specs.Corresponding.{Corresponds}
use Rattle.proof_pieces.specs.Traces.{pieces_before, pieces_of}
use Rattle.proof_simulation.proofs.Standings.{first_in}
use Rattle.proof_simulation.proofs.Moving.{left_of}
use Rattle.proof_simulation.proofs.Ranking.{spare_at, spare_step}
use Rattle.proof_simulation.proofs.Bounds.{is_call, call_spare, rank_some}
use Rattle.proof_simulation.proofs.Observing.{number_of, few_made}

pub pieces_few : (l : Look) → pieces_before l ≤ 3
pieces_few (Asks (AskWait a expected) go) = omega arith
pieces_few (Asks (AskWake a n) go) = omega arith
pieces_few (Asks (AskRequeue a b n m expected) go) = omega arith
pieces_few other = omega arith

-- as many are spared at the point of a call
pub pieces_spare : (l : Look) (pt : Point) → (0 < pieces_before l → spare_at pt ≡ 3)
    → pieces_before l ≤ spare_step l pt
pieces_spare (Asks (AskWait a expected) go) pt h = let three = h (omega arith) in omega (arith, three)
pieces_spare (Asks (AskWake a n) go) pt h = let three = h (omega arith) in omega (arith, three)
pieces_spare (Asks (AskRequeue a b n m expected) go) pt h = let three = h (omega arith) in omega (arith, three)
pieces_spare other pt h = omega arith

call_of : (r : Request) (go : ℕ → Thread) → 0 < pieces_before (Asks r go) → is_call r ≡ true
call_of (AskWait a expected) go h = refl
call_of (AskWake a n) go h = refl
call_of (AskRequeue a b n m expected) go h = refl
call_of request go h = absurd (omega (arith, h))

exit_calls : (phase : ExitPhase) → pieces_before (exit_look phase) ≡ 0
exit_calls (Entry e seen) = refl
exit_calls Pending = refl
exit_calls ClearId = refl
exit_calls LastWake = refl
exit_calls Ended = refl

-- no template begins with a call
first_inside : (k : Template) → first_point false k ≢ Runs
first_inside (Enters m base l fs f cs) e = cc
first_inside (Exits m base shown l fs before z cs) e = cc
first_inside (Waits c base l fs before f cs ms) e = cc
first_inside (Notifies c base l fs before after ms) e = cc
first_inside (Broadcasts c base l fs before after ms) e = cc

first_spares : (k : Template) → spare_at (first_point false k) ≡ 0
first_spares (Enters m base l fs f cs) = refl
first_spares (Exits m base shown l fs before z cs) = refl
first_spares (Waits c base l fs before f cs ms) = refl
first_spares (Notifies c base l fs before after ms) = refl
first_spares (Broadcasts c base l fs before after ms) = refl

module _ (p : Program) (w : WellFormed p) (made : ℕ) (t : ℕ) where
  abbrev b : Build
  b = build_of p w made

  abbrev pieces : Thread → ℕ
  pieces x = pieces_before (look (code_of p) t x)

  abbrev view : Option ℕ → Variables → View
  view own v = record { program = p; own = own; variables = v }

  none : (x : Thread) (l : Look) → look (code_of p) t x ≡ l → pieces_before l ≡ 0 → 0 < pieces x → ⊥
  none x l e is some = let same : pieces x ≡ 0 = ap pieces_before e ∙ is in omega (arith, same, some)

  -- a thread on its way to another comes to no call before that
  walk_calls : (A : Type 0) (own : Option ℕ) (v : Variables) (n : ℕ) (x z : Thread)
      → WalkData (marked_image p) t (view own v) n x z → (0 < pieces z → A) → 0 < pieces x → A
  walk_calls A own v n x z stays h some = h some
  walk_calls A own v n x z (goes e plain more) h some = absurd (none x _ e refl some)
  walk_calls A own v n x z (loads e r more) h some = absurd (none x _ e refl some)

  steps_calls : (A : Type 0) (n : ℕ) (x z : Thread) → WalksWithin (marked_image p) t (empty_view p) n x z
      → (0 < pieces z → A) → 0 < pieces x → A
  steps_calls A n x z walk h some = walk_calls A None (λ m i j. pos zero) walk.count x z walk.walk h some

  module _ (made_some : 0 < t) (few : t ≤ most_of p.version) where
    inside_calls : (u : Variables) (k : Template) (pt : Point) (y : Thread) → TemplateFits b u t k → pt ≢ Runs
        → StandsIn p t k pt y → 0 < pieces y → spare_at pt ≡ 3
    inside_calls u k pt y fits ne stands some =
        let f = follows b u t k (is_build p w made) made_some few fits pt y ne stands in
        call_spare p t pt f.asks f.same (call_of f.asks f.go (subst (λ (l : Look). 0 < pieces_before l) f.look some))

    begins_calls : (v : Variables) (k : Template) (x : Thread) → x ≡ first_thread k → TemplateFits b v t k
        → 0 < pieces x → ⊥
    begins_calls v k x is fits some =
        let g = begins b v t false k made_some few fits in
        let three = steps_calls (spare_at (first_point false k) ≡ 3) template_steps (first_thread k) g.thread g.walk
        (inside_calls v k (first_point false k) g.thread fits (first_inside k) g.stands)
        (subst (λ (z : Thread). 0 < pieces z) is some) in
        omega (arith, three, first_spares k)

    completes_calls : (v : Variables) (x : Thread) (q : Process)
        → ((m : ℕ) → mem m (holds q) ≡ true → m < length p.monitors) → IsSteady p q v → Completes b t v x q
        → 0 < pieces x → ⊥
    completes_calls v x q listed steady (F.acts kind own h m o st) some = none x _ h refl some
    completes_calls v x q listed steady (F.prints n go h o st) some = none x _ h refl some
    completes_calls v x q listed steady (F.stores m i z go own has is fits h o st) some = none x _ h refl some
    completes_calls v x q listed steady (F.returns h m e) some = none x _ h refl some
    completes_calls v x q listed steady (F.leaves None fits h m o) some = none x _ h refl some
    completes_calls v x q listed steady (F.leaves (Some n) fits h m o) some = none x _ h refl some
    completes_calls v x q listed steady (F.forks entry arguments go h full o mine its empty) some =
        none x _ h refl some
    completes_calls v x q listed steady (F.claims child go is made' most h o j to bad) some = none x _ h refl some
    completes_calls v x q listed steady (F.faults fault e o) some =
        none x _ (ap (look (code_of p) t) e) refl some
    completes_calls v x q listed steady (F.enters {m = m} {f = f} {cs = cs} {l = l} {fs = fs} base e is below held
        code after) some =
        begins_calls v (Enters m base l fs f cs) x is
        (record { monitor = below; held = held; code = code; after = after }) some
    completes_calls v x q listed steady (F.exits {z = z} {cs = cs} {l = l} {fs = fs} m base shown o held is code
        after) some =
        begins_calls v (Exits m base shown l fs q z cs) x is
        (record {
          monitor = listed m (first_in m (callers_monitors cs) (holds q) held);
          offers = o;
          steady = steady;
          held = held;
          code = code;
          after = after;
        }) some
    completes_calls v x q listed steady (F.waits {f = f} {cs = cs} {l = l} {fs = fs} {ms = ms} c base is o had own
        held e code after) some =
        begins_calls v (Waits c base l fs q f cs ms) x e (record {
          condition = is;
          offers = o;
          steady = steady;
          had = had;
          own = own;
          held = held;
          code = code;
          after = after;
        }) some
    completes_calls v x q listed steady (F.notifies {r = r} {l = l} {fs = fs} c base is o has keeps e code after)
        some =
        begins_calls v (Notifies c base l fs q r has.0) x e (record {
          condition = is;
          offers = o;
          steady = steady;
          held = has.1;
          keeps = keeps;
          code = code;
          goes = after;
        }) some
    completes_calls v x q listed steady (F.broadcasts {r = r} {l = l} {fs = fs} c base is o has keeps e code after)
        some =
        begins_calls v (Broadcasts c base l fs q r has.0) x e (record {
          condition = is;
          offers = o;
          steady = steady;
          held = has.1;
          keeps = keeps;
          code = code;
          goes = after;
        }) some

    spared : (v : Variables) (world : World) (o : Option Thread) (q : Option Process) (pt : Point) (l : List ℕ)
        → ((m : ℕ) → mem m l ≡ true → m < length p.monitors) → (stand : StandsAt b v t o q pt l)
        → 0 < pieces_of (code_of p) t o → (spare_at pt ≡ 3) × (3 < steps_left b v t world stand)
    spared v world o q pt l listed S.unmade some = absurd (omega (arith, some))
    spared v world o q pt l listed (S.works {x = x} {q = r} left few' k work) some =
        absurd (walk_calls ⊥ (own_of r) v k.walk.count x k.last k.walk.walk
        (completes_calls v k.last r listed work.steady k.completes) some)
    spared v world o q pt l listed (S.returns {x = x} None fits k mark) some = absurd (none x _ k refl some)
    spared v world o q pt l listed (S.returns {x = x} (Some n) fits k mark) some = absurd (none x _ k refl some)
    spared v world o q pt l listed (S.inside {x = x} {y = y} {pt = at} left k u few' walk fits same ne stands) some =
        let three = steps_calls (spare_at at ≡ 3) left x y walk (inside_calls u k at y fits ne stands) some in
        let more = rank_some (more_steps b) world at three in
        (three, omega (arith, more))
    spared v world o q pt l listed (S.faults fault) some = absurd (omega (arith, some))
    spared v world o q pt l listed (S.killed of) some = absurd (omega (arith, some))
    spared v world o q pt l listed (S.refused {x = x} {q = r} left few' k o' steady) some =
        absurd (steps_calls ⊥ left x (Dies' (Faulted HandleNotJoinable)) k (λ h. omega (arith, h)) some)
    spared v world o q pt l listed (S.reads {x = x} left few' is j k) some =
        absurd (steps_calls ⊥ left x j.reads k (λ h. none j.reads _ j.read refl h) some)
    spared v world o q pt l listed (S.sleeps left few' is j k) some = (refl, omega arith)
    spared v world o q pt l listed (S.learns {x = x} left few' is j k) some =
        absurd (steps_calls ⊥ left x j.learns k (λ h. none j.learns _ j.outcome refl h) some)
    spared v world o q pt l listed (S.takes {x = x} left few' is j k) some =
        absurd (steps_calls ⊥ left x j.takes k (λ h. none j.takes _ j.result refl h) some)
    spared v world o q pt l listed (S.walks phase is short en of) some =
        let zero' = exit_calls phase in absurd (omega (arith, zero', some))
    spared v world o q pt l listed S.clears some = absurd (omega (arith, some))
    spared v world o q pt l listed S.wakes some = absurd (omega (arith, some))
    spared v world o q pt l listed S.rests some = absurd (omega (arith, some))

-- so a thread that stands before a call
pub spares : (p : Program) (w : WellFormed p) (steps : ℕ) (s : State) (c : SourceState) (k : Corresponds p w steps s c)
    (t : ℕ) → 0 < pieces_of (code_of p) t (s.thread t)
    → (spare_at (k.world.at t).point ≡ 3) × (3 < left_of p w k t)
spares p w steps s c k t some = by_thread (s.thread t) refl
  where
    by_thread : (o : Option Thread) → s.thread t ≡ o → (spare_at (k.world.at t).point ≡ 3) × (3 < left_of p w k t)
    by_thread None e =
        let same : pieces_of (code_of p) t (s.thread t) ≡ 0 = ap (pieces_of (code_of p) t) e in
        absurd (omega (arith, same, some))
    by_thread (Some x) e =
        let number = number_of p w steps s c k t x e in
        let few = few_made p w steps s c k in
        spared p w k.world.made t number.0 (omega (arith, number.1, few)) c.variable k.world (s.thread t) (c.process t)
        (k.world.at t).point (k.world.at t).list (k.lists t) (k.threads t) some

pub few_pieces : (image : Image) (t : ℕ) (o : Option Thread) → pieces_of image t o ≤ 3
few_pieces image t None = omega arith
few_pieces image t (Some x) = pieces_few (look image t x)

pub spared_at : (p : Program) (w : WellFormed p) (steps : ℕ) (s : State) (c : SourceState)
    (k : Corresponds p w steps s c) (t : ℕ) (x : Thread) → s.thread t ≡ Some x
    → pieces_of (code_of p) t (s.thread t) ≤ spare_step (look (code_of p) t x) (k.world.at t).point
spared_at p w steps s c k t x stands =
    subst (λ (o : Option Thread). pieces_of (code_of p) t o ≤ spare_step (look (code_of p) t x) (k.world.at t).point)
    (sym stands) (pieces_spare (look (code_of p) t x) (k.world.at t).point (λ some. (spares p w steps s c k t
    (subst (λ (o : Option Thread). 0 < pieces_of (code_of p) t o) (sym stands) some)).0))

-- how many steps a thread has left along a trace: none while it sleeps, for its call has but its last piece before it;
-- else as many as with whole calls, less the pieces that it has taken
abbrev pub left_in_trace : (asleep : Option ℕ) → (left taken : ℕ) → ℕ
left_in_trace None left taken = left - taken
left_in_trace (Some a) left taken = 0

pub trace_few : (asleep : Option ℕ) (left taken most : ℕ) → left ≤ most → left_in_trace asleep left taken ≤ most
trace_few None left taken most h = omega (arith, h)
trace_few (Some a) left taken most h = omega arith

-- fewer behind a loud step, by as much as its call has pieces
pub trace_less : (asleep asleep' : Option ℕ) (left left' taken taken' pieces : ℕ) → asleep ≡ None → taken ≤ pieces
    → left' + pieces < left → left_in_trace asleep' left' taken' < left_in_trace asleep left taken
trace_less None None left left' taken taken' pieces awake few less = omega (arith, few, less)
trace_less None (Some a) left left' taken taken' pieces awake few less = omega (arith, few, less)
trace_less (Some a) asleep' left left' taken taken' pieces awake few less = absurd cc

-- none behind one by which the thread falls asleep
pub trace_none : (asleep asleep' : Option ℕ) (left left' taken taken' a : ℕ) → asleep ≡ None → asleep' ≡ Some a
    → taken < left → left_in_trace asleep' left' taken' < left_in_trace asleep left taken
trace_none None None left left' taken taken' a awake sleeps less = absurd cc
trace_none None (Some x) left left' taken taken' a awake sleeps less = omega (arith, less)
trace_none (Some x) asleep' left left' taken taken' a awake sleeps less = absurd cc

-- one fewer behind a silent one
pub trace_one : (asleep : Option ℕ) (left taken taken' : ℕ) → asleep ≡ None → taken' ≡ suc taken → taken < left
    → left_in_trace asleep left taken' < left_in_trace asleep left taken
trace_one None left taken taken' awake more less = omega (arith, more, less)
trace_one (Some a) left taken taken' awake more less = absurd cc
