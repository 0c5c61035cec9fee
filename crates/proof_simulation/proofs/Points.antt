-- What the points of a template say of its thread.
use Rattle.std.proofs.Common.{◌≡◌, ◌≢◌, ℕ, ◌+◌, ◌<◌, true, List, length, Option, Some, None, refl, sym, subst}
use Rattle.std.specs.Prelude.{◌≤◌, is_some, slice_get}
use Rattle.words.specs.Versions.{most_of}
use Rattle.program.specs.declared.kinds.Member.{Member}
use Rattle.program.specs.declared.kinds.MemberType.TheVariants.{Condition}
use Rattle.program.specs.Trees.{Monitor, Program}
use Rattle.program.specs.Scope.{member_in, member_type}
use Rattle.locals.specs.Threads.{Thread}
use Rattle.locals.specs.declared.frame.Locals.{Locals}
use Rattle.locals.specs.declared.frame.Frame.{Frame as MachineFrame}
use Rattle.meaning.specs.Values.{Variables}
use Rattle.protocol.specs.Points.{Purpose, ToEnter, ToReenter, ToResume, Point, Runs, GotHeads}
use Rattle.protocol.specs.Requests.{request}
use Rattle.protocol.specs.Cells.{SequenceOf}
use Rattle.proof_thread.specs.Following.{Build}
use Rattle.proof_templates.specs.Layout.{valid, is_process, is_monitor}
use Rattle.proof_templates.specs.Locking.{Takes, EntersAt, ExitsAt, WaitsAt}
use Rattle.proof_templates.specs.Notifying.{NotifiesAt, BroadcastsAt}
use Rattle.proof_templates.specs.Locking as L
use Rattle.proof_templates.specs.Notifying as N
use Rattle.proof_templates.specs.Inside.{Template, Enters, Exits, Waits, Notifies, Broadcasts, StandsIn, TemplateFits}
use Rattle.proof_templates.proofs.Layouts.{number_is, monitor_valid, monitor_below, sequence_valid}
use Rattle.proof_simulation.specs.Serving.{IsAskable}
use Rattle.proof_simulation.proofs.Ranking.{IsTemplate}
use Rattle.protocol.specs.Rules.{release_of}
use Rattle.words.specs.declared.version.ImageVersion.{ImageVersion}
use Rattle.words.specs.declared.version.ImageVersion.TheVariants.{One, Two, Linux}
use Rattle.protocol.specs.Requests.{given_up}
use Rattle.lowering.specs.Conditions.{wait_takes}
use Rattle.lowering.specs.Locks.{leave_length}

-- all about a thread in the taking of a lock
record Taking (p : Program) (t m : ℕ) (pt : Point) : Type 0 where
  template : IsTemplate pt
  askable : IsAskable p (request (release_of p.version) t pt)
  got : (n v : ℕ) → pt ≡ GotHeads n v → n ≡ m

module _ (p : Program) (t : ℕ) (some : 0 < t) (few : t ≤ most_of p.version) where
  mine : is_process p t ≡ true
  mine = number_is p t some few

  taking : (m : ℕ) (k : Purpose) (first : ℕ) (values : List ℕ) (fs : List MachineFrame) (pt : Point) (x : Thread)
      → is_monitor p m ≡ true → pt ≢ Runs → Takes p t m k first values fs pt x → Taking p t m pt
  taking m k first values fs pt x there ne (L.Takes.reads v) =
      record { template = tt; askable = there; got = λ n u e. absurd cc }
  taking m k first values fs pt x there ne (L.Takes.marks v) =
      record { template = tt; askable = there; got = λ n u e. absurd cc }
  taking m k first values fs pt x there ne (L.Takes.sleeps v) =
      record { template = tt; askable = there; got = λ n u e. absurd cc }
  taking m k first values fs pt x there ne (L.Takes.tries v) =
      record { template = tt; askable = there; got = λ n u e. absurd cc }
  taking m k first values fs pt x there ne (L.Takes.heads v) =
      record { template = tt; askable = mine; got = λ n u e. absurd cc }
  taking m k first values fs pt x there ne (L.Takes.links v h) =
      record { template = tt; askable = there; got = λ n u e. absurd cc }
  taking m k first values fs pt x there ne (L.Takes.lists v) =
      record { template = tt; askable = mine; got = λ n u e. cc }
  taking m k first values fs pt x there ne (L.Takes.unpends v) =
      record { template = tt; askable = mine; got = λ n u e. absurd cc }
  taking m k first values fs pt x there ne (L.Takes.enters v h) = absurd (ne refl)
  taking m k first values fs pt x there ne (L.Takes.recovers v h) = absurd (ne refl)

  entering : (m base : ℕ) (l : Locals) (fs : List MachineFrame) (pt : Point) (x : Thread) → is_monitor p m ≡ true
      → pt ≢ Runs → EntersAt p t m base l fs pt x → Taking p t m pt
  entering m base l fs pt x there ne L.EntersAt.pends =
      record { template = tt; askable = mine; got = λ n u e. absurd cc }
  entering m base l fs pt x there ne L.EntersAt.tries =
      record { template = tt; askable = there; got = λ n u e. absurd cc }
  entering m base l fs pt x there ne (L.EntersAt.takes h) =
      taking m ToEnter (base + 11) l.values fs pt x there ne h
  entering m base l fs pt x there ne L.EntersAt.pends_again =
      record { template = tt; askable = mine; got = λ n u e. absurd cc }
  entering m base l fs pt x there ne L.EntersAt.tries_again =
      record { template = tt; askable = there; got = λ n u e. absurd cc }
  entering m base l fs pt x there ne (L.EntersAt.takes_again h) =
      taking m ToReenter (base + 11) l.values fs pt x there ne h

  swap_askable : (v : ImageVersion) (m : ℕ) → is_monitor p m ≡ true
      → IsAskable p (given_up (release_of v) t m)
  swap_askable One m there = there
  swap_askable Two m there = there
  swap_askable Linux m there = there

  exiting : (m base : ℕ) (shown : Option ℕ) (l : Locals) (fs : List MachineFrame) (pt : Point) (x : Thread)
      → is_monitor p m ≡ true → pt ≢ Runs → ExitsAt (leave_length p.version) (release_of p.version) p t m base shown l
      fs pt x → Taking p t m pt
  exiting m base shown l fs pt x there ne L.ExitsAt.pends =
      record { template = tt; askable = mine; got = λ n u e. absurd cc }
  exiting m base shown l fs pt x there ne L.ExitsAt.reads =
      record { template = tt; askable = there; got = λ n u e. absurd cc }
  exiting m base shown l fs pt x there ne (L.ExitsAt.cuts h) =
      record { template = tt; askable = mine; got = λ n u e. absurd cc }
  exiting m base shown l fs pt x there ne L.ExitsAt.swaps =
      record { template = tt; askable = swap_askable p.version m there; got = λ n u e. absurd cc }
  exiting m base shown l fs pt x there ne L.ExitsAt.wakes =
      record { template = tt; askable = there; got = λ n u e. absurd cc }
  exiting m base shown l fs pt x there ne L.ExitsAt.unpends =
      record { template = tt; askable = mine; got = λ n u e. absurd cc }
  exiting m base shown l fs pt x there ne L.ExitsAt.goes = absurd (ne refl)

  deferred : (c : Member) (base : ℕ) (l : Locals) (fs : List MachineFrame) (pt : Point) (x : Thread)
      → is_monitor p c.monitor ≡ true → valid p (SequenceOf c) ≡ true → pt ≢ Runs
      → WaitsAt (leave_length p.version) (release_of p.version) p t c base l fs pt x
      → Taking p t c.monitor pt
  deferred c base l fs pt x there is ne L.WaitsAt.numbers =
      record { template = tt; askable = is; got = λ n u e. absurd cc }
  deferred c base l fs pt x there is ne (L.WaitsAt.pends v) =
      record { template = tt; askable = mine; got = λ n u e. absurd cc }
  deferred c base l fs pt x there is ne (L.WaitsAt.reads v) =
      record { template = tt; askable = there; got = λ n u e. absurd cc }
  deferred c base l fs pt x there is ne (L.WaitsAt.cuts v h) =
      record { template = tt; askable = mine; got = λ n u e. absurd cc }
  deferred c base l fs pt x there is ne (L.WaitsAt.swaps v) =
      record { template = tt; askable = swap_askable p.version c.monitor there; got = λ n u e. absurd cc }
  deferred c base l fs pt x there is ne (L.WaitsAt.wakes v) =
      record { template = tt; askable = there; got = λ n u e. absurd cc }
  deferred c base l fs pt x there is ne (L.WaitsAt.sleeps v) =
      record { template = tt; askable = is; got = λ n u e. absurd cc }
  deferred c base l fs pt x there is ne (L.WaitsAt.takes h) =
      taking c.monitor (ToResume c) (base + wait_takes p.version) l.values fs pt x there ne h

  notifying : (c : Member) (base : ℕ) (l : Locals) (fs : List MachineFrame) (pt : Point) (x : Thread)
      → valid p (SequenceOf c) ≡ true → pt ≢ Runs → NotifiesAt p c base l fs pt x → Taking p t c.monitor pt
  notifying c base l fs pt x is ne N.NotifiesAt.adds =
      record { template = tt; askable = is; got = λ n u e. absurd cc }
  notifying c base l fs pt x is ne N.NotifiesAt.wakes =
      record { template = tt; askable = is; got = λ n u e. absurd cc }
  notifying c base l fs pt x is ne N.NotifiesAt.goes = absurd (ne refl)

  broadcasting : (c : Member) (base : ℕ) (l : Locals) (fs : List MachineFrame) (pt : Point) (x : Thread)
      → is_monitor p c.monitor ≡ true → valid p (SequenceOf c) ≡ true → pt ≢ Runs
      → BroadcastsAt p c base l fs pt x → Taking p t c.monitor pt
  broadcasting c base l fs pt x there is ne N.BroadcastsAt.adds =
      record { template = tt; askable = is; got = λ n u e. absurd cc }
  broadcasting c base l fs pt x there is ne N.BroadcastsAt.marks =
      record { template = tt; askable = there; got = λ n u e. absurd cc }
  broadcasting c base l fs pt x there is ne N.BroadcastsAt.reads =
      record { template = tt; askable = is; got = λ n u e. absurd cc }
  broadcasting c base l fs pt x there is ne (N.BroadcastsAt.moves v) =
      record { template = tt; askable = (is, there); got = λ n u e. absurd cc }
  broadcasting c base l fs pt x there is ne N.BroadcastsAt.goes = absurd (ne refl)

  -- a condition's monitor is one of the program
  home : (c : Member) → member_type p c ≡ Some Condition → is_monitor p c.monitor ≡ true
  home c e = by_monitor (slice_get p.monitors c.monitor) e
    where
      by_monitor : (o : Option Monitor) → member_in o c.number ≡ Some Condition → is_some o ≡ true
      by_monitor None h = absurd cc
      by_monitor (Some x) h = refl

  -- all about a thread in a template: the point is one of a template, its request names words that there are, and it
  -- takes a monitor of the program
  pub record InTemplate (pt : Point) : Type 0 where
    pub template : IsTemplate pt
    pub askable : IsAskable p (request (release_of p.version) t pt)
    pub got : (n v : ℕ) → pt ≡ GotHeads n v → n < length p.monitors

  in_all : (m : ℕ) (pt : Point) → is_monitor p m ≡ true → Taking p t m pt → InTemplate pt
  in_all m pt there k = record {
    template = k.template;
    askable = k.askable;
    got = λ n v e. subst (λ i. i < length p.monitors) (sym (k.got n v e)) (monitor_below p m there);
  }

  pub in_template : (b : Build) (same : b.program ≡ p) (u : Variables) (k : Template) (pt : Point) (x : Thread)
      → TemplateFits b u t k → pt ≢ Runs → StandsIn p t k pt x → InTemplate pt
  in_template b same u (Enters m base l fs f cs) pt x fit ne stands =
      let there = monitor_valid p m (subst (λ (q : Program). m < length q.monitors) same fit.monitor) in
      in_all m pt there (entering m base l fs pt x there ne stands)
  in_template b same u (Exits m base shown l fs before z cs) pt x fit ne stands =
      let there = monitor_valid p m (subst (λ (q : Program). m < length q.monitors) same fit.monitor) in
      in_all m pt there (exiting m base shown l fs pt x there ne stands)
  in_template b same u (Waits c base l fs before f cs ms) pt x fit ne stands =
      let is = subst (λ (q : Program). member_type q c ≡ Some Condition) same fit.condition in
      in_all c.monitor pt (home c is) (deferred c base l fs pt x (home c is) (sequence_valid p c is) ne stands)
  in_template b same u (Notifies c base l fs before after ms) pt x fit ne stands =
      let is = subst (λ (q : Program). member_type q c ≡ Some Condition) same fit.condition in
      in_all c.monitor pt (home c is) (notifying c base l fs pt x (sequence_valid p c is) ne stands)
  in_template b same u (Broadcasts c base l fs before after ms) pt x fit ne stands =
      let is = subst (λ (q : Program). member_type q c ≡ Some Condition) same fit.condition in
      in_all c.monitor pt (home c is) (broadcasting c base l fs pt x (home c is) (sequence_valid p c is) ne stands)
