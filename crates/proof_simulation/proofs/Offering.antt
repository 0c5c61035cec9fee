-- What a process offers inside a template, over the variables as they are now.
use Rattle.std.proofs.Common.{◌≡◌, ℕ, ◌+◌, ◌==◌, Bool, true, false, List, Option, Some, None, refl, sym, subst}
use Rattle.std.specs.Prelude.{if◌then◌else◌}
use Rattle.program.specs.Trees.{Program}
use Rattle.locals.specs.Threads.{Thread}
use Rattle.locals.specs.declared.frame.Frame.{Frame as MachineFrame}
use Rattle.meaning.specs.Labels.{End}
use Rattle.meaning.specs.Table.{Table}
use Rattle.meaning.specs.Values.{Variables}
use Rattle.meaning.specs.Processes.{Frame, Caller, Process}
use Rattle.meaning.specs.Offers.{Nothing, Offer, offer, TakesUp}
use Rattle.protocol.specs.Word.{owner}
use Rattle.protocol.specs.Points.{Purpose, ToEnter, ToReenter, ToResume, ToExit, ToWait, Point, EnterTries}
use Rattle.protocol.specs.Points.{ReenterTries, TakeReads, TakeMarks, TakeTries, JoinReads, JoinLearns, LeaveSwaps}
use Rattle.protocol.specs.Points.{HasLeft, WaitReads, LeavePends, LeaveReads, LeaveHeads, Walks}
use Rattle.protocol.specs.World.{World}
use Rattle.protocol.specs.Carries.{Event, Acts, Strays, Kills}
use Rattle.protocol.specs.Answers.{next}
use Rattle.protocol.specs.Served.{source_event}
use Rattle.proof_thread.specs.Following.{Build}
use Rattle.proof_templates.specs.Locking.{Takes, EntersAt, ExitsAt, WaitsAt}
use Rattle.proof_templates.specs.Locking as L
use Rattle.proof_templates.specs.Inside.{Template, Enters, Exits, Waits, Notifies, Broadcasts, process_at}
use Rattle.proof_templates.specs.Inside.{taking_process}
use Rattle.proof_templates.specs.Inside.{StandsIn, TemplateFits, IsBeforeRelease, SameBefore}
use Rattle.proof_templates.specs.Templates.{ActsSo}
use Rattle.proof_simulation.proofs.Ranking.{IsTemplate}
use Rattle.lowering.specs.Conditions.{wait_takes}

-- what a process that takes up an offer does is the same of an equal offer
acts_by : (p : Program) (u v : Variables) (t : ℕ) (e : Option Event) (q r : Process)
    → ((a : Event) → e ≡ Some a → offer p v q ≡ offer p u q) → ActsSo p u t e q r → ActsSo p v t e q r
acts_by p u v t None q r same h = h
acts_by p u v t (Some (Acts i label)) q r same h =
    (h.0, subst (λ (o : Offer). TakesUp o label Nothing r) (sym (same (Acts i label) refl)) h.1)
acts_by p u v t (Some (Strays i c)) q r same h = h
acts_by p u v t (Some (Kills i c us)) q r same h = h

module _ (w : World) (T : Table) (t r : ℕ) (w' : World) (e : End) (a : Event) where
  abbrev Carries : Point → Type 0
  Carries pt = source_event w T t pt r w' e ≡ Some a

  -- before the lock is taken the process enters or resumes, whatever the variables are
  take_offers : (p : Program) (u v : Variables) (m : ℕ) (k : Purpose) (first : ℕ) (values : List ℕ)
      (fs : List MachineFrame) (f : Frame) (cs : List Caller) (before : Process) (pt : Point) (x : Thread)
      → offer p v before ≡ offer p u before → Takes p t m k first values fs pt x → Carries pt
      → offer p v (taking_process p m f cs before pt) ≡ offer p u (taking_process p m f cs before pt)
  take_offers p u v m k first values fs f cs before pt x same (L.Takes.reads i) h = same
  take_offers p u v m k first values fs f cs before pt x same (L.Takes.marks i) h = same
  take_offers p u v m k first values fs f cs before pt x same (L.Takes.sleeps i) h = same
  take_offers p u v m k first values fs f cs before pt x same (L.Takes.tries i) h = same
  take_offers p u v m k first values fs f cs before pt x same (L.Takes.heads i) h = absurd cc
  take_offers p u v m k first values fs f cs before pt x same (L.Takes.links i j) h = absurd cc
  take_offers p u v m k first values fs f cs before pt x same (L.Takes.lists i) h = absurd cc
  take_offers p u v m k first values fs f cs before pt x same (L.Takes.unpends i) h = absurd cc
  take_offers p u v m k first values fs f cs before pt x same (L.Takes.enters i g) h = same
  take_offers p u v m k first values fs f cs before pt x same (L.Takes.recovers i g) h = same

  -- what the process offers where a step carries an action is the same over the variables as they are
  pub offers_now : (b : Build) (u v : Variables) (k : Template) (pt : Point) (x : Thread) → TemplateFits b u t k
      → SameBefore k pt u v → StandsIn b.program t k pt x → Carries pt
      → offer b.program v (process_at b.program k pt) ≡ offer b.program u (process_at b.program k pt)
  offers_now b u v (Enters m base l fs f cs) pt x fit same L.EntersAt.pends h = absurd cc
  offers_now b u v (Enters m base l fs f cs) pt x fit same L.EntersAt.tries h = refl
  offers_now b u v (Enters m base l fs f cs) pt x fit same (L.EntersAt.takes g) h =
      take_offers b.program u v m ToEnter (base + 11) l.values fs f cs _ pt x refl g h
  offers_now b u v (Enters m base l fs f cs) pt x fit same L.EntersAt.pends_again h = absurd cc
  offers_now b u v (Enters m base l fs f cs) pt x fit same L.EntersAt.tries_again h = absurd cc
  offers_now b u v (Enters m base l fs f cs) pt x fit same (L.EntersAt.takes_again g) h =
      take_offers b.program u v m ToReenter (base + 11) l.values fs f cs _ pt x refl g h
  offers_now b u v (Exits m base shown l fs before z cs) pt x fit same L.ExitsAt.pends h = absurd cc
  offers_now b u v (Exits m base shown l fs before z cs) pt x fit same L.ExitsAt.reads h = absurd cc
  offers_now b u v (Exits m base shown l fs before z cs) pt x fit same (L.ExitsAt.cuts i) h = absurd cc
  offers_now b u v (Exits m base shown l fs before z cs) pt x fit same L.ExitsAt.swaps h = fit.steady.same v (same tt)
  offers_now b u v (Exits m base shown l fs before z cs) pt x fit same L.ExitsAt.wakes h = absurd cc
  offers_now b u v (Exits m base shown l fs before z cs) pt x fit same L.ExitsAt.unpends h = absurd cc
  offers_now b u v (Exits m base shown l fs before z cs) pt x fit same L.ExitsAt.goes h = refl
  offers_now b u v (Waits c base l fs before f cs ms) pt x fit same L.WaitsAt.numbers h = absurd cc
  offers_now b u v (Waits c base l fs before f cs ms) pt x fit same (L.WaitsAt.pends i) h = absurd cc
  offers_now b u v (Waits c base l fs before f cs ms) pt x fit same (L.WaitsAt.reads i) h = absurd cc
  offers_now b u v (Waits c base l fs before f cs ms) pt x fit same (L.WaitsAt.cuts i j) h = absurd cc
  offers_now b u v (Waits c base l fs before f cs ms) pt x fit same (L.WaitsAt.swaps i) h = fit.steady.same v (same tt)
  offers_now b u v (Waits c base l fs before f cs ms) pt x fit same (L.WaitsAt.wakes i) h = absurd cc
  offers_now b u v (Waits c base l fs before f cs ms) pt x fit same (L.WaitsAt.sleeps i) h = absurd cc
  offers_now b u v (Waits c base l fs before f cs ms) pt x fit same (L.WaitsAt.takes g) h =
      wait_offers g h
    where
      wait_offers : {at : Point} {y : Thread} → Takes b.program t c.monitor (ToResume c) (base + wait_takes
          b.program.version) l.values fs at y
          → Carries at → offer b.program v (process_at b.program (Waits c base l fs before f cs ms) at)
          ≡ offer b.program u (process_at b.program (Waits c base l fs before f cs ms) at)
      wait_offers (L.Takes.reads i) h = refl
      wait_offers (L.Takes.marks i) h = refl
      wait_offers (L.Takes.sleeps i) h = refl
      wait_offers (L.Takes.tries i) h = refl
      wait_offers (L.Takes.heads i) h = absurd cc
      wait_offers (L.Takes.links i j) h = absurd cc
      wait_offers (L.Takes.lists i) h = absurd cc
      wait_offers (L.Takes.unpends i) h = absurd cc
      wait_offers (L.Takes.enters i g) h = refl
      wait_offers (L.Takes.recovers i g) h = refl
  offers_now b u v (Notifies c base l fs before after ms) pt x fit same stands h = fit.steady.same v same
  offers_now b u v (Broadcasts c base l fs before after ms) pt x fit same stands h = fit.steady.same v same

-- and so is what it does
pub acts_now : (w : World) (T : Table) (t r : ℕ) (w' : World) (e : End) (b : Build) (u v : Variables) (k : Template)
    (pt : Point) (x : Thread) (q : Process) → TemplateFits b u t k → SameBefore k pt u v → StandsIn b.program t k pt x
    → ActsSo b.program u t (source_event w T t pt r w' e) (process_at b.program k pt) q
    → ActsSo b.program v t (source_event w T t pt r w' e) (process_at b.program k pt) q
acts_now w T t r w' e b u v k pt x q fit same stands h =
    acts_by b.program u v t (source_event w T t pt r w' e) (process_at b.program k pt) q
    (λ a is. offers_now w T t r w' e a b u v k pt x fit same stands is) h

-- a point before the release of a monitor is led to only from such a point
chosen_none : (b : Bool) (x y : Point) → (IsBeforeRelease x → ⊥) → (IsBeforeRelease y → ⊥)
    → IsBeforeRelease (if b then x else y) → ⊥
chosen_none true x y h g r = h r
chosen_none false x y h g r = g r

pub release_back : (w : World) (e : End) (pt : Point) (r : ℕ) → IsTemplate pt → IsBeforeRelease (next w e pt r)
    → IsBeforeRelease pt
release_back w e (EnterTries m) r is h = absurd (chosen_none (r == 0) _ _ (λ z. z) (λ z. z) h)
release_back w e (ReenterTries m) r is h = absurd (chosen_none (r == 0) _ _ (λ z. z) (λ z. z) h)
release_back w e (TakeReads m k) r is h = absurd (chosen_none (owner r == 0) _ _ (λ z. z) (λ z. z) h)
release_back w e (TakeMarks m v k) r is h = absurd (chosen_none (r == v) _ _ (λ z. z) (λ z. z) h)
release_back w e (TakeTries m v k) r is h = absurd (chosen_none (r == v) _ _ (λ z. z) (λ z. z) h)
release_back w e (WaitReads c) r is h = tt
release_back w e (LeavePends m k) r is h = tt
release_back w e (LeaveReads m k) r is h = tt
release_back w e (LeaveHeads m g k) r is h = tt
release_back w e (LeaveSwaps m k) r is h = tt
release_back w e (HasLeft m ToExit) r is h = absurd h
release_back w e (HasLeft m (ToWait c s)) r is h = absurd h
release_back w e (JoinReads q) r is h = absurd is
release_back w e (JoinLearns q end) r is h = absurd is
release_back w e (Walks x y end) r is h = absurd is
release_back w e pt r is h = absurd h

-- the variables stay as they were before the template to the next point
pub same_next : (w : World) (e : End) (k : Template) (pt : Point) (r : ℕ) (u v : Variables) → IsTemplate pt
    → SameBefore k pt u v → SameBefore k (next w e pt r) u v
same_next w e (Enters m base l fs f cs) pt r u v is same = tt
same_next w e (Exits m base shown l fs before z cs) pt r u v is same = λ h. same (release_back w e pt r is h)
same_next w e (Waits c base l fs before f cs ms) pt r u v is same = λ h. same (release_back w e pt r is h)
same_next w e (Notifies c base l fs before after ms) pt r u v is same = same
same_next w e (Broadcasts c base l fs before after ms) pt r u v is same = same
