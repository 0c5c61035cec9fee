-- A thread that waits on a condition follows the protocol, and its process waits and resumes with it.
use Rattle.std.proofs.Common.{inl, inr, ◌≡◌, ◌≢◌, ℕ, zero, suc, ◌+◌, ◌<◌, ◌≤◌, ◌==◌, Bool, true, false, List, []}
use Rattle.std.proofs.Common.{Option, Some, None, refl, sym, ◌∙◌, subst, arith}
use Rattle.std.specs.Prelude.{if◌then◌else◌}
use Rattle.words.specs.Process.{process_word}
use Rattle.words.specs.Versions.{most_of}
use Rattle.program.specs.declared.kinds.Member.{Member}
use Rattle.locals.specs.declared.frame.Locals.{Locals}
use Rattle.locals.specs.declared.frame.Frame.{Frame as MachineFrame}
use Rattle.locals.specs.Threads.{Thread, Runs as Runs'}
use Rattle.locals.specs.Looks.{AskStore}
use Rattle.lowering.specs.declared.mark.Mark.TheVariants.{Resume}
use Rattle.meaning.specs.Labels.{End}
use Rattle.meaning.specs.Labels as L
use Rattle.meaning.specs.Table.{Table}
use Rattle.meaning.specs.Values.{Variables}
use Rattle.meaning.specs.Processes.{Frame, Caller, Process, Suspended, goes_on, recovers as recovers'}
use Rattle.meaning.specs.Offers.{Offer, TakesUp, Nothing}
use Rattle.protocol.specs.Word.{owner, owner_died_bit, waiters, with_waiters}
use Rattle.protocol.specs.Carries.{Event, Acts, has_died}
use Rattle.protocol.specs.Points.{Purpose, ToResume, ToWait, Point, Runs, GotReads, GotUnpends, TakeReads, TakeMarks}
use Rattle.protocol.specs.Points.{TakeSleeps, TakeTries, HasLeft, LeaveWakes}
use Rattle.protocol.specs.World.{World}
use Rattle.proof_thread.specs.Following.{Build, recovery_in, Stands}
use Rattle.proof_thread.specs.Builds.{IsBuild}
use Rattle.proof_templates.specs.Asking.{AsksSo}
use Rattle.proof_templates.specs.Locking.{Takes, WaitsAt, template_locals}
use Rattle.proof_templates.specs.Locking as T
use Rattle.proof_templates.specs.Inside.{Template, Waits, lock_taker, WaitFits}
use Rattle.proof_templates.specs.Templates.{ActsSo, StandsOn, Comes, Follows}
use Rattle.proof_templates.proofs.Locking.{to_enter, to_recover, unpends_look}
use Rattle.proof_templates.proofs.Leavings.{waits_ask, waits_taking}
use Rattle.proof_templates.proofs.Taken.{owned_alone, taken_free, taken_abandoned, taken_holds, follows_by}
use Rattle.protocol.specs.Rules.{release_of}
use Rattle.words.specs.declared.version.ImageVersion.{ImageVersion}
use Rattle.words.specs.declared.version.ImageVersion.TheVariants.{One, Two, Linux}
use Rattle.lowering.specs.Conditions.{wait_takes, wait_recovers}
use Rattle.lowering.specs.Locks.{leave_length}

recovers_behind : (v : ImageVersion) → wait_recovers v ≡ wait_takes v + 49
recovers_behind One = refl
recovers_behind Two = refl
recovers_behind Linux = refl

module _ (b : Build) (vs : Variables) (t : ℕ) (c : Member) (base : ℕ) (l : Locals) (fs : List MachineFrame)
    (before : Process) (f : Frame) (cs : List Caller) (ms : List ℕ) (is : IsBuild b) (some : 0 < t)
    (few : t ≤ most_of b.code.image.version)
    (fits : WaitFits b vs t c base l fs before f cs ms) where
  abbrev k : Template
  k = Waits c base l fs before f cs ms

  abbrev m : ℕ
  m = c.monitor

  abbrev K : Purpose
  K = ToResume c

  abbrev In : Point → Thread → Type 0
  In = WaitsAt (leave_length b.program.version) (release_of b.program.version) b.program t c base l fs

  abbrev at : ℕ → ℕ → Thread
  at i word = Runs' (base + wait_takes b.program.version + i) [] (template_locals l.values word) fs

  -- the process does what a step carries, and the thread stands at the next point
  abbrev On : Option Event → Point → Thread → Type 0
  On event pt y = (q' : Process) × ActsSo b.program vs t event (Suspended c f cs) q' × StandsOn b t k pt ms y q'

  asks : (pt : Point) (x : Thread) → (pt ≡ Runs → ⊥) → In pt x
      → AsksSo (release_of b.program.version) b.program b.code t In pt x
  asks = waits_ask b.program.version b.program b.code t base c (recovery_in b c.monitor) l fs fits.code some few

  after_swap : (x : Bool) (v : ℕ) (y : Thread) → In (if x then HasLeft m (ToWait c v) else LeaveWakes m (ToWait c v)) y
      → StandsOn b t k (if x then HasLeft m (ToWait c v) else LeaveWakes m (ToWait c v)) ms y (Suspended c f cs)
  after_swap true v y s = inl ((λ n. absurd cc), s, refl, refl)
  after_swap false v y s = inl ((λ n. absurd cc), s, refl, refl)

  after_read : (x : Bool) (r : ℕ) (y : Thread) → In (if x then TakeTries m r K else TakeMarks m r K) y
      → On None (if x then TakeTries m r K else TakeMarks m r K) y
  after_read true r y s = (Suspended c f cs, refl, inl ((λ n. absurd cc), s, refl, refl))
  after_read false r y s = (Suspended c f cs, refl, inl ((λ n. absurd cc), s, refl, refl))

  after_mark : (x : Bool) (v : ℕ) (y : Thread) → In (if x then TakeSleeps m v K else TakeReads m K) y
      → On None (if x then TakeSleeps m v K else TakeReads m K) y
  after_mark true v y s = (Suspended c f cs, refl, inl ((λ n. absurd cc), s, refl, refl))
  after_mark false v y s = (Suspended c f cs, refl, inl ((λ n. absurd cc), s, refl, refl))

  after_try : (x : Bool) (v : ℕ) (y : Thread) → In (if x then GotReads m v else TakeReads m K) y
      → On (if x then Some (Acts t (L.Resumes m (has_died v))) else None) (if x then GotReads m v else TakeReads m K) y
  after_try true v y s = (
    lock_taker b.program m f cs v,
    (refl, (has_died v, refl, refl, refl)),
    inl ((λ n. absurd cc), s, refl, refl),
  )
  after_try false v y s = (Suspended c f cs, refl, inl ((λ n. absurd cc), s, refl, refl))

  -- with nothing pending any more
  module _ (w : World) (table : Table) (e : End) (r : ℕ) (w' : World) where
    got : (v n : ℕ) → owner_died_bit v ≡ n → Comes b vs t k (GotUnpends m v) w table e r w' (at 45 v)
    got v zero free = record {
      thread = at 50 v;
      walk = to_enter (release_of b.program.version) b.program b.code t m K (Resume m) (recovery_in b m) base
          (wait_takes b.program.version) l.values fs
          (waits_taking b.program.version b.program b.code t base c (recovery_in b m) l fs fits.code some few) some
          few v free;
      process = lock_taker b.program m f cs v;
      acts = refl;
      stands = inr (
        refl,
        subst (λ (q : Process). Stands b t (at 50 v) q) (sym (taken_free b m f cs v free))
            (subst (λ n. Stands b t (Runs' n [] (template_locals l.values v) fs) (goes_on (Some m) f cs)) (let k =
            recovers_behind b.program.version in omega (arith, k))
            (fits.after.enters v)),
        sym (taken_holds b is m f cs v (owned_alone m f cs fits.own) ∙ fits.held),
      );
    }
    got v (suc n) dead = got_abandoned v (λ z. omega (arith, dead, z))
      where
        got_abandoned : (v : ℕ) → owner_died_bit v ≢ 0 → Comes b vs t k (GotUnpends m v) w table e r w' (at 45 v)
        got_abandoned v ne = record {
          thread = at 49 v;
          walk = to_recover (release_of b.program.version) b.program b.code t m K (Resume m) (recovery_in b m) base
              (wait_takes b.program.version) l.values fs
              (waits_taking b.program.version b.program b.code t base c (recovery_in b m) l fs fits.code some few)
              some few v ne;
          process = lock_taker b.program m f cs v;
          acts = refl;
          stands = inr (
            refl,
            subst (λ (q : Process). Stands b t (at 49 v) q) (sym (taken_abandoned b m f cs v ne))
                (subst (λ n. Stands b t (Runs' n [] (template_locals l.values v) fs) (recovers' b.program m f cs))
                (let k = recovers_behind b.program.version in omega (arith, k))
                (fits.after.recovers v)),
            sym (taken_holds b is m f cs v (owned_alone m f cs fits.own) ∙ fits.held),
          );
        }

  takes_go : (pt : Point) (x : Thread) → pt ≢ Runs → In pt x
      → Takes b.program t m K (base + wait_takes b.program.version) l.values fs pt x
      → Follows b vs t k pt x
  takes_go pt x inside s (T.Takes.reads word) = follows_by b vs t k pt x (asks pt x inside s)
      (λ w tb e r w' y may z. after_read (owner r == 0) r y z)
  takes_go pt x inside s (T.Takes.marks v) = follows_by b vs t k pt x (asks pt x inside s)
      (λ w tb e r w' y may z. after_mark (r == v) (with_waiters v) y z)
  takes_go pt x inside s (T.Takes.sleeps v) = follows_by b vs t k pt x (asks pt x inside s)
      (λ w tb e r w' y may z. (Suspended c f cs, refl, inl ((λ n. absurd cc), z, refl, refl)))
  takes_go pt x inside s (T.Takes.tries v) = follows_by b vs t k pt x (asks pt x inside s)
      (λ w tb e r w' y may z. after_try (r == v) v y z)
  takes_go pt x inside s (T.Takes.heads v) = follows_by b vs t k pt x (asks pt x inside s)
      (λ w tb e r w' y may z. (lock_taker b.program m f cs v, refl, inl ((λ n. absurd cc), z, refl, refl)))
  takes_go pt x inside s (T.Takes.links v h) = follows_by b vs t k pt x (asks pt x inside s)
      (λ w tb e r w' y may z. (lock_taker b.program m f cs v, refl, inl ((λ n. absurd cc), z, refl, refl)))
  takes_go pt x inside s (T.Takes.lists v) = follows_by b vs t k pt x (asks pt x inside s)
      (λ w tb e r w' y may z. (lock_taker b.program m f cs v, refl, inl ((λ n. absurd cc), z, refl, refl)))
  takes_go pt x inside s (T.Takes.unpends v) = record {
    asks = AskStore (process_word t 1) 0;
    go = λ r. at 45 v;
    same = refl;
    look = unpends_look (release_of b.program.version) b.program b.code t m K (Resume m) (recovery_in b m) base
        (wait_takes b.program.version) l.values fs
        (waits_taking b.program.version b.program b.code t base c (recovery_in b m) l fs fits.code some few) some few v;
    goes = λ w tb e r w' may. got w tb e r w' v (owner_died_bit v) refl;
  }
  takes_go pt x inside s (T.Takes.enters v e) = absurd (inside refl)
  takes_go pt x inside s (T.Takes.recovers v e) = absurd (inside refl)

  pub waits_go : (pt : Point) (x : Thread) → pt ≢ Runs → In pt x → Follows b vs t k pt x
  waits_go pt x inside T.WaitsAt.numbers = follows_by b vs t k pt x (asks pt x inside T.WaitsAt.numbers)
      (λ w tb e r w' y may z. (before, refl, inl ((λ n. absurd cc), z, refl, refl)))
  waits_go pt x inside (T.WaitsAt.pends v) = follows_by b vs t k pt x (asks pt x inside (T.WaitsAt.pends v))
      (λ w tb e r w' y may z. (before, refl, inl ((λ n. absurd cc), z, refl, refl)))
  waits_go pt x inside (T.WaitsAt.reads v) = follows_by b vs t k pt x (asks pt x inside (T.WaitsAt.reads v))
      (λ w tb e r w' y may z. (before, refl, inl ((λ n. absurd cc), z, refl, refl)))
  waits_go pt x inside (T.WaitsAt.cuts v h) = follows_by b vs t k pt x (asks pt x inside (T.WaitsAt.cuts v h))
      (λ w tb e r w' y may z. (before, refl, inl ((λ n. absurd cc), z, refl, refl)))
  waits_go pt x inside (T.WaitsAt.swaps v) = follows_by b vs t k pt x (asks pt x inside (T.WaitsAt.swaps v))
      (λ w tb e r w' y may z. (
        Suspended c f cs,
        (
          refl,
          subst (λ (o : Offer). TakesUp o (L.Waits c) Nothing (Suspended c f cs)) (sym fits.offers)
              (refl, refl, refl),
        ),
        after_swap (waiters r == 0) v y z,
      ))
  waits_go pt x inside (T.WaitsAt.wakes v) = follows_by b vs t k pt x (asks pt x inside (T.WaitsAt.wakes v))
      (λ w tb e r w' y may z. (Suspended c f cs, refl, inl ((λ n. absurd cc), z, refl, refl)))
  waits_go pt x inside (T.WaitsAt.sleeps v) = follows_by b vs t k pt x (asks pt x inside (T.WaitsAt.sleeps v))
      (λ w tb e r w' y may z. (Suspended c f cs, refl, inl ((λ n. absurd cc), z, refl, refl)))
  waits_go pt x inside (T.WaitsAt.takes h) = takes_go pt x inside (T.WaitsAt.takes h) h
