-- What lock words tell, which processes were made, and why a thread sleeps, of states that belong together.
use Rattle.std.proofs.Common.{◌≡◌, ◌⊎◌, ℕ, zero, suc, ◌<◌, true, false, not, ◌==◌, is_some, Option, Some, None, List, refl}
use Rattle.std.proofs.Common.{sym, ap, ◌∙◌, subst, inl, inr, arith, length}
use Rattle.std.proofs.lemmas.Bool.{false≢true, eqb-true}
use Rattle.words.specs.LockWord.{owner_of, died_of}
use Rattle.words.specs.Process.{process_word}
use Rattle.locals.specs.Threads.{Thread}
use Rattle.machine.specs.States.{State}
use Rattle.program.specs.declared.kinds.Member.{Member}
use Rattle.program.specs.Trees.{Part, Program}
use Rattle.program.specs.WellFormed.{WellFormed}
use Rattle.lowering.specs.Layout.{lock_word_address, member_address}
use Rattle.meaning.specs.Table.{Hold, Free, Abandoned, HeldBy}
use Rattle.meaning.specs.Values.{Variables}
use Rattle.meaning.specs.Processes.{Frame, Caller, Process, Entering, Suspended, Joining}
use Rattle.meaning.specs.States.{SourceState}
use Rattle.protocol.specs.Word.{owner, owner_died_bit}
use Rattle.protocol.specs.Points.{Purpose, ToEnter, ToReenter, ToResume, Spot, OnLock, OnSequence, OnId, Point, Unmade}
use Rattle.protocol.specs.Points.{TakeReads, JoinReads, JoinSleeps}
use Rattle.protocol.specs.Cells.{Cell, LockOf, cell_of}
use Rattle.protocol.specs.Exits.{sleep_address}
use Rattle.protocol.specs.Rules.{ReleaseRule, ClearsWord, release_of, version_rules}
use Rattle.protocol.specs.Runs.{FreeIs, HoldIs, Matches}
use Rattle.protocol.proofs.Good.{Good}
use Rattle.protocol.proofs.Rest.{no_wake_lost}
use Rattle.protocol.proofs.Roles.{may_sleep, point_sleeps}
use Rattle.protocol.proofs.Joins.{joins, point_joins}
use Rattle.protocol.proofs.Conds.{Stage, stage, stage_of}
use Rattle.refinement.specs.Built.{build_of}
use Rattle.refinement.specs.Monitors.{hold_told, machine_hold, SleepsFor, StandsAsleep}
use Rattle.refinement.specs.Monitors as M
use Rattle.proof_templates.specs.Layout.{place}
use Rattle.proof_templates.specs.Locking as L
use Rattle.proof_templates.specs.Notifying as N
use Rattle.proof_templates.specs.Inside.{Template, Enters, Exits, Waits, Notifies, Broadcasts, process_at, StandsIn}
use Rattle.proof_templates.proofs.Layouts.{monitor_valid}
use Rattle.proof_simulation.specs.Standing as S
use Rattle.proof_simulation.specs.Standing.{StandsAt}
use Rattle.proof_simulation.specs.Corresponding.{Corresponds}
use Rattle.proof_simulation.proofs.Worlds.{reached_good}

-- a thread was made just where its process was
made_both : (p : Program) (w : WellFormed p) (made : ℕ) (v : Variables) (t : ℕ) (o : Option Thread)
    (q : Option Process) (pt : Point) (l : List ℕ) → StandsAt (build_of p w made) v t o q pt l → is_some o ≡ is_some q
made_both p w made v t o q pt l S.unmade = refl
made_both p w made v t o q pt l stand = refl

-- what a lock word tells is the monitor's state
told_free : (u : ReleaseRule) (v : ℕ) → FreeIs u v → hold_told (owner_of v) (died_of v) ≡ Free
unfolding owner owner_died_bit
told_free ClearsWord v is = subst (λ n. hold_told (owner_of n) (died_of n) ≡ Free) (sym is) refl
told_free u v is = ap (λ n. hold_told n (died_of v)) is.0 ∙ ap (λ n. hold_told 0 (not (n == 0))) is.1

told_held : (t : ℕ) → 0 < t → hold_told t false ≡ HeldBy t
told_held zero some = absurd (omega (arith, some))
told_held (suc t) some = refl

told : (u : ReleaseRule) (h : Hold) (v : ℕ) → HoldIs u h v → hold_told (owner_of v) (died_of v) ≡ h
unfolding owner owner_died_bit
told u Free v is = told_free u v is
told u (HeldBy t) v is =
    ap (λ n. hold_told n (died_of v)) is.0 ∙ ap (λ n. hold_told t (not (n == 0))) is.2 ∙ told_held t is.1
told u Abandoned v is = ap (λ n. hold_told n (died_of v)) is.0 ∙ ap (λ n. hold_told 0 (not (n == 0))) is.1

-- a process that takes a monitor's lock, for this purpose
pub data Takes (m : ℕ) : Purpose → Process → Type 0 where
  enters : (f : Frame) (cs : List Caller) → Takes m ToEnter (Entering m f cs)
  enters_again : (f : Frame) (cs : List Caller) → Takes m ToReenter (Entering m f cs)
  resumes : {c : Member} (f : Frame) (cs : List Caller) → m ≡ c.monitor → Takes m (ToResume c) (Suspended c f cs)

-- a process that joins another
pub data Joins (child : ℕ) : Process → Type 0 where
  joins_it : (into : Option ℕ) (part : Part) (f : Frame) (cs : List Caller) → Joins child (Joining child into part f cs)

-- where the process stands of a thread at such a point
abbrev Stood : Point → Process → Type 0
Stood (TakeReads m k) q = Takes m k q
Stood (JoinReads child) q = Joins child q
Stood (JoinSleeps child) q = Joins child q
Stood pt q = Unit {0}

module _ (p : Program) (t : ℕ) where
  inside_stood : (k : Template) (pt : Point) (x : Thread) → StandsIn p t k pt x → Stood pt (process_at p k pt)
  inside_stood (Enters m base l fs f cs) pt x (L.EntersAt.takes (L.Takes.reads word)) = enters f cs
  inside_stood (Enters m base l fs f cs) pt x (L.EntersAt.takes h) = tt
  inside_stood (Enters m base l fs f cs) pt x (L.EntersAt.takes_again (L.Takes.reads word)) = enters_again f cs
  inside_stood (Enters m base l fs f cs) pt x (L.EntersAt.takes_again h) = tt
  inside_stood (Enters m base l fs f cs) pt x h = tt
  inside_stood (Exits m base shown l fs q z cs) pt x L.ExitsAt.pends = tt
  inside_stood (Exits m base shown l fs q z cs) pt x h = tt
  inside_stood (Waits c base l fs q f cs ms) pt x (L.WaitsAt.takes (L.Takes.reads word)) = resumes f cs refl
  inside_stood (Waits c base l fs q f cs ms) pt x (L.WaitsAt.takes h) = tt
  inside_stood (Waits c base l fs q f cs ms) pt x h = tt
  inside_stood (Notifies c base l fs q r ms) pt x N.NotifiesAt.adds = tt
  inside_stood (Notifies c base l fs q r ms) pt x h = tt
  inside_stood (Broadcasts c base l fs q r ms) pt x N.BroadcastsAt.adds = tt
  inside_stood (Broadcasts c base l fs q r ms) pt x h = tt

  same_process : {x y : Process} → Some y ≡ Some x → y ≡ x
  same_process e = cc

  module _ (w : WellFormed p) (made : ℕ) (v : Variables) where
    stood : (o : Option Thread) (q : Option Process) (pt : Point) (l : List ℕ)
        → StandsAt (build_of p w made) v t o q pt l → (r : Process) → q ≡ Some r → Stood pt r
    stood o q pt l S.unmade r e = tt
    stood o q pt l (S.inside {y = y} {pt = at} left k u few walk fits same ne stands) r e =
        subst (λ x. Stood at x) (same_process e) (inside_stood k at y stands)
    stood o q pt l (S.reads {child = child} {into = into} {part = part} {f = f} {cs = cs} left few c j h) r e =
        subst (λ x. Joins child x) (same_process e) (joins_it into part f cs)
    stood o q pt l (S.sleeps {child = child} {into = into} {part = part} {f = f} {cs = cs} left few c j h) r e =
        subst (λ x. Joins child x) (same_process e) (joins_it into part f cs)
    stood o q pt l stand r e = tt

    -- of a thread that was made, a process was
    process_there : (o : Option Thread) (q : Option Process) (pt : Point) (l : List ℕ)
        → StandsAt (build_of p w made) v t o q pt l → (pt ≡ Unmade → ⊥) → (r : Process) × (q ≡ Some r)
    process_there o None pt l S.unmade ne = absurd (ne refl)
    process_there o (Some r) pt l stand ne = (r, refl)

spot_of : (at : Cell → ℕ) (a : Option ℕ) (o : Option Spot) (x : ℕ) → a ≡ sleep_address at o → a ≡ Some x
    → (y : Spot) × (o ≡ Some y) × (at (cell_of y) ≡ x)
spot_of at a None x e h = absurd (cc (e, h))
spot_of at a (Some y) x e h = (y, refl, cc (e, h))

taking_at : (pt : Point) (m : ℕ) → point_sleeps pt m ≡ true → (k : Purpose) × (pt ≡ TakeReads m k)
taking_at (TakeReads n k) m h = (k, ap (λ y. TakeReads y k) (sym (eqb-true m n h)))
taking_at pt m h = absurd (false≢true h)

joining_at : (pt : Point) (child : ℕ) → point_joins pt child ≡ true → (pt ≡ JoinReads child) ⊎ (pt ≡ JoinSleeps child)
joining_at (JoinReads n) child h = inl (ap JoinReads (sym (eqb-true child n h)))
joining_at (JoinSleeps n) child h = inr (ap JoinSleeps (sym (eqb-true child n h)))
joining_at pt child h = absurd (false≢true h)

module _ (p : Program) (w : WellFormed p) (steps : ℕ) (s : State) (c : SourceState)
    (k : Corresponds p w steps s c) where
  inv : Good k.world c.table
  inv = reached_good p.version k.world c.table k.reached

  table : Matches (version_rules p.version) k.world c.table
  table = subst (λ x. Matches (version_rules p.version) k.world x) (sym k.reached.table)
      (no_wake_lost p.version k.reached.moves k.world k.reached.led).matches

  pub made : (q : ℕ) → is_some (s.thread q) ≡ is_some (c.process q)
  made q = made_both p w k.world.made c.variable q (s.thread q) (c.process q) (k.world.at q).point (k.world.at q).list
      (k.threads q)

  pub locks : (m : ℕ) → m < length p.monitors → machine_hold p s m ≡ c.table.hold m
  locks m below =
      ap (λ v. hold_told (owner_of v) (died_of v)) (k.shares.words.word (LockOf m) (monitor_valid p m below))
      ∙ told (release_of p.version) (c.table.hold m) (k.world.lock m) (table.hold m)

  module _ (q : ℕ) where
    abbrev pt : Point
    pt = (k.world.at q).point

    stands_so : (pt ≡ Unmade → ⊥) → (r : Process) × (c.process q ≡ Some r) × Stood pt r
    stands_so ne =
        let r = process_there p q w k.world.made c.variable (s.thread q) (c.process q) pt (k.world.at q).list
        (k.threads q) ne in (
          r.0,
          r.1,
          stood p q w k.world.made c.variable (s.thread q) (c.process q) pt (k.world.at q).list (k.threads q)
              r.0 r.1,
        )

    either : (d : Member) → stage_of pt ≡ Stage.Past d → (c.table.waits q ≡ Some d) ⊎ (c.table.waits q ≡ None)
    unfolding stage
    either d is = inv.conds.past q d is

    takes_so : (m : ℕ) (u : Purpose) (r : Process) → pt ≡ TakeReads m u → Takes m u r
        → SleepsFor p c q (lock_word_address p m) r
    takes_so m ToEnter r is (enters f cs) = M.to_enter
    takes_so m ToReenter r is (enters_again f cs) = M.to_enter
    takes_so m (ToResume d) r is (resumes f cs same) =
        subst (λ n. SleepsFor p c q (lock_word_address p n) (Suspended d f cs)) (sym same)
        (M.to_resume (either d (ap stage_of is)))

    on_lock : (m : ℕ) → k.world.asleep q ≡ Some (OnLock m) → StandsAsleep p c q (lock_word_address p m)
    unfolding may_sleep
    on_lock m h =
        let at = taking_at pt m (inv.locks.sleeps m q h) in
        let r = stands_so (λ e. let z : Unmade ≡ TakeReads m at.0 = sym e ∙ at.1 in cc) in
        record {
          process = r.0;
          stands = r.1;
          sleeps_for = takes_so m at.0 r.0 at.1 (subst (λ x. Stood x r.0) at.1 r.2);
        }

    notified_so : (d : Member) (m : ℕ) (r : Process) → Takes m (ToResume d) r → c.table.waits q ≡ Some d
        → SleepsFor p c q (member_address p d) r
    notified_so d m r (resumes f cs same) waits = M.to_be_notified waits

    on_sequence : (d : Member) → k.world.asleep q ≡ Some (OnSequence d) → StandsAsleep p c q (member_address p d)
    on_sequence d h =
        let at = inv.conds.sleeping q d h in
        let r = stands_so (λ e. let z : Unmade ≡ TakeReads at.monitor (ToResume d) = sym e ∙ at.stands in cc) in
        record {
          process = r.0;
          stands = r.1;
          sleeps_for = notified_so d at.monitor r.0 (subst (λ x. Stood x r.0) at.stands r.2)
              (inv.conds.sleeper q d h);
        }

    joins_so : (child : ℕ) (r : Process) → Joins child r → SleepsFor p c q (process_word child 2) r
    joins_so child r (joins_it into part f cs) = M.to_join

    on_id : (child : ℕ) → k.world.asleep q ≡ Some (OnId child) → StandsAsleep p c q (process_word child 2)
    unfolding joins
    on_id child h = elim (joining_at pt child (inv.joiners.sleeps q child h)) [
      | inl is ↦
          let r = stands_so (λ e. let z : Unmade ≡ JoinReads child = sym e ∙ is in cc) in
          record {
            process = r.0;
            stands = r.1;
            sleeps_for = joins_so child r.0 (subst (λ x. Stood x r.0) is r.2);
          }
      | inr is ↦
          let r = stands_so (λ e. let z : Unmade ≡ JoinSleeps child = sym e ∙ is in cc) in
          record {
            process = r.0;
            stands = r.1;
            sleeps_for = joins_so child r.0 (subst (λ x. Stood x r.0) is r.2);
          }
    ]

    on_spot : (y : Spot) → k.world.asleep q ≡ Some y → StandsAsleep p c q (place p (cell_of y))
    on_spot (OnLock m) h = on_lock m h
    on_spot (OnSequence d) h = on_sequence d h
    on_spot (OnId child) h = on_id child h

    pub asleep : (a : ℕ) → s.asleep q ≡ Some a → StandsAsleep p c q a
    asleep a h =
        let y = spot_of (place p) (s.asleep q) (k.world.asleep q) a (k.shares.sleeps q) h in
        subst (λ x. StandsAsleep p c q x) y.2 (on_spot y.0 y.1)
