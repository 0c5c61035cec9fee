-- WAIT, NOTIFY and BROADCAST: a thread stands before the template, and where it goes on behind it.
use Rattle.std.proofs.Common.{◌≡◌, ℕ, ◌+◌, List, [], Option, Some, None, refl, subst, arith, ℤ, length, slice_get}
use Rattle.program.specs.declared.kinds.Member.{Member}
use Rattle.program.specs.Trees.{Statement, Wait, Notify, Broadcast, Block, Then, Procedure}
use Rattle.program.specs.Scope.{own_monitor, recover_of}
use Rattle.lowering.specs.Layout.{link_word, member_address}
use Rattle.lowering.specs.Conditions.{wait_code, wait_recovers}
use Rattle.lowering.specs.Marks.{plain, rebase, rebase_all}
use Rattle.lowering.specs.Statements.{start_in}
use Rattle.lowering.specs.Pieces.{setting_of}
use Rattle.locals.specs.declared.frame.Locals.{Locals}
use Rattle.locals.specs.declared.frame.Frame.{Frame as MachineFrame}
use Rattle.locals.specs.Threads.{Runs}
use Rattle.meaning.specs.Values.{Variables}
use Rattle.meaning.specs.Processes.{Caller, Before, goes_on, holds}
use Rattle.proof_thread.specs.Following.{Build, Implements, IsFrame, Stands, recovery_in}
use Rattle.proof_thread.specs.Completing.{HasFirst, GoesOn, Proceeds}
use Rattle.proof_thread.specs.Completing as F
use Rattle.proof_thread.specs.Builds.{IsBuild}
use Rattle.proof_thread.proofs.Contexts.{Context, frame_at, stands_on}
use Rattle.proof_thread.proofs.Stepping.{steps_of, as_it_stands, at_once}
use Rattle.proof_thread.proofs.Awaiting.{stand_index}
use Rattle.proof_thread.proofs.Holding.{own_first_by, goes_on_holds, main_alone}
use Rattle.proof_thread.proofs.Recovering.{moved_recovery, goes_on_here}
use Rattle.proof_thread.specs.Deferrals.{IsAt}
use Rattle.words.specs.declared.version.ImageVersion.{ImageVersion}
use Rattle.words.specs.declared.version.ImageVersion.TheVariants.{One, Two, Linux}
use Rattle.isa.specs.declared.instr.Instr.{Instr}

wait_long : (v : ImageVersion) (place : ℕ) (c : Member) (e s : ℕ) (r : Instr)
    → length (rebase_all place (wait_code v c e s r)) ≡ wait_recovers v + 1
wait_long One place c e s r = refl
wait_long Two place c e s r = refl
wait_long Linux place c e s r = refl

recovery_there : (v : ImageVersion) (place : ℕ) (c : Member) (e s : ℕ) (r : Instr)
    → slice_get (rebase_all place (wait_code v c e s r)) (wait_recovers v) ≡ Some (plain (rebase place r))
recovery_there One place c e s r = refl
recovery_there Two place c e s r = refl
recovery_there Linux place c e s r = refl

module _ (b : Build) (is : IsBuild b) (t : ℕ) (v : Variables) (place : ℕ) (l : Locals) (fs : List MachineFrame)
    (values : List ℤ) (rest : Block) (procedure : Procedure) (cs : List Caller) (entered : Option ℕ) where
  -- before the statement, the own monitor comes first among those that are held
  held : (s : Statement) → Context b t v place l fs values s rest procedure cs → (m : ℕ)
      → own_monitor procedure.role ≡ Some m → HasFirst (Before entered (frame_at procedure values (Then s rest)) cs) m
  held s c m own = own_first_by b m procedure.role c.number procedure fs cs refl c.callers own

  -- behind it, the same monitors are held
  still_held : (s : Statement) → Context b t v place l fs values s rest procedure cs
      → holds (goes_on None (frame_at procedure values rest) cs)
      ≡ holds (Before entered (frame_at procedure values (Then s rest)) cs)
  still_held s c = goes_on_holds b None (frame_at procedure values rest) cs
      (main_alone b c.number procedure fs cs c.callers)

  -- where a WAIT goes on
  wait_goes_on : (m : Member) → Context b t v place l fs values (Wait m) rest procedure cs
      → GoesOn b t m.monitor (place + wait_recovers b.program.version) l fs (frame_at procedure values rest) cs
  wait_goes_on m c = goes_on_here b is t m.monitor (place + wait_recovers b.program.version) l fs (frame_at procedure
      values rest) cs c.number
      procedure frame c.sound.fits.1.0 c.sound.fits.0 here c.head.jumps (omega (arith, c.head.few, c.head.deep)) behind
      c.callers
    where
      frame : IsFrame b.program b.height b.made b.width c.number procedure (frame_at procedure values rest) l
      frame = record {
        procedure = c.is_there;
        role = refl;
        typed = c.typed;
        holds = c.holds;
        words = c.words;
        few = c.few;
        body = c.later;
      }

      here : IsAt b.code (place + wait_recovers b.program.version) (plain (recovery_in b m.monitor))
      here = subst (λ i. IsAt b.code (place + wait_recovers b.program.version) (plain i))
          (moved_recovery place (start_in b.starts (recover_of b.program m.monitor)))
          (stand_index b.code place (rebase_all place (wait_code b.program.version m (link_word b.program m.monitor)
          (member_address b.program m) (recovery_in b m.monitor))) (wait_recovers b.program.version)
          (place + wait_recovers b.program.version) _ c.head.here
          (recovery_there b.program.version place m (link_word b.program m.monitor) (member_address b.program m)
          (recovery_in b m.monitor)) refl)

      at : place + length (rebase_all place (wait_code b.program.version m (link_word b.program m.monitor)
          (member_address b.program m) (recovery_in b m.monitor))) ≡ place + wait_recovers b.program.version + 1
      at = let n = wait_long b.program.version place m (link_word b.program m.monitor) (member_address b.program m)
          (recovery_in b m.monitor) in omega (arith, n)

      behind : Implements b.code (setting_of b.program b.starts procedure) b.most c.head.jumps (place + wait_recovers
          b.program.version + 1) rest
      behind = subst (λ k. Implements b.code (setting_of b.program b.starts procedure) b.most c.head.jumps k rest) at
          c.head.more

  pub wait_proceeds : (m : Member) → Context b t v place l fs values (Wait m) rest procedure cs
      → Proceeds b t v (steps_of (Wait m)) (Runs place [] l fs)
      (goes_on entered (frame_at procedure values (Then (Wait m) rest)) cs)
  wait_proceeds m c =
      let first = held (Wait m) c m.monitor c.sound.fits.1.0 in
      as_it_stands b t v place l fs values rest procedure cs entered (Wait m) c tt 0 (omega arith)
      (at_once b t v place l fs values rest procedure cs entered (Runs place [] l fs) _
      (F.waits m place c.sound.fits.1.1 refl first.1 c.sound.fits.1.0 first.1 refl c.head.here (wait_goes_on m c)))

  pub notify_proceeds : (m : Member) → Context b t v place l fs values (Notify m) rest procedure cs
      → Proceeds b t v (steps_of (Notify m)) (Runs place [] l fs)
      (goes_on entered (frame_at procedure values (Then (Notify m) rest)) cs)
  notify_proceeds m c =
      let after : Stands b t (Runs (place + 8) [] l fs) (goes_on None (frame_at procedure values rest) cs) =
      stands_on b t v place l fs values (Notify m) rest procedure cs c l values rest (place + 8) c.head.jumps c.typed
      c.holds c.words c.later (omega (arith, c.head.few, c.head.deep)) c.head.more in
      as_it_stands b t v place l fs values rest procedure cs entered (Notify m) c tt 0 (omega arith)
      (at_once b t v place l fs values rest procedure cs entered (Runs place [] l fs) _
      (F.notifies m place c.sound.fits.1 refl (held (Notify m) c m.monitor c.sound.fits.0) (still_held (Notify m) c)
      refl c.head.here after))

  pub broadcast_proceeds : (m : Member) → Context b t v place l fs values (Broadcast m) rest procedure cs
      → Proceeds b t v (steps_of (Broadcast m)) (Runs place [] l fs)
      (goes_on entered (frame_at procedure values (Then (Broadcast m) rest)) cs)
  broadcast_proceeds m c =
      let after : Stands b t (Runs (place + 16) [] l fs) (goes_on None (frame_at procedure values rest) cs) =
      stands_on b t v place l fs values (Broadcast m) rest procedure cs c l values rest (place + 16) c.head.jumps
      c.typed c.holds c.words c.later (omega (arith, c.head.few, c.head.deep)) c.head.more in
      as_it_stands b t v place l fs values rest procedure cs entered (Broadcast m) c tt 0 (omega arith)
      (at_once b t v place l fs values rest procedure cs entered (Runs place [] l fs) _
      (F.broadcasts m place c.sound.fits.1 refl (held (Broadcast m) c m.monitor c.sound.fits.0)
      (still_held (Broadcast m) c) refl c.head.here after))
