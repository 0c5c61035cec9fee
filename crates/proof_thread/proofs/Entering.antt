-- Before the ENTER of an ENTRY procedure.
use Rattle.std.proofs.Common.{◌≡◌, ℕ, ◌+◌, List, [], ◌∷◌, refl, ap, sym, ◌∙◌, subst, arith}
use Rattle.program.specs.declared.kinds.Role.{Role}
use Rattle.program.specs.declared.kinds.Role.TheVariants.{Entry}
use Rattle.program.specs.Scope.{own_monitor, recover_of}
use Rattle.program.specs.Typing.{IsNoRecover}
use Rattle.program.specs.WellFormed.{RoleFits}
use Rattle.lowering.specs.Layout.{link_word}
use Rattle.lowering.specs.Locks.{enter_code}
use Rattle.lowering.specs.Marks.{plain, rebase_all}
use Rattle.lowering.specs.Statements.{start_in}
use Rattle.lowering.specs.Pieces.{setting_of}
use Rattle.locals.specs.declared.frame.Locals.{Locals}
use Rattle.locals.specs.declared.frame.Frame.{Frame as MachineFrame}
use Rattle.locals.specs.Threads.{Runs}
use Rattle.meaning.specs.Values.{Variables}
use Rattle.meaning.specs.Processes.{Frame, Caller, Entering, all_monitors, callers_monitors, monitor_of_role}
use Rattle.proof_thread.specs.Following.{Build, Implements, IsEntering, recovery_in}
use Rattle.proof_thread.specs.Completing.{GoesOn, Proceeds}
use Rattle.proof_thread.specs.Completing as F
use Rattle.proof_thread.specs.Builds.{IsBuild}
use Rattle.proof_thread.proofs.Awaiting.{stand_index}
use Rattle.proof_thread.proofs.Returning.{done}
use Rattle.proof_thread.proofs.Recovering.{moved_recovery, goes_on_here}
use Rattle.proof_thread.specs.Deferrals.{IsAt}

pub entering_proceeds : (b : Build) → IsBuild b → (t : ℕ) (v : Variables) (m place : ℕ) (l : Locals)
    (fs : List MachineFrame) (f : Frame) (cs : List Caller) → IsEntering b m place l fs f cs
    → Proceeds b t v 0 (Runs place [] l fs) (Entering m f cs)
entering_proceeds b is t v m place l fs f cs h =
    let q = h.procedure in
    let there : RoleFits b.program h.number q (Entry m) =
    subst (RoleFits b.program h.number q) h.role (is.role h.number q h.frame.procedure) in
    let held : all_monitors f cs ≡ m ∷ callers_monitors cs =
    ap (λ (role : Role). monitor_of_role role (callers_monitors cs)) (h.frame.role ∙ h.role) in
    let here : IsAt b.code (place + 60) (plain (recovery_in b m)) =
    subst (λ i. IsAt b.code (place + 60) (plain i)) (moved_recovery place (start_in b.starts (recover_of b.program m)))
    (stand_index b.code place (rebase_all place (enter_code m (link_word b.program m) (recovery_in b m))) 60
    (place + 60) _
    h.template refl refl) in
    let at : place + 61 ≡ place + 60 + 1 = omega arith in
    let code : Implements b.code (setting_of b.program b.starts q) b.most h.jumps (place + 60 + 1) f.rest =
    subst (λ k. Implements b.code (setting_of b.program b.starts q) b.most h.jumps k f.rest) at h.code in
    let on : GoesOn b t m (place + 60) l fs f cs = goes_on_here b is t m (place + 60) l fs f cs h.number q h.frame
    (ap own_monitor h.role) (subst IsNoRecover (sym h.role) tt) here h.jumps h.few code h.callers in
    done b t v (Runs place [] l fs) (Entering m f cs) (F.enters place refl refl there held h.template on)
