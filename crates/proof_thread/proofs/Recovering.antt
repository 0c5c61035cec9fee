-- Where a thread goes on that has taken a monitor's lock: behind the template; or, in an abandoned monitor, in its
-- RECOVER part or into a fault.
use Rattle.std.proofs.Common.{◌≡◌, ℕ, ◌+◌, ◌<◌, ◌≤◌, List, [], ◌∷◌, length, Option, Some, None, refl, ap}
use Rattle.std.proofs.Common.{sym, ◌∙◌, subst, arith, lt-ltb}
use Rattle.words.specs.declared.outcome.Fault.TheVariants.{AbandonedMonitor}
use Rattle.isa.specs.declared.instr.Instr.TheVariants.{Call, Raise}
use Rattle.program.specs.declared.kinds.ValueType.{ValueType}
use Rattle.program.specs.declared.kinds.Role.TheVariants.{Recover}
use Rattle.program.specs.Trees.{Procedure}
use Rattle.program.specs.Scope.{own_monitor, recover_of}
use Rattle.program.specs.Typing.{IsNoRecover}
use Rattle.program.specs.WellFormed.{RoleFits}
use Rattle.lowering.specs.Locks.{recovery}
use Rattle.lowering.specs.Marks.{plain, rebase}
use Rattle.lowering.specs.Statements.{start_in}
use Rattle.lowering.specs.Pieces.{setting_of, entering_code}
use Rattle.locals.specs.declared.frame.Locals.{Locals}
use Rattle.locals.specs.declared.frame.Frame.{Frame as MachineFrame}
use Rattle.locals.specs.Threads.{Runs, fresh}
use Rattle.locals.specs.Looks.{Goes, if_so, look}
use Rattle.meaning.specs.Processes.{Frame, Caller, goes_on, frame_of, zeros, recovers_by}
use Rattle.proof_thread.specs.Typed.{HaveValues}
use Rattle.proof_thread.specs.Walks.{empty_view}
use Rattle.proof_thread.specs.Following.{Build, most_made, CallersStand, is_first, is_called, is_recovery, Implements}
use Rattle.proof_thread.specs.Following.{IsFrame}
use Rattle.proof_thread.specs.Following.{StandsBehind, Stands, runs, fails, recovery_in}
use Rattle.proof_thread.specs.Completing.{GoesOn, with_scratch}
use Rattle.proof_thread.specs.Builds.{IsBuild}
use Rattle.proof_thread.proofs.Walking.{wider, within_on, one_step, look_here}
use Rattle.proof_thread.proofs.Contexts.{frame_at, stay}
use Rattle.proof_thread.proofs.Returning.{recover_is_one}
use Rattle.proof_thread.proofs.Beginning.{has_begun, in_body}
use Rattle.proof_thread.specs.Deferrals.{IsAt, deferred_by_mark}

-- calls are so deep that no frame is missing
pub chain : (b : Build) → IsBuild b → (n : ℕ) (q : Procedure) (fs : List MachineFrame) (cs : List Caller)
    → IsNoRecover q.role → CallersStand b n q fs cs → b.height n + length fs < 15
chain b is n q [] [] role (is_first h) = let r = is.bounded n in omega (arith, r)
chain b is n q (m ∷ fs) (c ∷ cs) role (is_called k caller calls may lower fits behind below) =
    let r = chain b is k caller fs cs calls below in omega (arith, r, lower)
chain b is n q (m ∷ fs) (c ∷ cs) role (is_recovery k caller monitor recovers none into own calls behind below) =
    absurd (recover_is_one q.role monitor recovers role)
chain b is n q [] (c ∷ cs) role h = elim h [ ]
chain b is n q (m ∷ fs) [] role h = elim h [ ]

-- a recovery is the same wherever it stands
pub moved_recovery : (base : ℕ) (piece : Option ℕ) → rebase base (recovery piece) ≡ recovery piece
moved_recovery base None = refl
moved_recovery base (Some r) = refl

-- nothing is entered at the beginning of a RECOVER part
recover_enters : (b : Build) (q : Procedure) (m : ℕ) → q.role ≡ Recover m → (place : ℕ)
    → entering_code (setting_of b.program b.starts q) q.role place ≡ []
recover_enters b q m e place = rw e refl

no_parameters : (ts : List ValueType) → ts ≡ [] → length ts ≡ 0
no_parameters ts e = ap length e

module _ (b : Build) (is : IsBuild b) (t : ℕ) (m place : ℕ) (l : Locals) (fs : List MachineFrame) (f : Frame)
    (cs : List Caller) (number : ℕ) (procedure : Procedure)
    (frame : IsFrame b.program b.height b.made b.width number procedure f l) (own : own_monitor procedure.role ≡ Some m)
    (role : IsNoRecover procedure.role) (here : IsAt b.code place (plain (recovery_in b m)))
    (jumps : ℕ) (few : jumps ≤ b.most)
    (code : Implements b.code (setting_of b.program b.starts procedure) b.most jumps (place + 1) f.rest)
    (callers : CallersStand b number procedure fs cs) where
  -- the frame with another word in the templates' own local
  kept_frame : (word : ℕ) → IsFrame b.program b.height b.made b.width number procedure f (with_scratch l word)
  kept_frame word = record {
    procedure = frame.procedure;
    role = frame.role;
    typed = frame.typed;
    holds = frame.holds;
    words = frame.words;
    few = frame.few;
    body = frame.body;
  }

  -- what is done in an abandoned monitor
  recovers_here : (word : ℕ) (o : Option ℕ) → recover_of b.program m ≡ o
      → Stands b t (Runs place [] (with_scratch l word) fs)
      (recovers_by b.program o m f cs)
  recovers_here word None e =
      let at : IsAt b.code place (plain (Raise AbandonedMonitor)) =
      subst (λ (r : Option ℕ). IsAt b.code place (plain (recovery (start_in b.starts r)))) e here in
      fails m f cs (wider b.code t (empty_view b.program) 1 16 _ _ (omega arith)
      (one_step b.code t (empty_view b.program) _ _
      (look_here b.code t (empty_view b.program) place (Raise AbandonedMonitor) [] (with_scratch l word) fs at)
      (ap deferred_by_mark at.1))) refl
  recovers_here word (Some r) e =
      let part = is.recovers m r e in
      let q = part.0 in
      let back : MachineFrame = record { back = place + 1; locals = with_scratch l word } in
      let caller : Caller = record { into = None; frame = f } in
      let fits : RoleFits b.program r q (Recover m) = subst (RoleFits b.program r q) part.2 (is.role r q part.1) in
      let at : IsAt b.code place (plain (Call (b.starts r))) =
      subst (λ (k : Option ℕ). IsAt b.code place (plain (recovery (start_in b.starts k)))) e here in
      let deep = chain b is number procedure fs cs role callers in
      let step : look b.code.image t (Runs place [] (with_scratch l word) fs) ≡ Goes
      (Runs (b.starts r) [] fresh (back ∷ fs)) =
      look_here b.code t (empty_view b.program) place (Call (b.starts r)) [] (with_scratch l word) fs at ∙ ap
      (λ k. if_so k (Goes (Runs (b.starts r) [] fresh (back ∷ fs)))) (lt-ltb (length fs) 15 (omega (arith, deep))) in
      let begun = has_begun b is t r q [] (back ∷ fs) part.1 (no_values q.parameters fits.1) in
      let at_end : place + 1 + 0 ≡ place + 1 = omega arith in
      let behind : StandsBehind b back caller number procedure [] =
      record {
        frame = kept_frame word;
        here = tt;
        jumps = jumps;
        few = few;
        more = subst (λ k. Implements b.code (setting_of b.program b.starts procedure) b.most jumps k f.rest)
            (sym at_end) code;
      } in
      let stand : CallersStand b r q (back ∷ fs) (caller ∷ cs) =
      is_recovery number procedure m part.2 fits.2 refl own role behind callers in
      let opened : recovers_by b.program (Some r) m f cs ≡ goes_on (Some m) (frame_at q (zeros q.locals) q.body)
      (caller ∷ cs) = ap (λ (k : Option Procedure). goes_on (Some m) (frame_of k []) (caller ∷ cs)) part.1 in
      let none = no_parameters q.parameters fits.1 in
      runs (Some m) (frame_at q (zeros q.locals) q.body) (caller ∷ cs) begun.place begun.locals (back ∷ fs)
      (wider b.code t (empty_view b.program) (1 + length q.parameters) 16 _ _ (omega (arith, none))
      (within_on b.code t (empty_view b.program) 1 (length q.parameters) _ _ _
      (one_step b.code t (empty_view b.program) _ _ step (ap deferred_by_mark at.1)) begun.walk))
      (in_body b is t r q [] (back ∷ fs) (caller ∷ cs) begun stand (recover_enters b q m part.2)) opened
    where
      no_values : (ts : List ValueType) → ts ≡ [] → HaveValues (most_made b) b.made ts []
      no_values ts e = subst (λ (us : List ValueType). HaveValues (most_made b) b.made us []) (sym e) tt

  pub goes_on_here : GoesOn b t m place l fs f cs
  goes_on_here = record {
    enters = λ word. runs (Some m) f cs (place + 1) (with_scratch l word) fs
        (stay b t 16 (Runs (place + 1) [] (with_scratch l word) fs))
        (record {
          number = number;
          procedure = procedure;
          frame = kept_frame word;
          jumps = jumps;
          few = few;
          code = code;
          callers = callers;
        }) refl;
    recovers = λ word. recovers_here word (recover_of b.program m) refl;
  }
