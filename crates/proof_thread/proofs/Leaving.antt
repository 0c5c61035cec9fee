-- The end of a procedure of every role: an ENTRY procedure gives up its monitor with its result, others hand it over.
use Rattle.std.proofs.Common.{◌≡◌, ℕ, ◌+◌, List, [], ◌∷◌, ◌++◌, length, Option, Some, None, refl, ap, sym, ◌∙◌, subst}
use Rattle.std.proofs.Common.{arith, ℤ, pos, slice_get}
use Rattle.isa.specs.declared.instr.Instr.TheVariants.{Push}
use Rattle.program.specs.declared.kinds.ValueType.{ValueType}
use Rattle.program.specs.declared.kinds.Role.{Role}
use Rattle.program.specs.declared.kinds.Role.TheVariants.{Entry, Internal, Recover, External, Main}
use Rattle.program.specs.Trees.{Block, Done, Procedure}
use Rattle.program.specs.Typing.{IsNoRecover}
use Rattle.program.specs.WellFormed.{RoleFits}
use Rattle.lowering.specs.Layout.{link_word}
use Rattle.lowering.specs.Locks.{exit_code, exit_length}
use Rattle.lowering.specs.Marks.{rebase_all}
use Rattle.lowering.specs.Processes.{return_code}
use Rattle.lowering.specs.Statements.{ending_code, leaving_code}
use Rattle.lowering.specs.Pieces.{setting_of, default_code}
use Rattle.lowering.specs.declared.mark.Marked.{Marked}
use Rattle.locals.specs.declared.frame.Locals.{Locals}
use Rattle.locals.specs.declared.frame.Frame.{Frame as MachineFrame}
use Rattle.locals.specs.Threads.{Runs}
use Rattle.meaning.specs.Values.{Variables}
use Rattle.meaning.specs.Labels.{Exits}
use Rattle.meaning.specs.Processes.{Frame, Caller, Process, Before, Returning, Leaving, goes_on, goes_on_by, holds}
use Rattle.meaning.specs.Processes.{monitor_of_role, callers_monitors}
use Rattle.meaning.specs.Offers.{Does, Nothing, offer, answers}
use Rattle.proof_thread.specs.Walks.{StandAt}
use Rattle.proof_thread.specs.Following.{Build, most_made, CallersStand, ShowsResult, result_operands, returns}
use Rattle.proof_thread.specs.Completing.{Proceeds}
use Rattle.proof_thread.specs.Completing as F
use Rattle.proof_thread.specs.Builds.{IsBuild}
use Rattle.proof_thread.proofs.Walking.{front_stands, back_stands, one_step, push_step, look_here}
use Rattle.proof_thread.proofs.Putting.{zero_value}
use Rattle.proof_thread.proofs.Contexts.{frame_at, view_at, proceeds_on, proceeds_wider, stay}
use Rattle.proof_thread.proofs.Returning.{HandsOver, called_returns, main_returns, done}
use Rattle.proof_thread.specs.Deferrals.{IsAt, deferred_by_mark}
use Rattle.words.specs.declared.version.ImageVersion.{ImageVersion}
use Rattle.words.specs.declared.version.ImageVersion.TheVariants.{One, Two, Linux}

-- it is no RECOVER part
pub no_recover : (role : Role) → HandsOver role → IsNoRecover role
no_recover (Entry m) h = tt
no_recover (Internal m) h = tt
no_recover (Recover m) h = absurd h
no_recover External h = tt
no_recover Main h = absurd h

-- and stands before what is left of its body, or its end
pub before_answer : (role : Role) (rest : Block) (entered : Option ℕ) (f : Frame) (cs : List Caller) → HandsOver role
    → goes_on_by role rest entered f cs ≡ Before entered f cs
before_answer (Entry m) rest entered f cs h = refl
before_answer (Internal m) rest entered f cs h = refl
before_answer (Recover m) rest entered f cs h = absurd h
before_answer External rest entered f cs h = refl
before_answer Main rest entered f cs h = absurd h

exit_long : (v : ImageVersion) (place m e : ℕ) → length (rebase_all place (exit_code v m e)) ≡ exit_length v
exit_long One place m e = refl
exit_long Two place m e = refl
exit_long Linux place m e = refl

module _ (b : Build) (t : ℕ) (v : Variables) where
  -- an ENTRY procedure stands before its EXIT
  exits_at : (m : ℕ) (shown : Option ℕ) (place : ℕ) (l : Locals) (fs : List MachineFrame) (number : ℕ) (q : Procedure)
      (cs : List Caller) (z : ℤ) (r : Process)
      → q.role ≡ Entry m → CallersStand b number q fs cs → ShowsResult (most_made b) b.made q.result shown z
      → StandAt b.code place (ending_code (setting_of b.program b.starts q) place)
      → offer b.program v r ≡ Does (Exits m) Nothing (Returning z cs) → holds r ≡ m ∷ callers_monitors cs
      → Proceeds b t v 0 (Runs place (result_operands shown) l fs) r
  exits_at m shown place l fs number q cs z r e callers shows code o held =
      let template = rebase_all place (exit_code b.program.version m (link_word b.program m)) in
      let all : StandAt b.code place (template ++ return_code (Entry m) q.result ∷ []) =
      subst (λ (role : Role). StandAt b.code place
      (leaving_code b.program role place ++ return_code role q.result ∷ []))
      e code in
      let behind : StandAt b.code (place + exit_length b.program.version) (return_code (Entry m) q.result ∷ []) =
      subst (λ (n : ℕ). StandAt b.code (place + n) (return_code (Entry m) q.result ∷ []))
      (exit_long b.program.version place m (link_word b.program m))
      (back_stands b.code place template (return_code (Entry m) q.result ∷ []) all) in
      done b t v (Runs place (result_operands shown) l fs) r
      (F.exits m place shown o held refl (front_stands b.code place template (return_code (Entry m) q.result ∷ []) all)
      (returns z cs (place + exit_length b.program.version) shown l fs (stay b t 16 (Runs (place + exit_length
      b.program.version) (result_operands shown) l fs)) (record {
        number = number;
        procedure = q;
        monitor = m;
        role = e;
        code = subst (λ (k : Role). StandAt b.code (place + exit_length b.program.version) (return_code k q.result ∷
            [])) (sym e) behind;
        result = shows;
        callers = callers;
      }) refl))

  -- with the result on the operands, the procedure leaves
  pub leaves_at : (shown : Option ℕ) (place : ℕ) (l : Locals) (fs : List MachineFrame) (number : ℕ) (q : Procedure)
      (cs : List Caller) (z : ℤ) (r : Process)
      → HandsOver q.role → CallersStand b number q fs cs → ShowsResult (most_made b) b.made q.result shown z
      → StandAt b.code place (ending_code (setting_of b.program b.starts q) place)
      → offer b.program v r ≡ answers q.role z cs → holds r ≡ monitor_of_role q.role (callers_monitors cs)
      → Proceeds b t v 1 (Runs place (result_operands shown) l fs) r
  leaves_at shown place l fs number q cs z r hands callers shows code o held = by_role q.role refl hands
    where
      returns_at : (role : Role) → q.role ≡ role → leaving_code b.program role place ≡ []
          → IsAt b.code place (return_code q.role q.result)
      returns_at role e none =
          let here : StandAt b.code place (return_code q.role q.result ∷ []) =
          subst (λ (xs : List Marked). StandAt b.code place (xs ++ return_code q.role q.result ∷ []))
          (ap (λ (k : Role). leaving_code b.program k place) e ∙ none) code in
          here.0

      by_role : (role : Role) → q.role ≡ role → HandsOver role → Proceeds b t v 1 (Runs place (result_operands shown) l
          fs) r
      by_role (Entry m) e h = proceeds_wider b t v 0 1 _ r (omega arith)
          (exits_at m shown place l fs number q cs z r e callers shows code
          (o ∙ ap (λ (k : Role). answers k z cs) e)
          (held ∙ ap (λ (k : Role). monitor_of_role k (callers_monitors cs)) e))
      by_role (Internal m) e h = called_returns b t v q.result shown place l fs number q cs z r
          (no_recover q.role hands) hands refl callers shows (returns_at (Internal m) e refl)
          (o ∙ ap (λ (k : Role). answers k z cs) e)
      by_role External e h = called_returns b t v q.result shown place l fs number q cs z r
          (no_recover q.role hands) hands refl callers shows (returns_at External e refl)
          (o ∙ ap (λ (k : Role). answers k z cs) e)
      by_role (Recover m) e h = absurd h
      by_role Main e h = absurd h

  -- at the end of a body: the default result, and then the same
  pub body_leaves : (place : ℕ) (l : Locals) (fs : List MachineFrame) (number : ℕ) (q : Procedure) (values : List ℤ)
      (cs : List Caller) (entered : Option ℕ) → HandsOver q.role → CallersStand b number q fs cs
      → StandAt b.code place (default_code q.result ++ ending_code (setting_of b.program b.starts q)
      (place + length (default_code q.result)))
      → Proceeds b t v 2 (Runs place [] l fs) (goes_on entered (frame_at q values Done) cs)
  body_leaves place l fs number q values cs entered hands callers code =
      subst (λ (r : Process). Proceeds b t v 2 (Runs place [] l fs) r)
      (sym (before_answer q.role Done entered (frame_at q values Done) cs hands)) (by_result q.result refl)
    where
      pending : Process
      pending = Before entered (frame_at q values Done) cs

      first : StandAt b.code place (default_code q.result)
      first = front_stands b.code place (default_code q.result) _ code

      last : StandAt b.code (place + length (default_code q.result)) (ending_code (setting_of b.program b.starts q)
          (place + length (default_code q.result)))
      last = back_stands b.code place (default_code q.result) _ code

      moved : (to : ℕ) → place + length (default_code q.result) ≡ to
          → StandAt b.code to (ending_code (setting_of b.program b.starts q) to)
      moved to e = subst (λ k. StandAt b.code k (ending_code (setting_of b.program b.starts q) k)) e last

      by_result : (result : Option ValueType) → q.result ≡ result → Proceeds b t v 2 (Runs place [] l fs) pending
      by_result None e =
          let at : place + length (default_code q.result) ≡ place =
          ap (λ (k : Option ValueType). place + length (default_code k)) e ∙ omega arith in
          proceeds_wider b t v 1 2 _ pending (omega arith)
          (leaves_at None place l fs number q cs (pos 0) pending hands callers
          (subst (λ (k : Option ValueType). ShowsResult (most_made b) b.made k None (pos 0)) (sym e) refl)
          (moved place at) refl refl)
      by_result (Some u) e =
          let at : place + length (default_code q.result) ≡ place + 1 =
          ap (λ (k : Option ValueType). place + length (default_code k)) e in
          let here = subst (λ (k : Option ValueType). StandAt b.code place (default_code k)) e first in
          let step = one_step b.code t (view_at b q v) (Runs place [] l fs) (Runs (place + 1) (0 ∷ []) l fs)
          (push_step b.code t (view_at b q v) place 0 [] l fs
          (look_here b.code t (view_at b q v) place (Push 0) [] l fs here.0) (omega arith))
          (ap deferred_by_mark here.0.1) in
          proceeds_on b t v 1 1 _ _ pending step
          (leaves_at (Some 0) (place + 1) l fs number q cs (pos 0) pending hands callers
          (subst (λ (k : Option ValueType). ShowsResult (most_made b) b.made k (Some 0) (pos 0)) (sym e)
          (refl, zero_value (most_made b) b.made u))
          (moved (place + 1) at) refl refl)

  -- at the end of the main part, or at its RETURN
  pub main_leaves : (is : IsBuild b) (place : ℕ) (l : Locals) (fs : List MachineFrame) (number : ℕ) (q : Procedure)
      (cs : List Caller) (r : Process) → slice_get b.program.procedures number ≡ Some q → q.role ≡ Main
      → CallersStand b number q fs cs → StandAt b.code place (ending_code (setting_of b.program b.starts q) place)
      → r ≡ Leaving (pos 0) → Proceeds b t v 0 (Runs place [] l fs) r
  main_leaves is place l fs number q cs r there main callers code left =
      let fits : RoleFits b.program number q Main = subst (RoleFits b.program number q) main (is.role number q there) in
      let here : StandAt b.code place (return_code Main q.result ∷ []) =
      subst (λ (role : Role). StandAt b.code place
      (leaving_code b.program role place ++ return_code role q.result ∷ []))
      main code in
      main_returns b t v place l fs number q cs r main callers
      (subst (λ (k : Option ValueType). IsAt b.code place (return_code Main k)) fits.2 here.0) left
