-- Every thread that stands for a process does what the process offers, or comes to the template that does.
use Rattle.std.proofs.Common.{inl, inr, ◌≡◌, ℕ, ◌+◌, ◌*◌, ◌≤◌, List, [], ◌∷◌, ◌++◌, length, Option, Some, refl, ap, sym}
use Rattle.std.proofs.Common.{◌∙◌, subst, arith, ℤ, pos}
use Rattle.words.specs.declared.outcome.Fault.TheVariants.{AbandonedMonitor}
use Rattle.words.specs.declared.outcome.Cause.TheVariants.{Faulted}
use Rattle.isa.specs.declared.instr.Instr.TheVariants.{Ret}
use Rattle.proof_thread.specs.Deferrals.{MarkedImage, IsAt, deferred_by_mark}
use Rattle.program.specs.declared.kinds.Role.{Role}
use Rattle.program.specs.declared.kinds.Role.TheVariants.{Entry, Internal, Recover, External, Main}
use Rattle.program.specs.Trees.{ToLocal, ToMember, ToElement, Statement, Assign, If, While, Call, Fork, Join, Return}
use Rattle.program.specs.Trees.{Wait, Notify, Broadcast, Print, Abort, Block, Done, Then, NoPart, SomePart, Procedure}
use Rattle.program.specs.Scope.{own_monitor, scope_of}
use Rattle.program.specs.Typing.{IsNoRecover, MayCall, MayBeForked}
use Rattle.program.specs.WellFormed.{RoleFits}
use Rattle.program.specs.Tokens.{statement_tokens}
use Rattle.lowering.specs.Processes.{return_code}
use Rattle.lowering.specs.Statements.{Setting, ending_code, leaving_code}
use Rattle.lowering.specs.Pieces.{setting_of, default_code}
use Rattle.lowering.specs.Marks.{plain}
use Rattle.locals.specs.declared.frame.Locals.{Locals}
use Rattle.locals.specs.declared.frame.Frame.{Frame as MachineFrame}
use Rattle.locals.specs.Threads.{Thread, Runs, Dies}
use Rattle.meaning.specs.Values.{Variables}
use Rattle.meaning.specs.Processes.{Frame, Caller, Process, Entering, Before, Returning, Failing, Leaving, goes_on}
use Rattle.meaning.specs.Processes.{goes_on_by}
use Rattle.proof_thread.specs.Variables.{VariablesFit}
use Rattle.proof_thread.specs.Walks.{StandAt}
use Rattle.proof_thread.specs.Following.{Build, CallersStand, is_first, is_called, is_recovery, Implements, finishes}
use Rattle.proof_thread.specs.Following.{IsFrame, Running, Stands, runs, enters, returns, fails, own_of}
use Rattle.proof_thread.specs.Following.{result_operands}
use Rattle.proof_thread.specs.Completing.{Proceeds, view_of}
use Rattle.proof_thread.specs.Completing as F
use Rattle.proof_thread.specs.Builds.{IsBuild, IsFollowed, OwnFit, most_steps}
use Rattle.proof_thread.proofs.Walking.{wider, one_step, look_here, seen}
use Rattle.proof_thread.proofs.Evaluating.{expressions_evaluate}
use Rattle.proof_thread.proofs.Bodies.{after_jumps, head_of}
use Rattle.proof_thread.proofs.Contexts.{Context, frame_at, proceeds_on, proceeds_wider}
use Rattle.proof_thread.proofs.Stepping.{print_proceeds, abort_proceeds, assign_proceeds}
use Rattle.proof_thread.proofs.Storing.{member_proceeds, element_proceeds}
use Rattle.proof_thread.proofs.Testing.{if_proceeds, if_else_proceeds, while_proceeds}
use Rattle.proof_thread.proofs.Returning.{HandsOver, called_returns, done}
use Rattle.proof_thread.proofs.Calling.{call_proceeds}
use Rattle.proof_thread.proofs.Forking.{fork_proceeds}
use Rattle.proof_thread.proofs.Joining.{join_proceeds}
use Rattle.proof_thread.proofs.Conditions.{wait_proceeds, notify_proceeds, broadcast_proceeds}
use Rattle.proof_thread.proofs.Leaving.{before_answer, body_leaves, main_leaves}
use Rattle.proof_thread.proofs.Answering.{return_proceeds}
use Rattle.proof_thread.proofs.Entering.{entering_proceeds}

finish_of : {image : MarkedImage} {c : Setting} {most place : ℕ} → Implements image c most 0 place Done
    → StandAt image place (default_code c.result ++ ending_code c (place + length (default_code c.result)))
finish_of (finishes h) = h

-- the variables of a procedure's own monitor have values that fit them
abbrev FitIn : Build → Role → Variables → Type 0
FitIn b role v = (m : ℕ) → own_monitor role ≡ Some m → VariablesFit b.made b.program m v

-- a procedure that is no RECOVER part at its end reads its own monitor's variables
own_same : (role : Role) (rest : Block) (entered : Option ℕ) (f : Frame) (cs : List Caller) → f.role ≡ role
    → (rest ≡ Done → IsNoRecover role) → own_of (goes_on_by role rest entered f cs) ≡ own_monitor role
own_same (Entry m) rest entered f cs e ordinary = ap own_monitor e
own_same (Internal m) rest entered f cs e ordinary = ap own_monitor e
own_same External rest entered f cs e ordinary = ap own_monitor e
own_same (Recover m) Done entered f cs e ordinary = absurd (ordinary refl)
own_same (Recover m) (Then s rest) entered f cs e ordinary = ap own_monitor e
own_same Main Done entered f cs e ordinary = refl
own_same Main (Then (Assign target x) rest) entered f cs e ordinary = ap own_monitor e
own_same Main (Then (If x y z) rest) entered f cs e ordinary = ap own_monitor e
own_same Main (Then (While x y) rest) entered f cs e ordinary = ap own_monitor e
own_same Main (Then (Call q es into) rest) entered f cs e ordinary = ap own_monitor e
own_same Main (Then (Fork q es into) rest) entered f cs e ordinary = ap own_monitor e
own_same Main (Then (Join x into y) rest) entered f cs e ordinary = ap own_monitor e
own_same Main (Then (Return value) rest) entered f cs e ordinary = refl
own_same Main (Then (Wait m) rest) entered f cs e ordinary = ap own_monitor e
own_same Main (Then (Notify m) rest) entered f cs e ordinary = ap own_monitor e
own_same Main (Then (Broadcast m) rest) entered f cs e ordinary = ap own_monitor e
own_same Main (Then (Print x) rest) entered f cs e ordinary = ap own_monitor e
own_same Main (Then Abort rest) entered f cs e ordinary = ap own_monitor e

module _ (b : Build) (is : IsBuild b) (t : ℕ) (v : Variables) where
  slack : (s : Statement) (x : Thread) (q : Process) → Proceeds b t v (2 * statement_tokens s) x q
      → Proceeds b t v (2 * statement_tokens s + 2) x q
  slack s x q h = proceeds_wider b t v (2 * statement_tokens s) (2 * statement_tokens s + 2) x q (omega arith) h

  statement_proceeds : (s : Statement) (place : ℕ) (l : Locals) (fs : List MachineFrame) (values : List ℤ)
      (rest : Block) (procedure : Procedure) (cs : List Caller) (entered : Option ℕ)
      → Context b t v place l fs values s rest procedure cs
      → Proceeds b t v (2 * statement_tokens s + 2) (Runs place [] l fs)
      (goes_on entered (frame_at procedure values (Then s rest)) cs)
  statement_proceeds (Assign (ToLocal slot) e) place l fs values rest q cs entered c =
      slack (Assign (ToLocal slot) e) _ _ (assign_proceeds b t v place l fs values rest q cs entered slot e c)
  statement_proceeds (Assign (ToMember m) e) place l fs values rest q cs entered c =
      slack (Assign (ToMember m) e) _ _ (member_proceeds b t v place l fs values rest q cs entered m e c)
  statement_proceeds (Assign (ToElement a i) e) place l fs values rest q cs entered c =
      slack (Assign (ToElement a i) e) _ _ (element_proceeds b t v place l fs values rest q cs entered a i e c)
  statement_proceeds (If e x NoPart) place l fs values rest q cs entered c =
      slack (If e x NoPart) _ _ (if_proceeds b t v place l fs values rest q cs entered e x c)
  statement_proceeds (If e x (SomePart y)) place l fs values rest q cs entered c =
      slack (If e x (SomePart y)) _ _ (if_else_proceeds b t v place l fs values rest q cs entered e x y c)
  statement_proceeds (While e x) place l fs values rest q cs entered c =
      slack (While e x) _ _ (while_proceeds b t v place l fs values rest q cs entered e x c)
  statement_proceeds (Call n es into) place l fs values rest q cs entered c =
      slack (Call n es into) _ _ (call_proceeds b is t v place l fs values rest q cs entered n es into c)
  statement_proceeds (Fork n es into) place l fs values rest q cs entered c =
      slack (Fork n es into) _ _ (fork_proceeds b is t v place l fs values rest q cs entered n es into c)
  statement_proceeds (Join e into y) place l fs values rest q cs entered c =
      join_proceeds b t v place l fs values rest q cs entered e into y c
  statement_proceeds (Return value) place l fs values rest q cs entered c =
      slack (Return value) _ _ (return_proceeds b is t v place l fs values rest q cs entered value c)
  statement_proceeds (Wait m) place l fs values rest q cs entered c =
      slack (Wait m) _ _ (wait_proceeds b is t v place l fs values rest q cs entered m c)
  statement_proceeds (Notify m) place l fs values rest q cs entered c =
      slack (Notify m) _ _ (notify_proceeds b is t v place l fs values rest q cs entered m c)
  statement_proceeds (Broadcast m) place l fs values rest q cs entered c =
      slack (Broadcast m) _ _ (broadcast_proceeds b is t v place l fs values rest q cs entered m c)
  statement_proceeds (Print e) place l fs values rest q cs entered c =
      slack (Print e) _ _ (print_proceeds b t v place l fs values rest q cs entered e c)
  statement_proceeds Abort place l fs values rest q cs entered c =
      slack Abort _ _ (abort_proceeds b t v place l fs values rest q cs entered c)

  -- at the next statement, or at the end of a procedure that is no RECOVER part
  rest_proceeds : (rest : Block) (place : ℕ) (l : Locals) (fs : List MachineFrame) (values : List ℤ) (q : Procedure)
      (cs : List Caller) (entered : Option ℕ) (number : ℕ)
      → IsFrame b.program b.height b.made b.width number q (frame_at q values rest) l → Implements b.code
      (setting_of b.program b.starts q) b.most 0 place rest → CallersStand b number q fs cs → FitIn b q.role v
      → (rest ≡ Done → IsNoRecover q.role)
      → Proceeds b t v (2 * b.width + 2) (Runs place [] l fs) (goes_on entered (frame_at q values rest) cs)
  rest_proceeds (Then s rest) place l fs values q cs entered number f code callers fit ordinary =
      proceeds_wider b t v (2 * statement_tokens s + 2) _ _ _ (omega (arith, f.body.0.tokens))
      (statement_proceeds s place l fs values rest q cs entered
      (record {
        number = number;
        is_there = f.procedure;
        typed = f.typed;
        holds = f.holds;
        words = f.words;
        few = f.few;
        sound = f.body.0;
        later = f.body.1;
        head = head_of code;
        callers = callers;
        evaluates = expressions_evaluate b.code b.made t (scope_of b.program q) v values l (record {
          typed = f.typed;
          holds = f.holds;
          fit = fit;
          low = is.low;
        });
        low = is.low;
        version = is.version;
      }))
  rest_proceeds Done place l fs values q cs entered number f code callers fit ordinary = by_role q.role refl
    where
      ends : HandsOver q.role → Proceeds b t v (2 * b.width + 2) (Runs place [] l fs)
          (goes_on entered (frame_at q values Done) cs)
      ends hands = proceeds_wider b t v 2 _ _ _ (omega arith)
          (body_leaves b t v place l fs number q values cs entered hands callers (finish_of code))

      by_role : (role : Role) → q.role ≡ role → Proceeds b t v (2 * b.width + 2) (Runs place [] l fs)
          (goes_on entered (frame_at q values Done) cs)
      by_role (Entry m) e = ends (subst HandsOver (sym e) tt)
      by_role (Internal m) e = ends (subst HandsOver (sym e) tt)
      by_role External e = ends (subst HandsOver (sym e) tt)
      by_role (Recover m) e = absurd (subst IsNoRecover e (ordinary refl))
      by_role Main e =
          let fits : RoleFits b.program number q Main =
          subst (RoleFits b.program number q) e (is.role number q f.procedure) in
          let bare : StandAt b.code place (ending_code (setting_of b.program b.starts q) (place + 0)) =
          subst (λ (k : Option _). StandAt b.code place (default_code k ++ ending_code
          (setting_of b.program b.starts q) (place + length (default_code k)))) fits.2 (finish_of code) in
          let at : place + 0 ≡ place = omega arith in
          let left : goes_on entered (frame_at q values Done) cs ≡ Leaving (pos 0) =
          ap (λ (role : Role). goes_on_by role Done entered (frame_at q values Done) cs) e in
          proceeds_wider b t v 0 _ _ _ (omega arith)
          (main_leaves b t v is place l fs number q cs _ f.procedure e callers
          (subst (λ k. StandAt b.code place (ending_code (setting_of b.program b.starts q) k)) at bare) left)

  -- by way of jumps
  jumps_proceed : (rest : Block) (place jumps : ℕ) (l : Locals) (fs : List MachineFrame) (values : List ℤ)
      (q : Procedure) (cs : List Caller) (entered : Option ℕ) (number : ℕ)
      → IsFrame b.program b.height b.made b.width number q (frame_at q values rest) l → jumps ≤ b.most
      → Implements b.code (setting_of b.program b.starts q) b.most jumps place rest → CallersStand b number q fs cs
      → FitIn b q.role v → (rest ≡ Done → IsNoRecover q.role)
      → Proceeds b t v (b.most + (2 * b.width + 2)) (Runs place [] l fs) (goes_on entered (frame_at q values rest) cs)
  jumps_proceed rest place jumps l fs values q cs entered number f few code callers fit ordinary =
      let view = view_of b (goes_on entered (frame_at q values rest) cs) v in
      let to = after_jumps b.code (setting_of b.program b.starts q) b.most t view [] l fs code in
      proceeds_on b t v b.most (2 * b.width + 2) _ _ _ (wider b.code t view jumps b.most _ _ few to.1)
      (rest_proceeds rest to.0 l fs values q cs entered number f to.2 callers fit ordinary)

  -- the end of a RECOVER part: on in the procedure that it interrupted
  recovery_ends : (place : ℕ) (l : Locals) (fs : List MachineFrame) (values : List ℤ) (q : Procedure)
      (cs : List Caller) (entered : Option ℕ) (number m : ℕ) → q.role ≡ Recover m → Implements b.code
      (setting_of b.program b.starts q) b.most 0 place Done
      → CallersStand b number q fs cs → OwnFit b (goes_on entered (frame_at q values Done) cs) v
      → Proceeds b t v (1 + (b.most + (2 * b.width + 2))) (Runs place [] l fs)
      (goes_on entered (frame_at q values Done) cs)
  recovery_ends place l [] values q [] entered number m e code (is_first (inl main)) fit =
      absurd (cc (e, main.0))
  recovery_ends place l [] values q [] entered number m e code (is_first (inr forked)) fit =
      absurd (subst MayBeForked e forked)
  recovery_ends place l (mf ∷ fs) values q (c ∷ cs) entered number m e code
      (is_called n caller calls may lower fits behind below) fit = absurd (subst (MayCall caller.role) e may)
  recovery_ends place l [] values q (c ∷ cs) entered number m e code h fit = elim h [ ]
  recovery_ends place l (mf ∷ fs) values q [] entered number m e code h fit = elim h [ ]
  recovery_ends place l (mf ∷ fs) values q (c ∷ cs) entered number m e code
      (is_recovery n caller monitor role none into own calls behind below) fit =
      let hands : HandsOver caller.role = owner_hands caller.role monitor own calls in
      let interrupted = frame_at caller c.frame.locals c.frame.rest in
      let same : c.frame ≡ interrupted = ap (λ (r : Role). record {
        role = r;
        locals = c.frame.locals;
        rest = c.frame.rest;
      }) behind.frame.role in
      let on : goes_on entered (frame_at q values Done) (c ∷ cs) ≡ goes_on entered interrupted cs =
      ap (λ (r : Role). goes_on_by r Done entered (frame_at q values Done) (c ∷ cs)) e
      ∙ ap (λ (f : Frame). Before entered f cs) same
      ∙ sym (before_answer caller.role c.frame.rest entered interrupted cs hands) in
      let shown = on ∙ before_answer caller.role c.frame.rest entered interrupted cs hands in
      let fit' : FitIn b caller.role v = subst (λ (r : Process). OwnFit b r v) shown fit in
      let bare : StandAt b.code place (ending_code (setting_of b.program b.starts q) (place + 0)) =
      subst (λ (k : Option _). StandAt b.code place (default_code k ++ ending_code
      (setting_of b.program b.starts q) (place + length (default_code k)))) none (finish_of code) in
      let ret : StandAt b.code place (return_code (Recover m) q.result ∷ []) =
      subst (λ (r : Role). StandAt b.code place (leaving_code b.program r (place + 0) ++ return_code r q.result ∷ []))
      e bare in
      let at_ret : IsAt b.code place (plain Ret) =
      subst (λ (k : Option _). IsAt b.code place (return_code (Recover m) k)) none ret.0 in
      let view = view_of b (goes_on entered interrupted cs) v in
      let step = one_step b.code t view (Runs place [] l (mf ∷ fs)) (Runs mf.back [] mf.locals fs)
      (look_here b.code t view place Ret [] l (mf ∷ fs) at_ret)
      (ap deferred_by_mark at_ret.1) in
      let at : mf.back + 0 ≡ mf.back = omega arith in
      let frame : IsFrame b.program b.height b.made b.width n caller interrupted mf.locals = record {
        procedure = behind.frame.procedure;
        role = refl;
        typed = behind.frame.typed;
        holds = behind.frame.holds;
        words = behind.frame.words;
        few = behind.frame.few;
        body = behind.frame.body;
      } in
      let more = subst (λ k. Implements b.code (setting_of b.program b.starts caller) b.most behind.jumps k
      c.frame.rest) at behind.more in
      subst (λ (r : Process). Proceeds b t v (1 + (b.most + (2 * b.width + 2))) (Runs place [] l (mf ∷ fs)) r) (sym on)
      (proceeds_on b t v 1 (b.most + (2 * b.width + 2)) _ _ _ step
      (jumps_proceed c.frame.rest mf.back behind.jumps mf.locals fs c.frame.locals caller cs entered n frame behind.few
      more below fit' (λ k. calls)))
    where
      owner_hands : (role : Role) (m : ℕ) → own_monitor role ≡ Some m → IsNoRecover role → HandsOver role
      owner_hands (Entry k) m own calls = tt
      owner_hands (Internal k) m own calls = tt
      owner_hands (Recover k) m own calls = absurd calls
      owner_hands External m own calls = tt
      owner_hands Main m own calls = absurd (cc own)

  -- from where the code does what is left of the body
  body_proceeds : (rest : Block) (place jumps : ℕ) (l : Locals) (fs : List MachineFrame) (values : List ℤ)
      (q : Procedure) (cs : List Caller) (entered : Option ℕ) (number : ℕ)
      → IsFrame b.program b.height b.made b.width number q (frame_at q values rest) l → jumps ≤ b.most
      → Implements b.code (setting_of b.program b.starts q) b.most jumps place rest → CallersStand b number q fs cs
      → OwnFit b (goes_on entered (frame_at q values rest) cs) v
      → Proceeds b t v (b.most + (1 + (b.most + (2 * b.width + 2)))) (Runs place [] l fs)
      (goes_on entered (frame_at q values rest) cs)
  body_proceeds (Then s rest) place jumps l fs values q cs entered number f few code callers fit =
      let ordinary : Then s rest ≡ Done → IsNoRecover q.role = λ e. absurd (cc e) in
      let own = own_same q.role (Then s rest) entered (frame_at q values (Then s rest)) cs refl ordinary in
      proceeds_wider b t v (b.most + (2 * b.width + 2)) _ _ _ (omega arith)
      (jumps_proceed (Then s rest) place jumps l fs values q cs entered number f few code callers
      (λ m h. fit m (own ∙ h)) ordinary)
  body_proceeds Done place jumps l fs values q cs entered number f few code callers fit = by_role q.role refl
    where
      ends : IsNoRecover q.role → Proceeds b t v (b.most + (1 + (b.most + (2 * b.width + 2)))) (Runs place [] l fs)
          (goes_on entered (frame_at q values Done) cs)
      ends calls =
          let own = own_same q.role Done entered (frame_at q values Done) cs refl (λ k. calls) in
          proceeds_wider b t v (b.most + (2 * b.width + 2)) _ _ _ (omega arith)
          (jumps_proceed Done place jumps l fs values q cs entered number f few code callers (λ m h. fit m (own ∙ h))
          (λ k. calls))

      by_role : (role : Role) → q.role ≡ role → Proceeds b t v (b.most + (1 + (b.most + (2 * b.width + 2))))
          (Runs place [] l fs) (goes_on entered (frame_at q values Done) cs)
      by_role (Entry m) e = ends (subst IsNoRecover (sym e) tt)
      by_role (Internal m) e = ends (subst IsNoRecover (sym e) tt)
      by_role External e = ends (subst IsNoRecover (sym e) tt)
      by_role Main e = ends (subst IsNoRecover (sym e) tt)
      by_role (Recover m) e =
          let view = view_of b (goes_on entered (frame_at q values Done) cs) v in
          let to = after_jumps b.code (setting_of b.program b.starts q) b.most t view [] l fs code in
          proceeds_on b t v b.most (1 + (b.most + (2 * b.width + 2))) _ _ _
          (wider b.code t view jumps b.most _ _ few to.1)
          (recovery_ends to.0 l fs values q cs entered number m e to.2 callers fit)

  running_proceeds : (place : ℕ) (l : Locals) (fs : List MachineFrame) (f : Frame) (cs : List Caller)
      (entered : Option ℕ) → Running b place l fs f cs → OwnFit b (goes_on entered f cs) v
      → Proceeds b t v (b.most + (1 + (b.most + (2 * b.width + 2)))) (Runs place [] l fs) (goes_on entered f cs)
  running_proceeds place l fs f cs entered r fit =
      let q = r.procedure in
      let same : f ≡ frame_at q f.locals f.rest =
      ap (λ (role : Role). record { role = role; locals = f.locals; rest = f.rest }) r.frame.role in
      let frame : IsFrame b.program b.height b.made b.width r.number q (frame_at q f.locals f.rest) l = record {
        procedure = r.frame.procedure;
        role = refl;
        typed = r.frame.typed;
        holds = r.frame.holds;
        words = r.frame.words;
        few = r.frame.few;
        body = r.frame.body;
      } in
      subst (λ (g : Frame). Proceeds b t v (b.most + (1 + (b.most + (2 * b.width + 2)))) (Runs place [] l fs)
      (goes_on entered g cs)) (sym same)
      (body_proceeds f.rest place r.jumps l fs f.locals q cs entered r.number frame r.few r.code r.callers
      (subst (λ (g : Frame). OwnFit b (goes_on entered g cs) v) same fit))

  stands_proceeds : (x : Thread) (q : Process) → Stands b t x q → OwnFit b q v → Proceeds b t v (most_steps b) x q
  stands_proceeds x q (runs entered f cs place l fs walk r same) fit =
      let p = goes_on entered f cs in
      let steps = b.most + (1 + (b.most + (2 * b.width + 2))) in
      subst (λ (k : Process). Proceeds b t v (most_steps b) x k) (sym same)
      (proceeds_wider b t v (16 + steps) (most_steps b) x p (omega arith)
      (proceeds_on b t v 16 steps x (Runs place [] l fs) p
      (seen b.code t b.program (view_of b p v) 16 x (Runs place [] l fs) walk)
      (running_proceeds place l fs f cs entered r (subst (λ (k : Process). OwnFit b k v) same fit))))
  stands_proceeds x q (enters m f cs place l fs walk h same) fit =
      let p = Entering m f cs in
      subst (λ (k : Process). Proceeds b t v (most_steps b) x k) (sym same)
      (proceeds_wider b t v (16 + 0) (most_steps b) x p (omega arith)
      (proceeds_on b t v 16 0 x (Runs place [] l fs) p
      (seen b.code t b.program (view_of b p v) 16 x (Runs place [] l fs) walk)
      (entering_proceeds b is t v m place l fs f cs h)))
  stands_proceeds x q (returns z cs place shown l fs walk h same) fit =
      let p = Returning z cs in
      let y = Runs place (result_operands shown) l fs in
      subst (λ (k : Process). Proceeds b t v (most_steps b) x k) (sym same)
      (proceeds_wider b t v (16 + 1) (most_steps b) x p (omega arith)
      (proceeds_on b t v 16 1 x y p (seen b.code t b.program (view_of b p v) 16 x y walk)
      (called_returns b t v h.procedure.result shown place l fs h.number h.procedure cs z p
      (subst IsNoRecover (sym h.role) tt) (subst HandsOver (sym h.role) tt) refl h.callers h.result h.code.0 refl)))
  stands_proceeds x q (fails m f cs walk same) fit =
      let p = Failing AbandonedMonitor (Some m) f cs in
      subst (λ (k : Process). Proceeds b t v (most_steps b) x k) (sym same)
      (proceeds_wider b t v (16 + 0) (most_steps b) x p (omega arith)
      (proceeds_on b t v 16 0 x (Dies (Faulted AbandonedMonitor)) p
      (seen b.code t b.program (view_of b p v) 16 x (Dies (Faulted AbandonedMonitor)) walk)
      (done b t v (Dies (Faulted AbandonedMonitor)) p (F.faults AbandonedMonitor refl refl))))

pub followed : (b : Build) → IsBuild b → IsFollowed b
followed b is t v x q s fit = stands_proceeds b is t v x q s fit
