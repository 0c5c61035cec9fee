-- Which monitors a process holds in a procedure: its own first, where it is in one.
use Rattle.std.proofs.Common.{inl, inr, ◌≡◌, ℕ, List, [], ◌∷◌, Option, Some, None, refl, ap, sym, ◌∙◌, subst}
use Rattle.program.specs.declared.kinds.Role.{Role}
use Rattle.program.specs.declared.kinds.Role.TheVariants.{Entry, Internal, Recover, External, Main}
use Rattle.program.specs.Trees.{Assign, If, While, Call, Fork, Join, Return, Wait, Notify, Broadcast, Print, Abort}
use Rattle.program.specs.Trees.{Block, Done, Then, Procedure}
use Rattle.program.specs.Scope.{own_monitor}
use Rattle.program.specs.Typing.{MayCall, MayBeForked}
use Rattle.locals.specs.declared.frame.Locals.{Locals}
use Rattle.locals.specs.declared.frame.Frame.{Frame as MachineFrame}
use Rattle.meaning.specs.Processes.{Frame, Caller, Process, goes_on, goes_on_by, begins, begins_by, holds, all_monitors}
use Rattle.meaning.specs.Processes.{callers_monitors, monitor_of_role}
use Rattle.proof_thread.specs.Following.{Build, IsFirst, CallersStand, is_first, is_called, is_recovery, Running}
use Rattle.proof_thread.specs.Following.{own_of}
use Rattle.proof_thread.specs.Following.{runs, enters, returns, fails}
use Rattle.proof_thread.specs.Completing.{HasFirst}
use Rattle.proof_thread.specs.Builds.{IsBuild, IsHeld}

-- a procedure that no other called is no INTERNAL one, and no RECOVER part
no_internal_first : (q : Procedure) (k : ℕ) → IsFirst q → q.role ≡ Internal k → ⊥
no_internal_first q k (inl (main, none)) e = let clash = sym e ∙ main in absurd cc
no_internal_first q k (inr may) e = subst MayBeForked e may

no_recover_first : (q : Procedure) (k : ℕ) → IsFirst q → q.role ≡ Recover k → ⊥
no_recover_first q k (inl (main, none)) e = let clash = sym e ∙ main in absurd cc
no_recover_first q k (inr may) e = subst MayBeForked e may

-- the monitor comes first among those of a procedure of this role and its callers
abbrev pub IsFirstOf : ℕ → Role → List Caller → Type 0
IsFirstOf m role cs = (ms : List ℕ) × (monitor_of_role role (callers_monitors cs) ≡ m ∷ ms)

module _ (b : Build) where
  -- the main part has no callers
  pub main_alone : (number : ℕ) (q : Procedure) (fs : List MachineFrame) (cs : List Caller)
      → CallersStand b number q fs cs → q.role ≡ Main → cs ≡ []
  main_alone number q [] [] h e = refl
  main_alone number q [] (c ∷ cs) h e = elim h [ ]
  main_alone number q (m ∷ fs) [] h e = refl
  main_alone number q (m ∷ fs) (c ∷ cs) (is_called k caller calls may lower fits behind below) e =
      absurd (subst (MayCall caller.role) e may)
  main_alone number q (m ∷ fs) (c ∷ cs) (is_recovery k caller monitor role none into own calls behind below) e =
      let clash = sym role ∙ e in absurd cc

  -- a process in a procedure of a monitor holds that monitor, innermost
  pub own_first_by : (m : ℕ) (role : Role) (number : ℕ) (q : Procedure) (fs : List MachineFrame) (cs : List Caller)
      → q.role ≡ role → CallersStand b number q fs cs → own_monitor role ≡ Some m → IsFirstOf m role cs
  own_first_by m (Entry k) number q fs cs e h own =
      let same : k ≡ m = cc in (callers_monitors cs, ap (λ (n : ℕ). n ∷ callers_monitors cs) same)
  own_first_by m (Internal k) number q [] [] e (is_first first) own = absurd (no_internal_first q k first e)
  own_first_by m (Internal k) number q [] (c ∷ cs) e h own = elim h [ ]
  own_first_by m (Internal k) number q (f ∷ fs) [] e h own = elim h [ ]
  own_first_by m (Internal k) number q (f ∷ fs) (c ∷ cs) e (is_called n caller calls may lower fits behind below) own =
      let owned : own_monitor caller.role ≡ Some k = subst (MayCall caller.role) e may in
      subst (λ (r : Role). IsFirstOf m r cs) (sym behind.frame.role)
      (own_first_by m caller.role n caller fs cs refl below (owned ∙ own))
  own_first_by m (Internal k) number q (f ∷ fs) (c ∷ cs) e
      (is_recovery n caller monitor role none into owned calls behind below) own = let clash = sym role ∙ e in absurd cc
  own_first_by m (Recover k) number q [] [] e (is_first first) own = absurd (no_recover_first q k first e)
  own_first_by m (Recover k) number q [] (c ∷ cs) e h own = elim h [ ]
  own_first_by m (Recover k) number q (f ∷ fs) [] e h own = elim h [ ]
  own_first_by m (Recover k) number q (f ∷ fs) (c ∷ cs) e (is_called n caller calls may lower fits behind below) own =
      absurd (subst (MayCall caller.role) e may)
  own_first_by m (Recover k) number q (f ∷ fs) (c ∷ cs) e
      (is_recovery n caller monitor role none into owned calls behind below) own =
      let same : monitor ≡ m = let clash = sym role ∙ e in cc in
      subst (λ (r : Role). IsFirstOf m r cs) (sym behind.frame.role)
      (own_first_by m caller.role n caller fs cs refl below (owned ∙ ap Some same))
  own_first_by m External number q fs cs e h own = absurd cc
  own_first_by m Main number q fs cs e h own = absurd cc

  pub own_first : (m place : ℕ) (l : Locals) (fs : List MachineFrame) (f : Frame) (cs : List Caller)
      → Running b place l fs f cs → own_monitor f.role ≡ Some m → (ms : List ℕ) × (all_monitors f cs ≡ m ∷ ms)
  own_first m place l fs f cs h own =
      own_first_by m f.role h.number h.procedure fs cs (sym h.frame.role) h.callers own

  -- a process that goes on in a procedure holds the monitors of its ENTRY procedures
  pub goes_on_holds : (entered : Option ℕ) (f : Frame) (cs : List Caller) → (f.role ≡ Main → cs ≡ [])
      → holds (goes_on entered f cs) ≡ all_monitors f cs
  goes_on_holds entered f cs alone = by_role f.role f.rest refl cs alone
    where
      none : (cs : List Caller) → cs ≡ [] → [] ≡ callers_monitors cs
      none cs e = ap callers_monitors (sym e)

      by_role : (role : Role) (rest : Block) → f.role ≡ role → (cs : List Caller) → (f.role ≡ Main → cs ≡ [])
          → holds (goes_on_by role rest entered f cs) ≡ monitor_of_role f.role (callers_monitors cs)
      by_role (Entry m) rest e cs alone = refl
      by_role (Internal m) rest e cs alone = refl
      by_role (Recover m) Done e [] alone = rw e refl
      by_role (Recover m) Done e (c ∷ cs) alone = rw e refl
      by_role (Recover m) (Then s rest) e cs alone = refl
      by_role External rest e cs alone = refl
      by_role Main Done e cs alone = rw e (none cs (alone e))
      by_role Main (Then (Return value) rest) e cs alone = rw e (none cs (alone e))
      by_role Main (Then (Assign target e) rest) e' cs alone = refl
      by_role Main (Then (If e x y) rest) e' cs alone = refl
      by_role Main (Then (While e x) rest) e' cs alone = refl
      by_role Main (Then (Call q es into) rest) e' cs alone = refl
      by_role Main (Then (Fork q es into) rest) e' cs alone = refl
      by_role Main (Then (Join e into y) rest) e' cs alone = refl
      by_role Main (Then (Wait c) rest) e' cs alone = refl
      by_role Main (Then (Notify c) rest) e' cs alone = refl
      by_role Main (Then (Broadcast c) rest) e' cs alone = refl
      by_role Main (Then (Print e) rest) e' cs alone = refl
      by_role Main (Then Abort rest) e' cs alone = refl

  pub running_holds : (entered : Option ℕ) (place : ℕ) (l : Locals) (fs : List MachineFrame) (f : Frame)
      (cs : List Caller) → Running b place l fs f cs → holds (goes_on entered f cs) ≡ all_monitors f cs
  running_holds entered place l fs f cs h =
      goes_on_holds entered f cs (λ e. main_alone h.number h.procedure fs cs h.callers (sym h.frame.role ∙ e))

  -- a procedure that a RECOVER part interrupted
  recovered_held : (m : ℕ) (number : ℕ) (q : Procedure) (fs : List MachineFrame) (c : Caller) (cs : List Caller) (k : ℕ)
      → q.role ≡ Recover k → CallersStand b number q fs (c ∷ cs) → own_monitor c.frame.role ≡ Some m
      → IsFirstOf m c.frame.role cs
  recovered_held m number q [] c cs k e h own = elim h [ ]
  recovered_held m number q (f ∷ fs) c cs k e (is_called n caller calls may lower fits behind below) own =
      absurd (subst (MayCall caller.role) e may)
  recovered_held m number q (f ∷ fs) c cs k e
      (is_recovery n caller monitor role none into owned calls behind below) own =
      own_first_by m c.frame.role n caller fs cs (sym behind.frame.role) below own

  pub running_held : (m : ℕ) (entered : Option ℕ) (place : ℕ) (l : Locals) (fs : List MachineFrame) (f : Frame)
      (cs : List Caller) → Running b place l fs f cs → own_of (goes_on entered f cs) ≡ Some m
      → HasFirst (goes_on entered f cs) m
  running_held m entered place l fs f cs h own = by_role f.role f.rest cs (sym h.frame.role) h.callers own
    where
      before : (cs : List Caller) → CallersStand b h.number h.procedure fs cs → own_monitor f.role ≡ Some m
          → IsFirstOf m f.role cs
      before cs below own = own_first_by m f.role h.number h.procedure fs cs (sym h.frame.role) below own

      by_role : (role : Role) (rest : Block) (cs : List Caller) → h.procedure.role ≡ role
          → CallersStand b h.number h.procedure fs cs → own_of (goes_on_by role rest entered f cs) ≡ Some m
          → HasFirst (goes_on_by role rest entered f cs) m
      by_role (Entry k) rest cs e below own = before cs below own
      by_role (Internal k) rest cs e below own = before cs below own
      by_role (Recover k) Done [] e below own = absurd cc
      by_role (Recover k) Done (c ∷ cs) e below own = recovered_held m h.number h.procedure fs c cs k e below own
      by_role (Recover k) (Then s rest) cs e below own = before cs below own
      by_role External rest cs e below own = before cs below own
      by_role Main Done cs e below own = absurd cc
      by_role Main (Then (Return value) rest) cs e below own = absurd cc
      by_role Main (Then (Assign target e) rest) cs e' below own = before cs below own
      by_role Main (Then (If e x y) rest) cs e' below own = before cs below own
      by_role Main (Then (While e x) rest) cs e' below own = before cs below own
      by_role Main (Then (Call q es into) rest) cs e' below own = before cs below own
      by_role Main (Then (Fork q es into) rest) cs e' below own = before cs below own
      by_role Main (Then (Join e into y) rest) cs e' below own = before cs below own
      by_role Main (Then (Wait c) rest) cs e' below own = before cs below own
      by_role Main (Then (Notify c) rest) cs e' below own = before cs below own
      by_role Main (Then (Broadcast c) rest) cs e' below own = before cs below own
      by_role Main (Then (Print e) rest) cs e' below own = before cs below own
      by_role Main (Then Abort rest) cs e' below own = before cs below own

  -- what a process may read and holds, given as another
  held_as : (m : ℕ) (q r : Process) → q ≡ r → own_of q ≡ Some m → (own_of r ≡ Some m → HasFirst r m) → HasFirst q m
  held_as m q r e own h = subst (λ (p : Process). HasFirst p m) (sym e) (h (ap own_of (sym e) ∙ own))

pub held : (b : Build) → IsBuild b → IsHeld b
held b is t x q (runs entered f cs place l fs walk running e) m own =
    held_as b m q _ e own (running_held b m entered place l fs f cs running)
held b is t x q (enters k f cs place l fs walk entering e) m own = held_as b m q _ e own (λ none. absurd cc)
held b is t x q (returns z cs place shown l fs walk returning e) m own = held_as b m q _ e own (λ none. absurd cc)
held b is t x q (fails k f cs walk e) m own = held_as b m q _ e own (λ none. absurd cc)

-- a process that was just made holds no monitor
pub first_holds : (b : Build) (f : Frame) → holds (begins f []) ≡ []
first_holds b f = by_role f.role refl
  where
    on : (role : Role) → f.role ≡ role → monitor_of_role role [] ≡ [] → holds (goes_on None f []) ≡ []
    on role e none = goes_on_holds b None f [] (λ i. refl) ∙ ap (λ (r : Role). monitor_of_role r []) e ∙ none

    by_role : (role : Role) → f.role ≡ role → holds (begins_by role f []) ≡ []
    by_role (Entry m) e = refl
    by_role (Internal m) e = on (Internal m) e refl
    by_role (Recover m) e = on (Recover m) e refl
    by_role External e = on External e refl
    by_role Main e = on Main e refl
