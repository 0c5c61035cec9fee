-- The actions of a process in its own code keep the monitors that it holds, but those that take or give up one.
use Rattle.std.proofs.Common.{◌≡◌, ℕ, zero, suc, List, [], ◌∷◌, Option, Some, None, ℤ, pos, negsuc, refl, sym, ◌∙◌}
use Rattle.std.proofs.Common.{subst, inl, inr}
use Rattle.std.specs.Prelude.{slice_get}
use Rattle.words.specs.declared.outcome.Fault.{Fault}
use Rattle.words.specs.declared.outcome.Fault.TheVariants.{AbandonedMonitor}
use Rattle.program.specs.declared.kinds.Role.{Role}
use Rattle.program.specs.declared.kinds.Role.TheVariants.{Entry, Internal, Recover, External, Main}
use Rattle.program.specs.Trees.{Expression, Target, ToLocal, ToMember, ToElement, Statement, Assign, If, While, Call}
use Rattle.program.specs.Trees.{Fork, Join, Return, Wait, Notify, Broadcast, Print, Abort, Block, Done, Then, Part}
use Rattle.program.specs.Trees.{Procedure}
use Rattle.program.specs.Scope.{Scope, scope_of, array_size}
use Rattle.program.specs.Typing.{Fits, MayCall}
use Rattle.locals.specs.Threads.{Thread}
use Rattle.locals.specs.declared.frame.Locals.{Locals}
use Rattle.locals.specs.declared.frame.Frame.{Frame as MachineFrame}
use Rattle.meaning.specs.Values.{Variables, Evaluated, Value, Fails, EvaluatedAll, Values, FailsAll, evaluate}
use Rattle.meaning.specs.Values.{evaluate_all, index_in}
use Rattle.meaning.specs.Labels.{Label}
use Rattle.meaning.specs.Processes.{Frame, Caller, Process, goes_on, goes_on_by, begins, begins_by, opening_frame}
use Rattle.meaning.specs.Processes.{frame_of, with_local, with_result, hands_over, holds, all_monitors}
use Rattle.meaning.specs.Processes.{callers_monitors, monitor_of_role}
use Rattle.meaning.specs.Offers.{Effect, Offer, Does, faults, with_value, with_values, with_index, answers, assigns}
use Rattle.meaning.specs.Offers.{claims, return_value, statement_offer, rest_offer, offer, TakesUp}
use Rattle.proof_thread.specs.Following.{Build, AreSound, IsFrame, CallersStand, is_called, is_recovery, Running}
use Rattle.proof_thread.specs.Following.{Stands}
use Rattle.proof_thread.specs.Following.{runs, enters, returns, fails}
use Rattle.proof_thread.proofs.Holding.{main_alone, goes_on_holds}
use Rattle.proof_simulation.specs.Standing.{IsLast, KeepsMonitors, Holds}

-- all that comes of an offer holds these monitors
abbrev Keeps : Offer → List ℕ → Type 0
Keeps o ms = (label : Label) (effect : Effect) (r : Process) → KeepsMonitors label → TakesUp o label effect r
    → Holds ms r

does_keeps : (l : Label) (e : Effect) (q : Process) (ms : List ℕ) → (KeepsMonitors l → Holds ms q)
    → Keeps (Does l e q) ms
does_keeps l e q ms h label effect r keeps takes =
    subst (λ (x : Process). Holds ms x) (sym takes.2) (h (subst KeepsMonitors takes.0 keeps))

pub faults_keep : (fault : Fault) (f : Frame) (cs : List Caller) → Keeps (faults fault f cs) (all_monitors f cs)
faults_keep fault f cs = does_keeps _ _ _ _ (λ k. refl)

value_keeps : (e : Evaluated) (f : Frame) (cs : List Caller) (go : ℤ → Offer)
    → ((z : ℤ) → Keeps (go z) (all_monitors f cs)) → Keeps (with_value e f cs go) (all_monitors f cs)
value_keeps (Value z) f cs go h = h z
value_keeps (Fails fault) f cs go h = faults_keep fault f cs

values_keep : (e : EvaluatedAll) (f : Frame) (cs : List Caller) (go : List ℤ → Offer)
    → ((zs : List ℤ) → Keeps (go zs) (all_monitors f cs)) → Keeps (with_values e f cs go) (all_monitors f cs)
values_keep (Values zs) f cs go h = h zs
values_keep (FailsAll fault) f cs go h = faults_keep fault f cs

index_keeps : (i : Option ℕ) (f : Frame) (cs : List Caller) (go : ℕ → Offer)
    → ((n : ℕ) → Keeps (go n) (all_monitors f cs)) → Keeps (with_index i f cs go) (all_monitors f cs)
index_keeps (Some n) f cs go h = h n
index_keeps None f cs go h = faults_keep _ f cs

-- a process that goes on joins none
on_holds : (ms : List ℕ) (entered : Option ℕ) (f : Frame) (role : Role) (rest : Block) (cs : List Caller)
    → holds (goes_on_by role rest entered f cs) ≡ ms → Holds ms (goes_on_by role rest entered f cs)
on_holds ms entered f (Entry m) rest cs h = h
on_holds ms entered f (Internal m) rest cs h = h
on_holds ms entered f (Recover m) Done [] h = h
on_holds ms entered f (Recover m) Done (c ∷ cs) h = h
on_holds ms entered f (Recover m) (Then s rest) cs h = h
on_holds ms entered f External rest cs h = h
on_holds ms entered f Main Done cs h = h
on_holds ms entered f Main (Then (Return value) rest) cs h = h
on_holds ms entered f Main (Then (Assign target e) rest) cs h = h
on_holds ms entered f Main (Then (If e x y) rest) cs h = h
on_holds ms entered f Main (Then (While e x) rest) cs h = h
on_holds ms entered f Main (Then (Call q es into) rest) cs h = h
on_holds ms entered f Main (Then (Fork q es into) rest) cs h = h
on_holds ms entered f Main (Then (Join e into y) rest) cs h = h
on_holds ms entered f Main (Then (Wait c) rest) cs h = h
on_holds ms entered f Main (Then (Notify c) rest) cs h = h
on_holds ms entered f Main (Then (Broadcast c) rest) cs h = h
on_holds ms entered f Main (Then (Print e) rest) cs h = h
on_holds ms entered f Main (Then Abort rest) cs h = h

pub goes_on_keeps : (b : Build) (entered : Option ℕ) (f : Frame) (cs : List Caller) → IsLast f cs
    → Holds (all_monitors f cs) (goes_on entered f cs)
goes_on_keeps b entered f cs last =
    on_holds (all_monitors f cs) entered f f.role f.rest cs (goes_on_holds b entered f cs last)

-- the next caller has none, if it is the main part
abbrev IsBelow : List Caller → Type 0
IsBelow [] = Unit {0}
IsBelow (c ∷ cs) = IsLast c.frame cs

hands_keep : (b : Build) (z : ℤ) (cs : List Caller) → IsBelow cs → Holds (callers_monitors cs) (hands_over z cs)
hands_keep b z [] below = refl
hands_keep b z (c ∷ cs) below = by_result c.into
  where
    by_result : (into : Option ℕ) → Holds (callers_monitors (c ∷ cs)) (goes_on None (with_result into z c.frame) cs)
    by_result None = goes_on_keeps b None c.frame cs below
    by_result (Some slot) = goes_on_keeps b None (with_local c.frame slot z) cs below

answers_keep : (b : Build) (role : Role) (z : ℤ) (cs : List Caller) → IsBelow cs
    → Keeps (answers role z cs) (monitor_of_role role (callers_monitors cs))
answers_keep b (Entry m) z cs below = does_keeps _ _ _ _ (λ k. absurd k)
answers_keep b (Internal m) z cs below = does_keeps _ _ _ _ (λ k. hands_keep b z cs below)
answers_keep b External z cs below = does_keeps _ _ _ _ (λ k. hands_keep b z cs below)
answers_keep b (Recover m) z cs below = λ label effect r keeps takes. absurd takes
answers_keep b Main z cs below = λ label effect r keeps takes. absurd takes

-- a procedure that is called is no main part
begins_keep : (b : Build) (caller role : Role) (g : Frame) (cs : List Caller) → g.role ≡ role → MayCall caller role
    → Holds (callers_monitors cs) (begins_by role g cs)
begins_keep b caller (Entry m) g cs e may = refl
begins_keep b caller (Internal m) g cs e may =
    let h = goes_on_keeps b None g cs (λ main. let clash = sym e ∙ main in absurd cc) in
    subst (λ (r : Role). Holds (monitor_of_role r (callers_monitors cs)) (goes_on None g cs)) e h
begins_keep b caller External g cs e may =
    let h = goes_on_keeps b None g cs (λ main. let clash = sym e ∙ main in absurd cc) in
    subst (λ (r : Role). Holds (monitor_of_role r (callers_monitors cs)) (goes_on None g cs)) e h
begins_keep b caller (Recover m) g cs e may = absurd may
begins_keep b caller Main g cs e may = absurd may

module _ (b : Build) (s : Scope) (v : Variables) (f : Frame) (cs : List Caller) (last : IsLast f cs)
    (below : IsBelow cs) where
  abbrev ms : List ℕ
  ms = all_monitors f cs

  assigns_keep : (target : Target) (e : Expression) → Keeps (assigns s.program v f cs target e) ms
  assigns_keep (ToLocal slot) e = value_keeps (evaluate s.program v f.locals e) f cs _
      (λ z. does_keeps _ _ _ _ (λ k. goes_on_keeps b None (with_local f slot z) cs last))
  assigns_keep (ToMember m) e = value_keeps (evaluate s.program v f.locals e) f cs _
      (λ z. does_keeps _ _ _ _ (λ k. goes_on_keeps b None f cs last))
  assigns_keep (ToElement a i) e = value_keeps (evaluate s.program v f.locals i) f cs _
      (λ n. index_keeps (index_in (array_size s.program a) n) f cs _ (λ j.
      value_keeps (evaluate s.program v f.locals e) f cs _
      (λ z. does_keeps _ _ _ _ (λ k. goes_on_keeps b None f cs last))))

  claims_keep : (z : ℤ) (into : Option ℕ) (part : Part) → Keeps (claims z into part f cs) ms
  claims_keep (pos zero) into part = faults_keep _ f cs
  claims_keep (negsuc n) into part = faults_keep _ f cs
  claims_keep (pos (suc n)) into part = λ label effect r keeps takes. elim takes [
    | inl m ↦ subst (λ (x : Process). Holds ms x) (sym m.2) (refl, last)
    | inr m ↦ subst (λ (x : Process). Holds ms x) (sym m.2) refl
  ]

  calls_keep : (q : ℕ) (zs : List ℤ) (into : Option ℕ) (callee : Procedure)
      → slice_get s.program.procedures q ≡ Some callee → MayCall s.role callee.role
      → Holds ms (begins (opening_frame s.program q zs) (record { into = into; frame = f } ∷ cs))
  calls_keep q zs into callee there may =
      subst (λ (o : Option Procedure). Holds ms (begins (frame_of o zs) (record { into = into; frame = f } ∷ cs)))
      (sym there)
      (begins_keep b s.role callee.role (frame_of (Some callee) zs) (record { into = into; frame = f } ∷ cs) refl may)

  statement_keeps : (x : Statement) → Fits s x → Keeps (statement_offer s.program v f cs x) ms
  statement_keeps (Assign target e) h = assigns_keep target e
  statement_keeps (If e x part) h = value_keeps (evaluate s.program v f.locals e) f cs _
      (λ z. does_keeps _ _ _ _ (λ k. goes_on_keeps b None _ cs last))
  statement_keeps (While e x) h = value_keeps (evaluate s.program v f.locals e) f cs _
      (λ z. does_keeps _ _ _ _ (λ k. goes_on_keeps b None _ cs last))
  statement_keeps (Call q es into) h = values_keep (evaluate_all s.program v f.locals es) f cs _
      (λ zs. does_keeps _ _ _ _ (λ k. calls_keep q zs into h.1 h.2 h.3))
  statement_keeps (Fork q es into) h = values_keep (evaluate_all s.program v f.locals es) f cs _
      (λ zs label effect r keeps takes. elim takes [
        | inl m ↦ subst (λ (x : Process). Holds ms x) (sym m.3)
            (goes_on_keeps b None (with_local f into (pos m.0)) cs last)
        | inr m ↦ subst (λ (x : Process). Holds ms x) (sym m.2) refl
      ])
  statement_keeps (Join e into part) h = value_keeps (evaluate s.program v f.locals e) f cs _
      (λ z. claims_keep z into part)
  statement_keeps (Return value) h = value_keeps (return_value s.program v f value) f cs _
      (λ z. answers_keep b f.role z cs below)
  statement_keeps (Wait c) h = does_keeps _ _ _ _ (λ k. absurd k)
  statement_keeps (Notify c) h = λ label effect r keeps takes.
      subst (λ (x : Process). Holds ms x) (sym takes.3) (goes_on_keeps b None f cs last)
  statement_keeps (Broadcast c) h = λ label effect r keeps takes.
      subst (λ (x : Process). Holds ms x) (sym takes.3) (goes_on_keeps b None f cs last)
  statement_keeps (Print e) h = value_keeps (evaluate s.program v f.locals e) f cs _
      (λ z. does_keeps _ _ _ _ (λ k. goes_on_keeps b None f cs last))
  statement_keeps Abort h = faults_keep _ f cs

module _ (b : Build) (v : Variables) where
  below_by : (q : Procedure) (number : ℕ) (fs : List MachineFrame) (cs : List Caller)
      → CallersStand b number q fs cs → IsBelow cs
  below_by q number [] [] stand = tt
  below_by q number [] (c ∷ cs) stand = elim stand [ ]
  below_by q number (m ∷ fs) [] stand = tt
  below_by q number (m ∷ fs) (c ∷ cs) (is_called k caller calls may lower fits behind rest) = λ e.
      main_alone b k caller fs cs rest (sym behind.frame.role ∙ e)
  below_by q number (m ∷ fs) (c ∷ cs) (is_recovery k caller monitor role none into own calls behind rest) = λ e.
      main_alone b k caller fs cs rest (sym behind.frame.role ∙ e)

  frame_keeps : (number : ℕ) (q : Procedure) (f : Frame) (l : Locals) (fs : List MachineFrame) (cs : List Caller)
      → IsFrame b.program b.height b.made b.width number q f l → CallersStand b number q fs cs
      → Keeps (rest_offer b.program v f cs f.rest) (all_monitors f cs)
  frame_keeps number q f l fs cs h callers = by_rest f.rest h.body
    where
      last : IsLast f cs
      last e = main_alone b number q fs cs callers (sym h.role ∙ e)

      by_rest : (rest : Block) → AreSound b.height b.width number (scope_of b.program q) rest
          → Keeps (rest_offer b.program v f cs rest) (all_monitors f cs)
      by_rest Done sound = answers_keep b f.role (pos 0) cs (below_by q number fs cs callers)
      by_rest (Then s rest) sound =
          statement_keeps b (scope_of b.program q) v (record f { rest = rest }) cs last
          (below_by q number fs cs callers)
          s sound.0.fits

  -- a procedure that interrupted itself for a RECOVER part
  recovered_keeps : (number : ℕ) (q : Procedure) (fs : List MachineFrame) (c : Caller) (cs : List Caller)
      → CallersStand b number q fs (c ∷ cs)
      → Keeps (rest_offer b.program v c.frame cs c.frame.rest) (all_monitors c.frame cs)
  recovered_keeps number q [] c cs h = elim h [ ]
  recovered_keeps number q (f ∷ fs) c cs (is_called k caller calls may lower fits behind rest) =
      frame_keeps k caller c.frame f.locals fs cs behind.frame rest
  recovered_keeps number q (f ∷ fs) c cs (is_recovery k caller monitor role none into own calls behind rest) =
      frame_keeps k caller c.frame f.locals fs cs behind.frame rest

  running_keeps : (entered : Option ℕ) (place : ℕ) (l : Locals) (fs : List MachineFrame) (f : Frame)
      (cs : List Caller) → Running b place l fs f cs
      → Keeps (offer b.program v (goes_on entered f cs)) (holds (goes_on entered f cs))
  running_keeps entered place l fs f cs h = by_role f.role f.rest cs h.callers
    where
      before : (cs : List Caller) → CallersStand b h.number h.procedure fs cs
          → Keeps (rest_offer b.program v f cs f.rest) (all_monitors f cs)
      before cs callers = frame_keeps h.number h.procedure f l fs cs h.frame callers

      by_role : (role : Role) (rest : Block) (cs : List Caller) → CallersStand b h.number h.procedure fs cs
          → Keeps (offer b.program v (goes_on_by role rest entered f cs)) (holds (goes_on_by role rest entered f cs))
      by_role (Entry m) rest cs below = before cs below
      by_role (Internal m) rest cs below = before cs below
      by_role (Recover m) Done [] below = does_keeps _ _ _ _ (λ k. absurd k)
      by_role (Recover m) Done (c ∷ cs) below = recovered_keeps h.number h.procedure fs c cs below
      by_role (Recover m) (Then s rest) cs below = before cs below
      by_role External rest cs below = before cs below
      by_role Main Done cs below = does_keeps _ _ _ _ (λ k. absurd k)
      by_role Main (Then (Return value) rest) cs below = does_keeps _ _ _ _ (λ k. absurd k)
      by_role Main (Then (Assign target e) rest) cs below = before cs below
      by_role Main (Then (If e x y) rest) cs below = before cs below
      by_role Main (Then (While e x) rest) cs below = before cs below
      by_role Main (Then (Call q es into) rest) cs below = before cs below
      by_role Main (Then (Fork q es into) rest) cs below = before cs below
      by_role Main (Then (Join e into y) rest) cs below = before cs below
      by_role Main (Then (Wait c) rest) cs below = before cs below
      by_role Main (Then (Notify c) rest) cs below = before cs below
      by_role Main (Then (Broadcast c) rest) cs below = before cs below
      by_role Main (Then (Print e) rest) cs below = before cs below
      by_role Main (Then Abort rest) cs below = before cs below

  pub kept_monitors : (t : ℕ) (x : Thread) (q : Process) → Stands b t x q → Keeps (offer b.program v q) (holds q)
  kept_monitors t x q (runs entered f cs place l fs walk running e) =
      subst (λ (r : Process). Keeps (offer b.program v r) (holds r)) (sym e)
      (running_keeps entered place l fs f cs running)
  kept_monitors t x q (enters m f cs place l fs walk entering e) =
      subst (λ (r : Process). Keeps (offer b.program v r) (holds r)) (sym e)
      (λ label effect r keeps takes. absurd (subst KeepsMonitors takes.1 keeps))
  kept_monitors t x q (returns z cs place shown l fs walk returning e) =
      subst (λ (r : Process). Keeps (offer b.program v r) (holds r)) (sym e)
      (does_keeps _ _ _ _ (λ k. hands_keep b z cs (below_by returning.procedure returning.number fs cs
      returning.callers)))
  kept_monitors t x q (fails m f cs walk e) =
      subst (λ (r : Process). Keeps (offer b.program v r) (holds r)) (sym e) (faults_keep AbandonedMonitor f cs)
