-- The end of a procedure: its result goes to its caller; and the end of the main part.
use Rattle.std.proofs.Common.{◌≡◌, ℕ, ◌+◌, ◌≤◌, List, [], ◌∷◌, Option, Some, None, refl, ap, ◌∙◌, subst}
use Rattle.std.proofs.Common.{arith, ℤ, pos, sym}
use Rattle.std.specs.Prelude.{slice_set, ⊤}
use Rattle.words.specs.Signed.{word_of}
use Rattle.isa.specs.declared.instr.Instr.TheVariants.{Ret, RetValue, SetLocal, Pop}
use Rattle.isa.specs.declared.slot.Slot.TheVariants.{Local as Slot'}
use Rattle.program.specs.declared.kinds.ValueType.{ValueType}
use Rattle.program.specs.declared.kinds.Role.{Role}
use Rattle.program.specs.declared.kinds.Role.TheVariants.{Entry, Internal, Recover, External, Main}
use Rattle.program.specs.Trees.{Procedure, slots}
use Rattle.program.specs.Scope.{scope_of}
use Rattle.program.specs.Typing.{ResultFits, IsNoRecover, MayCall}
use Rattle.lowering.specs.Processes.{return_code}
use Rattle.lowering.specs.declared.mark.Mark.TheVariants as M
use Rattle.lowering.specs.Pieces.{setting_of}
use Rattle.locals.specs.declared.frame.Locals.{Locals}
use Rattle.locals.specs.declared.frame.Frame.{Frame as MachineFrame}
use Rattle.locals.specs.Threads.{Thread, Runs, with_local}
use Rattle.meaning.specs.Values.{Variables}
use Rattle.meaning.specs.Labels.{Alone}
use Rattle.meaning.specs.Labels as L
use Rattle.meaning.specs.Processes.{Frame, Caller, Process, Leaving, goes_on, hands_over}
use Rattle.meaning.specs.Offers.{Does, Nothing, offer}
use Rattle.proof_thread.specs.Typed.{HasValue}
use Rattle.proof_thread.specs.Walks.{WalksWithin, stays}
use Rattle.proof_thread.specs.Following.{Build, most_made, CallersStand, is_first, is_called, is_recovery, StandsBehind}
use Rattle.proof_thread.specs.Following.{Implements}
use Rattle.proof_thread.specs.Following.{IsFrame, Stands, runs, taking_code, ShowsResult, result_operands}
use Rattle.proof_thread.specs.Completing.{Completes, Proceeds, view_of}
use Rattle.proof_thread.specs.Completing as F
use Rattle.proof_thread.proofs.Walking.{one_step, look_here}
use Rattle.proof_thread.proofs.Contexts.{proceeds_on, proceeds_wider, stay}
use Rattle.proof_thread.proofs.Putting.{slot_below, put_typed, put_holds, put_length}
use Rattle.proof_thread.proofs.Operators.{back, value_fits}
use Rattle.proof_thread.proofs.Words.{word_below}
use Rattle.lowering.specs.Marks.{plain, with_mark}
use Rattle.proof_thread.specs.Deferrals.{IsAt, deferred_by_mark, last_mark}

-- a RECOVER part is one
pub recover_is_one : (role : Role) (m : ℕ) → role ≡ Recover m → IsNoRecover role → ⊥
recover_is_one role m e h = subst IsNoRecover e h

-- nothing calls the main part
pub main_uncalled : (caller role : Role) → role ≡ Main → MayCall caller role → ⊥
main_uncalled caller role e h = subst (MayCall caller) e h

-- a frame with a result put into a local, or without
abbrev with_values : Frame → List ℤ → Frame
with_values f values = record { role = f.role; locals = values; rest = f.rest }

-- a procedure of this role answers its caller
abbrev pub HandsOver : Role → Type 0
HandsOver (Entry m) = ⊤
HandsOver (Internal m) = ⊤
HandsOver (Recover m) = ⊥
HandsOver External = ⊤
HandsOver Main = ⊥

-- the instruction at its return, and the mark
bare_return : (b : Build) (place : ℕ) (role : Role) → HandsOver role → IsAt b.code place (return_code role None)
    → IsAt b.code place (with_mark M.Return Ret)
bare_return b place (Entry m) hands h = h
bare_return b place (Internal m) hands h = h
bare_return b place (Recover m) hands h = absurd hands
bare_return b place External hands h = h
bare_return b place Main hands h = absurd hands

value_return : (b : Build) (place : ℕ) (role : Role) (u : ValueType) → HandsOver role
    → IsAt b.code place (return_code role (Some u)) → IsAt b.code place (with_mark M.LastReturn RetValue)
value_return b place (Entry m) u hands h = h
value_return b place (Internal m) u hands h = h
value_return b place (Recover m) u hands h = absurd hands
value_return b place External u hands h = h
value_return b place Main u hands h = absurd hands

module _ (b : Build) (t : ℕ) (v : Variables) where
  -- a caller goes on where its call has been answered
  back_at : (fs : List MachineFrame) (f : Frame) (cs : List Caller) (n : ℕ) (caller : Procedure)
      (jumps place : ℕ) (l : Locals) (values : List ℤ)
      → IsFrame b.program b.height b.made b.width n caller (with_values f values) l
      → Implements b.code (setting_of b.program b.starts caller) b.most jumps place f.rest → jumps ≤ b.most
      → CallersStand b n caller fs cs
      → Stands b t (Runs place [] l fs) (goes_on None (with_values f values) cs)
  back_at fs f cs n caller jumps place l values is code few callers =
      runs None (with_values f values) cs place l fs (stay b t 16 (Runs place [] l fs))
      (record {
        number = n;
        procedure = caller;
        frame = is;
        jumps = jumps;
        few = few;
        code = code;
        callers = callers;
      }) refl

  pub done : (y : Thread) (r : Process) → Completes b t v y r → Proceeds b t v 0 y r
  done y r h = record { last = y; walk = record { count = 0; few = omega arith; walk = stays }; completes = h }

  -- without a result, the caller goes on at once
  returns_bare : (place : ℕ) (l : Locals) (m : MachineFrame) (fs : List MachineFrame) (n : ℕ) (caller : Procedure)
      (into : Option ℕ) (f : Frame) (cs : List Caller) (z : ℤ) (r : Process)
      → ResultFits (scope_of b.program caller) into None
      → StandsBehind b m (record { into = into; frame = f }) n caller (taking_code into None)
      → CallersStand b n caller fs cs → IsAt b.code place (with_mark M.Return Ret)
      → offer b.program v r ≡ Does (Alone L.Return) Nothing (hands_over z (record { into = into; frame = f } ∷ cs))
      → Proceeds b t v 1 (Runs place [] l (m ∷ fs)) r
  returns_bare place l m fs n caller (Some slot) f cs z r fit behind below code o = absurd fit
  returns_bare place l m fs n caller None f cs z r fit behind below code o =
      let here : m.back + 0 ≡ m.back = omega arith in
      let go = back_at fs f cs n caller behind.jumps m.back m.locals f.locals behind.frame
      (subst (λ k. Implements b.code (setting_of b.program b.starts caller) b.most behind.jumps k f.rest) here
      behind.more) behind.few below in
      proceeds_wider b t v 0 1 _ r (omega arith) (done _ r
      (F.acts L.Return tt (look_here b.code t (view_of b r v) place Ret [] l (m ∷ fs) code)
      (ap deferred_by_mark code.1) o go))

  -- a result is taken by the caller
  returns_value : (u : ValueType) (m : MachineFrame) (fs : List MachineFrame) (n : ℕ) (caller : Procedure)
      (into : Option ℕ) (f : Frame) (cs : List Caller) (z : ℤ) (r : Process)
      → ResultFits (scope_of b.program caller) into (Some u) → HasValue (most_made b) b.made u z
      → StandsBehind b m (record { into = into; frame = f }) n caller (taking_code into (Some u))
      → CallersStand b n caller fs cs
      → offer b.program v r ≡ Does (Alone L.Return) Nothing (hands_over z (record { into = into; frame = f } ∷ cs))
      → Proceeds b t v 0 (Runs m.back (word_of z ∷ []) m.locals fs) r
  returns_value u m fs n caller None f cs z r fit typed behind below o =
      let go = back_at fs f cs n caller behind.jumps (m.back + 1) m.locals f.locals behind.frame behind.more behind.few
      below in
      done _ r (F.acts L.Return tt (look_here b.code t (view_of b r v) m.back Pop (word_of z ∷ []) m.locals fs
      behind.here.0) (ap deferred_by_mark behind.here.0.1) o go)
  returns_value u m fs n caller (Some slot) f cs z r fit typed behind below o =
      let h = behind.frame in
      let within = slot_below (slots caller) slot u fit in
      let l' = with_local m.locals (Slot' slot) (word_of z) in
      let is' : IsFrame b.program b.height b.made b.width n caller (with_values f (slice_set f.locals slot z)) l' =
      record {
        procedure = h.procedure;
        role = h.role;
        typed = put_typed (most_made b) b.made (slots caller) f.locals slot u z h.typed fit typed;
        holds = put_holds m.locals.values f.locals slot z h.holds (omega (arith, within, h.few, h.words));
        words = put_length m.locals.values slot (word_of z) ∙ h.words;
        few = h.few;
        body = h.body;
      } in
      let go = back_at fs f cs n caller behind.jumps (m.back + 1) l' (slice_set f.locals slot z) is' behind.more
      behind.few below in
      done _ r (F.acts L.Return tt (look_here b.code t (view_of b r v) m.back (SetLocal (Slot' slot))
      (word_of z ∷ []) m.locals fs behind.here.0) (ap deferred_by_mark behind.here.0.1) o go)

  -- a procedure that is no RECOVER part returns with its result
  pub called_returns : (result : Option ValueType) (shown : Option ℕ) (place : ℕ) (l : Locals)
      (fs : List MachineFrame) (number : ℕ) (q : Procedure) (cs : List Caller) (z : ℤ) (r : Process)
      → IsNoRecover q.role → HandsOver q.role → q.result ≡ result → CallersStand b number q fs cs
      → ShowsResult (most_made b) b.made result shown z
      → IsAt b.code place (return_code q.role result)
      → offer b.program v r ≡ Does (Alone L.Return) Nothing (hands_over z cs)
      → Proceeds b t v 1 (Runs place (result_operands shown) l fs) r
  called_returns None (Some w) place l fs number q cs z r role hands same stand is code o = absurd is
  called_returns (Some u) None place l fs number q cs z r role hands same stand is code o = absurd is
  called_returns None None place l [] number q [] z r role hands same (is_first h) is code o =
      let ret = bare_return b place q.role hands code in
      proceeds_wider b t v 0 1 _ r (omega arith)
      (done _ r (F.leaves None tt (look_here b.code t (view_of b r v) place Ret [] l [] ret)
      (ap last_mark ret.1) (o ∙ ap (λ (y : ℤ). Does (Alone L.Return) Nothing (Leaving y)) is)))
  called_returns (Some u) (Some w) place l [] number q [] z r role hands same (is_first h) is code o =
      let ret = value_return b place q.role u hands code in
      let fits = value_fits b.program.version b.made u z is.1 in
      let operands : result_operands (Some (word_of z)) ≡ result_operands (Some w) =
      ap (λ k. result_operands (Some k)) (sym is.0) in
      proceeds_wider b t v 0 1 _ r (omega arith)
      (subst (λ (ws : List ℕ). Proceeds b t v 0 (Runs place ws l []) r) operands
      (done _ r (F.leaves (Some (word_of z)) (word_below z fits)
      (look_here b.code t (view_of b r v) place RetValue (word_of z ∷ []) l [] ret)
      (ap last_mark ret.1) (o ∙ ap (λ (y : ℤ). Does (Alone L.Return) Nothing (Leaving y)) (sym (back z fits))))))
  called_returns None None place l (m ∷ fs) number q (c ∷ cs) z r role hands same
      (is_called n caller calls may lower fits behind below) is code o =
      returns_bare place l m fs n caller c.into c.frame cs z r
      (subst (ResultFits (scope_of b.program caller) c.into) same fits)
      (subst (λ (k : Option ValueType). StandsBehind b m c n caller (taking_code c.into k)) same behind) below
      (bare_return b place q.role hands code) o
  called_returns (Some u) (Some w) place l (m ∷ fs) number q (c ∷ cs) z r role hands same
      (is_called n caller calls may lower fits behind below) is code o =
      let ret = value_return b place q.role u hands code in
      let step : WalksWithin b.code t (view_of b r v) 1 (Runs place (w ∷ []) l (m ∷ fs)) (Runs m.back (word_of z ∷ [])
      m.locals fs) = subst (λ k. WalksWithin b.code t (view_of b r v) 1 (Runs place (w ∷ []) l (m ∷ fs)) (Runs m.back
      (k ∷ []) m.locals fs)) is.0
      (one_step b.code t (view_of b r v) _ _ (look_here b.code t (view_of b r v) place RetValue (w ∷ []) l (m ∷ fs)
      ret) (ap deferred_by_mark ret.1)) in
      proceeds_on b t v 1 0 _ _ r step
      (returns_value u m fs n caller c.into c.frame cs z r
      (subst (ResultFits (scope_of b.program caller) c.into) same fits) is.1
      (subst (λ (k : Option ValueType). StandsBehind b m c n caller (taking_code c.into k)) same behind) below o)
  called_returns result shown place l (m ∷ fs) number q (c ∷ cs) z r role hands same
      (is_recovery n caller monitor recovers none into own calls behind below) is code o =
      absurd (recover_is_one q.role monitor recovers role)
  called_returns result shown place l [] number q (c ∷ cs) z r role hands same stand is code o = elim stand [ ]
  called_returns result shown place l (m ∷ fs) number q [] z r role hands same stand is code o = elim stand [ ]

  -- the main part returns
  pub main_returns : (place : ℕ) (l : Locals) (fs : List MachineFrame) (number : ℕ) (q : Procedure) (cs : List Caller)
      (r : Process)
      → q.role ≡ Main → CallersStand b number q fs cs → IsAt b.code place (plain Ret) → r ≡ Leaving (pos 0)
      → Proceeds b t v 0 (Runs place [] l fs) r
  main_returns place l [] number q [] r main (is_first h) here o = done _ r
      (F.returns (look_here b.code t (view_of b r v) place Ret [] l [] here) (ap last_mark here.1) o)
  main_returns place l (m ∷ fs) number q (c ∷ cs) r main (is_called n caller calls may lower fits behind below) here o =
      absurd (main_uncalled caller.role q.role main may)
  main_returns place l (m ∷ fs) number q (c ∷ cs) r main
      (is_recovery n caller monitor recovers none into own calls behind below) here o =
      absurd (cc (main, recovers))
  main_returns place l [] number q (c ∷ cs) r main stand here o = elim stand [ ]
  main_returns place l (m ∷ fs) number q [] r main stand here o = elim stand [ ]
