-- A call, from its arguments to the beginning of the procedure that is called.
use Rattle.std.proofs.Common.{rules, ◌≡◌, ℕ, ◌+◌, ◌*◌, List, [], ◌∷◌, ◌++◌, length, Option, Some, None, refl}
use Rattle.std.proofs.Common.{ap, ◌∙◌, subst, arith, length-append, Contains, ℤ, lt-ltb}
use Rattle.isa.specs.declared.instr.Instr.TheVariants.{Call as Call'}
use Rattle.proof_thread.specs.Deferrals.{MarkedImage, IsAt, deferred_by_mark}
use Rattle.program.specs.declared.kinds.ValueType.{ValueType}
use Rattle.program.specs.Trees.{Expression, Call, Block, Then, Procedure}
use Rattle.program.specs.Scope.{scope_of}
use Rattle.program.specs.Tokens.{arguments_tokens}
use Rattle.lowering.specs.Expressions.{arguments_code}
use Rattle.lowering.specs.Processes.{call_code}
use Rattle.lowering.specs.Statements.{result_of, result_in}
use Rattle.lowering.specs.Pieces.{setting_of}
use Rattle.lowering.specs.Marks.{with_mark}
use Rattle.lowering.specs.declared.mark.Mark.TheVariants as M
use Rattle.locals.specs.declared.frame.Locals.{Locals}
use Rattle.locals.specs.declared.frame.Frame.{Frame as MachineFrame}
use Rattle.locals.specs.Threads.{Thread, Runs, Dies, fresh}
use Rattle.locals.specs.Looks.{Goes, if_so}
use Rattle.meaning.specs.Values.{Variables, EvaluatedAll, Values, FailsAll, evaluate_all}
use Rattle.meaning.specs.Labels.{Faulted, Alone}
use Rattle.meaning.specs.Labels as L
use Rattle.meaning.specs.Processes.{Caller, Process, Before, goes_on, begins, opening_frame, frame_of, zeros}
use Rattle.meaning.specs.Offers.{Does, Nothing, offer, with_values}
use Rattle.proof_thread.specs.Typed.{HaveValues}
use Rattle.proof_thread.specs.Walks.{StandAt, WalksWithin}
use Rattle.proof_thread.specs.Following.{Build, most_made, CallersStand, is_called, Implements, taking_code}
use Rattle.proof_thread.specs.Completing.{Proceeds}
use Rattle.proof_thread.specs.Completing as F
use Rattle.proof_thread.specs.Builds.{IsBuild}
use Rattle.proof_thread.proofs.Walking.{front_stands, back_stands, look_here}
use Rattle.proof_thread.proofs.Contexts.{Context, frame_at, view_at, proceeds_on}
use Rattle.proof_thread.proofs.Stepping.{steps_of, as_it_stands, at_once}
use Rattle.proof_thread.proofs.Arguments.{stacked, arguments_typed, arguments_give, GivesAll, HaveAll}
use Rattle.proof_thread.proofs.Beginning.{begins_at}
use Rattle.proof_thread.proofs.Recovering.{chain}

-- a call, and what stands behind it
call_stands : (image : MarkedImage) (place start : ℕ) (into : Option ℕ) (result : Option ValueType)
    → StandAt image place
    (call_code start into result) → IsAt image place (with_mark M.Call (Call' start)) × StandAt image (place + 1)
    (taking_code into result)
call_stands image place start (Some slot) result h = h
call_stands image place start None (Some u) h = h
call_stands image place start None None h = h

call_length : (start : ℕ) (into : Option ℕ) (result : Option ValueType) → length
    (call_code start into result) ≡ 1 + length (taking_code into result)
call_length start (Some slot) result = refl
call_length start None (Some u) = refl
call_length start None None = refl

contains_one : (n : ℕ) → Contains (n ∷ []) n
contains_one n = search rules

module _ (b : Build) (is : IsBuild b) (t : ℕ) (v : Variables) (place : ℕ) (l : Locals)
    (fs : List MachineFrame) (values : List ℤ) (rest : Block) (procedure : Procedure) (cs : List Caller)
    (entered : Option ℕ) where
  pub call_proceeds : (qn : ℕ) (es : List Expression) (into : Option ℕ) → Context b t v place l fs values
      (Call qn es into) rest procedure cs → Proceeds b t v (steps_of (Call qn es into)) (Runs place [] l fs)
      (goes_on entered (frame_at procedure values (Then (Call qn es into) rest)) cs)
  call_proceeds qn es into c =
      let s = Call qn es into in
      let p = b.program in
      let args = arguments_code p es in
      let ev = c.evaluates in
      let fits = c.sound.fits in
      let here = front_stands b.code place args _ c.head.here in
      let give = arguments_give b.code b.made t
      (scope_of p procedure) v values l ev es fits.1.parameters place [] fs fits.4 here
      (omega (arith, c.sound.room)) in
      as_it_stands b t v place l fs values rest procedure cs entered s c tt (2 * arguments_tokens es + 0)
      (omega arith)
      (by_values (evaluate_all p v values es) refl give (arguments_typed b.code b.made t
      (scope_of p procedure) v values l ev es fits.1.parameters fits.4))
    where
      x : Thread
      x = Runs place [] l fs

      end : ℕ
      end = place + length (arguments_code b.program es)

      pending : Process
      pending = Before entered (frame_at procedure values (Then (Call qn es into) rest)) cs

      callee : Procedure
      callee = c.sound.fits.1

      caller : Caller
      caller = record { into = into; frame = frame_at procedure values rest }

      back : MachineFrame
      back = record { back = end + 1; locals = l }

      behind : StandAt b.code end (call_code (b.starts qn) into (result_of b.program qn))
      behind = back_stands b.code place (arguments_code b.program es) _ c.head.here

      result_same : result_of b.program qn ≡ callee.result
      result_same = ap result_in c.sound.fits.2

      takes : IsAt b.code end (with_mark M.Call (Call' (b.starts qn))) × StandAt b.code (end + 1)
          (taking_code into callee.result)
      takes = call_stands b.code end (b.starts qn) into callee.result
          (subst (λ (k : Option ValueType). StandAt b.code end (call_code (b.starts qn) into k)) result_same behind)

      length_same : place + length (arguments_code b.program es ++ call_code (b.starts qn) into
          (result_of b.program qn)) ≡ end + 1 + length (taking_code into callee.result)
      length_same =
          let r : length (call_code (b.starts qn) into (result_of b.program qn)) ≡ 1 + length
          (taking_code into callee.result) = ap (λ (k : Option ValueType). length
          (call_code (b.starts qn) into k)) result_same ∙ call_length (b.starts qn) into callee.result in
          omega (
            arith,
            length-append (arguments_code b.program es)
                (call_code (b.starts qn) into (result_of b.program qn)),
            r,
          )

      callers : CallersStand b qn callee (back ∷ fs) (caller ∷ cs)
      callers = is_called c.number procedure c.sound.fits.0 c.sound.fits.3 (c.sound.lower qn (contains_one qn))
          c.sound.fits.5 (record {
            frame = record {
              procedure = c.is_there;
              role = refl;
              typed = c.typed;
              holds = c.holds;
              words = c.words;
              few = c.few;
              body = c.later;
            };
            here = takes.1;
            jumps = c.head.jumps;
            few = omega (arith, c.head.few, c.head.deep);
            more = subst (λ k. Implements b.code (setting_of b.program b.starts procedure) b.most c.head.jumps k rest)
                length_same c.head.more;
          }) c.callers

      by_values : (zs : EvaluatedAll) → evaluate_all b.program v values es ≡ zs → GivesAll b.code t
          (view_at b procedure v)
          (2 * arguments_tokens es) x (evaluate_all b.program v values es) end [] l fs
          → HaveAll (most_made b) b.made callee.parameters
          (evaluate_all b.program v values es)
          → Proceeds b t v (2 * arguments_tokens es + 0) x pending
      by_values (Values zs) same g typed =
          let walk : WalksWithin b.code t (view_at b procedure v) (2 * arguments_tokens es) x
          (Runs end (stacked zs []) l fs) =
          subst (λ (k : EvaluatedAll). GivesAll b.code t (view_at b procedure v)
          (2 * arguments_tokens es) x k end [] l fs) same g in
          let have : HaveValues (most_made b) b.made callee.parameters zs =
          subst (HaveAll (most_made b) b.made callee.parameters) same typed in
          let low = chain b is c.number procedure fs cs c.sound.fits.0 c.callers in
          let step = look_here b.code t (view_at b procedure v) end (Call' (b.starts qn)) (stacked zs []) l fs takes.0
          ∙ ap
          (λ k. if_so k (Goes (Runs (b.starts qn) (stacked zs []) fresh (back ∷ fs))))
          (lt-ltb (length fs) 15 (omega (arith, low))) in
          let o : offer b.program v pending ≡ Does (Alone L.Call) Nothing
          (begins (opening_frame b.program qn zs) (caller ∷ cs)) =
          ap (λ (k : EvaluatedAll). with_values k (frame_at procedure values rest) cs
          (λ ys. Does (Alone L.Call) Nothing (begins (opening_frame b.program qn ys) (caller ∷ cs)))) same in
          let opened : begins (opening_frame b.program qn zs) (caller ∷ cs) ≡ begins
          (frame_at callee (zs ++ zeros callee.locals) callee.body) (caller ∷ cs) =
          ap (λ (k : Option Procedure). begins (frame_of k zs) (caller ∷ cs)) c.sound.fits.2 in
          proceeds_on b t v (2 * arguments_tokens es) 0 x _ pending walk
          (at_once b t v place l fs values rest procedure cs entered (Runs end (stacked zs []) l fs) pending
          (F.acts L.Call tt step (ap deferred_by_mark takes.0.1)
          (o ∙ ap (λ (k : Process). Does (Alone L.Call) Nothing k) opened)
          (begins_at b is t qn callee zs (back ∷ fs) (caller ∷ cs) c.sound.fits.2 have callers)))
      by_values (FailsAll fault) same g typed =
          let walk : WalksWithin b.code t (view_at b procedure v) (2 * arguments_tokens es) x (Dies (Faulted fault)) = subst
          (λ (k : EvaluatedAll). GivesAll b.code t (view_at b procedure v) (2 * arguments_tokens es) x k end [] l fs)
          same g in
          let o = ap (λ (k : EvaluatedAll). with_values k (frame_at procedure values rest) cs
          (λ ys. Does (Alone L.Call) Nothing (begins (opening_frame b.program qn ys) (caller ∷ cs)))) same in
          proceeds_on b t v (2 * arguments_tokens es) 0 x (Dies (Faulted fault)) pending walk
          (at_once b t v place l fs values rest procedure cs entered (Dies (Faulted fault)) pending
          (F.faults fault refl o))
