-- A RETURN, in a procedure of every role.
use Rattle.std.proofs.Common.{◌≡◌, ℕ, ◌+◌, ◌*◌, ◌≤◌, List, [], ◌++◌, length, Option, Some, None, refl, ap, sym, subst}
use Rattle.std.proofs.Common.{arith, ℤ, pos}
use Rattle.words.specs.Signed.{word_of}
use Rattle.program.specs.declared.kinds.ValueType.{ValueType}
use Rattle.program.specs.declared.kinds.Role.{Role}
use Rattle.program.specs.declared.kinds.Role.TheVariants.{Entry, Internal, Recover, External, Main}
use Rattle.program.specs.Trees.{Expression, Return, Block, Then, Procedure}
use Rattle.program.specs.Scope.{Scope, scope_of}
use Rattle.program.specs.Typing.{ReturnFits, IsNoRecover}
use Rattle.program.specs.WellFormed.{RoleFits}
use Rattle.program.specs.Tokens.{expression_tokens}
use Rattle.program.specs.Measures.{value_room, most_room}
use Rattle.lowering.specs.Expressions.{expression_code, value_code}
use Rattle.lowering.specs.Statements.{ending_code}
use Rattle.lowering.specs.Pieces.{setting_of}
use Rattle.locals.specs.declared.frame.Locals.{Locals}
use Rattle.locals.specs.declared.frame.Frame.{Frame as MachineFrame}
use Rattle.locals.specs.Threads.{Thread, Runs}
use Rattle.meaning.specs.Values.{Variables, evaluate}
use Rattle.meaning.specs.Processes.{Frame, Caller, Process, Before, Leaving, goes_on, goes_on_by}
use Rattle.meaning.specs.Offers.{offer, with_value, return_value, answers}
use Rattle.proof_thread.specs.Evaluation.{OfType}
use Rattle.proof_thread.specs.Walks.{StandAt}
use Rattle.proof_thread.specs.Following.{Build, most_made, ShowsResult}
use Rattle.proof_thread.specs.Completing.{Proceeds}
use Rattle.proof_thread.specs.Builds.{IsBuild}
use Rattle.proof_thread.proofs.Walking.{front_stands, back_stands}
use Rattle.proof_thread.proofs.Contexts.{Context, frame_at, proceeds_wider, with_evaluation}
use Rattle.proof_thread.proofs.Stepping.{steps_of}
use Rattle.proof_thread.proofs.Returning.{HandsOver}
use Rattle.proof_thread.proofs.Leaving.{before_answer, leaves_at, main_leaves}

-- without a result, a RETURN has no expression
bare_return : (s : Scope) (result : Option ValueType) (value : Option Expression) → result ≡ None
    → ReturnFits s result value
    → value ≡ None
bare_return s None None e h = refl
bare_return s None (Some x) e h = absurd h
bare_return s (Some u) value e h = absurd cc

module _ (b : Build) (is : IsBuild b) (t : ℕ) (v : Variables) (place : ℕ) (l : Locals) (fs : List MachineFrame)
    (values : List ℤ) (rest : Block) (procedure : Procedure) (cs : List Caller) (entered : Option ℕ)
    (value : Option Expression) (c : Context b t v place l fs values (Return value) rest procedure cs) where
  abbrev x : Thread
  x = Runs place [] l fs

  abbrev f : Frame
  f = frame_at procedure values (Then (Return value) rest)

  abbrev after : Frame
  after = frame_at procedure values rest

  abbrev pending : Process
  pending = Before entered f cs

  -- with a value, if there is a result
  value_returns : (y : Option Expression) (result : Option ValueType) → value ≡ y → procedure.result ≡ result
      → HandsOver procedure.role → ReturnFits (scope_of b.program procedure) result y
      → StandAt b.code place (value_code b.program y ++ ending_code (setting_of b.program b.starts procedure)
      (place + length (value_code b.program y))) → value_room y ≤ most_room
      → offer b.program v pending ≡ with_value (return_value b.program v after y) after cs
      (λ z. answers procedure.role z cs)
      → Proceeds b t v (steps_of (Return y)) x pending
  value_returns None None e same hands fit code space o =
      let at : place + 0 ≡ place = omega arith in
      proceeds_wider b t v 1 (steps_of (Return None)) x pending (omega arith)
      (leaves_at b t v None place l fs c.number procedure cs (pos 0) pending hands c.callers
      (subst (λ (k : Option ValueType). ShowsResult (most_made b) b.made k None (pos 0)) (sym same) refl)
      (subst (λ k. StandAt b.code place (ending_code (setting_of b.program b.starts procedure) k)) at code) o refl)
  value_returns None (Some u) e same hands fit code space o = absurd fit
  value_returns (Some y) None e same hands fit code space o = absurd fit
  value_returns (Some y) (Some u) e same hands fit code space o =
      let first = expression_code b.program y in
      let end = place + length first in
      let last = ending_code (setting_of b.program b.starts procedure) end in
      let ev = c.evaluates in
      let give = ev.gives y u place [] fs fit (front_stands b.code place first last code) (omega (arith, space)) in
      proceeds_wider b t v (2 * expression_tokens y + 1) (steps_of (Return (Some y))) x pending (omega arith)
      (with_evaluation b t v (2 * expression_tokens y) 1 x (evaluate b.program v values y) end [] l fs after cs _
      pending o
      refl give
      (λ z is_z o'. leaves_at b t v (Some (word_of z)) end l fs c.number procedure cs z pending hands c.callers
      (subst (λ (k : Option ValueType). ShowsResult (most_made b) b.made k (Some (word_of z)) z) (sym same)
      (refl, subst (OfType (most_made b) b.made u) is_z (ev.type y u fit)))
      (back_stands b.code place first last code) o' refl))

  hands_over : HandsOver procedure.role → Proceeds b t v (steps_of (Return value)) x (goes_on entered f cs)
  hands_over hands =
      subst (λ (r : Process). Proceeds b t v (steps_of (Return value)) x r)
      (sym (before_answer procedure.role (Then (Return value) rest) entered f cs hands))
      (value_returns value procedure.result refl refl hands c.sound.fits.1 c.head.here c.sound.room refl)

  -- the main part leaves
  main_returns_at : procedure.role ≡ Main → Proceeds b t v (steps_of (Return value)) x (goes_on entered f cs)
  main_returns_at main =
      let fits : RoleFits b.program c.number procedure Main =
      subst (RoleFits b.program c.number procedure) main (is.role c.number procedure c.is_there) in
      let bare = bare_return (scope_of b.program procedure) procedure.result value fits.2 c.sound.fits.1 in
      let code : StandAt b.code place (ending_code (setting_of b.program b.starts procedure) (place + 0)) =
      subst (λ (y : Option Expression). StandAt b.code place (value_code b.program y ++ ending_code
      (setting_of b.program b.starts procedure) (place + length (value_code b.program y)))) bare c.head.here in
      let at : place + 0 ≡ place = omega arith in
      let left : goes_on entered f cs ≡ Leaving (pos 0) =
      ap (λ (role : Role). goes_on_by role (Then (Return value) rest) entered f cs) main in
      proceeds_wider b t v 0 (steps_of (Return value)) x _ (omega arith)
      (main_leaves b t v is place l fs c.number procedure cs _ c.is_there main c.callers
      (subst (λ k. StandAt b.code place (ending_code (setting_of b.program b.starts procedure) k)) at code) left)

  pub return_proceeds : Proceeds b t v (steps_of (Return value)) x (goes_on entered f cs)
  return_proceeds = by_role procedure.role refl
    where
      by_role : (role : Role) → procedure.role ≡ role → Proceeds b t v (steps_of (Return value)) x
          (goes_on entered f cs)
      by_role (Entry m) e = hands_over (subst HandsOver (sym e) tt)
      by_role (Internal m) e = hands_over (subst HandsOver (sym e) tt)
      by_role External e = hands_over (subst HandsOver (sym e) tt)
      by_role (Recover m) e = absurd (subst IsNoRecover e c.sound.fits.0)
      by_role Main e = main_returns_at e
