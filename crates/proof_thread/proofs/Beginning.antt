-- From a call or a fork to where the procedure begins: its parameters take their arguments, and an ENTRY procedure
-- stands before its ENTER then.
use Rattle.std.proofs.Common.{◌≡◌, ℕ, zero, suc, ◌+◌, ◌≤◌, List, [], ◌++◌, length, Some, None, slice_get, refl, ap, sym}
use Rattle.std.proofs.Common.{◌∙◌, subst, arith, ℤ}
use Rattle.program.specs.declared.kinds.ValueType.{ValueType}
use Rattle.program.specs.declared.kinds.Role.{Role}
use Rattle.program.specs.declared.kinds.Role.TheVariants.{Entry, Internal, Recover, External, Main}
use Rattle.program.specs.Trees.{Block, Done, Then, Procedure, followed_by}
use Rattle.lowering.specs.Layout.{link_word}
use Rattle.lowering.specs.Locks.{enter_code}
use Rattle.lowering.specs.Marks.{rebase_all}
use Rattle.lowering.specs.Statements.{block_code, ending_code}
use Rattle.lowering.specs.Pieces.{setting_of, parameters_code, entering_code, default_code}
use Rattle.lowering.specs.declared.mark.Marked.{Marked}
use Rattle.locals.specs.declared.frame.Locals.{Locals}
use Rattle.locals.specs.declared.frame.Frame.{Frame as MachineFrame}
use Rattle.locals.specs.Threads.{Runs, fresh}
use Rattle.meaning.specs.Values.{local_value, or_zero}
use Rattle.meaning.specs.Processes.{Frame, Caller, goes_on, begins, begins_by, zeros}
use Rattle.proof_thread.specs.Typed.{HaveValues, HoldValues}
use Rattle.proof_thread.specs.Walks.{StandAt, empty_view}
use Rattle.proof_thread.specs.Following.{Build, most_made, CallersStand, Implements, finishes, IsFrame, Running, Stands}
use Rattle.proof_thread.specs.Following.{StepsWithin}
use Rattle.proof_thread.specs.Following.{runs, enters, recovery_in}
use Rattle.proof_thread.specs.Builds.{IsBuild}
use Rattle.proof_thread.proofs.Walking.{front_stands, back_stands, wider}
use Rattle.proof_thread.proofs.Bodies.{block_implements}
use Rattle.proof_thread.proofs.Contexts.{frame_at}
use Rattle.proof_thread.proofs.Arguments.{stacked, stacked_by, stacked_same, set_all, set_all_length, parameters_walk}
use Rattle.proof_thread.proofs.Arguments.{locals_typed, values_length, opening_holds}

followed_done : (b : Block) → followed_by b Done ≡ b
followed_done Done = refl
followed_done (Then s b) = ap (Then s) (followed_done b)

parameters_length : (n : ℕ) → length (parameters_code n) ≡ n
parameters_length zero = refl
parameters_length (suc n) = ap suc (parameters_length n)

abbrev HoldsFrom : ℕ → List ℤ → List ValueType → Type 0
HoldsFrom n zs us = HoldValues (set_all n (local_value zs) fresh).values (zs ++ zeros us)

-- where a procedure is whose parameters have taken their arguments: before its ENTER, if it has one, and its body
pub record HasBegun (b : Build) (t n : ℕ) (q : Procedure) (zs : List ℤ) (fs : List MachineFrame) : Type 0 where
  pub place : ℕ
  pub locals : Locals
  pub walk : StepsWithin b t (length q.parameters) (Runs (b.starts n) (stacked zs []) fresh fs)
      (Runs place [] locals fs)
  pub entering : StandAt b.code place (entering_code (setting_of b.program b.starts q) q.role place)
  pub frame : IsFrame b.program b.height b.made b.width n q (frame_at q (zs ++ zeros q.locals) q.body) locals
  pub jumps : ℕ
  pub few : jumps ≤ b.most
  pub code : Implements b.code (setting_of b.program b.starts q) b.most jumps
      (place + length (entering_code (setting_of b.program b.starts q) q.role place)) q.body

module _ (b : Build) (is : IsBuild b) (t : ℕ) where
  pub has_begun : (n : ℕ) (q : Procedure) (zs : List ℤ) (fs : List MachineFrame)
      → slice_get b.program.procedures n ≡ Some q → HaveValues (most_made b) b.made q.parameters zs
      → HasBegun b t n q zs fs
  has_begun n q zs fs there typed =
      let p = b.program in
      let c = setting_of p b.starts q in
      let start = b.starts n in
      let count = length q.parameters in
      let first = parameters_code count in
      let same : length zs ≡ count = values_length (most_made b) b.made q.parameters zs typed in
      let few = is.parameters n q there in
      let laid = is.laid n q there in
      let at1 = start + length first in
      let at2 = at1 + length (entering_code c q.role at1) in
      let body = block_code c q.body at2 in
      let at3 = at2 + length body in
      let final = default_code q.result ++ ending_code c (at3 + length (default_code q.result)) in
      let tail = back_stands b.code start first _ laid in
      let opening = front_stands b.code at1 (entering_code c q.role at1) (body ++ final) tail in
      let inner = back_stands b.code at1 (entering_code c q.role at1) (body ++ final) tail in
      let bodies = front_stands b.code at2 body final inner in
      let last = back_stands b.code at2 body final inner in
      let deep = is.deep n q there in
      let code = block_implements b.code c b.most q.body 0 0 at2 Done bodies (omega arith) (omega (arith, deep))
      (finishes last) in
      let words : stacked zs [] ≡ stacked_by count (local_value zs) [] = stacked_same zs 0 (local_value zs) []
      (λ i z e. ap_value zs i z e) ∙ ap (λ k. stacked_by k (local_value zs) []) (omega (arith, same)) in
      let go = parameters_walk b.code t (empty_view p) count (local_value zs) start [] fresh fs
      (front_stands b.code start first _ laid) in
      record {
        place = at1;
        locals = set_all count (local_value zs) fresh;
        walk = subst (λ ws. StepsWithin b t count (Runs start ws fresh fs)
            (Runs at1 [] (set_all count (local_value zs) fresh) fs)) (sym words) go;
        entering = opening;
        frame = record {
          procedure = there;
          role = refl;
          typed = locals_typed (most_made b) b.made q.parameters q.locals zs typed;
          holds = subst (λ k. HoldsFrom k zs q.locals) same (opening_holds zs q.locals (omega (arith, same, few)));
          words = set_all_length count (local_value zs) fresh;
          few = is.locals n q there;
          body = is.sound n q there;
        };
        jumps = code.0;
        few = omega (arith, code.1);
        code = subst (λ (k : Block). Implements b.code c b.most code.0 at2 k) (followed_done q.body) code.2;
      }
    where
      ap_value : (zs : List ℤ) (i : ℕ) (z : ℤ) → slice_get zs i ≡ Some z → local_value zs (0 + i) ≡ z
      ap_value zs i z e = let k : 0 + i ≡ i = omega arith in ap (local_value zs) k ∙ ap or_zero e

  -- in the body, where there is no ENTER
  pub in_body : (n : ℕ) (q : Procedure) (zs : List ℤ) (fs : List MachineFrame) (cs : List Caller)
      (h : HasBegun b t n q zs fs) → CallersStand b n q fs cs
      → ((place : ℕ) → entering_code (setting_of b.program b.starts q) q.role place ≡ [])
      → Running b h.place h.locals fs (frame_at q (zs ++ zeros q.locals) q.body) cs
  in_body n q zs fs cs h callers none =
      let at : h.place + length (entering_code (setting_of b.program b.starts q) q.role h.place) ≡ h.place =
      ap (λ (xs : List Marked). h.place + length xs) (none h.place) ∙ omega arith in
      record {
        number = n;
        procedure = q;
        frame = h.frame;
        jumps = h.jumps;
        few = h.few;
        code = subst (λ k. Implements b.code (setting_of b.program b.starts q) b.most h.jumps k q.body) at h.code;
        callers = callers;
      }

  -- a procedure with its arguments on the operands stands for its beginning
  pub begins_at : (n : ℕ) (q : Procedure) (zs : List ℤ) (fs : List MachineFrame) (cs : List Caller)
      → slice_get b.program.procedures n ≡ Some q → HaveValues (most_made b) b.made q.parameters zs
      → CallersStand b n q fs cs
      → Stands b t (Runs (b.starts n) (stacked zs []) fresh fs) (begins (frame_at q (zs ++ zeros q.locals) q.body) cs)
  begins_at n q zs fs cs there typed callers = by_role q.role refl
    where
      h : HasBegun b t n q zs fs
      h = has_begun n q zs fs there typed

      f : Frame
      f = frame_at q (zs ++ zeros q.locals) q.body

      walk : StepsWithin b t 16 (Runs (b.starts n) (stacked zs []) fresh fs) (Runs h.place [] h.locals fs)
      walk = wider b.code t (empty_view b.program) (length q.parameters) 16 _ _ (is.parameters n q there) h.walk

      plainly : ((place : ℕ) → entering_code (setting_of b.program b.starts q) q.role place ≡ [])
          → begins f cs ≡ goes_on None f cs → Stands b t (Runs (b.starts n) (stacked zs []) fresh fs) (begins f cs)
      plainly none same = runs None f cs h.place h.locals fs walk (in_body n q zs fs cs h callers none) same

      by_role : (role : Role) → q.role ≡ role → Stands b t (Runs (b.starts n) (stacked zs []) fresh fs) (begins f cs)
      by_role (Internal m) e = plainly (λ k. rw e refl) (ap (λ (r : Role). begins_by r f cs) e)
      by_role (Recover m) e = plainly (λ k. rw e refl) (ap (λ (r : Role). begins_by r f cs) e)
      by_role External e = plainly (λ k. rw e refl) (ap (λ (r : Role). begins_by r f cs) e)
      by_role Main e = plainly (λ k. rw e refl) (ap (λ (r : Role). begins_by r f cs) e)
      by_role (Entry m) e =
          let template : StandAt b.code h.place (rebase_all h.place (enter_code m (link_word b.program m)
          (recovery_in b m))) = subst (λ (r : Role). StandAt b.code h.place
          (entering_code (setting_of b.program b.starts q) r h.place)) e h.entering in
          let len : h.place + length (entering_code (setting_of b.program b.starts q) q.role h.place) ≡ h.place + 61 =
          ap (λ (r : Role). h.place + length (entering_code (setting_of b.program b.starts q) r h.place)) e in
          enters m f cs h.place h.locals fs walk (record {
            number = n;
            procedure = q;
            role = e;
            frame = h.frame;
            template = template;
            jumps = h.jumps;
            few = h.few;
            code = subst (λ k. Implements b.code (setting_of b.program b.starts q) b.most h.jumps k q.body) len h.code;
            callers = callers;
          }) (ap (λ (r : Role). begins_by r f cs) e)
