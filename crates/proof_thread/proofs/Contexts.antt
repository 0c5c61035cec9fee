-- Where a thread stands before a statement.
use Rattle.std.proofs.Common.{◌≡◌, ℕ, ◌+◌, ◌≤◌, List, [], ◌∷◌, length, Option, Some, None, slice_get, refl, ap, ◌∙◌}
use Rattle.std.proofs.Common.{arith, ℤ}
use Rattle.std.specs.Prelude.{⊤}
use Rattle.words.specs.Signed.{word_of}
use Rattle.program.specs.declared.kinds.Role.{Role}
use Rattle.program.specs.declared.kinds.Role.TheVariants.{Entry, Internal, Recover, External, Main}
use Rattle.program.specs.Trees.{Statement, Assign, If, While, Call, Fork, Join, Return, Wait, Notify, Broadcast, Print}
use Rattle.program.specs.Trees.{Abort, Block, Then, Procedure, slots}
use Rattle.program.specs.Scope.{scope_of, own_monitor}
use Rattle.lowering.specs.Pieces.{setting_of}
use Rattle.locals.specs.declared.frame.Locals.{Locals}
use Rattle.locals.specs.declared.frame.Frame.{Frame as MachineFrame}
use Rattle.locals.specs.Threads.{Thread, Runs, Dies}
use Rattle.meaning.specs.Values.{Variables, Evaluated, Value, Fails}
use Rattle.meaning.specs.Labels.{Faulted, Alone}
use Rattle.meaning.specs.Labels as L
use Rattle.meaning.specs.Processes.{Frame, Caller, Process, Before, Dying, goes_on, goes_on_by, all_monitors, holds}
use Rattle.meaning.specs.Offers.{Offer, Does, Nothing, offer, with_value}
use Rattle.proof_thread.specs.Typed.{HaveValues, HoldValues}
use Rattle.proof_thread.specs.Variables.{ArraysAreLow}
use Rattle.proof_thread.specs.Evaluation.{Evaluates}
use Rattle.proof_thread.specs.Walks.{View, WalksWithin, Gives, stays}
use Rattle.proof_thread.specs.Following.{Build, most_made, IsSound, AreSound, CallersStand, Implements, Running}
use Rattle.proof_thread.specs.Following.{StepsWithin}
use Rattle.proof_thread.specs.Following.{Stands}
use Rattle.proof_thread.specs.Following.{runs}
use Rattle.proof_thread.specs.Completing.{Proceeds, view_of}
use Rattle.proof_thread.specs.Completing as F
use Rattle.proof_thread.proofs.Walking.{within_on, wider}
use Rattle.proof_thread.proofs.Bodies.{Head}

-- a statement that is no RETURN comes next
abbrev pub IsNoReturn : Statement → Type 0
IsNoReturn (Return value) = ⊥
IsNoReturn s = ⊤

pub before_next : (role : Role) (s : Statement) (rest : Block) (entered : Option ℕ) (f : Frame) (cs : List Caller)
    → IsNoReturn s → goes_on_by role (Then s rest) entered f cs ≡ Before entered f cs
before_next Main (Assign target e) rest entered f cs k = refl
before_next Main (If e x y) rest entered f cs k = refl
before_next Main (While e x) rest entered f cs k = refl
before_next Main (Call q es into) rest entered f cs k = refl
before_next Main (Fork q es into) rest entered f cs k = refl
before_next Main (Join e into y) rest entered f cs k = refl
before_next Main (Return value) rest entered f cs k = absurd k
before_next Main (Wait c) rest entered f cs k = refl
before_next Main (Notify c) rest entered f cs k = refl
before_next Main (Broadcast c) rest entered f cs k = refl
before_next Main (Print e) rest entered f cs k = refl
before_next Main Abort rest entered f cs k = refl
before_next (Entry m) s rest entered f cs k = refl
before_next (Internal m) s rest entered f cs k = refl
before_next (Recover m) s rest entered f cs k = refl
before_next External s rest entered f cs k = refl

module _ (b : Build) (t : ℕ) (v : Variables) where
  pub proceeds_on : (n m : ℕ) (x y : Thread) (q : Process) → WalksWithin b.code t (view_of b q v) n x y
      → Proceeds b t v m y q → Proceeds b t v (n + m) x q
  proceeds_on n m x y q w h = record {
    last = h.last;
    walk = within_on b.code t (view_of b q v) n m x y h.last w h.walk;
    completes = h.completes;
  }

  pub proceeds_wider : (n m : ℕ) (x : Thread) (q : Process) → n ≤ m → Proceeds b t v n x q → Proceeds b t v m x q
  proceeds_wider n m x q le h = record {
    last = h.last;
    walk = wider b.code t (view_of b q v) n m x h.last le h.walk;
    completes = h.completes;
  }

  -- an evaluation first: on with its value, or its fault
  pub with_evaluation : (n m : ℕ) (x : Thread) (e : Evaluated) (place : ℕ) (operands : List ℕ) (l : Locals)
      (fs : List MachineFrame) (f : Frame) (cs : List Caller) (go : ℤ → Offer) (q : Process)
      → offer b.program v q ≡ with_value e f cs go → all_monitors f cs ≡ holds q
      → Gives b.code t (view_of b q v) n x e place operands l fs
      → ((z : ℤ) → e ≡ Value z → offer b.program v q ≡ go z → Proceeds b t v m (Runs place (word_of z ∷ operands) l fs)
      q)
      → Proceeds b t v (n + m) x q
  with_evaluation n m x (Value z) place operands l fs f cs go q o same g k = proceeds_on n m x _ q g (k z refl o)
  with_evaluation n m x (Fails fault) place operands l fs f cs go q o same g k = record {
    last = Dies (Faulted fault);
    walk = wider b.code t (view_of b q v) n (n + m) x (Dies (Faulted fault)) (omega arith) g;
    completes = F.faults fault refl (o ∙ ap (λ (ms : List ℕ). Does (Alone (L.Fails fault)) Nothing
        (Dying (Faulted fault) ms)) same);
  }

-- what is known of a thread before a statement of a procedure
pub record Context (b : Build) (t : ℕ) (v : Variables) (place : ℕ) (l : Locals) (fs : List MachineFrame)
    (values : List ℤ) (s : Statement) (rest : Block) (procedure : Procedure) (cs : List Caller) : Type 0 where
  pub number : ℕ
  pub is_there : slice_get b.program.procedures number ≡ Some procedure
  pub typed : HaveValues (most_made b) b.made (slots procedure) values
  pub holds : HoldValues l.values values
  pub words : length l.values ≡ 64
  pub few : length (slots procedure) ≤ 64
  pub sound : IsSound b.height b.width number (scope_of b.program procedure) s
  pub later : AreSound b.height b.width number (scope_of b.program procedure) rest
  pub head : Head b.code (setting_of b.program b.starts procedure) b.most place s rest
  pub callers : CallersStand b number procedure fs cs
  pub evaluates : Evaluates b.code b.made t (scope_of b.program procedure) v values l
  pub low : ArraysAreLow b.program
  pub version : b.code.image.version ≡ b.program.version

-- the frame of a procedure with these values and this rest
abbrev pub frame_at : Procedure → List ℤ → Block → Frame
frame_at procedure values rest = record { role = procedure.role; locals = values; rest = rest }

-- what is in view in a procedure
abbrev pub view_at : Build → Procedure → Variables → View
view_at b procedure v = record { program = b.program; own = own_monitor procedure.role; variables = v }

-- no step at all
pub stay : (b : Build) (t n : ℕ) (x : Thread) → StepsWithin b t n x x
stay b t n x = record { count = 0; few = omega arith; walk = stays }

-- where a thread goes on in a procedure
module _ (b : Build) (t : ℕ) (fs : List MachineFrame) (procedure : Procedure) (cs : List Caller) (number : ℕ)
    (is_there : slice_get b.program.procedures number ≡ Some procedure) (few_slots : length (slots procedure) ≤ 64)
    (callers : CallersStand b number procedure fs cs) where
  -- it runs with these values and this rest, in these locals
  pub runs_at : (l : Locals) (values : List ℤ) (rest : Block) (place jumps : ℕ)
      → HaveValues (most_made b) b.made (slots procedure)
      values → HoldValues l.values values → length l.values ≡ 64
      → AreSound b.height b.width number (scope_of b.program procedure) rest → jumps ≤ b.most
      → Implements b.code (setting_of b.program b.starts procedure) b.most jumps place rest
      → Running b place l fs (frame_at procedure values rest) cs
  runs_at l values rest place jumps ty ho wo so few code = record {
    number = number;
    procedure = procedure;
    frame = record {
      procedure = is_there;
      role = refl;
      typed = ty;
      holds = ho;
      words = wo;
      few = few_slots;
      body = so;
    };
    jumps = jumps;
    few = few;
    code = code;
    callers = callers;
  }

  -- a thread comes to where it goes on with these values and this rest
  pub stands_by : (x : Thread) (l : Locals) (values : List ℤ) (rest : Block) (place jumps : ℕ)
      → HaveValues (most_made b) b.made
      (slots procedure) values → HoldValues l.values values → length l.values ≡ 64
      → AreSound b.height b.width number (scope_of b.program procedure) rest → jumps ≤ b.most
      → Implements b.code (setting_of b.program b.starts procedure) b.most jumps place rest
      → StepsWithin b t 16 x (Runs place [] l fs) → Stands b t x (goes_on None (frame_at procedure values rest) cs)
  stands_by x l values rest place jumps ty ho wo so few code walk = runs None (frame_at procedure values rest) cs place
      l fs walk (runs_at l values rest place jumps ty ho wo so few code) refl

module _ (b : Build) (t : ℕ) (v : Variables) (place : ℕ) (l : Locals) (fs : List MachineFrame) (values : List ℤ)
    (s : Statement) (rest : Block) (procedure : Procedure) (cs : List Caller)
    (c : Context b t v place l fs values s rest procedure cs) where
  pub is_before : IsNoReturn s → (entered : Option ℕ) → goes_on entered
      (frame_at procedure values (Then s rest)) cs ≡ Before entered (frame_at procedure values (Then s rest)) cs
  is_before k entered = before_next procedure.role s rest entered (frame_at procedure values (Then s rest)) cs k

  -- the thread goes on with these values and this rest
  pub stands_on : (l' : Locals) (values' : List ℤ) (rest' : Block) (place' jumps : ℕ) → HaveValues (most_made b) b.made
      (slots procedure) values' → HoldValues l'.values values' → length l'.values ≡ 64
      → AreSound b.height b.width c.number (scope_of b.program procedure) rest' → jumps ≤ b.most
      → Implements b.code (setting_of b.program b.starts procedure) b.most jumps place' rest'
      → Stands b t (Runs place' [] l' fs) (goes_on None (frame_at procedure values' rest') cs)
  stands_on l' values' rest' place' jumps ty ho wo so few code = stands_by b t fs procedure cs c.number c.is_there c.few
      c.callers (Runs place' [] l' fs) l' values' rest' place' jumps ty ho wo so few code
      (stay b t 16 (Runs place' [] l' fs))
