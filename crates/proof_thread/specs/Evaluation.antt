-- What is promised of the code of an expression.
use Rattle.std.specs.Prelude.{ℕ, ◌+◌, ◌*◌, ◌≡◌, ◌≤◌, ℤ, List, length, Some}
use Rattle.proof_thread.specs.Deferrals.{MarkedImage}
use Rattle.words.specs.Versions.{most_of}
use Rattle.program.specs.declared.kinds.ValueType.{ValueType}
use Rattle.program.specs.Trees.{Expression}
use Rattle.program.specs.Scope.{Scope, own_monitor}
use Rattle.program.specs.Typing.{HasType}
use Rattle.program.specs.Measures.{room}
use Rattle.program.specs.Tokens.{expression_tokens}
use Rattle.lowering.specs.Expressions.{expression_code}
use Rattle.locals.specs.declared.frame.Locals.{Locals}
use Rattle.locals.specs.declared.frame.Frame.{Frame}
use Rattle.locals.specs.Limits.{most_operands}
use Rattle.locals.specs.Threads.{Runs}
use Rattle.meaning.specs.Values.{Variables, Evaluated, Value, Fails, evaluate}
use Rattle.proof_thread.specs.Typed.{HasValue, HaveValues, HoldValues}
use Rattle.proof_thread.specs.Variables.{VariablesFit, ArraysAreLow}
use Rattle.proof_thread.specs.Walks.{View, StandAt, Gives}

-- what an evaluation gives has a type
abbrev pub OfType : ℕ → ℕ → ValueType → Evaluated → Type 0
OfType most made t (Value z) = HasValue most made t z
OfType most made t (Fails fault) = Unit {0}

-- what is in view in a procedure
abbrev pub view_in : Scope → Variables → View
view_in s v = record { program = s.program; own = own_monitor s.role; variables = v }

-- what an expression is evaluated over: locals with values of their types, in the words of a frame; and the variables
-- of the own monitor
pub record IsEvaluated (made : ℕ) (s : Scope) (v : Variables) (values : List ℤ) (l : Locals) : Type 0 where
  pub typed : HaveValues (most_of s.program.version) made s.locals values
  pub holds : HoldValues l.values values
  pub fit : (m : ℕ) → own_monitor s.role ≡ Some m → VariablesFit made s.program m v
  pub low : ArraysAreLow s.program

-- from the code of an expression that fits, wherever it stands, a thread goes to the expression's value, or to its
-- first fault, within twice as many steps as the expression has tokens; and a value has the expression's type
pub record Evaluates (image : MarkedImage) (made t : ℕ) (s : Scope) (v : Variables) (values : List ℤ)
    (l : Locals) : Type 0 where
  pub gives : (e : Expression) (u : ValueType) (place : ℕ) (operands : List ℕ) (callers : List Frame)
      → HasType s e u → StandAt image place (expression_code s.program e) → room e + length operands ≤ most_operands
      → Gives image t (view_in s v) (2 * expression_tokens e) (Runs place operands l callers)
      (evaluate s.program v values e)
      (place + length (expression_code s.program e)) operands l callers
  pub type : (e : Expression) (u : ValueType) → HasType s e u
      → OfType (most_of s.program.version) made u (evaluate s.program v values e)
