-- Values of the source, and what an expression's value is. A value is a number: FALSE is 0, TRUE is 1, a handle is the
-- number of its process, 0 where it is empty.
use Rattle.std.specs.Prelude.{ℕ, ℤ, pos, negsuc, ◌+ℤ◌, ◌-ℤ◌, ◌*ℤ◌, neg_ℤ, int_lt, int_le, int_div, int_rem, nat_lt}
use Rattle.std.specs.Prelude.{◌==◌, ◌&&◌, ◌||◌, not, Bool, true, false, List, [], ◌∷◌, slice_get, Option, Some, None}
use Rattle.std.specs.Prelude.{if◌then◌else◌}
use Rattle.std.specs.Ordering.{int_eq}
use Rattle.words.specs.declared.outcome.Fault.{Fault}
use Rattle.words.specs.declared.outcome.Fault.TheVariants.{ResultOutOfRange, DivisionByZero, IndexOutOfRange}
use Rattle.program.specs.declared.kinds.UnaryOperator.{UnaryOperator}
use Rattle.program.specs.declared.kinds.UnaryOperator.TheVariants.{Negate, Not}
use Rattle.program.specs.declared.kinds.Operator.{Operator}
use Rattle.program.specs.declared.kinds.Operator.TheVariants.{Add, Subtract, Multiply, Divide, Modulo, Equal}
use Rattle.program.specs.declared.kinds.Operator.TheVariants.{NotEqual, Less, LessEqual, Greater, GreaterEqual, And}
use Rattle.program.specs.declared.kinds.Operator.TheVariants.{Or}
use Rattle.program.specs.Trees.{Expression, Constant, Truth, Local, Member, Element, Unary, Both, Program}
use Rattle.program.specs.Scope.{array_size}

-- the value of each variable: by its monitor, its member, and in an array its index (0 where the member is no array)
abbrev pub Variables : Type 0
Variables = ℕ → ℕ → ℕ → ℤ

-- an expression has a value, or fails with the first fault
pub data Evaluated : Type 0 where
  Value : (value : ℤ) → Evaluated
  Fails : (fault : Fault) → Evaluated

-- what is to be done with the value, where there is one
abbrev pub and_then : Evaluated → (ℤ → Evaluated) → Evaluated
and_then (Value z) go = go z
and_then (Fails fault) go = Fails fault

-- the number of a truth value
abbrev pub truth : Bool → ℤ
truth true = pos 1
truth false = pos 0

-- whether a number is TRUE
abbrev pub is_true : ℤ → Bool
is_true z = not (int_eq z (pos 0))

-- an INTEGER lies from -2147483648 to 2147483647
abbrev pub is_integer : ℤ → Bool
is_integer (pos n) = nat_lt n 2147483648
is_integer (negsuc n) = nat_lt n 2147483648

-- a number as a value, or the fault where it is out of range
abbrev pub integer : ℤ → Evaluated
integer z = if is_integer z then Value z else Fails ResultOutOfRange

-- the quotient of a by b, or the fault where b is 0
abbrev pub quotient_or_fault : ℤ → ℤ → Evaluated → Evaluated
quotient_or_fault a b quotient = if is_true b then quotient else Fails DivisionByZero

-- the value of an operator before one operand
abbrev pub unary : UnaryOperator → ℤ → Evaluated
unary Negate a = integer (neg_ℤ a)
unary Not a = Value (truth (not (is_true a)))

-- a division cuts toward zero, and its remainder has the sign of the first operand
abbrev pub both : Operator → ℤ → ℤ → Evaluated
both Add a b = integer (a +ℤ b)
both Subtract a b = integer (a -ℤ b)
both Multiply a b = integer (a *ℤ b)
both Divide a b = quotient_or_fault a b (integer (int_div a b))
both Modulo a b = quotient_or_fault a b (Value (int_rem a b))
both Equal a b = Value (truth (int_eq a b))
both NotEqual a b = Value (truth (not (int_eq a b)))
both Less a b = Value (truth (int_lt a b))
both LessEqual a b = Value (truth (int_le a b))
both Greater a b = Value (truth (int_lt b a))
both GreaterEqual a b = Value (truth (int_le b a))
both And a b = Value (truth (is_true a && is_true b))
both Or a b = Value (truth (is_true a || is_true b))

-- an index, where it is one of an array of this size
abbrev pub index_in : ℕ → ℤ → Option ℕ
index_in size (pos i) = if nat_lt i size then Some i else None
index_in size (negsuc i) = None

-- what stands at an index, or the fault where it is out of range
abbrev pub at_index : Option ℕ → (ℕ → Evaluated) → Evaluated
at_index None go = Fails IndexOutOfRange
at_index (Some i) go = go i

-- a number, 0 where there is none
abbrev pub or_zero : Option ℤ → ℤ
or_zero None = pos 0
or_zero (Some z) = z

-- the value of a local
abbrev pub local_value : List ℤ → ℕ → ℤ
local_value locals slot = or_zero (slice_get locals slot)

-- the value of an expression over the variables and the locals as they stand, operands left to right
abbrev pub evaluate : Program → Variables → List ℤ → Expression → Evaluated
evaluate p v locals (Constant n) = Value (pos n)
evaluate p v locals (Truth b) = Value (truth b)
evaluate p v locals (Local slot) = Value (local_value locals slot)
evaluate p v locals (Member m) = Value (v m.monitor m.number 0)
evaluate p v locals (Element a e) = and_then (evaluate p v locals e)
    (λ z. at_index (index_in (array_size p a) z) (λ i. Value (v a.monitor a.number i)))
evaluate p v locals (Unary op e) = and_then (evaluate p v locals e) (unary op)
evaluate p v locals (Both op l r) = and_then (evaluate p v locals l) (λ a. and_then (evaluate p v locals r) (both op a))

-- the values of arguments, left to right, or the first fault
pub data EvaluatedAll : Type 0 where
  Values : (values : List ℤ) → EvaluatedAll
  FailsAll : (fault : Fault) → EvaluatedAll

-- a value before others; the first fault decides
abbrev pub put_first : Evaluated → EvaluatedAll → EvaluatedAll
put_first (Fails fault) later = FailsAll fault
put_first (Value z) (Values zs) = Values (z ∷ zs)
put_first (Value z) (FailsAll fault) = FailsAll fault

-- the values of expressions, in their order
abbrev pub evaluate_all : Program → Variables → List ℤ → List Expression → EvaluatedAll
evaluate_all p v locals [] = Values []
evaluate_all p v locals (e ∷ es) = put_first (evaluate p v locals e) (evaluate_all p v locals es)

-- the variables with another value of one
abbrev pub with_variable : Variables → ℕ → ℕ → ℕ → ℤ → Variables
with_variable v monitor member index z m n i = if (m == monitor) && (n == member) && (i == index) then z else v m n i
