-- The code of expressions: it leaves the value on the operands. No action stands in it.
use Rattle.std.specs.Prelude.{ℕ, Bool, true, false, List, [], ◌∷◌, ◌++◌, Option, Some, None}
use Rattle.program.specs.declared.kinds.Member.{Member as MemberOf}
use Rattle.program.specs.declared.kinds.UnaryOperator.{UnaryOperator}
use Rattle.program.specs.declared.kinds.UnaryOperator.TheVariants.{Negate as Negated, Not as Not'}
use Rattle.program.specs.declared.kinds.Operator.{Operator}
use Rattle.program.specs.declared.kinds.Operator.TheVariants.{Add, Subtract, Multiply, Divide, Modulo, Equal, NotEqual}
use Rattle.program.specs.declared.kinds.Operator.TheVariants.{Less, LessEqual, Greater, GreaterEqual, And, Or}
use Rattle.program.specs.Trees.{Program, Expression, Constant, Truth, Local, Member, Element, Unary, Both}
use Rattle.program.specs.Scope.{array_size}
use Rattle.isa.specs.declared.operator.Operator.{Operator as Operation}
use Rattle.isa.specs.declared.operator.Operator.TheVariants.{Add as Add', Sub, Mul, Div, Mod, Eq, Ne, Lt, Le, Gt, Ge}
use Rattle.isa.specs.declared.operator.Operator.TheVariants.{BitAnd, BitOr}
use Rattle.isa.specs.declared.slot.Slot.TheVariants.{Local as Slot'}
use Rattle.isa.specs.declared.instr.Instr.{Instr}
use Rattle.isa.specs.declared.instr.Instr.TheVariants.{Push, GetLocal, Load, Operate, Negate, Not, Index}
use Rattle.lowering.specs.declared.mark.Marked.{Marked}
use Rattle.lowering.specs.Marks.{plain}
use Rattle.lowering.specs.Layout.{member_address}

-- the word for a truth value
abbrev pub truth_word : Bool → ℕ
truth_word true = 1
truth_word false = 0

-- the instruction of an operator before one operand
abbrev pub unary_code : UnaryOperator → Instr
unary_code Negated = Negate
unary_code Not' = Not

-- the machine's operator for one of the language
abbrev pub operation : Operator → Operation
operation Add = Add'
operation Subtract = Sub
operation Multiply = Mul
operation Divide = Div
operation Modulo = Mod
operation Equal = Eq
operation NotEqual = Ne
operation Less = Lt
operation LessEqual = Le
operation Greater = Gt
operation GreaterEqual = Ge
operation And = BitAnd
operation Or = BitOr

-- behind an index: the address of that element
abbrev pub index_code : Program → MemberOf → Instr
index_code p array = Index (member_address p array) (array_size p array)

-- the code of an expression
abbrev pub expression_code : Program → Expression → List Marked
expression_code p (Constant n) = plain (Push n) ∷ []
expression_code p (Truth b) = plain (Push (truth_word b)) ∷ []
expression_code p (Local slot) = plain (GetLocal (Slot' slot)) ∷ []
expression_code p (Member m) = plain (Push (member_address p m)) ∷ plain Load ∷ []
expression_code p (Element array index) = expression_code p index ++ (plain (index_code p array) ∷ plain Load ∷ [])
expression_code p (Unary op e) = expression_code p e ++ plain (unary_code op) ∷ []
expression_code p (Both op left right) =
    expression_code p left ++ (expression_code p right ++ plain (Operate (operation op)) ∷ [])

-- one after the other, the first one lowest
abbrev pub arguments_code : Program → List Expression → List Marked
arguments_code p [] = []
arguments_code p (e ∷ es) = expression_code p e ++ arguments_code p es

-- the value of a RETURN, if there is one
abbrev pub value_code : Program → Option Expression → List Marked
value_code p None = []
value_code p (Some e) = expression_code p e
