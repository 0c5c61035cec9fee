-- Checked programs, without pointers.
use Rattle.std.specs.Prelude.{ℕ, Bool, List, Option, ◌++◌}
use Rattle.words.specs.declared.version.ImageVersion.{ImageVersion}
use Rattle.program.specs.declared.kinds.ValueType.{ValueType}
use Rattle.program.specs.declared.kinds.MemberType.{MemberType}
use Rattle.program.specs.declared.kinds.Member.{Member as MemberOf}
use Rattle.program.specs.declared.kinds.UnaryOperator.{UnaryOperator}
use Rattle.program.specs.declared.kinds.Operator.{Operator}
use Rattle.program.specs.declared.kinds.Role.{Role}

-- an expression
pub data Expression : Type 0 where
  -- a number from 0 to 2147483647
  Constant : (number : ℕ) → Expression
  Truth : (value : Bool) → Expression
  -- a local of the procedure, parameters first, from 0
  Local : (slot : ℕ) → Expression
  -- a variable of the own monitor
  Member : (member : MemberOf) → Expression
  -- an element of an array of the own monitor
  Element : (array : MemberOf) (index : Expression) → Expression
  Unary : (operator : UnaryOperator) (operand : Expression) → Expression
  -- an operator between its operands, the left one evaluated first
  Both : (operator : Operator) (left : Expression) (right : Expression) → Expression

-- what is assigned to
pub data Target : Type 0 where
  ToLocal : (slot : ℕ) → Target
  ToMember : (member : MemberOf) → Target
  ToElement : (array : MemberOf) (index : Expression) → Target

mutual
  -- a statement
  pub data Statement : Type 0 where
    Assign : (target : Target) (value : Expression) → Statement
    If : (condition : Expression) (then_part : Block) (else_part : Part) → Statement
    While : (condition : Expression) (body : Block) → Statement
    -- a procedure is named by the number of its piece; a result goes into a local
    Call : (procedure : ℕ) (arguments : List Expression) (into : Option ℕ) → Statement
    Fork : (procedure : ℕ) (arguments : List Expression) (into : ℕ) → Statement
    Join : (handle : Expression) (into : Option ℕ) (aborted : Part) → Statement
    Return : (value : Option Expression) → Statement
    Wait : (condition : MemberOf) → Statement
    Notify : (condition : MemberOf) → Statement
    Broadcast : (condition : MemberOf) → Statement
    Print : (value : Expression) → Statement
    Abort : Statement

  -- statements, one after another
  pub data Block : Type 0 where
    Done : Block
    Then : (first : Statement) (rest : Block) → Block

  -- the statements of an ELSE or an ABORTED, if there is one
  pub data Part : Type 0 where
    NoPart : Part
    SomePart : (statements : Block) → Part

-- these statements, and then those
abbrev pub followed_by : Block → Block → Block
followed_by Done later = later
followed_by (Then s rest) later = Then s (followed_by rest later)

-- the statements of a part, none where there is none
abbrev pub block_of_part : Part → Block
block_of_part NoPart = Done
block_of_part (SomePart b) = b

-- a monitor: the types of its members, and the piece of its RECOVER part
pub record Monitor : Type 0 where
  pub members : List MemberType
  pub recover : Option ℕ

-- a procedure, a RECOVER part, or the main part
pub record Procedure : Type 0 where
  pub role : Role
  pub parameters : List ValueType
  -- the locals behind the parameters
  pub locals : List ValueType
  pub result : Option ValueType
  pub body : Block

-- the types of all locals, parameters first
abbrev pub slots : Procedure → List ValueType
slots q = q.parameters ++ q.locals

-- a program: the version of its image, its monitors, and its procedures by the numbers of their pieces: for each
-- monitor its procedures in order, then its RECOVER part; then the external procedures; then the main part
pub record Program : Type 0 where
  pub version : ImageVersion
  pub monitors : List Monitor
  pub procedures : List Procedure

-- the same program for an image of another version
abbrev pub as_version : ImageVersion → Program → Program
as_version v p = record p { version = v }
