-- Which expressions and statements fit where they stand: their types, and what they name.
use Rattle.std.specs.Prelude.{ℕ, List, [], ◌∷◌, slice_get, Option, Some, None, ◌≡◌, ◌<◌, ⊤}
use Rattle.program.specs.declared.kinds.ValueType.{ValueType}
use Rattle.program.specs.declared.kinds.ValueType.TheVariants.{Integer, Boolean, Process}
use Rattle.program.specs.declared.kinds.UnaryOperator.{UnaryOperator}
use Rattle.program.specs.declared.kinds.UnaryOperator.TheVariants.{Negate, Not}
use Rattle.program.specs.declared.kinds.Operator.{Operator}
use Rattle.program.specs.declared.kinds.Operator.TheVariants.{Add, Subtract, Multiply, Divide, Modulo, Equal}
use Rattle.program.specs.declared.kinds.Operator.TheVariants.{NotEqual, Less, LessEqual, Greater, GreaterEqual, And}
use Rattle.program.specs.declared.kinds.Operator.TheVariants.{Or}
use Rattle.program.specs.declared.kinds.Role.{Role}
use Rattle.program.specs.declared.kinds.Role.TheVariants.{Entry, Internal, Recover, External, Main}
use Rattle.program.specs.Trees.{Expression, Constant, Truth, Local, Member, Element, Unary, Both, Target, ToLocal}
use Rattle.program.specs.Trees.{ToMember, ToElement, Statement, Assign, If, While, Call, Fork, Join, Return, Wait}
use Rattle.program.specs.Trees.{Notify, Broadcast, Print, Abort, Block, Done, Then, Part, NoPart, SomePart, Procedure}
use Rattle.program.specs.Scope.{Scope, own_monitor, IsVariable, IsArray, IsCondition, IsLocal}

-- what a unary operator takes and gives
abbrev pub unary_type : UnaryOperator → ValueType
unary_type Negate = Integer
unary_type Not = Boolean

-- what an operator gives
abbrev pub result_type : Operator → ValueType
result_type Add = Integer
result_type Subtract = Integer
result_type Multiply = Integer
result_type Divide = Integer
result_type Modulo = Integer
result_type Equal = Boolean
result_type NotEqual = Boolean
result_type Less = Boolean
result_type LessEqual = Boolean
result_type Greater = Boolean
result_type GreaterEqual = Boolean
result_type And = Boolean
result_type Or = Boolean

-- of which type an operator takes its two operands
abbrev pub Takes : Operator → ValueType → Type 0
Takes Add t = t ≡ Integer
Takes Subtract t = t ≡ Integer
Takes Multiply t = t ≡ Integer
Takes Divide t = t ≡ Integer
Takes Modulo t = t ≡ Integer
Takes Equal t = t ≡ Process → ⊥
Takes NotEqual t = t ≡ Process → ⊥
Takes Less t = t ≡ Integer
Takes LessEqual t = t ≡ Integer
Takes Greater t = t ≡ Integer
Takes GreaterEqual t = t ≡ Integer
Takes And t = t ≡ Boolean
Takes Or t = t ≡ Boolean

-- an expression has this type
abbrev pub HasType : Scope → Expression → ValueType → Type 0
HasType s (Constant n) t = (n < 2147483648) × (t ≡ Integer)
HasType s (Truth b) t = t ≡ Boolean
HasType s (Local slot) t = IsLocal s slot t
HasType s (Member m) t = IsVariable s m t
HasType s (Element a e) t = IsArray s a × HasType s e Integer × (t ≡ Integer)
HasType s (Unary op e) t = HasType s e (unary_type op) × (t ≡ unary_type op)
HasType s (Both op l r) t = (u : ValueType) × Takes op u × HasType s l u × HasType s r u × (t ≡ result_type op)

-- a value of this type may be assigned to it
abbrev pub TargetHasType : Scope → Target → ValueType → Type 0
TargetHasType s (ToLocal slot) t = IsLocal s slot t
TargetHasType s (ToMember m) t = IsVariable s m t
TargetHasType s (ToElement a e) t = IsArray s a × HasType s e Integer × (t ≡ Integer)

-- arguments have the types of the parameters, one for one
abbrev pub ArgumentsFit : Scope → List Expression → List ValueType → Type 0
ArgumentsFit s [] [] = ⊤
ArgumentsFit s [] (t ∷ ts) = ⊥
ArgumentsFit s (e ∷ es) [] = ⊥
ArgumentsFit s (e ∷ es) (t ∷ ts) = HasType s e t × ArgumentsFit s es ts

-- a local that takes a result has the result's type
abbrev pub ResultFits : Scope → Option ℕ → Option ValueType → Type 0
ResultFits s None result = ⊤
ResultFits s (Some slot) None = ⊥
ResultFits s (Some slot) (Some t) = IsLocal s slot t

-- a RETURN has an expression exactly where there is a result
abbrev pub ReturnFits : Scope → Option ValueType → Option Expression → Type 0
ReturnFits s None None = ⊤
ReturnFits s None (Some e) = ⊥
ReturnFits s (Some t) None = ⊥
ReturnFits s (Some t) (Some e) = HasType s e t

-- a procedure of the first role may call one of the second: no ENTRY procedure of the own monitor, and an INTERNAL one
-- of the own monitor alone
abbrev pub MayCall : Role → Role → Type 0
MayCall caller (Entry m) = own_monitor caller ≡ Some m → ⊥
MayCall caller (Internal m) = own_monitor caller ≡ Some m
MayCall caller (Recover m) = ⊥
MayCall caller External = ⊤
MayCall caller Main = ⊥

-- a procedure of this role can be forked
abbrev pub MayBeForked : Role → Type 0
MayBeForked (Entry m) = ⊤
MayBeForked (Internal m) = ⊥
MayBeForked (Recover m) = ⊥
MayBeForked External = ⊤
MayBeForked Main = ⊥

-- a RECOVER part holds no WAIT, FORK, JOIN, CALL or RETURN
abbrev pub IsNoRecover : Role → Type 0
IsNoRecover (Entry m) = ⊤
IsNoRecover (Internal m) = ⊤
IsNoRecover (Recover m) = ⊥
IsNoRecover External = ⊤
IsNoRecover Main = ⊤

abbrev mutual
  -- a statement fits where it stands
  pub Fits : Scope → Statement → Type 0
  Fits s (Assign target e) = (t : ValueType) × TargetHasType s target t × HasType s e t
  Fits s (If e b part) = HasType s e Boolean × BlockFits s b × PartFits s part
  Fits s (While e b) = HasType s e Boolean × BlockFits s b
  Fits s (Call q es into) = IsNoRecover s.role × (callee : Procedure)
      × (slice_get s.program.procedures q ≡ Some callee) × MayCall s.role callee.role
      × ArgumentsFit s es callee.parameters × ResultFits s into callee.result
  Fits s (Fork q es into) = IsNoRecover s.role × (callee : Procedure)
      × (slice_get s.program.procedures q ≡ Some callee) × MayBeForked callee.role
      × ArgumentsFit s es callee.parameters × IsLocal s into Process
  Fits s (Join e into part) = IsNoRecover s.role × HasType s e Process × ResultFits s into (Some Integer)
      × PartFits s part
  Fits s (Return value) = IsNoRecover s.role × ReturnFits s s.result value
  Fits s (Wait c) = IsNoRecover s.role × IsCondition s c
  Fits s (Notify c) = IsCondition s c
  Fits s (Broadcast c) = IsCondition s c
  Fits s (Print e) = HasType s e Integer
  Fits s Abort = ⊤

  pub BlockFits : Scope → Block → Type 0
  BlockFits s Done = ⊤
  BlockFits s (Then first rest) = Fits s first × BlockFits s rest

  pub PartFits : Scope → Part → Type 0
  PartFits s NoPart = ⊤
  PartFits s (SomePart b) = BlockFits s b
