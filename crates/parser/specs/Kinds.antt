-- Which types a token names.
use Rattle.std.specs.Prelude.{Option, Some, None}
use Rattle.scanner.specs.declared.token.Kind.{Kind}
use Rattle.scanner.specs.declared.token.Kind.TheVariants.{Keyword as AKeyword}
use Rattle.scanner.specs.declared.token.Keyword.TheVariants as K
use Rattle.syntax.specs.declared.declaration.LocalType.{LocalType}
use Rattle.syntax.specs.declared.declaration.LocalType.TheVariants as L
use Rattle.syntax.specs.declared.declaration.MemberType.{MemberType}
use Rattle.syntax.specs.declared.declaration.MemberType.TheVariants as M
use Rattle.syntax.specs.declared.declaration.ResultType.{ResultType}
use Rattle.syntax.specs.declared.declaration.ResultType.TheVariants as R
use Rattle.syntax.specs.declared.declaration.Access.{Access}
use Rattle.syntax.specs.declared.declaration.Access.TheVariants as A

-- the type of a local variable
abbrev pub local_type_at : Kind → Option LocalType
local_type_at (AKeyword K.Integer) = Some L.Integer
local_type_at (AKeyword K.Boolean) = Some L.Boolean
local_type_at (AKeyword K.Process) = Some L.Process
local_type_at _ = None

-- all but an array
abbrev pub plain_type_at : Kind → Option MemberType
plain_type_at (AKeyword K.Integer) = Some M.Integer
plain_type_at (AKeyword K.Boolean) = Some M.Boolean
plain_type_at (AKeyword K.Process) = Some M.Process
plain_type_at (AKeyword K.Condition) = Some M.Condition
plain_type_at _ = None

-- the type of a result
abbrev pub result_type_at : Kind → Option ResultType
result_type_at (AKeyword K.Integer) = Some R.Integer
result_type_at (AKeyword K.Boolean) = Some R.Boolean
result_type_at _ = None

-- the access of a monitor's procedure
abbrev pub access_at : Kind → Option Access
access_at (AKeyword K.Entry) = Some A.Entry
access_at (AKeyword K.Internal) = Some A.Internal
access_at _ = None
