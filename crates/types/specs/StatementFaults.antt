-- The faults of statements.
use Rattle.std.specs.Prelude.{ℕ, List, [], ◌∷◌, ◌++◌, Option, Some, None, Bool, true, false, not, cond, length}
use Rattle.std.specs.Prelude.{slice_get}
use Rattle.std.specs.Prelude.{nat_eq, option_and_then, is_some}
use Rattle.scanner.specs.declared.token.Place.{Place}
use Rattle.scanner.specs.declared.refusal.Refusal.{Refusal}
use Rattle.scanner.specs.declared.refusal.RefusalKind.TheVariants.{TypeMismatch}
use Rattle.program.specs.declared.kinds.ValueType.{ValueType}
use Rattle.program.specs.declared.kinds.Role.{Role}
use Rattle.program.specs.declared.kinds.Role.TheVariants.{Entry, Internal, Recover, External, Main}
use Rattle.syntax.specs.Lexeme.{NameTree}
use Rattle.syntax.specs.Tree.{ExpressionTree, VariableTree, CalleeTree, ParameterTree}
use Rattle.types.specs.Kinds.{local_kind}
use Rattle.types.specs.Names.{number_in, monitor_names}
use Rattle.types.specs.Pieces.{Piece, pieces}
use Rattle.types.specs.Scope.{Scope, meaning, local_number, slot_kind, callee}
use Rattle.types.specs.Faults.{where_true, unknown}
use Rattle.types.specs.Typing.{differ, type_of_use, expression_type, expression_place}
use Rattle.types.specs.ExpressionFaults.{wants, use_faults, index_faults, expression_faults}

-- an expression of a type
abbrev pub typed_faults : Scope → ValueType → ExpressionTree → List Refusal
typed_faults s t e = expression_faults s e ++ wants t (expression_type s e) (expression_place e)

-- an expression of the type of what it is assigned to
abbrev pub value_faults : Scope → Option ValueType → ExpressionTree → List Refusal
value_faults s t e = expression_faults s e
    ++ where_true (differ t (expression_type s e)) TypeMismatch (expression_place e)

-- the faults of what is assigned to
abbrev pub target_faults : Scope → VariableTree → List Refusal
target_faults s v = use_faults (meaning s v.name) v.index v.name.place ++ index_faults s v.index

-- the type of what is assigned to, where it has one
abbrev pub target_type : Scope → VariableTree → Option ValueType
target_type s v = type_of_use (meaning s v.name) v.index

-- INTO names a local or parameter, of the type of what it takes
abbrev pub slot_faults : Scope → Option ValueType → NameTree → Option ℕ → List Refusal
slot_faults s t name None = unknown name.place
slot_faults s t name (Some slot) = where_true (differ t (slot_kind s slot)) TypeMismatch name.place

-- the faults of a name behind INTO, which is to take a value of this type
abbrev pub taker_faults : Scope → Option ValueType → NameTree → List Refusal
taker_faults s t name = slot_faults s t name (local_number s name)

-- the same, where INTO may be left out
abbrev pub into_faults : Scope → Option ValueType → Option NameTree → List Refusal
into_faults s t None = []
into_faults s t (Some name) = taker_faults s t name

-- the name of the procedure of a callee: the one behind the dot, where there is one
abbrev pub name_behind : NameTree → Option NameTree → NameTree
name_behind name None = name
name_behind name (Some dotted) = dotted

-- the place at which the faults of a callee's name stand
abbrev pub callee_place : CalleeTree → Place
callee_place c = (name_behind c.name c.dotted).place

-- the procedure that is called, where there is one
abbrev pub called_piece : Scope → CalleeTree → Option Piece
called_piece s c = option_and_then (λ n. slice_get (pieces s.unit) n) (callee s c)

-- a monitor without the name before the dot is a fault at it, else a procedure without the name at that
abbrev pub missing_place : Scope → NameTree → Option NameTree → Place
missing_place s name None = name.place
missing_place s name (Some dotted) = cond (is_some (number_in (monitor_names s.unit) name)) dotted.place name.place

-- whether a body of the first role calls an ENTRY procedure of its own monitor
abbrev pub own_role : Role → Role → Bool
own_role (Entry m) (Entry n) = nat_eq m n
own_role (Internal m) (Entry n) = nat_eq m n
own_role (Recover m) (Entry n) = nat_eq m n
own_role _ _ = false

-- whether a body is an INTERNAL procedure
abbrev pub is_internal : Role → Bool
is_internal (Internal m) = true
is_internal _ = false

-- whether a body is a RECOVER part
abbrev pub is_recover : Role → Bool
is_recover (Recover m) = true
is_recover _ = false

-- whether a body stands in a monitor
abbrev pub has_monitor : Role → Bool
has_monitor (Entry m) = true
has_monitor (Internal m) = true
has_monitor (Recover m) = true
has_monitor External = false
has_monitor Main = false

-- arguments have the types of the parameters, as far as there are both
abbrev pub matched_faults : Scope → List ExpressionTree → List ParameterTree → List Refusal
matched_faults s [] ps = []
matched_faults s (e ∷ es) [] = []
matched_faults s (e ∷ es) (p ∷ ps) = wants (local_kind p.kind) (expression_type s e) (expression_place e)
    ++ matched_faults s es ps

-- each argument has its own faults
abbrev pub arguments_faults : Scope → List ExpressionTree → List Refusal
arguments_faults s [] = []
arguments_faults s (e ∷ es) = expression_faults s e ++ arguments_faults s es

-- another number of arguments than of parameters is a fault at the procedure's name
abbrev pub count_faults : CalleeTree → Piece → List Refusal
count_faults c q = where_true (not (nat_eq (length c.arguments) (length q.parameters))) TypeMismatch (callee_place c)
