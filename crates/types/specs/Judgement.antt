-- Which faults a unit has.
use Rattle.std.specs.Prelude.{ℕ, ◌+◌, ◌<◌, ◌≤◌, ◌≡◌, ◌⊎◌, List, [], ◌∷◌, ◌++◌, map, filter, take, Some}
use Rattle.std.specs.Prelude.{Bool, true, false}
use Rattle.std.specs.Prelude.{slice_get, Contains, sum_by, IsTrue, IsFalse, ◌&&◌, nat_lt, cond}
use Rattle.scanner.specs.declared.token.Place.{Place}
use Rattle.scanner.specs.declared.refusal.Refusal.{Refusal}
use Rattle.scanner.specs.declared.refusal.RefusalKind.{RefusalKind}
use Rattle.scanner.specs.declared.refusal.RefusalKind.TheVariants.{Redeclared}
use Rattle.scanner.specs.declared.refusal.RefusalKind.TheVariants.{Recursion, Limit}
use Rattle.callgraph.specs.declared.Call.{Call as CallOf}
use Rattle.callgraph.specs.Calls.{has_chain, Leads}
use Rattle.program.specs.declared.kinds.Role.{Role}
use Rattle.program.specs.declared.kinds.Role.TheVariants.{Recover}
use Rattle.syntax.specs.declared.leaf.Number.{Number}
use Rattle.syntax.specs.declared.declaration.MemberType.{MemberType as MemberKind}
use Rattle.syntax.specs.declared.declaration.MemberType.TheVariants as M
use Rattle.syntax.specs.Lexeme.{NameTree}
use Rattle.syntax.specs.Tree.{MemberTree, MonitorTree, UnitTree}
use Rattle.types.specs.Names.{monitor_names, outer_names, monitor_scope, parameter_names, body_scope}
use Rattle.types.specs.Names.{all_procedure_names}
use Rattle.types.specs.Names.{all_members}
use Rattle.types.specs.Pieces.{Piece, pieces}
use Rattle.types.specs.Faults.{fault, ComesNoLater}
use Rattle.types.specs.CallFaults.{block_faults, block_calls}
use Rattle.types.specs.Limits.{most_monitors, most_conditions, most_member_words, most_elements, most_procedures}
use Rattle.types.specs.Limits.{most_parameters, most_locals, most_in_chain}

-- a name of a scope stands at this place, and an earlier one is written alike
abbrev pub IsRepeated : List NameTree → Place → Type 0
IsRepeated names place = (i j : ℕ) × (first second : NameTree) × (i < j) × (slice_get names i ≡ Some first)
    × (slice_get names j ≡ Some second) × (first.text ≡ second.text) × (second.place ≡ place)

-- the names of a scope that each declaration is in: that of monitors and external procedures, those of monitors, and
-- those of procedures, RECOVER parts and MAIN
pub data IsScope (u : UnitTree) : List NameTree → Type 0 where
  OfUnit : IsScope u (outer_names u)
  OfMonitor : (m : MonitorTree) → Contains u.monitors m → IsScope u (monitor_scope m)
  OfPiece : (q : Piece) → Contains (pieces u) q → IsScope u (body_scope q.parameters q.body.locals)

-- a name at this place has at least so many of its list before it
abbrev pub IsPast : ℕ → List NameTree → Place → Type 0
IsPast most names place = (i : ℕ) × (name : NameTree) × (slice_get names i ≡ Some name) × (most ≤ i)
    × (name.place ≡ place)

-- whether members of this kind are conditions
abbrev pub is_condition : MemberKind → Bool
is_condition M.Condition = true
is_condition _ = false

-- the names of all conditions
abbrev pub condition_names : UnitTree → List NameTree
condition_names u = map (λ x. x.name) (filter (λ x. is_condition x.kind) (all_members u))

-- an array has from 1 to `most_elements` elements
abbrev pub is_size : ℕ → Bool
is_size n = nat_lt 0 n && nat_lt n (most_elements + 1)

-- the words of a member: one for each element of an array, else one; an array of a size that isn't allowed has one
abbrev pub kind_words : MemberKind → ℕ
kind_words (M.Array n) = cond (is_size n.value) n.value 1
kind_words _ = 1

-- the words of the members up to the one of this name pass the limit
abbrev pub IsPastWords : UnitTree → Place → Type 0
IsPastWords u place = (i : ℕ) × (x : MemberTree) × (slice_get (all_members u) i ≡ Some x)
    × (most_member_words < sum_by (λ y. kind_words y.kind) (take (i + 1) (all_members u))) × (x.name.place ≡ place)

-- a number at this place is no size of an array
abbrev pub IsNoSize : UnitTree → Place → Type 0
IsNoSize u place = (x : MemberTree) × Contains (all_members u) x × (n : Number) × (x.kind ≡ M.Array n)
    × IsFalse (is_size n.value) × (n.place ≡ place)

-- the calls of pieces, the first of which has this number
abbrev pub calls_from : UnitTree → ℕ → List Piece → List CallOf
calls_from u n [] = []
calls_from u n (q ∷ qs) = map (λ callee. record { caller = n; callee = callee })
    (block_calls (record { unit = u; piece = q }) q.body.statements) ++ calls_from u (n + 1) qs

-- each call of a unit, from which piece to which
abbrev pub all_calls : UnitTree → List CallOf
all_calls u = calls_from u 0 (pieces u)

-- a piece that calls can name, or MAIN
abbrev pub is_named : Role → Bool
is_named (Recover m) = false
is_named _ = true

-- a procedure with its name, or MAIN with its keyword, at this place
abbrev pub Stands : UnitTree → ℕ → Place → Type 0
Stands u n place = (q : Piece) × (slice_get (pieces u) n ≡ Some q) × IsTrue (is_named q.role) × (q.place ≡ place)

-- calls lead from a procedure back to it
abbrev pub IsOnCycle : UnitTree → Place → Type 0
IsOnCycle u place = (n : ℕ) × Stands u n place × Leads (all_calls u) n n

-- a chain of more than `most_in_chain` procedures begins at it, and none of some length: it isn't on a cycle, nor above
-- one
abbrev pub UnitIsTooLong : UnitTree → Place → Type 0
UnitIsTooLong u place = (n : ℕ) × Stands u n place × IsTrue (has_chain (all_calls u) most_in_chain n)
    × (length : ℕ) × IsFalse (has_chain (all_calls u) length n)

-- more of something than is allowed
abbrev pub IsPastLimit : UnitTree → Place → Type 0
IsPastLimit u place = IsPast most_monitors (monitor_names u) place
    ⊎ IsPast most_conditions (condition_names u) place
    ⊎ IsPast most_procedures (all_procedure_names u) place
    ⊎ ((q : Piece) × Contains (pieces u) q × IsPast most_parameters (parameter_names q.parameters) place)
    ⊎ ((q : Piece) × Contains (pieces u) q × IsPast most_locals (body_scope q.parameters q.body.locals) place)
    ⊎ IsPastWords u place ⊎ IsNoSize u place ⊎ UnitIsTooLong u place

-- a statement of some piece has this fault
abbrev pub IsInBody : UnitTree → Refusal → Type 0
IsInBody u e = (q : Piece) × Contains (pieces u) q
    × Contains (block_faults (record { unit = u; piece = q }) q.body.statements) e

-- the unit has this fault at this place
abbrev pub IsFaulty : UnitTree → Place → RefusalKind → Type 0
IsFaulty u place Redeclared = (names : List NameTree) × IsScope u names × IsRepeated names place
IsFaulty u place Recursion = IsOnCycle u place
IsFaulty u place Limit = IsPastLimit u place
IsFaulty u place kind = IsInBody u (fault kind place)

-- the refusal of a unit is its least fault
abbrev pub IsRefusalOf : UnitTree → Refusal → Type 0
IsRefusalOf u e = IsFaulty u e.place e.kind
    × ((place : Place) (kind : RefusalKind) → IsFaulty u place kind → ComesNoLater e (fault kind place))
