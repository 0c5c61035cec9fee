-- The names of each scope, in the order of their declarations, and which of them a name means.
use Rattle.std.specs.Prelude.{ℕ, suc, List, [], ◌∷◌, ◌++◌, Option, Some, None, map, flat_map, option_map}
use Rattle.std.specs.Prelude.{bytes_eq, cond}
use Rattle.syntax.specs.Lexeme.{NameTree}
use Rattle.syntax.specs.Tree.{ParameterTree, LocalTree, MemberTree}
use Rattle.syntax.specs.Tree.{MonitorTree, UnitTree}

-- the number of the first name that is written so
abbrev pub text_number : List NameTree → List ℕ → Option ℕ
text_number [] text = None
text_number (n ∷ ns) text = cond (bytes_eq text n.text) (Some 0) (option_map suc (text_number ns text))

-- that of the first name that is written as this one: a use of a redeclared name means its first declaration
abbrev pub number_in : List NameTree → NameTree → Option ℕ
number_in names name = text_number names name.text

-- the names of the monitors
abbrev pub monitor_names : UnitTree → List NameTree
monitor_names u = map (λ m. m.name) u.monitors

-- the names of the procedures outside monitors
abbrev pub external_names : UnitTree → List NameTree
external_names u = map (λ q. q.name) u.procedures

-- monitors and external procedures share one scope
abbrev pub outer_names : UnitTree → List NameTree
outer_names u = monitor_names u ++ external_names u

-- the names that these members have
abbrev pub names_of_members : List MemberTree → List NameTree
names_of_members ms = map (λ member. member.name) ms

-- the names of a monitor's members
abbrev pub member_names : MonitorTree → List NameTree
member_names m = names_of_members m.members

-- the names of a monitor's procedures
abbrev pub procedure_names : MonitorTree → List NameTree
procedure_names m = map (λ q. q.procedure.name) m.procedures

-- so do the members and procedures of a monitor
abbrev pub monitor_scope : MonitorTree → List NameTree
monitor_scope m = member_names m ++ procedure_names m

-- the names of parameters
abbrev pub parameter_names : List ParameterTree → List NameTree
parameter_names ps = map (λ p. p.name) ps

-- and so do the parameters and locals of a procedure, of a RECOVER part or of MAIN
abbrev pub body_scope : List ParameterTree → List LocalTree → List NameTree
body_scope ps ls = parameter_names ps ++ map (λ l. l.name) ls

-- all procedures in the order of the text, RECOVER parts and MAIN left out
abbrev pub all_procedure_names : UnitTree → List NameTree
all_procedure_names u = flat_map procedure_names u.monitors ++ external_names u

-- all members of all monitors
abbrev pub all_members : UnitTree → List MemberTree
all_members u = flat_map (λ m. m.members) u.monitors
